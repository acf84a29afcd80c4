-- `machine_console::text::write_entries` meets its contract. Assumes nothing.
use Rattle.laws.specs.Basics.{sym, rules}
use Rattle.machine_console.proofs.{Parts.entries_members, Parts.printed_as}
use Rattle.machine_console.proofs.text.write_entries.Goals as goal

pub returns : goal.returns
returns c =
    (printed_as (sym (entries_members 0 0 c.args.line.now)) c.write_members.ensures.0, c.write_members.ensures.1)
