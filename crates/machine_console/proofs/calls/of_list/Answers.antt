-- `machine_console::calls::of_list` meets its contract. Assumes nothing.
use Rattle.std.specs.Prelude.{◌≡◌, Ok, Err}
use Rattle.laws.specs.Basics.{refl, ◌∙◌}
use Rattle.listing.specs.Reports.{count_report}
use Rattle.theory_roles.specs.Console.{ListAnswer, list_report}
use Rattle.machine_console.proofs.calls.of_list.Goals as goal

counts_alike : (a : ListAnswer) → count_report a ≡ list_report a
unfolding count_report list_report
counts_alike (Err why) = refl
counts_alike (Ok count) = refl

pub returns : goal.returns
returns c =
    c.from.ensures ∙ counts_alike c.args.answer
