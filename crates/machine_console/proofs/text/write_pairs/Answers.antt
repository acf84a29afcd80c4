-- `machine_console::text::write_pairs` meets its contract. Assumes nothing.
use Rattle.std.specs.Prelude.{◌++◌}
use Rattle.laws.specs.Basics.{sym, ap, List, Some, ℕ, arith, rules}
use Rattle.listing.proofs.Texts.{then}
use Rattle.machine_console.specs.Text.{field_text, pairs_text}
use Rattle.machine_console.proofs.{Parts.deletions_length, Parts.pairs_shown, Parts.printed_as}
use Rattle.machine_console.proofs.text.write_pairs.Goals as goal

pub write_deletions-requires : goal.write_deletions-requires
write_deletions-requires c =
    let write-field = c.write_field-counted in (omega (arith, c.least-shown.ensures), omega (arith, c.requires, write-field.ensures.1, write-field.auto.out, deletions_length c.least-shown.result c.args.pairs.now))

pub returns : goal.returns
unfolding pairs_text
returns c =
    let write-field = c.write_field-counted in let least = c.least-shown in let write-deletions = c.write_deletions in let shown = pairs_shown c.args.count least.result c.args.pairs.now least.ensures in (printed_as (ap (λ (x : List ℕ). field_text (Some c.args.count) ++ x) (sym shown)) (then write-field.ensures.0 write-deletions.ensures), omega (arith, write-field.ensures.1, write-deletions.ensures.next_place, deletions_length least.result c.args.pairs.now))
