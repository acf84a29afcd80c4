-- `library_recorder::record::append_accepted` meets its contract, by whether the number is 0.
-- Assumes nothing.
use Rattle.laws.specs.Basics.{refl, rules, eq-eqb, ne_eqb}
use Rattle.library_recorder.proofs.record.append_accepted.Goals as goal

pub returns-then-number-ne0 : goal.returns-then-number-ne0
returns-then-number-ne0 c =
    rw (ne_eqb c.args.number 0 c.if-number-ne0.true) (record { buffer_after = refl; value = refl })

pub append-requires : goal.append-requires
append-requires c =
    record { place_in_bounds = c.requires.place_in_bounds; e_value = c.requires.e_value c.if-number-ne0.false }

pub returns : goal.returns
returns c =
    rw (eq-eqb c.args.number 0 c.if-number-ne0.false) (record { buffer_after = c.append.ensures.buffer_after; value = c.append.ensures.value })
