-- `library_replay::block::is_left` meets its contract. Assumes nothing.
use Rattle.std.specs.Prelude.{◌+◌, ◌*◌, ◌/◌}
use Rattle.laws.specs.Basics.{sym, ◌∙◌, arith, leb, length, lt-ltb, le-ltb, leb-true, leb-false, by_bool}
use Rattle.library_replay.specs.Taken.{is_left_of}
use Rattle.library_replay.proofs.block.is_left.Goals as goal

pub returns : goal.returns
unfolding is_left_of
returns c =
    let a = c.args in let many = length a.block.now in by_bool (leb (4 * a.taken + 4) many)
    (λ e. lt-ltb a.taken (many / 4) (omega (arith, leb-true (4 * a.taken + 4) many e)) ∙ sym e)
    (λ e. le-ltb a.taken (many / 4) (omega (arith, leb-false (4 * a.taken + 4) many e)) ∙ sym e)
