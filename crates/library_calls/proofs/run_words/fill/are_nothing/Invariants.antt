-- `library_calls::run_words::fill::are_nothing` meets its contract. Assumes nothing.
use Rattle.std.specs.Prelude.{◌≡◌, ◌&&◌, ◌≤◌}
use Rattle.laws.specs.Basics.{drop}
use Rattle.laws.specs.{Tests.every}
use Rattle.model.specs.Sound.{is_nothing_of}
use Rattle.library_calls.proofs.run_words.fill.are_nothing.Given as goal

abbrev pub invariant-loop-f : goal.invariant-loop-f
invariant-loop-f l = (l.f ≤ 16) × ((l.all && every is_nothing_of (drop l.f l.pins)) ≡ every is_nothing_of l.pins)
