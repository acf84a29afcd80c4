-- `words::messages::take_out` meets its contract. Assumes nothing.
use Rattle.std.specs.Prelude.{◌≡◌, ◌-◌, ◌≤◌, ◌<◌}
use Rattle.laws.specs.Basics.{◌∙◌, List, ℕ, arith, get_or, set, length-set, rules}
use Rattle.words.specs.{Layout.word, Layout.end_of, messages.Places.end_below, messages.Places.cleared, messages.Places.taken_out}
use Rattle.words.proofs.{Reading.set_is_put, messages.Selected.end_under}
use Rattle.words.proofs.messages.take_out.Goals as goal

taken_by : (w u : List ℕ) (k e : ℕ) → u ≡ cleared w k → e ≡ end_below u (end_of w) → set (set u 1 (word w 1 - 1)) 12 e ≡ taken_out w k
unfolding taken_out
taken_by w u k e q h = rw (h, q) (simp set_is_put)

pub overflow_cast-w : goal.overflow_cast-w
overflow_cast-w c =
    let small = end_under c.clear.new.w (get_or c.args.w.now 12 0) in omega (arith, c.end_before-past.ensures, c.requires.1)

pub bounds-w-12-2 : goal.bounds-w-12-2
bounds-w-12-2 c =
    simp length-set (omega (arith, c.clear.auto.w, c.requires.0))

pub shape_of-w : goal.shape_of-w
shape_of-w c =
    simp length-set c.clear.auto.w

pub returns : goal.returns
returns c =
    let a = c.args in taken_by a.w.now _ a.k _ c.clear.ensures c.end_before-past.ensures
