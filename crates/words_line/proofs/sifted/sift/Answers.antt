-- `words_line::sifted::sift` meets its contract. Assumes nothing.
use Rattle.std.specs.Prelude.{◌≡◌, ◌≤◌, ◌<◌}
use Rattle.laws.specs.Basics.{◌∙◌, List, ℕ, arith, length, set, length-set, rules}
use Rattle.laws.specs.Lists.{select, table}
use Rattle.model.specs.declared.CheckpointIndex.{CheckpointIndex}
use Rattle.words.specs.{Layout.state_size, Layout.end_of, Layout.message_in, messages.Places.end_below}
use Rattle.words.proofs.{Reading.set_is_put, messages.Selected.end_under}
use Rattle.words_line.specs.Sifted.{remains, sifted_below, Sifted}
use Rattle.words_line.proofs.{Sifting.sifted_words, Sifting.is_sifted}
use Rattle.words_line.proofs.sifted.sift.Goals as goal

sifted_by : (indexes : List CheckpointIndex) (w u : List ℕ) (left e : ℕ) → length w ≡ state_size → end_of w ≤ 64 → u ≡ sifted_below indexes w (end_of w)
    → left ≡ length (select (remains indexes) (table (end_of w) (message_in w))) → e ≡ end_below u (end_of w) → Sifted indexes w (set (set u 1 left) 12 e)
sifted_by indexes w u left e long few q many h =
    let same : set (set u 1 left) 12 e ≡ sifted_words indexes w = rw (h, q, many) (simp set_is_put) in
    rw same (is_sifted indexes w long few)

pub overflow_cast-w : goal.overflow_cast-w
overflow_cast-w c =
    omega (arith, c.end_before-past.ensures, end_under c.sift_places-left.new.w (end_of c.args.w.now), c.requires.1)

pub bounds-w-12-2 : goal.bounds-w-12-2
bounds-w-12-2 c =
    simp length-set (omega (arith, c.sift_places-left.auto.w, c.requires.0))

pub shape_of-w : goal.shape_of-w
shape_of-w c =
    simp length-set c.sift_places-left.auto.w

pub returns : goal.returns
returns c =
    sifted_by c.args.indexes c.args.w.now _ _ _ c.requires.0 c.requires.1 c.sift_places-left.ensures.0 c.sift_places-left.ensures.1 c.end_before-past.ensures
