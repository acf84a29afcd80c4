-- `in_place::start::put_started` meets its contract. Assumes nothing.
use Rattle.std.specs.Prelude.{◌≡◌, ◌∷◌, ◌+◌, ◌≤◌, ◌<◌}
use Rattle.laws.specs.Basics.{refl, ◌∙◌, ap, List, [], ℕ, arith, length, get_or, set, length-set}
use Rattle.laws.specs.Sums.{sum_below}
use Rattle.words.specs.Puts.{puts, puts4}
use Rattle.words.proofs.Reading.{set_is_put}
use Rattle.in_place.specs.Starting.{zeros, with_counts, counted, with_firsts, begun, started_words}
use Rattle.in_place.proofs.{Starting.zeros_length}
use Rattle.in_place.proofs.start.put_started.Goals as goal

-- What was put, step by step.
started_by : (w a b c blockCounts : List ℕ) (n sum : ℕ) → w ≡ zeros → a ≡ with_counts (set w 0 n) blockCounts n → b ≡ with_firsts a n → sum ≡ sum_below n (λ p. get_or blockCounts p 0) → c ≡ puts b (puts4 4 sum)
    → c ≡ started_words n blockCounts
unfolding started_words begun counted
started_by w a b c blockCounts n sum e f g h k = rw (k, h, g, f, e, set_is_put zeros 0 n) refl

pub sum_of-written-requires : goal.sum_of-written-requires
sum_of-written-requires c =
    (c.requires.1, c.requires.2)

pub overflow_cast-w : goal.overflow_cast-w
overflow_cast-w c =
    omega (arith, c.requires.1)

pub bounds-w-0 : goal.bounds-w-0
bounds-w-0 c =
    let long : length c.args.w.now ≡ 6464 = ap length c.requires.0 ∙ zeros_length in
    omega (arith, long)

pub put_counts-requires : goal.put_counts-requires
put_counts-requires c =
    let set_length : length (set c.args.w.now 0 c.args.n) ≡ length c.args.w.now = length-set {A = ℕ} c.args.w.now 0 c.args.n in
    let long : length c.args.w.now ≡ 6464 = ap length c.requires.0 ∙ zeros_length in
    (set_length ∙ long, c.requires.1, c.requires.2, c.requires.3)

pub put_firsts-requires : goal.put_firsts-requires
put_firsts-requires c =
    let set_length : length (set c.args.w.now 0 c.args.n) ≡ length c.args.w.now = length-set {A = ℕ} c.args.w.now 0 c.args.n in
    let long : length c.args.w.now ≡ 6464 = ap length c.requires.0 ∙ zeros_length in
    (c.put_counts.auto.w ∙ set_length ∙ long, c.requires.1)

pub put4-requires : goal.put4-requires
put4-requires c =
    let long : length c.args.w.now ≡ 6464 = ap length c.requires.0 ∙ zeros_length in
    omega (arith, c.put_firsts.auto.w, c.put_counts.auto.w, length-set c.args.w.now 0 c.args.n, long)

pub shape_of-w : goal.shape_of-w
shape_of-w c =
    let set_length : length (set c.args.w.now 0 c.args.n) ≡ length c.args.w.now = length-set {A = ℕ} c.args.w.now 0 c.args.n in
    c.put4.auto.w ∙ c.put_firsts.auto.w ∙ c.put_counts.auto.w ∙ set_length

pub returns : goal.returns
returns c =
    started_by c.args.w.now _ _ _ c.args.block_counts.now c.args.n _ c.requires.0 c.put_counts.ensures c.put_firsts.ensures c.sum_of-written.ensures c.put4.ensures
