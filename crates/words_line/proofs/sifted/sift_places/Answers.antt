-- `words_line::sifted::sift_places` meets its contract. The loop's invariant: the places passed so far are without the lost messages, and that many are left in them.
-- Assumes nothing.
use Rattle.std.specs.Prelude.{◌≡◌, ◌∷◌, ◌+◌, ◌-◌, ◌≤◌, ◌<◌}
use Rattle.laws.specs.Basics.{refl, sym, ◌∙◌, ap, true, List, [], ℕ, arith, length, length-append, rules, pick, by_bool}
use native.Mathlib.Numerals.{add-one}
use Rattle.laws.specs.Lists.{select, table}
use Rattle.model.specs.declared.{CheckpointIndex.CheckpointIndex, Message.Message}
use Rattle.words.specs.Layout.{state_size, word, sender_at_of, message_in, is_message}
use Rattle.words.proofs.messages.Selected.{select_more, select_less}
use Rattle.words_line.specs.Sifted.{remains, sifted_place, sifted_below}
use Rattle.words_line.proofs.{Sifting.sifted_below_lem}
use Rattle.words_line.proofs.sifted.sift_places.Goals as goal

abbrev left_of : List CheckpointIndex → List ℕ → ℕ → ℕ
left_of indexes w k = length (select (remains indexes) (table k (message_in w)))

none : (indexes : List CheckpointIndex) (w : List ℕ) → (w ≡ sifted_below indexes w 0) × (0 ≡ left_of indexes w 0)
unfolding sifted_below table select
none indexes w = (refl, refl)

-- The next place is as it was.
module _ (indexes : List CheckpointIndex) (w v : List ℕ) (k : ℕ) (long : length w ≡ state_size) (lt : k < 64) (e : v ≡ sifted_below indexes w k) where
  ahead : message_in v k ≡ message_in w k
  ahead = rw e ((sifted_below_lem indexes w long k (omega arith)).ahead k (omega arith) lt)

  sender_ahead : (is_message (message_in w k) ≡ true → word w (sender_at_of k) < 16) → is_message (message_in v k) ≡ true → word v (sender_at_of k) < 16
  unfolding message_in
  sender_ahead h is =
      let same : word v (sender_at_of k) ≡ word w (sender_at_of k) = ap (λ (x : Message). x.sender) ahead in
      omega (arith, same, h (sym (ap is_message ahead) ∙ is))

  one_more : (u : List ℕ) (left one : ℕ) → left ≡ left_of indexes w k → u ≡ sifted_place indexes v k → one ≡ pick (remains indexes (message_in v k)) 1 0
      → (u ≡ sifted_below indexes w (k + 1)) × ((left + one ≡ left_of indexes w (k + 1)) × (one ≤ 1))
  unfolding sifted_below
  one_more u left one many q o = by_bool (remains indexes (message_in w k))
      (λ r.
      let z : one ≡ 1 = rw (ahead, r) at o in
      rw (add-one k, select_more (remains indexes) k (message_in w) r, ← e)
      (q, (omega (arith, many, z, length-append (select (remains indexes) (table k (message_in w))) (message_in w k ∷ [])), omega (arith, z))))
      (λ r.
      let z : one ≡ 0 = rw (ahead, r) at o in
      rw (add-one k, select_less (remains indexes) k (message_in w) r, ← e)
      (q, (omega (arith, many, z), omega (arith, z))))

pub loop-k-init : goal.loop-k-init
loop-k-init c =
    let a = c.args in let n = none a.indexes a.w.now in (search rules, search rules, refl, n.0, n.1)

pub sift_place-one-requires : goal.sift_place-one-requires
sift_place-one-requires c =
    let l = c.loop-k in let lt : l.k < 64 = omega (arith, c.loop-k-test.true, c.requires.1) in
    (l.invariant.2 ∙ c.requires.0, lt, sender_ahead c.args.indexes c.args.w.now l.w l.k c.requires.0 lt l.invariant.3 (c.requires.2 l.k c.loop-k-test.true))

pub overflow_add-left : goal.overflow_add-left
overflow_add-left c =
    let then : let l = c.loop-k in let a = c.args in (c.sift_place-one.new.w ≡ sifted_below a.indexes a.w.now (l.k + 1)) × ((l.left + c.sift_place-one.result ≡ left_of a.indexes a.w.now (l.k + 1)) × (c.sift_place-one.result ≤ 1)) = let l = c.loop-k in let lt : l.k < 64 = omega (arith, c.loop-k-test.true, c.requires.1) in
    one_more c.args.indexes c.args.w.now l.w l.k c.requires.0 lt l.invariant.3 _ l.left _ l.invariant.4 c.sift_place-one.ensures.0 c.sift_place-one.ensures.1 in
    let l = c.loop-k in omega (
      arith,
      then.1.1,
      l.invariant.1,
      l.invariant.0,
      c.requires.1,
    )

pub loop-k-preserved : goal.loop-k-preserved
loop-k-preserved c =
    let then : let l = c.loop-k in let a = c.args in (c.sift_place-one.new.w ≡ sifted_below a.indexes a.w.now (l.k + 1)) × ((l.left + c.sift_place-one.result ≡ left_of a.indexes a.w.now (l.k + 1)) × (c.sift_place-one.result ≤ 1)) = let l = c.loop-k in let lt : l.k < 64 = omega (arith, c.loop-k-test.true, c.requires.1) in
    one_more c.args.indexes c.args.w.now l.w l.k c.requires.0 lt l.invariant.3 _ l.left _ l.invariant.4 c.sift_place-one.ensures.0 c.sift_place-one.ensures.1 in
    let l = c.loop-k in let t = then in (search rules, omega (arith, t.1.1, l.invariant.1), c.sift_place-one.auto.w ∙ l.invariant.2, t.0, t.1.0)

pub shape_of-w : goal.shape_of-w
shape_of-w c =
    c.loop-k.invariant.2

pub returns : goal.returns
returns c =
    let l = c.loop-k in let e : l.k ≡ c.args.end = omega arith in
    (rw e at l.invariant.3, rw e at l.invariant.4)
