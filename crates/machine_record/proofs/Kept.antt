-- A block that is taken, and the bytes that are left over of it.
-- Assumes nothing.
use Rattle.std.specs.Prelude.{◌≡◌, ◌∷◌, ◌+◌, ◌-◌, ◌*◌, ◌≤◌}
use Rattle.laws.specs.Basics.{refl, sym, ◌∙◌, ap, List, [], ℕ, suc, arith, length, take, drop, length-drop, sets, length-take-le}
use lib.Seq.{take-add, drop_at}
use Rattle.model.specs.Trace.{decoded}
use Rattle.words.specs.Layout.{run_of}
use Rattle.machine_record.specs.declared.{block.Taken.Taken, marks.Marks.Marks}
use Rattle.machine_record.specs.{Recorded.whole_records, Recorded.left_over_of, Records.Standing, Records.standing_next, Records.standing_after, Played.TakesAll}
use Rattle.machine_record.specs.{Machine.block_taken, Machine.to_write_of, Lent.position_of}
use Rattle.machine_record.proofs.{Emptied.front, Parts.left_few, Parts.counted, Parts.done_after}

left_drop : (l : List ℕ) → left_over_of l ≡ drop (4 * whole_records l) l
unfolding left_over_of whole_records
left_drop [] = refl
left_drop (a ∷ []) = refl
left_drop (a ∷ b ∷ []) = refl
left_drop (a ∷ b ∷ c ∷ []) = refl
left_drop (a ∷ b ∷ c ∷ d ∷ l) = left_drop l ∙ ap (λ (k : ℕ). drop k (a ∷ b ∷ c ∷ d ∷ l)) {x = suc (suc (suc (suc (4 * whole_records l))))} {y = 4 * suc (whole_records l)} (omega arith)

-- No bytes of the buffer come back.
left_falls : (g : Standing) (l : List ℕ) → (standing_after g l).left ≤ g.left
unfolding standing_after standing_next
left_falls g [] = omega arith
left_falls g (a ∷ []) = omega arith
left_falls g (a ∷ b ∷ []) = omega arith
left_falls g (a ∷ b ∷ c ∷ []) = omega arith
left_falls g (a ∷ b ∷ c ∷ d ∷ l) = omega (arith, left_falls (standing_next g (decoded (a ∷ b ∷ c ∷ d ∷ []))) l)

drop_front : (from rest : ℕ) (l : List ℕ) → from ≤ length l → drop from (take (from + rest) l) ≡ take rest (drop from l)
drop_front from rest l h = ap (drop from) (take-add from rest l) ∙ drop_at (take from l) (take rest (drop from l)) from (length-take-le from l h)

-- The records of the first bytes of the input were taken.
pub record Took (m : Marks) (words words' input out lines out' lines' : List ℕ) (end : ℕ) (t : Taken) : Type 0 where
  pub inside : end ≤ length input
  pub all : TakesAll (run_of words) m.left m.done (take end input) (length out) (length lines) (run_of words') t out' lines'

module _ {m : Marks} {words words' input out lines out' lines' : List ℕ} {end : ℕ} {t : Taken} (d : Took m words words' input out lines out' lines' end t) where
  abbrev g : Standing
  g = record { run = run_of words; left = m.left; done = m.done }

  abbrev block : List ℕ
  block = take end input

  size_is : length block ≡ end
  size_is = length-take-le end input d.inside

  pub done_is : t.done ≡ m.done + whole_records block
  done_is = ap (λ (x : Standing). x.done) d.all.standing ∙ done_after g block

  pub whole_inside : 4 * (t.done - m.done) ≤ end
  whole_inside = omega (arith, done_is, size_is, counted block)

  pub done_before : m.done ≤ t.done
  done_before = omega (arith, done_is)

  pub left_most : t.left ≤ m.left
  left_most = omega (arith, ap (λ (x : Standing). x.left) d.all.standing, left_falls g block)

  abbrev from : ℕ
  from = 4 * (t.done - m.done)

  pub rest_few : end - from ≤ 3
  rest_few = omega (arith, done_is, size_is, counted block, left_few block)

  left_bytes : take (end - from) (drop from input) ≡ left_over_of block
  left_bytes =
      let whole : from ≡ 4 * whole_records block = omega (arith, done_is) in
      let both : from + (end - from) ≡ end = omega (arith, whole_inside) in
      sym (drop_front from (end - from) input (omega (arith, whole_inside, d.inside)))
      ∙ ap (λ (k : ℕ). drop from (take k input)) both
      ∙ ap (λ (k : ℕ). drop k block) whole
      ∙ sym (left_drop block)

  pub kept_bytes : (input' : List ℕ) → input' ≡ sets input 0 (take (end - from) (drop from input)) → take (end - from) input' ≡ left_over_of block
  kept_bytes input' e =
      let x = take (end - from) (drop from input) in
      let many : length x ≡ end - from = length-take-le (end - from) (drop from input) (omega (arith, whole_inside, d.inside, length-drop from input)) in
      let same-many : end - from ≡ 0 + length x = omega (arith, many) in
      ap (take (end - from)) e
      ∙ ap (λ (k : ℕ). take k (sets input 0 x)) same-many
      ∙ front input x 0 (omega (arith, many, whole_inside, d.inside))
      ∙ left_bytes

  pub block_is : (input' : List ℕ) → input' ≡ sets input 0 (take (end - from) (drop from input))
      → let next : Marks = record { phase = 4; left = t.left; done = t.done; kept = end - from; size = t.size; pending = t.pending } in
      block_taken g block ≡ to_write_of (take t.size out') (take t.pending lines') (position_of next words' input')
  unfolding block_taken
  block_is input' e = λ j. to_write_of (sym d.all.written j) (sym d.all.reported j) (record { standing = sym d.all.standing j; rest = sym (kept_bytes input' e) j })
