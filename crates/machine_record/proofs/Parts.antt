-- Records part by part: what two parts come to, one after the other.
-- Assumes nothing.
use Rattle.std.specs.Prelude.{◌≡◌, ◌∷◌, ◌++◌, ◌+◌, ◌*◌, ◌<◌}
use Rattle.laws.specs.Basics.{refl, sym, ◌∙◌, ap, List, [], append_assoc, Option, ℕ, arith, length}
use Rattle.model.specs.{declared.Event.Event, Trace.decoded}
use Rattle.machine_record.specs.Recorded.{whole_records, left_over_of}
use Rattle.machine_record.specs.Records.{Standing, standing_next, standing_after, texts_after}

-- Fewer than four bytes are no record.
pub few_bytes : (g : Standing) (l : List ℕ) → length l < 4 → (standing_after g l ≡ g) × ((text : Standing → Option Event → List ℕ) → texts_after text g l ≡ [])
unfolding standing_after texts_after
few_bytes g [] h = (refl, λ text. refl)
few_bytes g (a ∷ []) h = (refl, λ text. refl)
few_bytes g (a ∷ b ∷ []) h = (refl, λ text. refl)
few_bytes g (a ∷ b ∷ c ∷ []) h = (refl, λ text. refl)
few_bytes g (a ∷ b ∷ c ∷ d ∷ l) h = absurd (omega arith)

pub left_few : (l : List ℕ) → length (left_over_of l) < 4
unfolding left_over_of
left_few [] = omega arith
left_few (a ∷ []) = omega arith
left_few (a ∷ b ∷ []) = omega arith
left_few (a ∷ b ∷ c ∷ []) = omega arith
left_few (a ∷ b ∷ c ∷ d ∷ l) = left_few l

-- Every byte is in a record or left over.
pub counted : (l : List ℕ) → length l ≡ 4 * whole_records l + length (left_over_of l)
unfolding whole_records left_over_of
counted [] = refl
counted (a ∷ []) = refl
counted (a ∷ b ∷ []) = refl
counted (a ∷ b ∷ c ∷ []) = refl
counted (a ∷ b ∷ c ∷ d ∷ l) = omega (arith, counted l)

pub done_after : (g : Standing) (l : List ℕ) → (standing_after g l).done ≡ g.done + whole_records l
unfolding standing_after standing_next whole_records
done_after g [] = omega arith
done_after g (a ∷ []) = omega arith
done_after g (a ∷ b ∷ []) = omega arith
done_after g (a ∷ b ∷ c ∷ []) = omega arith
done_after g (a ∷ b ∷ c ∷ d ∷ l) = omega (arith, done_after (standing_next g (decoded (a ∷ b ∷ c ∷ d ∷ []))) l)

pub standing_append : (g : Standing) (l m : List ℕ) → standing_after g (l ++ m) ≡ standing_after (standing_after g l) (left_over_of l ++ m)
unfolding standing_after left_over_of
standing_append g [] m = refl
standing_append g (a ∷ []) m = refl
standing_append g (a ∷ b ∷ []) m = refl
standing_append g (a ∷ b ∷ c ∷ []) m = refl
standing_append g (a ∷ b ∷ c ∷ d ∷ l) m = standing_append (standing_next g (decoded (a ∷ b ∷ c ∷ d ∷ []))) l m

pub left_append : (l m : List ℕ) → left_over_of (l ++ m) ≡ left_over_of (left_over_of l ++ m)
unfolding left_over_of
left_append [] m = refl
left_append (a ∷ []) m = refl
left_append (a ∷ b ∷ []) m = refl
left_append (a ∷ b ∷ c ∷ []) m = refl
left_append (a ∷ b ∷ c ∷ d ∷ l) m = left_append l m

module _ (text : Standing → Option Event → List ℕ) where
  pub texts_append : (g : Standing) (l m : List ℕ) → texts_after text g (l ++ m) ≡ texts_after text g l ++ texts_after text (standing_after g l) (left_over_of l ++ m)
  unfolding standing_after left_over_of texts_after
  texts_append g [] m = refl
  texts_append g (a ∷ []) m = refl
  texts_append g (a ∷ b ∷ []) m = refl
  texts_append g (a ∷ b ∷ c ∷ []) m = refl
  texts_append g (a ∷ b ∷ c ∷ d ∷ l) m =
      let o = decoded (a ∷ b ∷ c ∷ d ∷ []) in
      let h = standing_next g o in
      ap (λ (x : List ℕ). text g o ++ x) (texts_append h l m) ∙ sym (append_assoc (text g o) (texts_after text h l) (texts_after text (standing_after h l) (left_over_of l ++ m)))
