-- Note 10: the first of the messages to p is the oldest, since messages ascend by number.
-- Assumes nothing.
use Rattle.std.specs.Prelude.{◌≡◌, ◌∷◌, ◌≤◌}
use Rattle.laws.specs.Basics.{refl, sym, true, List, [], map, None, Some, inl, inr, ℕ, suc, arith, eqb, leb, eq-eqb, eqb-true, leb-true, by_bool}
use mathlib.Core.List.Memᴰ
use mathlib.Core.List.{Memᴰ}
use Rattle.laws.specs.{Lists.select, Options.some_same, Options.none≢some, Truth.never_both, Truth.and_left, Truth.and_right}
use Rattle.model.specs.declared.Message.{Message}
use Rattle.model.specs.{Words.under_way, Sound.ascending, laws.Sound.sound_state}
use Rattle.whole_runs.proofs.WholeRuns.{reachable_sound}
use Rattle.theory_recording.specs.spacing.Spacing.{head_of, oldest_to, OldestDelivered}

above : (low : ℕ) (l : List Message) (y : Message) → ascending low (map (λ x. x.number) l) ≡ true → Memᴰ y l → low ≤ y.number
unfolding ascending
above low [] y a m = absurd (Memᴰ.not-nil m)
above low (z ∷ l) y a m =
    let here = leb-true low z.number (and_left (leb low z.number) (ascending (suc z.number) (map (λ x. x.number) l)) a) in
    elim (Memᴰ.cases_cons m) [
      | inl d ↦ rw d here
      | inr t ↦ omega (arith, here, above (suc z.number) l y (and_right (leb low z.number) (ascending (suc z.number) (map (λ x. x.number) l)) a) t)
    ]

first_of : (p low : ℕ) (l : List Message) → ascending low (map (λ x. x.number) l) ≡ true → (x : Message) → head_of (select (λ y. eqb y.receiver p) l) ≡ Some x
    → Memᴰ x l × (x.receiver ≡ p) × ((y : Message) → Memᴰ y l → y.receiver ≡ p → x.number ≤ y.number)
unfolding ascending select head_of
first_of p low [] a x e = absurd (none≢some e)
first_of p low (z ∷ l) a x e =
    let rest_after = and_right (leb low z.number) (ascending (suc z.number) (map (λ x. x.number) l)) a in
    by_bool (eqb z.receiver p)
    (λ q. let same : z ≡ x = some_same (rw q at e) in
    rw (← same) (
      Memᴰ.head refl,
      eqb-true z.receiver p q,
      λ y m c. elim (Memᴰ.cases_cons m) [
        | inl d ↦ rw d (omega arith)
        | inr t ↦ omega (arith, above (suc z.number) l y rest_after t)
      ],
    ))
    (λ q. let w = first_of p (suc z.number) l rest_after x (rw q at e) in (
      Memᴰ.tail w.0,
      w.1,
      λ y m c. elim (Memᴰ.cases_cons m) [
        | inl d ↦ never_both (eqb z.receiver p) (eq-eqb z.receiver p (rw d at c)) q
        | inr t ↦ w.2 y t c
      ],
    ))

none_of : (p : ℕ) (l : List Message) → head_of (select (λ y. eqb y.receiver p) l) ≡ None → (y : Message) → Memᴰ y l → y.receiver ≡ p → ⊥
unfolding select head_of
none_of p [] e y m c = Memᴰ.not-nil m
none_of p (z ∷ l) e y m c = by_bool (eqb z.receiver p)
    (λ q. none≢some (sym (rw q at e)))
    (λ q. elim (Memᴰ.cases_cons m) [
      | inl d ↦ never_both (eqb z.receiver p) (eq-eqb z.receiver p (rw d at c)) q
      | inr t ↦ none_of p l (rw q at e) y t c
    ])

pub oldest_delivered : OldestDelivered
unfolding OldestDelivered oldest_to
oldest_delivered s v p =
    let a = (sound_state s (reachable_sound s v)).messages_ascend in
    record { one = λ x e. first_of p 1 (under_way s) a x e; none_to = none_of p (under_way s) }
