-- The search of specs/Judging finds the first pair that breaks a pattern, and none exactly where the pattern is trackable.
-- Assumes nothing.
use Rattle.std.specs.Prelude.{◌≡◌, ◌≤◌, ◌<◌}
use Rattle.laws.specs.Basics.{refl, sym, ◌∙◌, subst, Bool, true, false, not, false≢true, Option, None, Some, inl, inr, ℕ, zero, suc, arith, pick, by_bool, by_eq}
use Rattle.laws.specs.{Options.some_same, Options.none≢some, Truth.never_both, Truth.and_out}
use Rattle.histories.specs.History.{Lists, checkpoints}
use Rattle.theory_patterns.specs.declared.BreakingPair.{BreakingPair}
use Rattle.theory_patterns.specs.Paths.{Breaking, Trackable, Earlier, FirstBreaking}
use Rattle.theory_patterns.specs.Judging.{has_zigzag, is_before, is_breaking, first_of_all, pair_of, first_pair}
use Rattle.theory_patterns.proofs.Tested.{Numbered, zigzag_out, zigzag_in, before_out, before_in}

-- The first that is there.
pub by_there : {A : Type 0} {P : Type 0} (o : Option A) → (o ≡ None → P) → ((x : A) → o ≡ Some x → P) → P
by_there None f g = f refl
by_there (Some x) f g = g x refl

module _ {A : Type 0} where
  first_none : (n : ℕ) (f : ℕ → Option A) → first_of_all n f ≡ None → (k : ℕ) → k < n → f k ≡ None
  unfolding first_of_all
  first_none zero f e k h = absurd (omega arith)
  first_none (suc n) f e k h = by_there (first_of_all n f)
      (λ q. by_eq k n (λ c. rw c (rw q at e)) (λ ne. first_none n f q k (omega arith)))
      (λ x q. absurd (none≢some (sym (rw q at e))))

  first_out : (n : ℕ) (f : ℕ → Option A) (x : A) → first_of_all n f ≡ Some x → (k : ℕ) × (k < n) × (f k ≡ Some x) × ((j : ℕ) → j < k → f j ≡ None)
  unfolding first_of_all
  first_out zero f x e = absurd (none≢some e)
  first_out (suc n) f x e = by_there (first_of_all n f)
      (λ q. (n, omega arith, rw q at e, first_none n f q))
      (λ y q. let w = first_out n f x (q ∙ (rw q at e)) in (w.0, omega (arith, w.1), w.2, w.3))

module _ (n sends : ℕ) (lists : Lists) (w : Numbered n sends lists) where
  -- The test finds exactly the pairs that break.
  is_breaking_lem : (a α b β : ℕ) → Breaking n lists a α b β → is_breaking n sends lists a α b β ≡ true
  unfolding is_breaking
  is_breaking_lem a α b β k =
      let no : is_before n sends lists a α b β ≡ false = by_bool (is_before n sends lists a α b β)
      (λ e. absurd (k.unordered (before_out n sends lists w a α k.near_stored b β k.far_there e)))
      (λ e. e) in
      rw (zigzag_in n sends lists w a α b β k.path, no)

  breaking_is : (a α b β : ℕ) → a < n → α < checkpoints (lists a) → b < n → β ≤ checkpoints (lists b) → is_breaking n sends lists a α b β ≡ true → Breaking n lists a α b β
  unfolding is_breaking
  breaking_is a α b β ha hα hb hβ e =
      let d = and_out (has_zigzag n sends lists a α b β) (not (is_before n sends lists a α b β)) e in
      record {
        near = ha;
        near_stored = hα;
        far = hb;
        far_there = hβ;
        path = zigzag_out n sends lists w a α b β d.0;
        unordered = λ o. not_so (is_before n sends lists a α b β) d.1 (before_in n sends lists w a α hα b β o);
      }
    where
      not_so : (c : Bool) → not c ≡ true → c ≡ true → ⊥
      not_so true d e = false≢true d
      not_so false d e = false≢true e

  -- The search, loop by loop.
  abbrev at : ℕ → ℕ → ℕ → ℕ → Option BreakingPair
  at a α b β = pick (is_breaking n sends lists a α b β) (Some (pair_of a α b β)) None

  abbrev far_at : ℕ → ℕ → ℕ → Option BreakingPair
  far_at a α b = first_of_all (suc (checkpoints (lists b))) (λ β. at a α b β)

  abbrev far : ℕ → ℕ → Option BreakingPair
  far a α = first_of_all n (λ b. far_at a α b)

  abbrev near_at : ℕ → Option BreakingPair
  near_at a = first_of_all (checkpoints (lists a)) (λ α. far a α)

  there : (a α b β : ℕ) → Breaking n lists a α b β → at a α b β ≡ None → ⊥
  there a α b β k e = none≢some (sym (rw (is_breaking_lem a α b β k) at e))

  none_far_at : (a α b β : ℕ) → Breaking n lists a α b β → far_at a α b ≡ None → ⊥
  none_far_at a α b β k e = there a α b β k (first_none (suc (checkpoints (lists b))) (λ β. at a α b β) e β (omega (arith, k.far_there)))

  none_far : (a α b β : ℕ) → Breaking n lists a α b β → far a α ≡ None → ⊥
  none_far a α b β k e = none_far_at a α b β k (first_none n (λ b. far_at a α b) e b k.far)

  none_near_at : (a α b β : ℕ) → Breaking n lists a α b β → near_at a ≡ None → ⊥
  none_near_at a α b β k e = none_far a α b β k (first_none (checkpoints (lists a)) (λ α. far a α) e α k.near_stored)

  none_at_all : (a α b β : ℕ) → Breaking n lists a α b β → first_pair n sends lists ≡ None → ⊥
  unfolding first_pair
  none_at_all a α b β k e = none_near_at a α b β k (first_none n (λ a. near_at a) e a k.near)

  -- Nothing is found: every zigzag path goes with causal precedence.
  pub no_pair : first_pair n sends lists ≡ None → Trackable n lists
  unfolding Trackable
  no_pair e a α b β ha hα hb hβ z = by_bool (is_before n sends lists a α b β)
      (λ q. before_out n sends lists w a α hα b β hβ q)
      (λ q. absurd (none_at_all a α b β (record {
        near = ha;
        near_stored = hα;
        far = hb;
        far_there = hβ;
        path = z;
        unordered = λ o. never_both (is_before n sends lists a α b β) (before_in n sends lists w a α hα b β o) q;
      }) e))

  found : {x y : BreakingPair} {b : Bool} → pick b (Some x) None ≡ Some y → (b ≡ true) × (x ≡ y)
  found {x} {y} {b} e = by_bool b
      (λ q. (q, some_same (rw q at e)))
      (λ q. absurd (none≢some (rw q at e)))

  -- A pair is found: it is the first one that breaks.
  pub first_pair_lem : (v : BreakingPair) → first_pair n sends lists ≡ Some v → FirstBreaking n lists v.near.process v.near.index.0 v.far.process v.far.index.0
  unfolding first_pair
  first_pair_lem v e =
      let p = first_out n (λ a. near_at a) v e in
      let a = p.0 in
      let q = first_out (checkpoints (lists a)) (λ α. far a α) v p.2 in
      let α = q.0 in
      let r = first_out n (λ b. far_at a α b) v q.2 in
      let b = r.0 in
      let s = first_out (suc (checkpoints (lists b))) (λ β. at a α b β) v r.2 in
      let β = s.0 in
      let t = found s.2 in
      subst (λ (w : BreakingPair). FirstBreaking n lists w.near.process w.near.index.0 w.far.process w.far.index.0) t.1 (record {
        breaks = breaking_is a α b β p.1 q.1 r.1 (omega (arith, s.1)) t.0;
        first = earliest a α b β p.3 q.3 r.3 s.3;
      })
    where
      earliest : (a α b β : ℕ) → ((x : ℕ) → x < a → near_at x ≡ None) → ((x : ℕ) → x < α → far a x ≡ None) → ((x : ℕ) → x < b → far_at a α x ≡ None)
          → ((x : ℕ) → x < β → at a α b x ≡ None) → (a' α' b' β' : ℕ) → Breaking n lists a' α' b' β' → Earlier a' α' b' β' a α b β → ⊥
      earliest a α b β p q r s a' α' b' β' k o = by_order o
        where
          by_order : Earlier a' α' b' β' a α b β → ⊥
          by_order o = unfold Earlier in elim o [
            | inl lt ↦ none_near_at a' α' b' β' k (p a' lt)
            | inr (c, inl lt) ↦ none_far a α' b' β' (rw c at k) (q α' lt)
            | inr (c, inr (d, inl lt)) ↦ none_far_at a α b' β' (rw d at (rw c at k)) (r b' lt)
            | inr (c, inr (d, inr (f, lt))) ↦ there a α b β' (rw f at (rw d at (rw c at k))) (s β' lt)
          ]
