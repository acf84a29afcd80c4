-- At most one verdict on a trace is right, so a contract that promises a right one fixes it.
-- Assumes nothing.
use Rattle.std.specs.Prelude.{◌≡◌, ◌<◌, Ok, Err}
use Rattle.laws.specs.Basics.{refl, sym, ap, List, None, Some, inl, inr, ℕ, arith, ltb, ltb-true, ltb-false, by_bool, by_eq}
use Rattle.model.specs.declared.Refusal.{Refusal}
use Rattle.histories.specs.History.{Lists}
use Rattle.theory_patterns.specs.{Patterns.Pattern, Patterns.refused, Patterns.whole, Patterns.reading, Verdicts.Verdict, Verdicts.count_of, Verdicts.RightVerdict}
use Rattle.theory_patterns.specs.{Paths.Breaking, Paths.Earlier, Paths.FirstBreaking, Judging.pair_of}
use Rattle.theory_patterns.specs.Paths as paths
use Rattle.theory_patterns.specs.declared.BreakingPair.{BreakingPair}

not_both : {P : Type 0} (l : List ℕ) (r : Refusal) (t : Pattern) → reading l ≡ refused r → reading l ≡ whole t → P
not_both l r t d e = absurd (let z : ◌≡◌ {A = ℕ} 0 1 = cc in omega arith)

same_pattern : (l : List ℕ) (t u : Pattern) → reading l ≡ whole t → reading l ≡ whole u → t ≡ u
same_pattern l t u d e = cc

same_refusal : (l : List ℕ) (r s : Refusal) → reading l ≡ refused r → reading l ≡ refused s → r ≡ s
same_refusal l r s d e = cc

-- A pattern with a pair that breaks is not trackable.
broken : (n : ℕ) (lists : Lists) (a α b β : ℕ) → paths.Trackable n lists → Breaking n lists a α b β → ⊥
unfolding paths.Trackable
broken n lists a α b β all w = w.unordered (all a α b β w.near w.near_stored w.far w.far_there w.path)

either_way : {P : Type 0} (a b : ℕ) → (a < b → P) → (b < a → P) → (a ≡ b → P) → P
either_way a b less more same = by_eq a b same (λ ne. by_bool (ltb a b) (λ e. less (ltb-true a b e)) (λ e. more (omega (arith, ltb-false a b e, ne))))

-- Two first pairs are the same.
pub same_pair : (n : ℕ) (lists : Lists) (a α b β c γ d δ : ℕ) → FirstBreaking n lists a α b β → FirstBreaking n lists c γ d δ → (a ≡ c) × (α ≡ γ) × (b ≡ d) × (β ≡ δ)
unfolding Earlier
same_pair n lists a α b β c γ d δ v w =
    either_way a c (λ l. absurd (w.first a α b β v.breaks (inl l))) (λ l. absurd (v.first c γ d δ w.breaks (inl l)))
    (λ e. either_way α γ (λ l. absurd (w.first a α b β v.breaks (inr (e, inl l)))) (λ l. absurd (v.first c γ d δ w.breaks (inr (sym e, inl l))))
    (λ f. either_way b d (λ l. absurd (w.first a α b β v.breaks (inr (e, inr (f, inl l))))) (λ l. absurd (v.first c γ d δ w.breaks (inr (sym e, inr (sym f, inl l)))))
    (λ g. either_way β δ (λ l. absurd (w.first a α b β v.breaks (inr (e, inr (f, inr (g, l)))))) (λ l. absurd (v.first c γ d δ w.breaks (inr (sym e, inr (sym f, inr (sym g, l))))))
    (λ h. (e, f, g, h)))))

-- A pair is given by its ends.
pair_by_ends : (a α b β c γ d δ : ℕ) → (a ≡ c) × (α ≡ γ) × (b ≡ d) × (β ≡ δ) → pair_of a α b β ≡ pair_of c γ d δ
pair_by_ends a α b β c γ d δ e = rw (e.0, e.1, e.2, e.3)

pub one_verdict : (l : List ℕ) (u w : Verdict) → RightVerdict l u → RightVerdict l w → u ≡ w
unfolding RightVerdict
one_verdict l (Err r) (Err s) d e = ap Err (same_refusal l r s d e)
one_verdict l (Err r) (Ok None) d e = not_both l r e.0 d e.1
one_verdict l (Err r) (Ok (Some v)) d e = not_both l r e.0 d e.1
one_verdict l (Ok None) (Err s) d e = not_both l s d.0 e d.1
one_verdict l (Ok None) (Ok None) d e = refl
one_verdict l (Ok None) (Ok (Some v)) d e =
    let t = rw (same_pattern l d.0 e.0 d.1 e.1) at d.2 in
    absurd (broken (count_of l) e.0.lists v.near.process v.near.index.0 v.far.process v.far.index.0 t e.2.breaks)
one_verdict l (Ok (Some v)) (Err s) d e = not_both l s d.0 e d.1
one_verdict l (Ok (Some v)) (Ok None) d e =
    let t = rw (same_pattern l e.0 d.0 e.1 d.1) at e.2 in
    absurd (broken (count_of l) d.0.lists v.near.process v.near.index.0 v.far.process v.far.index.0 t d.2.breaks)
one_verdict l (Ok (Some v)) (Ok (Some w)) d e =
    let first = rw (same_pattern l d.0 e.0 d.1 e.1) at d.2 in
    let same = same_pair (count_of l) e.0.lists v.near.process v.near.index.0 v.far.process v.far.index.0 w.near.process w.near.index.0 w.far.process w.far.index.0 first e.2 in
    ap (λ (p : BreakingPair). Ok (Some p)) (pair_by_ends v.near.process v.near.index.0 v.far.process v.far.index.0 w.near.process w.near.index.0 w.far.process w.far.index.0 same)
