-- The numbers of the refusals: the table the other way round, from a number to its refusal, and what follows from it.
-- Assumes nothing.
use Rattle.std.specs.Prelude.{◌≡◌, ◌||◌, ◌∷◌, ◌≤◌}
use Rattle.laws.specs.Basics.{refl, sym, ◌∙◌, ap, true, List, [], ℕ, arith, eqb, leb, get_or, ne_eqb, eqb-true, leb-true, leb-false, by_bool}
use lib.ListN.{get_or-eq_default}
use Rattle.laws.specs.Search.{all_below, all_out}
use Rattle.model.specs.declared.Refusal.{Refusal}
use Rattle.model.specs.declared.Refusal.TheVariants.{CountOutsideRange, UnsoundState, ListTooShort, NoSuchProcess, SenderIsReceiver, NoSuchFailedProcess, NotUnderWay, TooManyUnderWay, MessageNumbersUsed, IntervalsUsed, NoFirstByte, LeftOverBytes, MalformedRecord, BlockCountOutsideRange, BlocksUsed, TooManyRecords, UnfitNamedList, NotKept, CausallyOrdered, BufferTooShort, TrialOutsideRange, HalvesMismatch, NeitherReady, Denied}
use Rattle.model.specs.{Refusals.number, Numbers.NumbersAreRight, laws.Refusals.number_range}

-- Place k has the refusal with the number k. No refusal has 0 or 6, nor any number past the end: the first stands there.
abbrev by_number : List Refusal
by_number =
    CountOutsideRange ∷ CountOutsideRange ∷ UnsoundState ∷ ListTooShort ∷ NoSuchProcess ∷ SenderIsReceiver ∷ CountOutsideRange ∷ NoSuchFailedProcess ∷ NotUnderWay ∷ TooManyUnderWay ∷ MessageNumbersUsed ∷ IntervalsUsed ∷ NoFirstByte ∷ LeftOverBytes ∷ MalformedRecord ∷ BlockCountOutsideRange ∷ BlocksUsed ∷ TooManyRecords ∷ UnfitNamedList ∷ NotKept ∷ CausallyOrdered ∷ BufferTooShort ∷ TrialOutsideRange ∷ HalvesMismatch ∷ NeitherReady ∷ Denied ∷ []

abbrev refusal_of : ℕ → Refusal
refusal_of k = get_or by_number k CountOutsideRange

back : (x : Refusal) → refusal_of (number x) ≡ x
unfolding number
back CountOutsideRange = refl
back UnsoundState = refl
back ListTooShort = refl
back NoSuchProcess = refl
back SenderIsReceiver = refl
back NoSuchFailedProcess = refl
back NotUnderWay = refl
back TooManyUnderWay = refl
back MessageNumbersUsed = refl
back IntervalsUsed = refl
back NoFirstByte = refl
back LeftOverBytes = refl
back MalformedRecord = refl
back BlockCountOutsideRange = refl
back BlocksUsed = refl
back TooManyRecords = refl
back UnfitNamedList = refl
back NotKept = refl
back CausallyOrdered = refl
back BufferTooShort = refl
back TrialOutsideRange = refl
back HalvesMismatch = refl
back NeitherReady = refl
back Denied = refl

-- Where no refusal stands, a number would be that of the first.
not_first : (x : Refusal) → refusal_of (number x) ≡ CountOutsideRange → number x ≡ 1
unfolding number
not_first x e = ap number (sym (back x) ∙ e)

no_six : (x : Refusal) → number x ≡ 6 → ⊥
no_six x six = let one = not_first x (ap refusal_of six) in omega arith

past_the_end : (k : ℕ) → 26 ≤ k → refusal_of k ≡ CountOutsideRange
past_the_end k h = get_or-eq_default by_number CountOutsideRange h

at_most_lem : (x : Refusal) → number x ≤ 25
at_most_lem x = by_bool (leb (number x) 25)
    (λ e. leb-true (number x) 25 e)
    (λ e. let past : 26 ≤ number x = leb-false (number x) 25 e in
    let one : number x ≡ 1 = not_first x (past_the_end (number x) past) in omega arith)

-- Each number of the table is the one of its refusal.
all_given : all_below 26 (λ k. eqb k 0 || (eqb k 6 || eqb (number (refusal_of k)) k)) ≡ true
unfolding all_below number
all_given = refl

is_given : (k : ℕ) → 1 ≤ k → k ≤ 25 → (k ≡ 6 → ⊥) → number (refusal_of k) ≡ k
is_given k some most other =
    eqb-true (number (refusal_of k)) k (rw (ne_eqb k 0 (omega arith), ne_eqb k 6 other) at (all_out 26 (λ k. eqb k 0 || (eqb k 6 || eqb (number (refusal_of k)) k)) all_given k (omega arith)))

pub numbers_are_right : NumbersAreRight
numbers_are_right = record {
  never_six = no_six;
  in_table = λ x. ((number_range x).0, at_most_lem x);
  given = λ k some most other. (refusal_of k, is_given k some most other);
  apart = λ x y e. sym (back x) ∙ ap refusal_of e ∙ back y;
}
