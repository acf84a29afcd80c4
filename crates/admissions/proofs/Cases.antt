-- The verdict on a send: what an accepted one has, and that it is the first of the rules that holds.
-- Assumes nothing.
use Prim.{tt}
use Rattle.std.specs.Prelude.{◌≡◌, ◌||◌, ◌∷◌, ◌<◌, Ok, Err}
use Rattle.laws.specs.Basics.{refl, Bool, true, false, [], ℕ, arith, eqb, leb, leb-false, pick, by_bool}
use Rattle.model.specs.declared.Refusal.{Refusal}
use Rattle.model.specs.declared.Refusal.TheVariants.{NoSuchProcess, SenderIsReceiver, TooManyUnderWay, MessageNumbersUsed}
use Rattle.model.specs.{Words.most_under_way, Words.most_messages, Refusals.first_of}
use Rattle.admissions.specs.Admissions.{Admission, refusal_of, send_admission_of}

-- An accepted send is from one process of the run to another; it has room in the table, and a number is left.
pub accepted_send : (i j n underway last : ℕ) → send_admission_of i j n underway last ≡ Ok tt → (i < n) × (j < n) × (underway < 64) × (last < 1000000)
unfolding send_admission_of
accepted_send i j n underway last =
    unless (leb n i) NoSuchProcess _ (λ from. unless (leb n j) NoSuchProcess _ (λ to. unless (eqb i j) SenderIsReceiver _
    (λ apart. unless (leb 64 underway) TooManyUnderWay _ (λ few. unless (leb 1000000 last) MessageNumbersUsed _
    (λ left e. (leb-false n i from, leb-false n j to, leb-false 64 underway few, leb-false 1000000 last left))))))
  where
    unless : {P : Type 0} (b : Bool) (why : Refusal) (v : Admission) → (b ≡ false → v ≡ Ok tt → P) → pick b (Err why) v ≡ Ok tt → P
    unless true why v f e = absurd (let z : ◌≡◌ {A = ℕ} 0 1 = cc in omega arith)
    unless false why v f e = f refl e

-- The verdict is the first of the rules that holds.
pub admission_rules : (i j n underway last : ℕ) → refusal_of (send_admission_of i j n underway last) ≡ first_of (
    record { holds = leb n i || leb n j; gives = NoSuchProcess }
    ∷ record { holds = eqb i j; gives = SenderIsReceiver }
    ∷ record { holds = leb most_under_way underway; gives = TooManyUnderWay }
    ∷ record { holds = leb most_messages last; gives = MessageNumbersUsed }
    ∷ [])
unfolding refusal_of send_admission_of first_of
admission_rules i j n underway last = by_bool (leb n i) (λ a. rw a)
    (λ a. by_bool (leb n j) (λ b. rw (a, b))
    (λ b. by_bool (eqb i j) (λ d. rw (a, b, d))
    (λ d. by_bool (leb 64 underway) (λ e. rw (a, b, d, e))
    (λ e. by_bool (leb 1000000 last) (λ f. rw (a, b, d, e, f)) (λ f. rw (a, b, d, e, f))))))
