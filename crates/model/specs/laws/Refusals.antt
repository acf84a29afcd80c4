-- The law of refusals: a list of rules gives no refusal exactly if no rule of it holds, and else what the first that holds gives. The refusal of every
-- call is opened by it. And the range of the table's numbers.
-- Assumes nothing.
use Rattle.std.specs.Prelude.{◌≡◌, ◌∷◌, ◌≤◌}
use Rattle.laws.specs.Basics.{refl, true, false, List, [], Option, None, Some, ℕ, zero, suc, arith, get_or, take, by_bool}
use Rattle.laws.specs.Truth.{never_both}
use Rattle.model.specs.declared.Refusal.{Refusal}
use Rattle.model.specs.declared.Refusal.TheVariants.{CountOutsideRange, UnsoundState, ListTooShort, NoSuchProcess, SenderIsReceiver, NoSuchFailedProcess, NotUnderWay, TooManyUnderWay, MessageNumbersUsed, IntervalsUsed, NoFirstByte, LeftOverBytes, MalformedRecord, BlockCountOutsideRange, BlocksUsed, TooManyRecords, UnfitNamedList, NotKept, CausallyOrdered, BufferTooShort, TrialOutsideRange, HalvesMismatch, NeitherReady, Denied}
use Rattle.model.specs.Refusals.{number, Rule, first_of}

-- No rule of a list holds.
abbrev pub NoneHolds : List Rule → Type 0
NoneHolds [] = Unit {0}
NoneHolds (t ∷ l) = (t.holds ≡ false) × NoneHolds l

-- The rule at a place of a list; past its end one that does not hold.
abbrev pub rule_at : List Rule → ℕ → Rule
rule_at l k = get_or l k (record { holds = false; gives = CountOutsideRange })

-- What a list of rules gives: none if no rule holds; a refusal if the rule at some place holds and gives it, and none before that place holds.
abbrev pub Gives : List Rule → Option Refusal → Type 0
Gives l None = NoneHolds l
Gives l (Some x) = (k : ℕ) × NoneHolds (take k l) × ((rule_at l k).holds ≡ true) × ((rule_at l k).gives ≡ x)

first_at : (l : List Rule) (k : ℕ) (x : Refusal) → NoneHolds (take k l) → (rule_at l k).holds ≡ true → (rule_at l k).gives ≡ x → first_of l ≡ Some x
unfolding first_of
first_at [] k x earlier holds gives = never_both false holds refl
first_at (t ∷ l) zero x earlier holds gives = rw (holds, gives)
first_at (t ∷ l) (suc k) x earlier holds gives = rw earlier.0 (first_at l k x earlier.1 holds gives)

-- The law, from the rules to the refusal,
pub refusal_in : (l : List Rule) (o : Option Refusal) → Gives l o → first_of l ≡ o
unfolding first_of
refusal_in [] None h = refl
refusal_in (t ∷ l) None h = rw h.0 (refusal_in l None h.1)
refusal_in l (Some x) h = first_at l h.0 x h.1 h.2 h.3

-- and from the refusal to the rules.
one_more : (t : Rule) (l : List Rule) (o : Option Refusal) → t.holds ≡ false → Gives l o → Gives (t ∷ l) o
one_more t l None e h = (e, h)
one_more t l (Some x) e h = (suc h.0, (e, h.1), h.2, h.3)

gives_first : (l : List Rule) → Gives l (first_of l)
unfolding first_of
gives_first [] = tt
gives_first (t ∷ l) = by_bool t.holds (λ e. rw e (0, tt, refl, refl)) (λ e. rw e (one_more _ l (first_of l) refl (gives_first l)))

pub refusal_out : (l : List Rule) (o : Option Refusal) → first_of l ≡ o → Gives l o
refusal_out l o e = rw e at (gives_first l)

-- After a rule that does not hold the others decide.
pub skipped : (t : Rule) (l : List Rule) → t.holds ≡ false → first_of (t ∷ l) ≡ first_of l
skipped t l e = refusal_in (t ∷ l) (first_of l) (one_more t l (first_of l) e (gives_first l))

-- Where there is no refusal, the rule at no place holds.
fails : (l : List Rule) → NoneHolds l → (k : ℕ) → (rule_at l k).holds ≡ false
fails [] h k = refl
fails (t ∷ l) h zero = h.0
fails (t ∷ l) h (suc k) = fails l h.1 k

pub no_rule : (l : List Rule) → first_of l ≡ None → (k : ℕ) → (rule_at l k).holds ≡ false
no_rule l e = fails l (refusal_out l None e)

-- A fact by whether there is a refusal.
pub by_refusal : {P : Type 0} (o : Option Refusal) → (o ≡ None → P) → ((x : Refusal) → o ≡ Some x → P) → P
by_refusal None a b = a refl
by_refusal (Some x) a b = b x refl

-- The table's numbers have one or two digits, and none is 0.
pub number_range : (x : Refusal) → (1 ≤ number x) × (number x ≤ 99)
unfolding number
number_range CountOutsideRange = (omega arith, omega arith)
number_range UnsoundState = (omega arith, omega arith)
number_range ListTooShort = (omega arith, omega arith)
number_range NoSuchProcess = (omega arith, omega arith)
number_range SenderIsReceiver = (omega arith, omega arith)
number_range NoSuchFailedProcess = (omega arith, omega arith)
number_range NotUnderWay = (omega arith, omega arith)
number_range TooManyUnderWay = (omega arith, omega arith)
number_range MessageNumbersUsed = (omega arith, omega arith)
number_range IntervalsUsed = (omega arith, omega arith)
number_range NoFirstByte = (omega arith, omega arith)
number_range LeftOverBytes = (omega arith, omega arith)
number_range MalformedRecord = (omega arith, omega arith)
number_range BlockCountOutsideRange = (omega arith, omega arith)
number_range BlocksUsed = (omega arith, omega arith)
number_range TooManyRecords = (omega arith, omega arith)
number_range UnfitNamedList = (omega arith, omega arith)
number_range NotKept = (omega arith, omega arith)
number_range CausallyOrdered = (omega arith, omega arith)
number_range BufferTooShort = (omega arith, omega arith)
number_range TrialOutsideRange = (omega arith, omega arith)
number_range HalvesMismatch = (omega arith, omega arith)
number_range NeitherReady = (omega arith, omega arith)
number_range Denied = (omega arith, omega arith)
