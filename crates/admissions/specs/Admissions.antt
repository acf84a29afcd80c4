-- Whether a call is refused, and why, as the functions of this crate decide it. Each follows the tests of specs/Refusals of the model in their order, but for a state
-- that is not sound and for lent lists that are too short.
-- Assumes nothing.
use Prim.{tt}
use Rattle.std.specs.Prelude.{◌+◌, ◌^◌, Result, Ok, Err}
use Rattle.laws.specs.Basics.{Bool, Option, None, Some, ℕ, eqb, ltb, leb, pick}
use Rattle.model.specs.declared.Refusal.{Refusal}
use Rattle.model.specs.declared.Refusal.TheVariants.{NoSuchProcess, SenderIsReceiver, NoSuchFailedProcess, TooManyUnderWay, MessageNumbersUsed}
use Rattle.model.specs.Words.{most_blocks, most_under_way, most_messages}

-- A verdict: nothing, or why a call is refused.
abbrev pub Admission : Type 0
Admission = Result (Unit {0}) Refusal

-- A verdict is a refusal or none.
unfoldable pub refusal_of : Admission → Option Refusal
refusal_of (Ok tt) = None
refusal_of (Err why) = Some why

-- One more checkpoint of that many blocks would take the blocks written past the bound.
unfoldable pub past_most : ℕ → ℕ → Bool
past_most written blocks = ltb most_blocks (written + blocks)

-- Whether a send is refused, and why.
unfoldable pub send_admission_of : ℕ → ℕ → ℕ → ℕ → ℕ → Admission
send_admission_of i j n underway last =
    pick (leb n i) (Err NoSuchProcess)
    (pick (leb n j) (Err NoSuchProcess)
    (pick (eqb i j) (Err SenderIsReceiver)
    (pick (leb most_under_way underway) (Err TooManyUnderWay)
    (pick (leb most_messages last) (Err MessageNumbersUsed)
    (Ok tt)))))

-- A line or a recovery for failed set F in a run of n processes, whether somebody failed or nobody.
unfoldable pub recovery_admission_of : ℕ → ℕ → Admission
recovery_admission_of n F = pick (leb (2 ^ n) F) (Err NoSuchFailedProcess) (Ok tt)
