-- Document 01, "Who can cause which refusal": the numbers, and for each call its tests in the table's order.
-- Assumes nothing.
use Rattle.std.specs.Prelude.{◌&&◌, ◌||◌, ◌∷◌, ◌+◌, ◌*◌, ◌^◌}
use Rattle.laws.specs.Basics.{Bool, true, false, not, List, [], Option, None, Some, ℕ, eqb, ltb, leb, length, get_or, pick}
use Rattle.laws.specs.Search.{any_below}
use Rattle.model.specs.declared.{Message.Message, Run.Run, Refusal.Refusal}
use Rattle.model.specs.declared.Refusal.TheVariants.{CountOutsideRange, UnsoundState, ListTooShort, NoSuchProcess, SenderIsReceiver, NoSuchFailedProcess, NotUnderWay, TooManyUnderWay, MessageNumbersUsed, IntervalsUsed, NoFirstByte, LeftOverBytes, MalformedRecord, BlockCountOutsideRange, BlocksUsed, TooManyRecords, UnfitNamedList, NotKept, CausallyOrdered, BufferTooShort, TrialOutsideRange, HalvesMismatch, NeitherReady, Denied}
use Rattle.model.specs.Words.{most_processes, most_under_way, most_messages, most_interval, most_blocks, block_count, process, own}
use Rattle.model.specs.{Steps.found, Steps.forces, Steps.latest_allowed, Sound.is_block_count_of, Sound.sound}

-- The number that document 01 gives each refusal, and document 02 those from 15 on. Note 4: "Refusal 6 never occurs any more." No refusal has it.
unfoldable pub number : Refusal → ℕ
number CountOutsideRange = 1
number UnsoundState = 2
number ListTooShort = 3
number NoSuchProcess = 4
number SenderIsReceiver = 5
number NoSuchFailedProcess = 7
number NotUnderWay = 8
number TooManyUnderWay = 9
number MessageNumbersUsed = 10
number IntervalsUsed = 11
number NoFirstByte = 12
number LeftOverBytes = 13
number MalformedRecord = 14
number BlockCountOutsideRange = 15
number BlocksUsed = 16
number TooManyRecords = 17
number UnfitNamedList = 18
number NotKept = 19
number CausallyOrdered = 20
number BufferTooShort = 21
number TrialOutsideRange = 22
number HalvesMismatch = 23
number NeitherReady = 24
number Denied = 25

-- A condition of the table with the refusal that it gives.
pub record Rule : Type 0 where
  pub holds : Bool
  pub gives : Refusal

-- "Where several hold, the lowest number is given": each list below ascends by number.
unfoldable pub first_of : List Rule → Option Refusal
first_of [] = None
first_of (r ∷ l) = pick r.holds (Some r.gives) (first_of l)

-- "1: start with a count outside 1 to 16."
-- Note 5: "15, at the start after 1, for a block count outside 1 to 65,535"; "those at n and above are neither judged nor stored".
unfoldable pub start_refusal : ℕ → List ℕ → Option Refusal
start_refusal n block_counts = first_of (
    record { holds = not (leb 1 n && leb n most_processes); gives = CountOutsideRange }
    ∷ record { holds = any_below n (λ p. not (is_block_count_of (get_or block_counts p 0))); gives = BlockCountOutsideRange }
    ∷ [])

-- "2: a state that is not sound"
abbrev pub unsound : Run → Rule
unsound s = record { holds = not (sound s); gives = UnsoundState }

-- "3: deletion list below 2 × n × n entries, or line list below n."
abbrev pub short_deletions : Run → List ℕ → Bool
short_deletions s deleted = ltb (length deleted) (2 * s.count * s.count)

abbrev pub short_line : Run → List ℕ → Bool
short_line s line = ltb (length line) s.count

-- "4: process not below n."
abbrev pub absent : Run → ℕ → Bool
absent s i = leb s.count i

-- "11: a checkpoint, or a delivery that forces one, where the own entry is 65,535."
abbrev pub at_last_interval : Run → ℕ → Bool
at_last_interval s i = leb most_interval (own s i).0

-- Note 5: "16, after 11, for a stored checkpoint that would take written past 1,000,000,000,000,000."
abbrev pub past_blocks : Run → ℕ → Bool
past_blocks s i = ltb most_blocks (s.disk.written + block_count (process s i))

unfoldable pub checkpoint_refusal : Run → ℕ → List ℕ → Option Refusal
checkpoint_refusal s i deleted = first_of (
    unsound s
    ∷ record { holds = short_deletions s deleted; gives = ListTooShort }
    ∷ record { holds = absent s i; gives = NoSuchProcess }
    ∷ record { holds = at_last_interval s i; gives = IntervalsUsed }
    ∷ record { holds = past_blocks s i; gives = BlocksUsed }
    ∷ [])

-- "5: sender is receiver." "9: send with 64 under way. 10: send with number 1,000,000 used."
unfoldable pub send_refusal : Run → ℕ → ℕ → Option Refusal
send_refusal s i j = first_of (
    unsound s
    ∷ record { holds = absent s i || absent s j; gives = NoSuchProcess }
    ∷ record { holds = eqb i j; gives = SenderIsReceiver }
    ∷ record { holds = leb most_under_way s.underway; gives = TooManyUnderWay }
    ∷ record { holds = leb most_messages s.last; gives = MessageNumbersUsed }
    ∷ [])

-- "8: message not under way."
abbrev pub missing : {A : Type 0} → Option A → Bool
missing None = true
missing (Some x) = false

unfoldable pub forces_past : Run → Option Message → Bool
forces_past s None = false
forces_past s (Some x) = forces (process s x.receiver) x.vector && at_last_interval s x.receiver

unfoldable pub forces_over : Run → Option Message → Bool
forces_over s None = false
forces_over s (Some x) = forces (process s x.receiver) x.vector && past_blocks s x.receiver

unfoldable pub deliver_refusal : Run → ℕ → List ℕ → Option Refusal
deliver_refusal s m deleted = first_of (
    unsound s
    ∷ record { holds = short_deletions s deleted; gives = ListTooShort }
    ∷ record { holds = missing (found s m); gives = NotUnderWay }
    ∷ record { holds = forces_past s (found s m); gives = IntervalsUsed }
    ∷ record { holds = forces_over s (found s m); gives = BlocksUsed }
    ∷ [])

unfoldable pub lose_refusal : Run → ℕ → Option Refusal
lose_refusal s m = first_of (unsound s ∷ record { holds = missing (found s m); gives = NotUnderWay } ∷ [])

-- "2: .. or a line or recover call where some process has no state the line rule accepts (only a forged state; judged after all other numbers)."
unfoldable pub no_member_of : Run → ℕ → Bool
no_member_of s F = any_below s.count (λ p. missing (latest_allowed s F p))

-- "7: failed set has a bit at n or above." Note 4: "An empty failed set now means a sweep"; it has no bit.
abbrev pub outside : Run → ℕ → Bool
outside s F = leb (2 ^ s.count) F

unfoldable pub line_refusal : Run → ℕ → List ℕ → Option Refusal
line_refusal s F line = first_of (
    unsound s
    ∷ record { holds = short_line s line; gives = ListTooShort }
    ∷ record { holds = outside s F; gives = NoSuchFailedProcess }
    ∷ record { holds = no_member_of s F; gives = UnsoundState }
    ∷ [])

unfoldable pub recover_refusal : Run → ℕ → List ℕ → List ℕ → Option Refusal
recover_refusal s F deleted line = first_of (
    unsound s
    ∷ record { holds = short_deletions s deleted || short_line s line; gives = ListTooShort }
    ∷ record { holds = outside s F; gives = NoSuchFailedProcess }
    ∷ record { holds = no_member_of s F; gives = UnsoundState }
    ∷ [])
