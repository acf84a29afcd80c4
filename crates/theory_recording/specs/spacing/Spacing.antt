-- Document 02, Note 10: "Trying a checkpoint spacing." Each definition stands under the sentence that it says. A trial is one simulation; k is its spacing.
-- Assumes nothing.
use Prim.{Unit, tt}
use Rattle.std.specs.Prelude.{◌≢◌, ◌≡◌, ◌&&◌, ◌∷◌, ◌+◌, ◌-◌, ◌*◌, ◌/◌, ◌%◌, ◌≤◌, ◌<◌, Result, Ok, Err}
use Rattle.laws.specs.Basics.{Bool, true, false, not, List, [], Option, None, Some, ℕ, zero, suc, max, eqb, ltb, leb, length, get_or, set, replicate, pick}
use mathlib.Core.List.{Memᴰ}
use Rattle.laws.specs.{Lists.select, Lists.gather, Tests.every}
use Rattle.model.specs.declared.{Message.Message, Run.Run, Event.Event, Refusal.Refusal, Refusal.TheVariants.TrialOutsideRange}
use Rattle.model.specs.declared.Event.TheVariants.{Checkpoint, Send, Deliver, Lose, Recover}
use Rattle.model.specs.{Words.most_processes, Words.most_under_way, Words.ones, Words.process, Words.under_way, Steps.start_state, Refusals.first_of, Trace.fits}
use Rattle.whole_runs.specs.{Outcomes.judged, Outcomes.Report, Outcomes.refusing, Outcomes.accepting, Calls.Reply, Listing.state_after_records, Listing.listing}
use Rattle.whole_runs.specs.WholeRuns.{Reachable}
use Rattle.theory_recording.specs.Replay.{records_of, state_after_events, EventReply, performed, replies_of, none_refused, paired, lines_of}
use Rattle.theory_recording.specs.{spacing.Trial.Trial, declared.spacing.TrialFigures.TrialFigures, declared.spacing.TrialResult.TrialResult}

-- "The generator takes the last value, multiplies by 1,664,525, adds 1,013,904,223 and keeps the low 32 bits": 4,294,967,296 is 2 to the power 32.
unfoldable pub generated : ℕ → ℕ
generated x = (x * 1664525 + 1013904223) % 4294967296

-- "a draw is the new value divided by 65,536, remainder dropped."
unfoldable pub draw : ℕ → ℕ
draw x = x / 65536

-- "A step draws a process p as draw modulo n, then draws d." Both are drawn in every step, whatever it then does. `value` is the generator's last value.
unfoldable pub drawn_process : ℕ → ℕ → ℕ
drawn_process n value = draw (generated value) % n

unfoldable pub drawn_number : ℕ → ℕ
drawn_number value = draw (generated (generated value))

-- "If a message to p is under way .., the oldest": messages ascend by number, so it is the first of those to p. `OldestIsRight` says that it is.
unfoldable pub head_of : {A : Type 0} → List A → Option A
head_of [] = None
head_of (x ∷ l) = Some x

unfoldable pub oldest_to : Run → ℕ → Option Message
oldest_to s p = head_of (select (λ x. eqb x.receiver p) (under_way s))

-- "Otherwise, if n is at least 2 and fewer than 64 are under way, p sends to p + 1 + ((d div 2) mod (n − 1)), the sum taken modulo n."
unfoldable pub chosen_receiver_of : ℕ → ℕ → ℕ → ℕ
chosen_receiver_of n p d = (p + 1 + d / 2 % (n - 1)) % n

unfoldable pub sends : ℕ → Run → ℕ → ℕ → Option Event
sends n s p d = pick (leb 2 n && ltb s.underway most_under_way) (Some (Send p (chosen_receiver_of n p d))) None

-- "If a message to p is under way and d is even, the oldest is delivered." Otherwise p sends, if it may.
unfoldable pub delivers : Option Message → ℕ → Option Event → Option Event
delivers None d otherwise = otherwise
delivers (Some x) d otherwise = pick (eqb (d % 2) 0) (Some (Deliver x.number)) otherwise

unfoldable pub action : ℕ → Run → ℕ → ℕ → Option Event
action n s p d = delivers (oldest_to s p) d (sends n s p d)

-- "After each k of its own sends and deliveries p takes a checkpoint": `acted` counts those before this step. A step in which p does neither takes none.
unfoldable pub is_due_of : ℕ → ℕ → Bool
is_due_of k acted = eqb ((acted + 1) % k) 0

unfoldable pub with_checkpoint : ℕ → ℕ → ℕ → Option Event → List Event
with_checkpoint k acted p None = []
with_checkpoint k acted p (Some e) = e ∷ pick (is_due_of k acted) (Checkpoint p ∷ []) []

-- The events of a step.
unfoldable pub step_events : ℕ → ℕ → Trial → List Event
step_events n k z =
    let p = drawn_process n z.value in
    with_checkpoint k (get_or z.acted p 0) p (action n z.run p (drawn_number z.value))

-- "The result gives deliveries, forced checkpoints": of events with their replies, how many are deliveries, and how many of these report a forced checkpoint.
unfoldable pub is_delivery : Event → Bool
is_delivery (Checkpoint i) = false
is_delivery (Send i j) = false
is_delivery (Deliver m) = true
is_delivery (Lose m) = false
is_delivery (Recover F) = false

unfoldable pub has_value : Option ℕ → Bool
has_value None = false
has_value (Some v) = true

unfoldable pub deliveries_in : List EventReply → ℕ
deliveries_in l = length (select (λ x. is_delivery x.event) l)

unfoldable pub forced_in : List EventReply → ℕ
forced_in l = length (select (λ x. is_delivery x.event && has_value x.reply.report.value) l)

-- "the most kept at any process": the greatest of f 0 up to f (n - 1).
unfoldable pub greatest_below : ℕ → (ℕ → ℕ) → ℕ
greatest_below zero f = 0
greatest_below (suc n) f = max (greatest_below n f) (f n)

unfoldable pub most_kept_of : ℕ → Run → ℕ
most_kept_of n s = greatest_below n (λ p. length (process s p).kept)

-- A process that sends or is delivered to has done one more.
unfoldable pub counted : List ℕ → ℕ → Option Event → List ℕ
counted acted p None = acted
counted acted p (Some e) = set acted p (get_or acted p 0 + 1)

-- A step: its events are calls on the state, the figures are counted from their replies, and "the most kept .. after any step" is taken after the last of them.
unfoldable pub stepped : ℕ → ℕ → Trial → Trial
stepped n k z =
    let p = drawn_process n z.value in
    let s = state_after_events z.run (step_events n k z) in
    let l = performed z.run (step_events n k z) in
    record {
      run = s;
      value = generated (generated z.value);
      acted = counted z.acted p (action n z.run p (drawn_number z.value));
      deliveries = z.deliveries + deliveries_in l;
      forced = z.forced + forced_in l;
      most = max z.most (most_kept_of n s);
    }

-- "A simulation has n, a spacing k .., .. steps and a 32-bit starting value": the trial before its first step, and after i of them. Block counts are 1, as in a trace run.
unfoldable pub trial_start : ℕ → ℕ → Trial
trial_start n seed = record { run = start_state n ones; value = seed; acted = replicate most_processes 0; deliveries = 0; forced = 0; most = 0 }

unfoldable pub trial_after : ℕ → ℕ → ℕ → ℕ → Trial
trial_after n k zero seed = trial_start n seed
trial_after n k (suc i) seed = stepped n k (trial_after n k i seed)

-- "a spacing k of 1 to 1,000, 1 to 30,000 steps"
abbrev pub most_spacing : ℕ
most_spacing = 1000

abbrev pub most_steps : ℕ
most_steps = 30_000

-- "22 for a count, spacing or step number out of range".
unfoldable pub out_of_range : ℕ → ℕ → ℕ → Bool
out_of_range low high x = not (leb low x && leb x high)

unfoldable pub trial_refusal : ℕ → ℕ → ℕ → Option Refusal
trial_refusal n k steps = first_of (
    record { holds = out_of_range 1 most_processes n; gives = TrialOutsideRange }
    ∷ record { holds = out_of_range 1 most_spacing k; gives = TrialOutsideRange }
    ∷ record { holds = out_of_range 1 most_steps steps; gives = TrialOutsideRange }
    ∷ [])

-- Whether a simulation is tried, or why it is refused.
abbrev pub TrialAnswer : Type 0
TrialAnswer = Result (Unit {0}) Refusal

unfoldable pub trial_report : TrialAnswer → Report
trial_report (Err r) = refusing r
trial_report (Ok tt) = accepting None 0

-- "1,000 × forced divided by deliveries as quotient and remainder, both 0 without deliveries."
unfoldable pub quotient_of : ℕ → ℕ → ℕ
quotient_of forced deliveries = pick (eqb deliveries 0) 0 (1000 * forced / deliveries)

unfoldable pub remainder_of_def : ℕ → ℕ → ℕ
remainder_of_def forced deliveries = pick (eqb deliveries 0) 0 (1000 * forced % deliveries)

unfoldable pub figures : Trial → TrialFigures
figures z = record {
  deliveries = z.deliveries;
  forced = z.forced;
  most = z.most;
  quotient = quotient_of z.forced z.deliveries;
  remainder = remainder_of_def z.forced z.deliveries;
}

-- The result of a simulation. "all figures are then 0."
unfoldable pub no_figures : TrialFigures
no_figures = record { deliveries = 0; forced = 0; most = 0; quotient = 0; remainder = 0 }

unfoldable pub simulated : ℕ → ℕ → ℕ → ℕ → TrialResult
simulated n k steps seed = judged (trial_refusal n k steps)
    (λ why. record { answer = Err why; figures = no_figures })
    (record { answer = Ok tt; figures = figures (trial_after n k steps seed) })

-- "It agrees with replaying the same events": the events of all steps in their order; their records; the replies of a replay of these.
unfoldable pub events_of : ℕ → ℕ → ℕ → ℕ → List Event
events_of n k steps seed = gather steps (λ i. step_events n k (trial_after n k i seed))

unfoldable pub trace_of : ℕ → ℕ → ℕ → ℕ → List ℕ
trace_of n k steps seed = records_of (events_of n k steps seed)

unfoldable pub replayed : ℕ → ℕ → ℕ → ℕ → List Reply
replayed n k steps seed = replies_of (start_state n ones) (trace_of n k steps seed)

-- The quotient and the remainder are those of a division.
pub record Divides (x y quotient remainder : ℕ) : Type 0 where
  pub none_without : y ≡ 0 → (quotient ≡ 0) × (remainder ≡ 0)
  pub divided : 0 < y → (x ≡ quotient * y + remainder) × (remainder < y)

pub record AgreesWithReplay (n k steps seed : ℕ) : Type 0 where
  -- every event has a record, and "no step meets a refusal": the replay accepts every record
  pub fitting : every fits (events_of n k steps seed) ≡ true
  pub one_each : length (replayed n k steps seed) ≡ length (events_of n k steps seed)
  pub accepted : none_refused (replayed n k steps seed) ≡ true
  -- the replay ends in the state of the simulation
  pub state : state_after_records (start_state n ones) (trace_of n k steps seed) ≡ (trial_after n k steps seed).run
  -- the figures are counted from the events and the replies of the replay
  pub deliveries : (simulated n k steps seed).figures.deliveries ≡ deliveries_in (paired (events_of n k steps seed) (replayed n k steps seed))
  pub forced : (simulated n k steps seed).figures.forced ≡ forced_in (paired (events_of n k steps seed) (replayed n k steps seed))
  -- the most kept, from the states of the replay after each step
  pub most : (simulated n k steps seed).figures.most ≡ greatest_below steps (λ i. most_kept_of n (state_after_records (start_state n ones) (trace_of n k (suc i) seed)))
  pub share : let f = (simulated n k steps seed).figures in Divides (1000 * f.forced) f.deliveries f.quotient f.remainder
  -- the replay program, with and without `all`, prints the lines of these replies
  pub printed : (all : Bool) → listing all (n ∷ trace_of n k steps seed) ≡ lines_of 0 (replayed n k steps seed)

-- Note 10, for all parameters in range and every starting value.
unfoldable pub TrialsAgree : Type 0
TrialsAgree = (n k steps seed : ℕ) → trial_refusal n k steps ≡ None → AgreesWithReplay n k steps seed

-- "If a message to p is under way .., the oldest": what the first of those to p is, on every state that calls from a start reach. It is under way to p, and no
-- message under way to p has a lower number; where there is none, none is under way to p.
pub record OldestIsRight (s : Run) (p : ℕ) : Type 0 where
  pub one : (x : Message) → oldest_to s p ≡ Some x → Memᴰ x (under_way s) × (x.receiver ≡ p) × ((y : Message) → Memᴰ y (under_way s) → y.receiver ≡ p → x.number ≤ y.number)
  pub none_to : oldest_to s p ≡ None → (y : Message) → Memᴰ y (under_way s) → y.receiver ≢ p

unfoldable pub OldestDelivered : Type 0
OldestDelivered = (s : Run) → Reachable s → (p : ℕ) → OldestIsRight s p
