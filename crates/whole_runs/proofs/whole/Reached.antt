-- A state and a surviving history that a list of calls from a start reaches: there is a run as functions for which the state stands and with which
-- the history agrees. Here: the start, and that a refused call changes nothing.
-- Assumes nothing.
use Rattle.std.specs.Prelude.{◌≡◌}
use Rattle.laws.specs.Basics.{false, Option, Some, ℕ, arith, eqb, ne_eqb}
use Rattle.model.specs.{declared.Run.Run, declared.Refusal.Refusal, laws.Refusals.number_range}
use Rattle.model.specs.Refusals.{number, checkpoint_refusal, send_refusal, deliver_refusal, lose_refusal, line_refusal, recover_refusal}
use Rattle.whole_runs.specs.Outcomes.{checkpoint_outcome, send_outcome, deliver_outcome, lose_outcome, line_outcome, recover_outcome, checkpoint_report, send_report, deliver_report, lose_report, line_report, recover_report}
use Rattle.whole_runs.specs.{Earliest.earliest_refusal, Earliest.earliest_outcome, Survival.Surviving, Survival.after}
use Rattle.whole_runs.specs.Calls.{Call, checkpoint, send, deliver, lose, recover, line, earliest, Exchange, answered, call}
use Rattle.histories.proofs.{Run.Ideal, Invariant.Inv, Memory.Memory}
use Rattle.model.proofs.simulation.View.{state_of, Limits}
use Rattle.whole_runs.proofs.whole.Agreement.{Agrees, Restarted}

pub record Reached (n : ℕ) (s : Run) (h : Surviving) (r : Ideal) : Type 0 where
  -- the run as functions has all that the invariant says
  pub inv : Inv r
  pub limits : Limits r
  pub memory : Memory r
  pub size : r.n ≡ n
  -- the state stands for it to the last unused place; the history agrees with it, and remembers its last start or recovery
  pub state : s ≡ state_of r
  pub agrees : Agrees h r
  pub restarted : Restarted h r

-- A call with its answer, and the history after it.
abbrev pub exchange : Run → Call → Exchange
exchange s c = record { made = c; reply = (call s c).reply }

-- The refusal of a call, if any.
unfoldable pub refusal : Run → Call → Option Refusal
refusal s (checkpoint i deleted) = checkpoint_refusal s i deleted
refusal s (send i j) = send_refusal s i j
refusal s (deliver m deleted) = deliver_refusal s m deleted
refusal s (lose m) = lose_refusal s m
refusal s (recover F deleted lent) = recover_refusal s F deleted lent
refusal s (line F lent) = line_refusal s F lent
refusal s (earliest l lent) = earliest_refusal s l lent

-- No refusal has the number 0.
pub refused_number : (x : Refusal) → eqb (number x) 0 ≡ false
refused_number x = ne_eqb (number x) 0 (omega (arith, (number_range x).0))

-- A refused call returns the state as it came.
pub refused_state : (s : Run) (c : Call) (x : Refusal) → refusal s c ≡ Some x → (call s c).run ≡ s
unfolding refusal call answered checkpoint_outcome send_outcome deliver_outcome lose_outcome line_outcome recover_outcome earliest_outcome
refused_state s (checkpoint i deleted) x e = rw e
refused_state s (send i j) x e = rw e
refused_state s (deliver m deleted) x e = rw e
refused_state s (lose m) x e = rw e
refused_state s (recover F deleted lent) x e = rw e
refused_state s (line F lent) x e = rw e
refused_state s (earliest l lent) x e = rw e

-- Its report gives the refusal's number.
pub refused_report : (s : Run) (c : Call) (x : Refusal) → refusal s c ≡ Some x → (call s c).reply.report.refused ≡ number x
unfolding refusal call answered checkpoint_outcome send_outcome deliver_outcome lose_outcome line_outcome recover_outcome earliest_outcome checkpoint_report send_report deliver_report lose_report line_report recover_report
refused_report s (checkpoint i deleted) x e = rw e
refused_report s (send i j) x e = rw e
refused_report s (deliver m deleted) x e = rw e
refused_report s (lose m) x e = rw e
refused_report s (recover F deleted lent) x e = rw e
refused_report s (line F lent) x e = rw e
refused_report s (earliest l lent) x e = rw e

-- The surviving history stays as it was.
pub refused_history : (n : ℕ) (s : Run) (h : Surviving) (c : Call) (x : Refusal) → refusal s c ≡ Some x → after n h (exchange s c) ≡ h
unfolding after
refused_history n s h c x e = rw (refused_report s c x e) (rw (refused_number x))

pub refused_reached : (n : ℕ) (s : Run) (h : Surviving) (r : Ideal) (c : Call) (x : Refusal) → refusal s c ≡ Some x → Reached n s h r → Reached n (call s c).run (after n h (exchange s c)) r
refused_reached n s h r c x e v = rw (refused_state s c x e) (rw (refused_history n s h c x e) v)
