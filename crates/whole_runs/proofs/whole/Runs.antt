-- The run as functions after a list of calls: an accepted call is its step, a refused one changes nothing.
-- Assumes nothing.
use Rattle.std.specs.Prelude.{◌≡◌, ◌∷◌}
use Rattle.laws.specs.Basics.{refl, ◌∙◌, ap, List, [], Option, None, Some}
use Rattle.model.specs.declared.Refusal.{Refusal}
use Rattle.model.specs.Words.{basic, forced, failed}
use Rattle.whole_runs.specs.Calls.{Call, checkpoint, send, deliver, lose, recover, line, earliest}
use Rattle.histories.proofs.Run.{Ideal, because, stores, checkpointed, sending, delivered, lost, recovered}
use Rattle.histories.proofs.Counted.{counts_delivered}
use Rattle.model.proofs.simulation.View.{state_of}
use Rattle.whole_runs.proofs.whole.Reached.{refusal}

-- The step of an accepted call: a checkpoint that is asked for is basic, one that a delivery stores is forced.
unfoldable pub stepped : Ideal → Call → Ideal
stepped r (checkpoint i deleted) = checkpointed (because basic r) i
stepped r (send i j) = sending r i j
stepped r (deliver m deleted) = delivered (because forced r) m
stepped r (lose m) = lost r m
stepped r (recover F deleted lent) = recovered r (failed F)
stepped r (line F lent) = r
stepped r (earliest l lent) = r

-- One of two runs, by whether there is a refusal.
unfoldable pub unless_refused : Option Refusal → Ideal → Ideal → Ideal
unless_refused None r r' = r'
unless_refused (Some x) r r' = r

unfoldable pub run_after : Ideal → List Call → Ideal
run_after r [] = r
run_after r (c ∷ l) = run_after (unless_refused (refusal (state_of r) c) r (stepped r c)) l

-- An accepted first call is its step, a refused one leaves the run.
pub run_accepted : (r : Ideal) (c : Call) (l : List Call) → refusal (state_of r) c ≡ None → run_after r (c ∷ l) ≡ run_after (stepped r c) l
unfolding run_after unless_refused
run_accepted r c l e = ap (λ (o : Option Refusal). run_after (unless_refused o r (stepped r c)) l) e

-- The block counts are those of the start.
counts_step : (r : Ideal) (c : Call) → (stepped r c).ledger.block_counts ≡ r.ledger.block_counts
unfolding stepped checkpointed stores sending lost recovered
counts_step r (checkpoint i deleted) = refl
counts_step r (send i j) = refl
counts_step r (deliver m deleted) = counts_delivered (because forced r) m
counts_step r (lose m) = refl
counts_step r (recover F deleted lent) = refl
counts_step r (line F lent) = refl
counts_step r (earliest l lent) = refl

counts_unless : (o : Option Refusal) (r r' : Ideal) → r'.ledger.block_counts ≡ r.ledger.block_counts → (unless_refused o r r').ledger.block_counts ≡ r.ledger.block_counts
unfolding unless_refused
counts_unless None r r' e = e
counts_unless (Some x) r r' e = refl

pub counts_after : (r : Ideal) (calls : List Call) → (run_after r calls).ledger.block_counts ≡ r.ledger.block_counts
unfolding run_after
counts_after r [] = refl
counts_after r (c ∷ l) = counts_after (unless_refused (refusal (state_of r) c) r (stepped r c)) l ∙ counts_unless (refusal (state_of r) c) r (stepped r c) (counts_step r c)
