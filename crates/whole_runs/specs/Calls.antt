-- Lists of calls and their answers: document 01, "Demand 3 is one claim about the whole list of calls".
-- "an answer is all that a call returns beside the state, and its lent lists as they then stand."
-- Assumes nothing.
use Rattle.std.specs.Prelude.{◌∷◌}
use Rattle.laws.specs.Basics.{List, [], ℕ}
use Rattle.model.specs.declared.{Named.Named, Run.Run}
use Rattle.whole_runs.specs.Outcomes.{Outcome, Report, checkpoint_outcome, checkpoint_report, send_outcome, send_report, deliver_outcome, deliver_report, lose_outcome, lose_report, line_outcome, line_report, recover_outcome, recover_report}
use Rattle.whole_runs.specs.Earliest.{earliest_outcome}

-- "holds checkpoint, send, deliver, lose, recover and line calls, with any arguments and lent lists". A lent list is given as it stood before the call.
pub data Call : Type 0 where
  -- the process; the deletion list
  checkpoint : ℕ → List ℕ → Call
  -- sender and receiver
  send : ℕ → ℕ → Call
  -- the message number; the deletion list
  deliver : ℕ → List ℕ → Call
  lose : ℕ → Call
  -- the failed set; the deletion list; the line list
  recover : ℕ → List ℕ → List ℕ → Call
  -- the failed set; the line list
  line : ℕ → List ℕ → Call
  -- Note 8: the named checkpoints; the line list
  earliest : List Named → List ℕ → Call

-- All that a call returns besides the state: its report, the set of entries that rose, and its lent lists as they then stand.
pub record Reply : Type 0 where
  pub report : Report
  pub rose : ℕ
  pub deleted : List ℕ
  pub line : List ℕ

pub record Answered : Type 0 where
  pub run : Run
  pub reply : Reply

unfoldable pub answered : {A : Type 0} → (A → Report) → Outcome A → Answered
answered report o = record { run = o.run; reply = record { report = report o.answer; rose = o.rose; deleted = o.deleted; line = o.line } }

-- A call on a state, by the very outcomes that the library's contracts cite.
unfoldable pub call : Run → Call → Answered
call s (checkpoint i deleted) = answered checkpoint_report (checkpoint_outcome s i deleted)
call s (send i j) = answered send_report (send_outcome s i j)
call s (deliver m deleted) = answered deliver_report (deliver_outcome s m deleted)
call s (lose m) = answered lose_report (lose_outcome s m)
call s (recover F deleted lent) = answered recover_report (recover_outcome s F deleted lent)
call s (line F lent) = answered line_report (line_outcome s F lent)
call s (earliest l lent) = answered line_report (earliest_outcome s l lent)

-- "Each gets the state the one before it returned, after a refusal the state as it came".
unfoldable pub state_after : Run → List Call → Run
state_after s [] = s
state_after s (c ∷ l) = state_after (call s c).run l

-- A call and its answer; the calls of a list with their answers, oldest first.
pub record Exchange : Type 0 where
  pub made : Call
  pub reply : Reply

unfoldable pub transcript : Run → List Call → List Exchange
transcript s [] = []
transcript s (c ∷ l) = record { made = c; reply = (call s c).reply } ∷ transcript (call s c).run l
