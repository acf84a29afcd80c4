-- What a replayed record says: a summary and a deletion list against the reply of the model, and the line that is printed of both.
-- Assumes nothing.
use Rattle.std.specs.Prelude.{◌≡◌}
use Rattle.laws.specs.Basics.{List, Option, ℕ}
use Rattle.model.specs.declared.{Run.Run, Event.Event}
use Rattle.whole_runs.specs.{Outcomes.Report, Calls.Reply, Listing.deletions_text, Listing.perform}
use Rattle.listing.specs.declared.Summary.{Summary}
use Rattle.listing.specs.Lines.{number_said}

-- The report that a summary stands for.
unfoldable pub report_in : Summary → Report
report_in summary = record { refused = number_said summary.refused; value = summary.value; deletions = summary.deletions }

-- A summary with a deletion list says what a reply says.
pub record Says (summary : Summary) (deleted : List ℕ) (reply : Reply) : Type 0 where
  pub report : report_in summary ≡ reply.report
  pub listed : deletions_text summary.deletions deleted ≡ deletions_text summary.deletions reply.deleted

-- The state and the words after a record are the model's.
pub record Performs (s : Run) (e : Option Event) (run : Run) (summary : Summary) (deleted : List ℕ) : Type 0 where
  pub state : run ≡ (perform s e).run
  pub says : Says summary deleted (perform s e).reply
