-- The report of a count, beside those of whole_runs's Outcomes; and that each report says of a refusal its number alone.
-- Assumes nothing.
use Prim.{Unit, tt}
use Rattle.std.specs.Prelude.{◌≡◌, Result, Ok, Err}
use Rattle.laws.specs.Basics.{refl, Some, ℕ}
use Rattle.model.specs.declared.Refusal.{Refusal}
use Rattle.whole_runs.specs.Outcomes.{Report, refusing, accepting, start_report, checkpoint_report, send_report, deliver_report, lose_report, line_report, recover_report}

-- How many entries a call listed or wrote.
unfoldable pub count_report : Result ℕ Refusal → Report
count_report (Err why) = refusing why
count_report (Ok count) = accepting (Some count) 0

pub start_refused : (why : Refusal) → start_report (Err why) ≡ refusing why
unfolding start_report
start_refused why = refl

pub checkpoint_refused : (why : Refusal) → checkpoint_report (Err why) ≡ refusing why
unfolding checkpoint_report
checkpoint_refused why = refl

pub send_refused : (why : Refusal) → send_report (Err why) ≡ refusing why
unfolding send_report
send_refused why = refl

pub deliver_refused : (why : Refusal) → deliver_report (Err why) ≡ refusing why
unfolding deliver_report
deliver_refused why = refl

pub recover_refused : (why : Refusal) → recover_report (Err why) ≡ refusing why
unfolding recover_report
recover_refused why = refl

pub count_refused : (why : Refusal) → count_report (Err why) ≡ refusing why
unfolding count_report
count_refused why = refl

-- A start, a loss and a line answer the same: nothing, or why they are refused.
pub lose_is : (a : Result (Unit {0}) Refusal) → start_report a ≡ lose_report a
unfolding start_report lose_report
lose_is (Err why) = refl
lose_is (Ok tt) = refl

pub line_is : (a : Result (Unit {0}) Refusal) → start_report a ≡ line_report a
unfolding start_report line_report
line_is (Err why) = refl
line_is (Ok tt) = refl
