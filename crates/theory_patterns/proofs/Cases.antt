-- The table of traces, by computation.
-- Assumes nothing.
use Rattle.std.specs.Prelude.{◌≡◌}
use Rattle.laws.specs.Basics.{refl, true}
use Rattle.laws.specs.{Search.any_below, Tests.count_below, Tests.every, Update.upd}
use Rattle.model.specs.{Sound.is_block_count_of, Refusals.number, Refusals.first_of, Refusals.start_refusal}
use Rattle.model.specs.Trace.{word, fields, if_zero_of, event_of_def, decoded}
use Rattle.histories.specs.History.{checkpoints}
use Rattle.whole_runs.specs.Survival.{added}
use Rattle.theory_patterns.specs.Patterns.{empty, record_refusal, taken, read_from, reading}
use Rattle.theory_patterns.specs.{Paths.event_at, Paths.interval, Verdicts.count_of, Verdicts.verdict_on, Verdicts.verdict, Verdicts.judge_report}
use Rattle.theory_patterns.specs.Judging.{is_send, is_receipt, sent_where, received_where, sent_after, sent_onward, sent_later, received_before, is_last, connects, has_zigzag, is_before, is_breaking, first_of_all, first_pair}
use Rattle.theory_patterns.specs.Cases.{same_pair, case_right, judge_cases, cases_right}

pub cases_right_lem : cases_right ≡ true
unfolding any_below count_below every upd is_block_count_of number first_of start_refusal word fields if_zero_of event_of_def decoded checkpoints added empty record_refusal taken read_from reading event_at interval is_send is_receipt sent_where received_where sent_after sent_onward sent_later received_before is_last connects has_zigzag is_before is_breaking first_of_all first_pair count_of verdict_on verdict judge_report same_pair case_right judge_cases cases_right
cases_right_lem = refl
