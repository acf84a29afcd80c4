-- The exam table: cases 1 to 9 hold of the definitions, and the example trace gives the listing that document 01 prints, both ways. The disks of Note 5, step by
-- step. The table of the numbers, and Note 8's. All by computation.
-- Assumes nothing.
use Rattle.std.specs.Prelude.{◌≡◌, ◌&&◌}
use Rattle.laws.specs.Basics.{refl, true, false}
use Rattle.laws.specs.{Bits.bits_of, Lists.select, Lists.last_of, Lists.table, Lists.gather, Lists.placed, Search.all_below, Search.any_below, Sums.sum_below}
use Rattle.laws.specs.Tests.{count_below, every, some_of, same}
use Rattle.model.specs.Words.{is_pinned, live, blocks_of, block_count, blank, process, with_process, own, under_way, with_messages, with_disk}
use Rattle.model.specs.Steps.{settled, listed, gone, deletions, billed, with_processes, checkpoint_zero, started, opening, start_state, advanced, storing, checkpointed, checkpoint_state, checkpoint_deletions, sent_message, marked, send_state, found, others, newer, forces, taken_entry, taken_vector, taken_pin, taken_pins, risen, taken_in, delivered, deliver_state, deliver_risen, deliver_deletions, lose_state, allowed, states, latest_allowed, member, line_of, rolled_back, vector_after, not_lost, own_after, latest_pin, moved_pin, pin_after, pins_after, recovered, lost_by, still_under_way, gone_at_of, deleted_at, recover_state, recover_deletions, rolled_back_count}
use Rattle.model.specs.Sound.{count_sound, own_sound, within, vectors_sound, ascending, kept_sound, pin_sound, pins_sound, message_sound, messages_sound, zero_from, unused_checkpoint, unused_message, is_nothing_of, nothing_from, row_unused, unused_sound, cause_sound, is_block_count_of, record_sound, kept_blocks, disk_sound, sound}
use Rattle.model.specs.Refusals.{number, first_of, start_refusal, checkpoint_refusal, send_refusal, forces_past, forces_over, deliver_refusal, lose_refusal, no_member_of, line_refusal, recover_refusal}
use Rattle.model.specs.Trace.{word, fields, if_zero_of, event_of_def, decoded, is_record, stands, well_formed, fields_of, fits, word_of_def, bytes_of_def, encoded}
use Rattle.whole_runs.specs.Outcomes.{pairs, start_outcome, checkpoint_outcome, send_outcome, deliver_answer, deliver_outcome, lose_outcome, line_outcome, recover_outcome, start_report, checkpoint_report, send_report, deliver_report, lose_report, line_report, recover_report}
use Rattle.whole_runs.specs.Earliest.{is_named, named_vector, greatest, earliest_line, some_absent, repeats, unfit, not_kept, some_ordered, earliest_refusal, earliest_outcome}
use Rattle.whole_runs.specs.Calls.{answered, call, state_after, transcript}
use Rattle.whole_runs.specs.Listing.{digits, decimal, value_text, deletions_text, accepted_text, line_text, refusal_text, call_of, perform, asks_for_all, goes_on_of, records, started as startedListing, listing}
use Rattle.theory_tables.specs.Exam.{same_rows, optional, pin_number, answer_right, answers_right, line_right, kept_rows, disks_are, right, trace_calls, trace_answers, sweep_calls, sweep_answers, of_two, after, exam, disks_right, disk_calls, disk_cases, disks, example_trace, example_listing}
use Rattle.theory_tables.specs.Numbers.{start_meets, call_meets, trace_prints, stop_prints, argument_asks, of_zeros, starts, calls, traces, stops, arguments, numbers_right}
use Rattle.theory_tables.specs.EarliestExam.{shown_state, earliest_case_right, earliest_cases, earliest_cases_right}

-- Every case of the exam table with the example trace, the disks of Note 5, the whole table of the numbers, and Note 8's table.
computed : ((every right exam && same (listing true example_trace) example_listing && same (listing false example_trace) example_listing) ≡ true) × (disks ≡ true) × (numbers_right ≡ true) × (earliest_cases_right ≡ true)
unfolding is_named named_vector greatest earliest_line some_absent repeats unfit not_kept some_ordered earliest_refusal earliest_outcome shown_state earliest_case_right earliest_cases earliest_cases_right is_pinned live blocks_of block_count blank process with_process own under_way with_messages with_disk settled listed gone deletions billed with_processes checkpoint_zero started opening start_state advanced storing checkpointed checkpoint_state checkpoint_deletions sent_message marked send_state found others newer forces taken_entry taken_vector taken_pin taken_pins risen taken_in delivered deliver_state deliver_risen deliver_deletions lose_state allowed states latest_allowed member line_of rolled_back vector_after not_lost own_after latest_pin moved_pin pin_after pins_after recovered lost_by still_under_way gone_at_of deleted_at recover_state recover_deletions rolled_back_count count_sound own_sound within vectors_sound ascending kept_sound pin_sound pins_sound message_sound messages_sound zero_from unused_checkpoint unused_message is_nothing_of nothing_from row_unused unused_sound cause_sound is_block_count_of record_sound kept_blocks disk_sound sound number first_of start_refusal checkpoint_refusal send_refusal forces_past forces_over deliver_refusal lose_refusal no_member_of line_refusal recover_refusal pairs start_outcome checkpoint_outcome send_outcome deliver_answer deliver_outcome lose_outcome line_outcome recover_outcome start_report checkpoint_report send_report deliver_report lose_report line_report recover_report answered call state_after transcript word fields if_zero_of event_of_def decoded is_record stands well_formed fields_of fits word_of_def bytes_of_def encoded digits decimal value_text deletions_text accepted_text line_text refusal_text call_of perform asks_for_all goes_on_of records startedListing listing same same_rows optional pin_number answer_right answers_right line_right kept_rows disks_are right trace_calls trace_answers sweep_calls sweep_answers of_two after exam disks_right disk_calls disk_cases disks example_trace example_listing bits_of select last_of table gather placed all_below any_below sum_below count_below every some_of start_meets call_meets trace_prints stop_prints argument_asks of_zeros starts calls traces stops arguments numbers_right
computed = (
  refl,
  refl,
  refl,
  refl,
)

pub exam_right : (every right exam && same (listing true example_trace) example_listing && same (listing false example_trace) example_listing) ≡ true
exam_right = computed.0

pub disks_right_lem : disks ≡ true
disks_right_lem = computed.1

pub numbers_right_lem : numbers_right ≡ true
numbers_right_lem = computed.2

pub earliest_cases_right_lem : earliest_cases_right ≡ true
earliest_cases_right_lem = computed.3
