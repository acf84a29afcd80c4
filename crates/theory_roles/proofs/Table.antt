-- The table of console calls and the named leaks hold of the definitions: by computation.
-- Assumes nothing.
use Rattle.std.specs.Prelude.{◌≡◌}
use Rattle.laws.specs.Basics.{refl, true}
use Rattle.laws.specs.{Bits.bits_of, Lists.select, Lists.last_of, Lists.table, Lists.gather, Lists.placed, Search.all_below, Search.any_below, Sums.sum_below}
use Rattle.laws.specs.Tests.{count_below, every, some_of, same}
use Rattle.model.specs.Words.{is_pinned, live, blocks_of, block_count, blank, process, with_process, own, under_way, with_messages, with_disk}
use Rattle.model.specs.Steps.{settled, listed, gone, deletions, billed, with_processes, checkpoint_zero, started, opening, start_state, advanced, storing, checkpointed, checkpoint_state, checkpoint_deletions, sent_message, marked, send_state, found, others, newer, forces, taken_entry, taken_vector, taken_pin, taken_pins, risen, taken_in, delivered, deliver_state, deliver_risen, deliver_deletions, lose_state, allowed, states, latest_allowed, member, line_of, rolled_back, vector_after, not_lost, own_after, latest_pin, moved_pin, pin_after, pins_after, recovered, lost_by, still_under_way, gone_at_of, deleted_at, recover_state, recover_deletions, rolled_back_count}
use Rattle.model.specs.Sound.{count_sound, own_sound, within, vectors_sound, ascending, kept_sound, pin_sound, pins_sound, message_sound, messages_sound, zero_from, unused_checkpoint, unused_message, is_nothing_of, nothing_from, row_unused, unused_sound, cause_sound, is_block_count_of, record_sound, kept_blocks, disk_sound, sound}
use Rattle.model.specs.Refusals.{number, first_of, start_refusal, checkpoint_refusal, send_refusal, forces_past, forces_over, deliver_refusal, lose_refusal, no_member_of, line_refusal, recover_refusal}
use Rattle.whole_runs.specs.Outcomes.{pairs, start_outcome, checkpoint_outcome, send_outcome, deliver_answer, deliver_outcome, lose_outcome, line_outcome, recover_outcome, start_report, checkpoint_report, send_report, deliver_report, lose_report, line_report, recover_report}
use Rattle.whole_runs.specs.Calls.{answered, call, state_after}
use Rattle.theory_tables.specs.Exam.{optional}
use Rattle.theory_roles.specs.Console.{may, owns, entitled_by, entitled, entitled_message_by, entitled_message, denied, denied_process, denied_message, shown, listed_to, list_refusal, kept_counts, counts_refusal, list_report, console_start, console_checkpoint, console_send, console_deliver, console_lose, console_recover, console_line, console_earliest, console_list, console_counts}
use Rattle.theory_roles.specs.Runs.{console_answered}
use Rattle.theory_roles.specs.Table.{console_case_right, shared_state, console_cases, unsound_cases, start_case_right, start_cases, leak_right, leaks, consoles_right}

pub consoles_right_lem : consoles_right ≡ true
unfolding bits_of select last_of table gather placed all_below any_below sum_below count_below every some_of same is_pinned live blocks_of block_count blank process with_process own under_way with_messages with_disk settled listed gone deletions billed with_processes checkpoint_zero started opening start_state advanced storing checkpointed checkpoint_state checkpoint_deletions sent_message marked send_state found others newer forces taken_entry taken_vector taken_pin taken_pins risen taken_in delivered deliver_state deliver_risen deliver_deletions lose_state allowed states latest_allowed member line_of rolled_back vector_after not_lost own_after latest_pin moved_pin pin_after pins_after recovered lost_by still_under_way gone_at_of deleted_at recover_state recover_deletions rolled_back_count count_sound own_sound within vectors_sound ascending kept_sound pin_sound pins_sound message_sound messages_sound zero_from unused_checkpoint unused_message is_nothing_of nothing_from row_unused unused_sound cause_sound is_block_count_of record_sound kept_blocks disk_sound sound number first_of start_refusal checkpoint_refusal send_refusal forces_past forces_over deliver_refusal lose_refusal no_member_of line_refusal recover_refusal pairs start_outcome checkpoint_outcome send_outcome deliver_answer deliver_outcome lose_outcome line_outcome recover_outcome start_report checkpoint_report send_report deliver_report lose_report line_report recover_report answered call state_after optional may owns entitled_by entitled entitled_message_by entitled_message denied denied_process denied_message shown listed_to list_refusal kept_counts counts_refusal list_report console_start console_checkpoint console_send console_deliver console_lose console_recover console_line console_earliest console_list console_counts console_answered console_case_right shared_state console_cases unsound_cases start_case_right start_cases leak_right leaks consoles_right
consoles_right_lem = refl
