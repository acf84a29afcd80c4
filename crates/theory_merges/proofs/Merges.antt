-- The table of merges, by computation.
-- Assumes nothing.
use Rattle.std.specs.Prelude.{◌≡◌}
use Rattle.laws.specs.Basics.{refl, true}
use Rattle.laws.specs.Tests.{every, same}
use Rattle.model.specs.{Refusals.number, Refusals.first_of, Trace.word, Trace.fields, Trace.if_zero_of, Trace.fields_of, Trace.word_of_def, Trace.bytes_of_def}
use Rattle.theory_merges.specs.Halves.{is_send, send_by, how_many, is_send_number, message_number, receives, receiver_of, plain_event, happens_at}
use Rattle.theory_merges.specs.Merge.{half_event_of, is_ready, next_of_second, next_record, out_of_run, to_itself, in_half_of, record_refusal, on_record, on_next, take_from, count_of, after_first_byte, fields_in, bad_count, merge_refusal, plain_bytes, finished, merge_outcome, merge_report}
use Rattle.theory_merges.specs.Merges.{merge_right, merges, merges_right}

pub merges_right_lem : merges_right ≡ true
unfolding every same number first_of word fields if_zero_of fields_of word_of_def bytes_of_def is_send send_by how_many is_send_number message_number receives receiver_of plain_event happens_at half_event_of is_ready next_of_second next_record out_of_run to_itself in_half_of record_refusal on_record on_next take_from count_of after_first_byte fields_in bad_count merge_refusal plain_bytes finished merge_outcome merge_report merge_right merges merges_right
merges_right_lem = refl
