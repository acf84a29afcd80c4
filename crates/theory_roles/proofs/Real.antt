-- Each leak is real: by computation, but for 10 and 16, which take too many calls (Numbers, Bound).
-- Assumes nothing.
use Rattle.std.specs.Prelude.{◌≡◌, ◌∷◌}
use Rattle.laws.specs.Basics.{refl, sym, ◌∙◌, ap, Bool, true, false, List, [], None, ℕ, eqb, get_or, replicate, eqb-false}
use Rattle.laws.specs.{Bits.bits_of, Lists.select, Lists.or_else, Lists.last_of, Lists.table, Lists.gather, Lists.placed, Search.all_below, Search.any_below}
use Rattle.laws.specs.{Sums.sum_below, Tests.count_below, Tests.every, Tests.some_of}
use Rattle.model.specs.Words.{is_pinned, live, blocks_of, block_count, blank, process, with_process, own, under_way, with_messages, with_disk}
use Rattle.model.specs.Steps.{settled, listed, gone, deletions, billed, with_processes, checkpoint_zero, started, opening, start_state, advanced, storing as stores, checkpointed, checkpoint_state, checkpoint_deletions, sent_message, marked, send_state, found, others, newer, forces, taken_entry, taken_vector, taken_pin, taken_pins, risen, taken_in, delivered, deliver_state, deliver_risen, deliver_deletions, lose_state, allowed, states, latest_allowed, member, line_of, rolled_back, vector_after, not_lost, own_after, latest_pin, moved_pin, pin_after, pins_after, recovered, lost_by, still_under_way, gone_at_of, deleted_at, recover_state, recover_deletions, rolled_back_count}
use Rattle.model.specs.Sound.{count_sound, own_sound, within, vectors_sound, ascending, kept_sound, pin_sound, pins_sound, message_sound, messages_sound, zero_from, unused_checkpoint, unused_message, is_nothing_of, nothing_from, row_unused, unused_sound, cause_sound, is_block_count_of, record_sound, kept_blocks, disk_sound, sound}
use Rattle.model.specs.Refusals.{number, first_of, start_refusal, checkpoint_refusal, send_refusal, forces_past, forces_over, deliver_refusal, lose_refusal, no_member_of, line_refusal, recover_refusal}
use Rattle.whole_runs.specs.Outcomes.{pairs, start_outcome, checkpoint_outcome, send_outcome, deliver_answer, deliver_outcome, lose_outcome, line_outcome, recover_outcome, checkpoint_report, send_report, deliver_report, lose_report, line_report, recover_report}
use Rattle.whole_runs.specs.Calls.{checkpoint, send, deliver, lose, line, Reply, answered}
use Rattle.theory_roles.specs.Console.{may, owns, entitled_by, entitled, entitled_message_by, entitled_message, denied, denied_process, denied_message, shown, listed_to, list_refusal, list_report, console_start, console_checkpoint, console_send, console_deliver, console_lose, console_recover, console_line, console_list}
use Rattle.theory_roles.specs.Runs.{made, list, console_answered, console_call}
use Rattle.theory_tables.specs.Exam.{deletion_list, line_list}
use Rattle.theory_roles.specs.Learned.{is_owner_by, is_owner, sees, seen, arrival_of, arrives, is_there, leak, nothing, room, bound, arrival, there, members, restart, restarts, Exposed, asked, restarted, done, exposes, exposed}
use Rattle.theory_roles.specs.Real.{full, number as numbers, used, blocks, carried, presence, place, rollback, pins, code, hide, hidden_leak, hidden, pair_of, begun, Real, EveryLeakIsReal, OthersAreSkipped}
use Rattle.theory_roles.proofs.{Bound.blocks_real, Numbers.used_real}

-- Two lists of which something differs are not the same.
differ : (f : List Reply → ℕ) (l m : List Reply) → eqb (f l) (f m) ≡ false → l ≡ m → ⊥
differ f l m d e = eqb-false (f l) (f m) d (ap f e)

-- The answer at a place of what is seen.
abbrev answer : List Reply → ℕ → Reply
answer l k = get_or l k (record { report = record { refused = 0; value = None; deletions = 0 }; rose = 0; deleted = []; line = [] })

-- Two lists that are one and the same.
through : (c a b : List Exposed) → a ≡ c → b ≡ c → a ≡ b
through c a b p q = p ∙ sym q

-- What the tenant's first calls expose: message 1 arrives at process 0 and carries the neighbour's first interval; a checkpoint does not meet 16.
abbrev arriving : Exposed
arriving = asked 1 (made (deliver 1 (deletion_list 3))) (arrival (record { receiver = 0; vector = record { 0 = 0 } ∷ record { 0 = 1 } ∷ replicate 14 (record { 0 = 0 }) } ∷ []) false)

abbrev storing : Exposed
storing = asked 1 (made (checkpoint 0 (deletion_list 3))) (bound false)

abbrev listing : Exposed
listing = asked 1 (list (deletion_list 3)) nothing

-- A recovery, by what it exposes of process 0.
abbrev restarting : ℕ → List Bool → Exposed
restarting index pinned = restarted (record { index = index; pinned = pinned } ∷ record { index = 0; pinned = [] } ∷ record { index = 0; pinned = [] } ∷ [])

near : (Real full) × (Real numbers) × (Real carried) × (Real presence) × (Real place) × (Real rollback) × (Real pins) × OthersAreSkipped
unfolding bits_of select last_of table gather placed all_below any_below sum_below count_below some_of is_pinned live blocks_of block_count blank process with_process own under_way with_messages with_disk settled listed gone deletions billed with_processes checkpoint_zero started opening start_state advanced stores checkpointed checkpoint_state checkpoint_deletions sent_message marked send_state found others newer forces taken_entry taken_vector taken_pin taken_pins risen taken_in delivered deliver_state deliver_risen deliver_deletions lose_state allowed states latest_allowed member line_of rolled_back vector_after not_lost own_after latest_pin moved_pin pin_after pins_after recovered lost_by still_under_way gone_at_of deleted_at recover_state recover_deletions rolled_back_count count_sound own_sound within vectors_sound ascending kept_sound pin_sound pins_sound message_sound messages_sound zero_from unused_checkpoint unused_message is_nothing_of nothing_from row_unused unused_sound cause_sound is_block_count_of record_sound kept_blocks disk_sound sound number first_of start_refusal checkpoint_refusal send_refusal forces_past forces_over deliver_refusal lose_refusal no_member_of line_refusal recover_refusal pairs start_outcome checkpoint_outcome send_outcome deliver_answer deliver_outcome lose_outcome line_outcome recover_outcome checkpoint_report send_report deliver_report lose_report line_report recover_report answered may owns entitled_by entitled entitled_message_by entitled_message denied denied_process denied_message shown listed_to list_refusal list_report console_start console_checkpoint console_send console_deliver console_lose console_recover console_line console_list console_answered every console_call is_owner_by is_owner sees seen arrival_of arrives is_there leak restart restarts done exposes exposed code hide hidden_leak hidden pair_of begun OthersAreSkipped
near = (
  record { started = refl; alike = through (asked 1 (made (send 0 1)) (room false 64) ∷ []) _ _ refl refl; differs = differ (λ l. (answer l 0).report.refused) _ _ refl },
  record { started = refl; alike = through (asked 1 (made (send 0 1)) (room false 0) ∷ []) _ _ refl refl; differs = differ (λ l. or_else (answer l 0).report.value 0) _ _ refl },
  record { started = refl; alike = through (asked 1 (made (deliver 1 (deletion_list 3))) (arrival [] false) ∷ asked 1 (made (send 0 2)) (room false 1) ∷ asked 1 (made (deliver 3 (deletion_list 3))) (arrival [] false) ∷ []) _ _ refl refl; differs = differ (λ l. or_else (answer l 2).report.value 0) _ _ refl },
  record { started = refl; alike = through (asked 1 (made (lose 1)) (there false) ∷ []) _ _ refl refl; differs = differ (λ l. (answer l 0).report.refused) _ _ refl },
  record { started = refl; alike = through (arriving ∷ storing ∷ asked 1 (made (line 2 (line_list 3))) (members []) ∷ []) _ _ refl refl; differs = differ (λ l. get_or (answer l 2).line 0 0) _ _ refl },
  record { started = refl; alike = through (arriving ∷ storing ∷ restarting 0 (true ∷ replicate 15 false) ∷ listing ∷ []) _ _ refl refl; differs = differ (λ l. get_or (answer l 2).deleted 1 0) _ _ refl },
  record { started = refl; alike = through (arriving ∷ storing ∷ restarting 2 [] ∷ listing ∷ []) _ _ refl refl; differs = differ (λ l. or_else (answer l 2).report.value 0) _ _ refl },
  through (listing ∷ []) _ _ refl refl,
)

pub every_leak_is_real : EveryLeakIsReal
unfolding EveryLeakIsReal
every_leak_is_real full = near.0
every_leak_is_real numbers = near.1
every_leak_is_real used = used_real
every_leak_is_real blocks = blocks_real
every_leak_is_real carried = near.2
every_leak_is_real presence = near.3
every_leak_is_real place = near.4
every_leak_is_real rollback = near.5
every_leak_is_real pins = near.6
