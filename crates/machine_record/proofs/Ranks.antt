-- The machine stops: each answer brings it nearer to its end, or brings bytes.
-- Assumes nothing.
use Rattle.std.specs.Prelude.{◌≡◌, ◌∷◌, ◌++◌, ◌+◌, ◌-◌, ◌*◌, ◌≤◌, ◌<◌}
use Rattle.laws.specs.Basics.{refl, ◌∙◌, ap, List, [], ℕ, arith, eqb, ltb, length, length-append, ltb-true, ltb-false, by_bool}
use Rattle.whole_runs.specs.Listing.{most_records}
use Rattle.machines.specs.programs.Numbers.{number_in}
use Rattle.machines.specs.Machines.{Stop, Answer, Bytes, Exchange, Ends, heard, stepped, exchanged, brought, read_by, read_of, exchanges, state_after}
use Rattle.machines.proofs.{Answers.by_count, Answers.by_word, Answers.by_read, Answers.by_done, Runs.throughout, Runs.read_next}
use Rattle.machine_record.specs.{Recorded.start_number, Recorded.end_line, Recorded.left_over_of, Records.standing_after, Records.bytes_after, Records.lines_after}
use Rattle.machine_record.specs.Machine.{Position, State, counting, naming, beginning, writing, reporting, reading, ending, failing, stopped, machine, ask, next, most_to_read, to_read_of, to_report, to_write_of, to_end_of, counted, sized, begun, begins_with, block_taken, largest_buffer, longest_word}
use Rattle.machine_record.proofs.{Parts.counted as all-counted, Parts.done_after}

-- How many bytes may still be read, and how many answers come at most before the next that brings bytes.
unfoldable pub bytes_left : Position → ℕ
bytes_left p = 4 * (most_records - p.standing.done) - length p.rest

unfoldable pub unread : State → ℕ
unread counting = 1 + 4 * most_records
unread naming = 1 + 4 * most_records
unread (beginning size) = 1 + 4 * most_records
unread (writing out lines p) = bytes_left p
unread (reporting lines p) = bytes_left p
unread (reading p) = bytes_left p
unread (ending text) = 0
unread (failing text) = 0
unread stopped = 0

unfoldable pub rank : State → ℕ
rank counting = 4
rank naming = 3
rank (beginning size) = 2
rank (writing out lines p) = 4
rank (reporting lines p) = 3
rank (reading p) = 2
rank (ending text) = 1
rank (failing text) = 1
rank stopped = 0

-- What is left of a state, at most.
abbrev Within : State → ℕ → ℕ → Type 0
Within s most-rank most-unread = (rank s ≤ most-rank) × (unread s ≤ most-unread)

read_within : (p : Position) → Within (to_read_of p) 2 (bytes_left p)
unfolding to_read_of rank unread
read_within p = by_bool (ltb p.standing.done most_records) (λ t. rw t omega arith) (λ t. rw t omega arith)

report_within : (lines : List ℕ) (p : Position) → Within (to_report lines p) 3 (bytes_left p)
unfolding to_report rank unread
report_within [] p = omega (arith, read_within p)
report_within (b ∷ lines) p = omega arith

write_within : (out lines : List ℕ) (p : Position) → Within (to_write_of out lines p) 4 (bytes_left p)
unfolding to_write_of rank unread
write_within [] lines p = omega (arith, report_within lines p)
write_within (b ∷ out) lines p = omega arith

end_within : (text : List ℕ) → Within (to_end_of text) 1 0
unfolding to_end_of rank unread
end_within [] = omega arith
end_within (b ∷ text) = omega arith

counted_within : (words : ℕ) → Within (counted words) 3 (1 + 4 * most_records)
unfolding counted rank unread
counted_within words = by_bool (ltb words 2) (λ t. rw t omega arith) (λ t. by_bool (eqb words 2) (λ u. rw (t, u) omega arith) (λ u. rw (t, u) omega arith))

sized_within : (size : ℕ) → Within (sized size) 2 (1 + 4 * most_records)
unfolding sized rank unread
sized_within size = by_bool (ltb largest_buffer size) (λ t. rw t omega arith) (λ t. rw t omega arith)

begun_within : (size n : ℕ) → Within (begun size n) 4 (4 * most_records)
unfolding begun rank unread bytes_left
begun_within size n = by_bool (eqb (start_number size n) 0) (λ t. rw t omega arith) (λ t. rw t omega arith)

-- A block brings its bytes.
block_left : (p : Position) (m : List ℕ) → 1 ≤ length m → length m ≤ most_to_read p → let block = p.rest ++ m in
    bytes_left (record { standing = standing_after p.standing block; rest = left_over_of block }) + length m ≤ bytes_left p
unfolding bytes_left most_to_read
block_left p m some few =
    omega (arith, some, few, done_after p.standing (p.rest ++ m), all-counted (p.rest ++ m), length-append p.rest m)

-- Each answer that is taken: a machine that has not stopped comes nearer to its end, or reads.
abbrev Nearer : State → Answer → Type 0
Nearer s b = (rank (next s b) + 1 ≤ rank s + 3 * length (read_by (ask s) b)) × (unread (next s b) + length (read_by (ask s) b) ≤ unread s)

first_nearer : (size : ℕ) (l : List ℕ) → 1 ≤ length l → length l ≤ 1 → Nearer (beginning size) (Bytes l)
unfolding rank unread ask next begins_with read_by brought
first_nearer size [] some few = absurd (omega (arith, some))
first_nearer size (n ∷ []) some few = omega (arith, begun_within size n)
first_nearer size (n ∷ k ∷ l) some few = absurd (omega (arith, few))

block_nearer : (p : Position) (m : List ℕ) → 1 ≤ length m → length m ≤ most_to_read p → Nearer (reading p) (Bytes m)
unfolding rank unread ask next block_taken read_by brought
block_nearer p m some few =
    let block = p.rest ++ m in
    let w = write_within (bytes_after p.standing block) (lines_after p.standing block) (record { standing = standing_after p.standing block; rest = left_over_of block }) in
    omega (arith, w, some, block_left p m some few)

pub nearer : (s : State) (a : Answer) → 1 ≤ rank s → Nearer s (heard (ask s) a)
unfolding rank unread ask heard next read_by brought
nearer counting a h = by_count (Nearer counting) (omega arith) (λ words. omega (arith, counted_within words)) a
nearer naming a h = by_word (Nearer naming) (omega arith) longest_word (λ word few. omega (arith, sized_within (number_in word))) a
nearer (beginning size) a h = by_read (Nearer (beginning size)) (omega arith) 1 (first_nearer size) (omega arith) a
nearer (writing out lines p) a h = by_done (Nearer (writing out lines p)) (omega arith) (omega (arith, report_within lines p)) a
nearer (reporting lines p) a h = omega (arith, read_within p)
nearer (reading p) a h = by_read (Nearer (reading p)) (omega arith) (most_to_read p) (block_nearer p) (omega (arith, end_within (end_line p.standing.done p.rest))) a
nearer (ending text) a h = omega arith
nearer (failing text) a h = omega arith
nearer stopped a h = absurd (omega (arith, h))

-- A machine that has stopped: no answer brings it nearer, and it asks for nothing.
is_stopped : (s : State) → rank s < 1 → s ≡ stopped
unfolding rank
is_stopped counting h = absurd (omega (arith, h))
is_stopped naming h = absurd (omega (arith, h))
is_stopped (beginning size) h = absurd (omega (arith, h))
is_stopped (writing out lines p) h = absurd (omega (arith, h))
is_stopped (reporting lines p) h = absurd (omega (arith, h))
is_stopped (reading p) h = absurd (omega (arith, h))
is_stopped (ending text) h = absurd (omega (arith, h))
is_stopped (failing text) h = absurd (omega (arith, h))
is_stopped stopped h = refl

still : (s : State) (b : Answer) → rank s < 1 → rank (next s b) ≡ 0
unfolding rank next
still s b h = rw (is_stopped s h)

pub no_rank : (s : State) → rank s < 1 → ask s ≡ Stop
unfolding ask
no_rank s h = rw (is_stopped s h)

some_rank : (s : State) → (ask s ≡ Stop → ⊥) → 1 ≤ rank s
some_rank s h = by_bool (ltb (rank s) 1) (λ t. absurd (h (no_rank s (ltb-true (rank s) 1 t)))) (λ t. ltb-false (rank s) 1 t)

-- Over every list of answers: as long as the machine has not stopped, it had four answers besides three for each byte.
abbrev Counts : State → List Exchange → Type 0
Counts s talk = 1 ≤ rank s → length talk + rank s ≤ 4 + 3 * length (read_of talk)

length_read : (talk : List Exchange) (e : Exchange) → length (read_of (talk ++ (e ∷ []))) ≡ length (read_of talk) + length (read_by e.request e.answer)
length_read talk e = ap (λ (x : List ℕ). length x) (read_next talk e) ∙ length-append (read_of talk) (read_by e.request e.answer)

counts_next : (s : State) (talk : List Exchange) (a : Answer) → Counts s talk → Counts (stepped machine s a) (talk ++ (exchanged machine s a ∷ []))
unfolding stepped
counts_next s talk a h =
    let e = exchanged machine s a in
    by_bool (ltb (rank s) 1)
    (λ t. λ k. absurd (omega (arith, k, still s e.answer (ltb-true (rank s) 1 t))))
    (λ t. λ k. let some = ltb-false (rank s) 1 t in omega (arith, h some, (nearer s a some).0, length-append talk (e ∷ []), length_read talk e))

pub counts : (answers : List Answer) → Counts (state_after machine answers) (exchanges machine answers)
unfolding rank read_of
counts answers = throughout machine Counts counts_next (λ k. omega arith) answers

-- And a number falls with each answer.
stops_again : (s : State) (b : Answer) → ask s ≡ Stop → ask (next s b) ≡ Stop
unfolding ask next
stops_again counting b e = cc
stops_again naming b e = cc
stops_again (beginning size) b e = cc
stops_again (writing out lines p) b e = cc
stops_again (reporting lines p) b e = cc
stops_again (reading p) b e = cc
stops_again (ending text) b e = cc
stops_again (failing text) b e = cc
stops_again stopped b e = refl

pub machine_ends : Ends machine
unfolding stepped
machine_ends = record {
  left = λ s. rank s + 3 * unread s;
  falls = λ s a h. let w = nearer s a (some_rank s h) in omega (arith, w.0, w.1);
  stays = λ s a e. stops_again s (heard (ask s) a) e;
}
