-- The promises, proved.
-- Assumes nothing.
use Rattle.std.specs.Prelude.{◌≡◌, ◌∷◌, ◌++◌, ◌+◌, ◌*◌, ◌≤◌, ◌<◌}
use Rattle.laws.specs.Basics.{refl, sym, ◌∙◌, ap, true, false, List, [], append-nil, ℕ, arith, eqb, ltb, length, ltb-true, ltb-false, by_bool}
use Rattle.whole_runs.specs.Listing.{most_records}
use Rattle.machines.specs.Machines.{Request, Read, Write, Say, Fail, Stop, Answer, Bytes, End, Failed, Exchange, heard, heard_read, stepped, state_after, exchanges, written, error_text, written_of, error_text_of, read_of, requests_of}
use Rattle.machines.proofs.{Leading.never, Leading.read_size, Runs.written_is, Runs.error_text_is}
use Rattle.machine_record.specs.Recorded.{start_number, recorded_trace, refused_line, refused_lines, left_over_of, end_line, last_line}
use Rattle.machine_record.specs.{Records.Standing, Records.standing_after, Promised.size_asked, Promised.RecordsItsInput}
use Rattle.machine_record.specs.Machine.{Position, State, counting, naming, beginning, writing, reporting, reading, ending, failing, stopped, machine, ask, next, most_to_read, to_end_of, begun, begins_with, input_name, output_name}
use Rattle.machine_record.proofs.{Parts.left_few, Parts.counted, Parts.done_after, Starts.first, Observed.Settled, Observed.At, Observed.Stands, Observed.stands}
use Rattle.machine_record.proofs.Ranks.{rank, no_rank, counts, machine_ends}

size_is : (size : ℕ) (talk : List Exchange) → Settled size talk → size ≡ size_asked talk
size_is size talk h = sym (h []) ∙ ap size_asked (append-nil talk)

same_size : (size : ℕ) (talk : List Exchange) → Settled size talk → recorded_trace size (read_of talk) ≡ recorded_trace (size_asked talk) (read_of talk)
same_size size talk h = ap (λ (k : ℕ). recorded_trace k (read_of talk)) (size_is size talk h)

-- What was asked to be written, the last request included.
all_written : (s : State) (talk : List Exchange) → Stands s talk → written_of (requests_of talk) ++ written (ask s) ≡ recorded_trace (size_asked talk) (read_of talk)
unfolding ask written recorded_trace read_of written_of requests_of
all_written counting talk h = rw h refl
all_written naming talk h = append-nil _ ∙ h.3.1 ∙ ap (recorded_trace (size_asked talk)) (sym h.3.0)
all_written (beginning size) talk h = append-nil _ ∙ h.1.1 ∙ ap (recorded_trace (size_asked talk)) (sym h.1.0)
all_written (writing out lines p) talk h = h.all_written ∙ same_size h.size talk h.settled
all_written (reporting lines p) talk h = h.all_written ∙ same_size h.size talk h.settled
all_written (reading p) talk h = h.0.all_written ∙ same_size h.0.size talk h.0.settled
all_written (ending text) talk h = append-nil _ ∙ h.2 ∙ same_size h.0 talk h.1
all_written (failing text) talk h = append-nil _ ∙ h.2 ∙ same_size h.0 talk h.1
all_written stopped talk h = append-nil _ ∙ h.2 ∙ same_size h.0 talk h.1

-- Two states ask to read.
asking : (P : State → Type 0) → ((size : ℕ) → P (beginning size)) → ((p : Position) → P (reading p)) → (s : State) (most : ℕ) → ask s ≡ Read most → P s
unfolding ask
asking P first_byte more counting most e = never (cc)
asking P first_byte more naming most e = never (cc)
asking P first_byte more (beginning size) most e = first_byte size
asking P first_byte more (writing out lines p) most e = never (cc)
asking P first_byte more (reporting lines p) most e = never (cc)
asking P first_byte more (reading p) most e = more p
asking P first_byte more (ending text) most e = never (cc)
asking P first_byte more (failing text) most e = never (cc)
asking P first_byte more stopped most e = never (cc)

-- What was said, whenever bytes are asked for.
all_reported : (s : State) (talk : List Exchange) (most : ℕ) → Stands s talk → ask s ≡ Read most → error_text_of (requests_of talk) ++ error_text (ask s) ≡ refused_lines (size_asked talk) (read_of talk)
unfolding ask error_text refused_lines
all_reported s talk most h e = asking (λ (x : State). Stands x talk → error_text_of (requests_of talk) ++ error_text (ask x) ≡ refused_lines (size_asked talk) (read_of talk))
    (λ size w. append-nil _ ∙ w.1.2 ∙ ap (refused_lines (size_asked talk)) (sym w.1.0))
    (λ p w. w.0.all_reported ∙ ap (λ (k : ℕ). refused_lines k (read_of talk)) (size_is w.0.size talk w.0.settled))
    s most e h

-- What is reported at the end of the input.
end_reported : (text : List ℕ) → error_text (ask (to_end_of text)) ≡ text
unfolding to_end_of ask error_text
end_reported [] = refl
end_reported (b ∷ text) = refl

last_is_lem : (size n : ℕ) (l : List ℕ) → eqb (start_number size n) 0 ≡ true → end_line (standing_after (first size n) l).done (left_over_of l) ≡ last_line size (n ∷ l)
unfolding last_line
last_is_lem size n l h = rw h (ap (λ (k : ℕ). end_line k (left_over_of l)) (omega (arith, done_after (first size n) l)))

all_ended : (s : State) (talk : List Exchange) (most : ℕ) → Stands s talk → ask s ≡ Read most → error_text (ask (stepped machine s End)) ≡ last_line (size_asked talk) (read_of talk)
unfolding ask stepped heard heard_read next error_text last_line
all_ended s talk most h e = asking (λ (x : State). Stands x talk → error_text (ask (stepped machine x End)) ≡ last_line (size_asked talk) (read_of talk))
    (λ size w. ap (last_line (size_asked talk)) (sym w.1.0))
    (λ p h. let w = h.0 in
    end_reported (end_line p.standing.done p.rest)
    ∙ (λ j. end_line (w.standing j).done (w.rest j))
    ∙ last_is_lem w.size w.n w.l w.fine
    ∙ (λ j. last_line (size_is w.size talk w.settled j) (sym w.read j)))
    s most e h

-- How much is asked for.
within : (p : Position) (talk : List Exchange) → At p talk [] [] → p.standing.done < most_records → (1 ≤ most_to_read p) × (length (read_of talk) + most_to_read p ≤ 1 + 4 * most_records)
unfolding most_to_read
within p talk w few =
    let rest = ap (λ (x : List ℕ). length x) w.rest in
    let size = ap (λ (x : List ℕ). length x) w.read in
    let done = ap (λ (g : Standing). g.done) w.standing ∙ done_after (first w.size w.n) w.l in
    omega (arith, few, rest, size, done, counted w.l, left_few w.l)

all_read : (s : State) (talk : List Exchange) (most : ℕ) → Stands s talk → ask s ≡ Read most → (1 ≤ most) × (length (read_of talk) + most ≤ 1 + 4 * most_records)
unfolding ask
all_read s talk most h e = asking (λ (x : State). Stands x talk → ask x ≡ Read most → (1 ≤ most) × (length (read_of talk) + most ≤ 1 + 4 * most_records))
    (λ size w f. omega (arith, read_size 1 most f, ap (λ (x : List ℕ). length x) w.1.0))
    (λ p w f. omega (arith, read_size (most_to_read p) most f, within p talk w.0 w.1))
    s most e h e

-- A first byte that is refused.
start_refused : (size n : ℕ) → eqb (start_number size n) 0 ≡ false → ask (stepped machine (beginning size) (Bytes (n ∷ []))) ≡ Say (refused_line 0 (start_number size n))
unfolding stepped ask heard heard_read next begins_with begun
start_refused size n h = rw h refl

-- Errors.
fails_on_read : (s : State) (most : ℕ) (a : Answer) → ask s ≡ Read most → heard (Read most) a ≡ Failed → ask (stepped machine s a) ≡ Fail input_name
unfolding stepped ask next
fails_on_read s most a e f = asking (λ (x : State). heard (ask x) a ≡ Failed → ask (stepped machine x a) ≡ Fail input_name)
    (λ size g. rw g refl)
    (λ p g. rw g refl)
    s most e (ap (λ (r : Request). heard r a) e ∙ f)

fails_on_write : (s : State) (text : List ℕ) (a : Answer) → ask s ≡ Write text → heard (Write text) a ≡ Failed → ask (stepped machine s a) ≡ Fail output_name
unfolding stepped ask next
fails_on_write counting text a e f = cc
fails_on_write naming text a e f = cc
fails_on_write (beginning size) text a e f = cc
fails_on_write (writing out lines p) text a e f = rw (ap (λ (r : Request). heard r a) e ∙ f) refl
fails_on_write (reporting lines p) text a e f = cc
fails_on_write (reading p) text a e f = cc
fails_on_write (ending text') text a e f = cc
fails_on_write (failing text') text a e f = cc
fails_on_write stopped text a e f = cc

after_failure : (s : State) (text : List ℕ) (a : Answer) → ask s ≡ Fail text → ask (stepped machine s a) ≡ Stop
unfolding stepped ask next
after_failure counting text a e = cc
after_failure naming text a e = cc
after_failure (beginning size) text a e = cc
after_failure (writing out lines p) text a e = cc
after_failure (reporting lines p) text a e = cc
after_failure (reading p) text a e = cc
after_failure (ending text') text a e = cc
after_failure (failing text') text a e = refl
after_failure stopped text a e = cc

after_text : (text : List ℕ) (a : Answer) → ask (stepped machine (to_end_of text) a) ≡ Stop
unfolding stepped ask next to_end_of
after_text [] a = refl
after_text (b ∷ text) a = refl

after_end : (s : State) (most : ℕ) (a : Answer) → ask s ≡ Read most → ask (stepped machine (stepped machine s End) a) ≡ Stop
unfolding stepped ask next heard heard_read
after_end s most a e = asking (λ (x : State). ask (stepped machine (stepped machine x End) a) ≡ Stop)
    (λ size. refl)
    (λ p. after_text (end_line p.standing.done p.rest) a)
    s most e

all_stops : (answers : List Answer) → 4 + 3 * length (read_of (exchanges machine answers)) ≤ length (exchanges machine answers) → ask (state_after machine answers) ≡ Stop
all_stops answers h =
    let s = state_after machine answers in
    by_bool (ltb (rank s) 1) (λ t. no_rank s (ltb-true (rank s) 1 t)) (λ t. absurd (omega (arith, h, counts answers (ltb-false (rank s) 1 t), ltb-false (rank s) 1 t)))

pub records_its_input : RecordsItsInput
records_its_input = record {
  written = λ answers. written_is machine answers ∙ all_written (state_after machine answers) (exchanges machine answers) (stands answers);
  reported = λ answers most e. error_text_is machine answers ∙ all_reported (state_after machine answers) (exchanges machine answers) most (stands answers) e;
  ended = λ answers most e. all_ended (state_after machine answers) (exchanges machine answers) most (stands answers) e;
  refused = start_refused;
  reads = λ answers most e. all_read (state_after machine answers) (exchanges machine answers) most (stands answers) e;
  input_fails = fails_on_read;
  output_fails = fails_on_write;
  stops_after = after_failure;
  stops_at_end = after_end;
  stops = all_stops;
  ends = machine_ends;
}
