-- What the machine does with every list of answers.
-- Assumes nothing.
use Rattle.std.specs.Prelude.{◌≡◌, ◌∷◌, ◌++◌, ◌+◌, ◌-◌, ◌*◌, ◌/◌, ◌%◌, ◌≤◌, ◌<◌}
use Rattle.laws.specs.Basics.{refl, sym, ◌∙◌, ap, Bool, true, false, List, [], append-nil, append_assoc, ℕ, arith, eqb, ltb, length, get_or, length-append, ltb-true, ltb-false, pick, by_bool}
use Rattle.laws.specs.Tests.{some_of}
use native.Mathlib.Numerals.{add-one}
use Rattle.model.specs.declared.{Run.Run, Refusal.TheVariants.NoFirstByte, Refusal.TheVariants.LeftOverBytes}
use Rattle.machines.specs.Machines.{Request, Read, Write, Answer, Bytes, End, Done, Failed, Exchange, heard, heard_read, heard_done, stepped, exchanged, state_after, exchanges, written, error_text, written_of, error_text_of, brought, read_by, read_of, gathered, is_end, end_met, failed, failure, requests_of}
use Rattle.machines.proofs.{Runs.throughout, Runs.written_is, Runs.error_text_is, Runs.stops, Answers.by_read, Answers.by_done, Leading.read_size}
use Rattle.machines.proofs.Reporting.{Account, printed_in, more, reads, ends, writes, same_read, same_end, Fine, InWriting, InFailing, InStopped, fine_on, failed_read, failed_write, done_write, after_fail, after_stop, fine_says, failing_says}
use Rattle.machine_console.specs.Made.{made_on, opened}
use Rattle.machine_console.specs.Text.{first_call, call_text, line_text, refused_text, refused_at, call_lines, run_after, left_over_of, lines_of, facts_of}
use Rattle.machine_console.specs.Consoling.{most_calls, input_name, output_name, Between, State, Opening, Reading, Printing, Ending, Failing, Stopped, ask, next, begun, after_first_of, called, onward, at_end, after_read_of, further_on, after_write_of, consoling, failures, facts_so_far, is_open, ConsolesAlways}
use Rattle.machine_console.proofs.{Lines.lines_front, Lines.one_line, Lines.one_run, Lines.whole_calls, Lines.left_over, Ending.consoling_ends}

-- The facts of what was read: of a whole script once the input has ended, of its whole calls before.
abbrev account : Account
account = record { input = input_name; output = output_name; shown = λ (ended : Bool) (script : List ℕ). pick ended (facts_of script) (lines_of script) }

-- Nothing is reported so far, nothing failed, and the input has not ended.
record Quiet (talk : List Exchange) : Type 0 where
  fine : Fine account talk
  unended : end_met talk ≡ false

quiet_on : (talk : List Exchange) (r : Request) (a : Answer) → Quiet talk → error_text r ≡ [] → failure input_name output_name r a ≡ [] → is_end a ≡ false → Quiet (more talk r a)
quiet_on talk r a quiet s f on = record { fine = fine_on account talk r a quiet.fine s f; unended = same_end talk r a on ∙ quiet.unended }

-- What was read: a first byte that starts a run, whole calls, and bytes of the next.
record Reads (talk : List Exchange) (b : Between) : Type 0 where
  n : ℕ
  front : List ℕ
  read : read_of talk ≡ n ∷ (front ++ b.buffered)
  whole : length front ≡ 8 * b.done
  short : length b.buffered < 8
  starts : eqb (refused_at n) 0 ≡ true
  run : b.run ≡ run_after b.done (opened n).run front

record InOpening (talk : List Exchange) : Type 0 where
  none : read_of talk ≡ []
  silent : printed_in talk ≡ []
  quiet : Quiet talk

record InReading (b : Between) (talk : List Exchange) : Type 0 where
  reads : Reads talk b
  more : b.done < most_calls
  right : printed_in talk ≡ call_lines b.done 0 (opened reads.n).run reads.front
  quiet : Quiet talk

record InPrinting (line : List ℕ) (b : Between) (talk : List Exchange) : Type 0 where
  reads : Reads talk b
  right : printed_in talk ++ line ≡ call_lines b.done 0 (opened reads.n).run reads.front
  quiet : Quiet talk

abbrev Holds : State → List Exchange → Type 0
Holds Opening talk = InOpening talk
Holds (Reading b) talk = InReading b talk
Holds (Printing line b) talk = InPrinting line b talk
Holds (Ending line) talk = InWriting account line talk
Holds (Failing name) talk = InFailing account name talk
Holds Stopped talk = InStopped account talk

-- The lines of what was read, so far.
lines_are : (talk : List Exchange) (b : Between) (r : Reads talk b) → lines_of (read_of talk) ≡ call_lines b.done 0 (opened r.n).run r.front
unfolding lines_of
lines_are talk b r =
    let size : length (r.front ++ b.buffered) / 8 ≡ b.done = whole_calls b.done (length b.buffered) (length (r.front ++ b.buffered)) (length-append r.front b.buffered ∙ omega (arith, r.whole)) r.short in
    rw (r.read, r.starts, size) (lines_front b.done 0 (opened r.n).run r.front b.buffered (omega (arith, r.whole)))

so_far : (talk : List Exchange) (b : Between) (r : Reads talk b) → end_met talk ≡ false → facts_so_far talk ≡ call_lines b.done 0 (opened r.n).run r.front
so_far talk b r e = rw e (lines_are talk b r)

-- At the end what is left over is added.
at_end_lem : (talk : List Exchange) (b : Between) (r : Reads talk b) → end_met talk ≡ true
    → facts_so_far talk ≡ call_lines b.done 0 (opened r.n).run r.front ++ left_over_of b.done (length b.buffered)
unfolding facts_of
at_end_lem talk b r e =
    let size : length (r.front ++ b.buffered) ≡ 8 * b.done + length b.buffered = length-append r.front b.buffered ∙ omega (arith, r.whole) in
    let calls : length (r.front ++ b.buffered) / 8 ≡ b.done = whole_calls b.done (length b.buffered) (length (r.front ++ b.buffered)) size r.short in
    let over : length (r.front ++ b.buffered) % 8 ≡ length b.buffered = left_over b.done (length b.buffered) (length (r.front ++ b.buffered)) size r.short in
    let lines : lines_of (r.n ∷ (r.front ++ b.buffered)) ≡ call_lines b.done 0 (opened r.n).run r.front = ap lines_of (sym r.read) ∙ lines_are talk b r in
    rw (e, r.read, r.starts, calls, over, lines)

-- The first byte.
module _ (talk : List Exchange) (h : InOpening talk) where
  unread : (a : Answer) → printed_in (more talk (Read 1) a) ≡ []
  unfolding written
  unread a = writes talk (Read 1) a ∙ append-nil (printed_in talk) ∙ h.silent

  open_failed : InFailing account input_name (more talk (Read 1) Failed)
  unfolding lines_of
  open_failed = failed_read account talk 1 h.quiet.fine (h.silent ∙ sym (rw (h.quiet.unended, h.none)))

  open_ended : InWriting account (refused_text 0 NoFirstByte) (more talk (Read 1) End)
  unfolding error_text failure failed read_by brought is_end facts_of
  open_ended = record {
    right =
        ap (λ (x : List ℕ). x ++ refused_text 0 NoFirstByte) (unread End)
        ∙ sym (rw (ends talk (Read 1) End, h.quiet.unended, reads talk (Read 1) End, h.none));
    quiet = fine_on account talk (Read 1) End h.quiet.fine refl refl;
  }

  module _ (l : List ℕ) (one : length l ≡ 1) where
    only : (k : List ℕ) → length k ≡ 1 → k ≡ get_or k 0 0 ∷ []
    only [] e = absurd (omega (arith, e))
    only (x ∷ []) e = refl
    only (x ∷ y ∷ k) e = absurd (omega (arith, e))

    first_read : read_of (more talk (Read 1) (Bytes l)) ≡ get_or l 0 0 ∷ []
    unfolding read_by brought
    first_read = reads talk (Read 1) (Bytes l) ∙ ap (λ (x : List ℕ). x ++ l) h.none ∙ only l one

    open_quiet : Quiet (more talk (Read 1) (Bytes l))
    unfolding failure failed error_text is_end
    open_quiet = quiet_on talk (Read 1) (Bytes l) h.quiet refl refl refl

    open_begun : Holds (begun (get_or l 0 0)) (more talk (Read 1) (Bytes l))
    unfolding begun call_lines run_after lines_of
    open_begun =
        by_bool (eqb (refused_at (get_or l 0 0)) 0)
        (λ e. rw e (record {
          reads = record { n = get_or l 0 0; front = []; read = first_read; whole = refl; short = omega arith; starts = e; run = refl };
          more = omega arith;
          right = unread (Bytes l);
          quiet = open_quiet;
        }))
        (λ e. rw e (record {
          right =
              ap (λ (x : List ℕ). x ++ line_text 0 (refused_at (get_or l 0 0)) []) (unread (Bytes l))
              ∙ sym (rw (open_quiet.unended, first_read, e));
          quiet = open_quiet.fine;
        }))

  after_first : (a : Answer) → Holds (after_first_of (heard_read 1 a)) (more talk (Read 1) (heard_read 1 a))
  unfolding after_first_of
  after_first a =
      by_read (λ (x : Answer). Holds (after_first_of x) (more talk (Read 1) x)) open_failed 1 (λ l some few. open_begun l (omega (arith, some, few))) open_ended a

-- Bytes of a call.
module _ (b : Between) (talk : List Exchange) (most : ℕ) (fits : most ≡ 8 - length b.buffered) (h : InReading b talk) where
  printed_same : (a : Answer) → printed_in (more talk (Read most) a) ≡ printed_in talk
  unfolding written
  printed_same a = writes talk (Read most) a ∙ append-nil (printed_in talk)

  end_reads : Reads (more talk (Read most) End) b
  unfolding read_by brought
  end_reads = let r = h.reads in record {
    n = r.n;
    front = r.front;
    read = reads talk (Read most) End ∙ append-nil (read_of talk) ∙ r.read;
    whole = r.whole;
    short = r.short;
    starts = r.starts;
    run = r.run;
  }

  ended : end_met (more talk (Read most) End) ≡ true
  unfolding is_end
  ended = ends talk (Read most) End ∙ rw h.quiet.unended

  facts_end : facts_so_far (more talk (Read most) End) ≡ printed_in talk ++ left_over_of b.done (length b.buffered)
  unfolding end_reads
  facts_end = at_end_lem (more talk (Read most) End) b end_reads ended ∙ ap (λ (x : List ℕ). x ++ left_over_of b.done (length b.buffered)) (sym h.right)

  still_fine : Fine account (more talk (Read most) End)
  unfolding failure failed error_text
  still_fine = fine_on account talk (Read most) End h.quiet.fine refl refl

  ended_read : Holds (at_end b) (more talk (Read most) End)
  unfolding at_end left_over_of
  ended_read =
      by_bool (eqb (length b.buffered) 0)
      (λ e. rw e (record {
        why = still_fine.mute ∙ sym still_fine.fine;
        right = printed_same End ∙ sym (append-nil (printed_in talk)) ∙ sym (facts_end ∙ rw e);
      }))
      (λ e. rw e (record {
        right = ap (λ (x : List ℕ). x ++ refused_text (b.done + 1) LeftOverBytes) (printed_same End) ∙ sym (facts_end ∙ rw e);
        quiet = still_fine;
      }))

  module _ (l : List ℕ) (few : length l ≤ most) where
    abbrev after : Between
    after = record { done = b.done; run = b.run; buffered = b.buffered ++ l }

    now_read : read_of (more talk (Read most) (Bytes l)) ≡ h.reads.n ∷ (h.reads.front ++ (b.buffered ++ l))
    unfolding read_by brought
    now_read =
        reads talk (Read most) (Bytes l)
        ∙ ap (λ (x : List ℕ). x ++ l) h.reads.read
        ∙ ap (λ (x : List ℕ). h.reads.n ∷ x) (append_assoc h.reads.front b.buffered l)

    read_quiet : Quiet (more talk (Read most) (Bytes l))
    unfolding failure failed error_text is_end
    read_quiet = quiet_on talk (Read most) (Bytes l) h.quiet refl refl refl

    going : length (b.buffered ++ l) < 8 → InReading after (more talk (Read most) (Bytes l))
    going few = let r = h.reads in record {
      reads = record { n = r.n; front = r.front; read = now_read; whole = r.whole; short = few; starts = r.starts; run = r.run };
      more = h.more;
      right = printed_same (Bytes l) ∙ h.right;
      quiet = read_quiet;
    }

    call_made : 8 ≤ length (b.buffered ++ l) → Holds (called after) (more talk (Read most) (Bytes l))
    unfolding called
    call_made whole =
        let r = h.reads in
        let eight : length (b.buffered ++ l) ≡ 8 = omega (arith, length-append b.buffered l, whole, few, fits, r.short) in
        let s = (opened r.n).run in
        let x = b.buffered ++ l in
        let from-none : b.done ≡ 0 + b.done = omega arith in
        record {
          reads = record {
            n = r.n;
            front = r.front ++ x;
            read = now_read ∙ ap (λ (k : List ℕ). r.n ∷ k) (sym (append-nil (r.front ++ x)));
            whole = length-append r.front x ∙ omega (arith, r.whole, eight);
            short = omega arith;
            starts = r.starts;
            run = ap (λ (z : Run). (made_on z (first_call x)).run) r.run ∙ sym (one_run b.done s r.front x r.whole) ∙ ap (λ (k : ℕ). run_after k s (r.front ++ x)) (sym (add-one b.done));
          };
          right =
              ap (λ (t : List ℕ). t ++ call_text (b.done + 1) b.run (first_call x)) (printed_same (Bytes l) ∙ h.right)
              ∙ ap (λ (z : Run). call_lines b.done 0 s r.front ++ call_text (b.done + 1) z (first_call x)) r.run
              ∙ ap (λ (k : ℕ). call_lines b.done 0 s r.front ++ call_text (k + 1) (run_after b.done s r.front) (first_call x)) from-none
              ∙ sym (one_line b.done 0 s r.front x r.whole)
              ∙ ap (λ (k : ℕ). call_lines k 0 s (r.front ++ x)) (sym (add-one b.done));
          quiet = read_quiet;
        }

    onward_holds : Holds (onward after) (more talk (Read most) (Bytes l))
    unfolding onward
    onward_holds =
        by_bool (ltb (length (b.buffered ++ l)) 8)
        (λ e. rw e (going (ltb-true (length (b.buffered ++ l)) 8 e)))
        (λ e. rw e (call_made (ltb-false (length (b.buffered ++ l)) 8 e)))

  after_read : (a : Answer) → Holds (after_read_of b (heard_read most a)) (more talk (Read most) (heard_read most a))
  unfolding after_read_of
  after_read a =
      by_read (λ (x : Answer). Holds (after_read_of b x) (more talk (Read most) x))
      (failed_read account talk most h.quiet.fine (h.right ∙ sym (so_far talk b h.reads h.quiet.unended)))
      most (λ l some few. onward_holds l few) ended_read a

-- A line is written.
after_write : (line : List ℕ) (talk : List Exchange) → InWriting account line talk → (then : State) → Holds then (more talk (Write line) Done)
    → (a : Answer) → Holds (after_write_of then (heard_done a)) (more talk (Write line) (heard_done a))
unfolding after_write_of
after_write line talk h then k a = by_done (λ (x : Answer). Holds (after_write_of then x) (more talk (Write line) x)) (failed_write account line talk h) k a

-- After the line of a call there may be more.
module _ (line : List ℕ) (b : Between) (talk : List Exchange) (h : InPrinting line b talk) where
  facts_printed : InWriting account line talk
  facts_printed = record { right = h.right ∙ sym (so_far talk b h.reads h.quiet.unended); quiet = h.quiet.fine }

  on_reads : Reads (more talk (Write line) Done) b
  unfolding read_by
  on_reads = let r = h.reads in record {
    n = r.n;
    front = r.front;
    read = same_read talk (Write line) Done refl ∙ r.read;
    whole = r.whole;
    short = r.short;
    starts = r.starts;
    run = r.run;
  }

  further : Holds (further_on b) (more talk (Write line) Done)
  unfolding further_on written failure failed error_text is_end on_reads
  further =
      by_bool (ltb b.done most_calls)
      (λ e. rw e (record {
        reads = on_reads;
        more = ltb-true b.done most_calls e;
        right = writes talk (Write line) Done ∙ h.right;
        quiet = quiet_on talk (Write line) Done h.quiet refl refl refl;
      }))
      (λ e. rw e (done_write account line talk facts_printed))

-- So every answer keeps what holds,
holds_on : (s : State) (talk : List Exchange) (a : Answer) → Holds s talk → Holds (stepped consoling s a) (talk ++ (exchanged consoling s a ∷ []))
unfolding stepped ask next heard
holds_on Opening talk a h = after_first talk h a
holds_on (Reading b) talk a h = after_read b talk (8 - length b.buffered) refl h a
holds_on (Printing line b) talk a h = after_write line talk (facts_printed line b talk h) (further_on b) (further line b talk h) a
holds_on (Ending line) talk a h = after_write line talk h Stopped (done_write account line talk h) a
holds_on (Failing name) talk a h = after_fail account name talk h
holds_on Stopped talk a h = after_stop account talk h

-- and it holds before the first.
at_first : Holds Opening []
unfolding end_met some_of gathered read_of requests_of written_of error_text_of
at_first = record { none = refl; silent = refl; quiet = record { fine = record { mute = refl; fine = refl }; unended = refl } }

always : (answers : List Answer) → Holds (state_after consoling answers) (exchanges consoling answers)
always answers = throughout consoling Holds holds_on at_first answers

-- What follows in each state.
tells_in : (s : State) (talk : List Exchange) → Holds s talk → printed_in talk ++ written (ask s) ≡ facts_so_far talk
unfolding written ask lines_of
tells_in Opening talk h = append-nil (printed_in talk) ∙ h.silent ∙ sym (rw (h.quiet.unended, h.none))
tells_in (Reading b) talk h = append-nil (printed_in talk) ∙ h.right ∙ sym (so_far talk b h.reads h.quiet.unended)
tells_in (Printing line b) talk h = (facts_printed line b talk h).right
tells_in (Ending line) talk h = h.right
tells_in (Failing name) talk h = append-nil (printed_in talk) ∙ h.right
tells_in Stopped talk h = append-nil (printed_in talk) ∙ h.right

says_in : (s : State) (talk : List Exchange) → Holds s talk → error_text_of (requests_of talk) ++ error_text (ask s) ≡ failures talk
unfolding error_text ask
says_in Opening talk h = fine_says account talk h.quiet.fine
says_in (Reading b) talk h = fine_says account talk h.quiet.fine
says_in (Printing line b) talk h = fine_says account talk h.quiet.fine
says_in (Ending line) talk h = fine_says account talk h.quiet
says_in (Failing name) talk h = failing_says account name talk h
says_in Stopped talk h = append-nil (error_text_of (requests_of talk)) ∙ h.why

abbrev ReadsRight : List Exchange → ℕ → Type 0
ReadsRight talk most = (end_met talk ≡ false) × (is_open (read_of talk) ≡ true) × (failures talk ≡ []) × (length (read_of talk) + most ≤ 1 + 8 * most_calls)

within : (front buffered done most all : ℕ) → front ≡ 8 * done → buffered < 8 → 8 - buffered ≡ most → done < most_calls → all ≡ 1 + (front + buffered) → all + most ≤ 1 + 8 * most_calls
within front buffered done most all a b c d e = omega arith

reads_in : (s : State) (talk : List Exchange) (most : ℕ) → Holds s talk → ask s ≡ Read most → ReadsRight talk most
unfolding ask is_open
reads_in Opening talk most h e = (h.quiet.unended, rw h.none, h.quiet.fine.fine, rw h.none (omega (arith, read_size _ _ e)))
reads_in (Reading b) talk most h e =
    let r = h.reads in
    let all : length (read_of talk) ≡ 1 + (length r.front + length b.buffered) = ap length r.read ∙ omega (arith, length-append r.front b.buffered) in
    (h.quiet.unended, rw r.read r.starts, h.quiet.fine.fine, within (length r.front) (length b.buffered) b.done most (length (read_of talk)) r.whole r.short (read_size _ _ e) h.more all)
reads_in (Printing line b) talk most h e = absurd (let z : ◌≡◌ {A = ℕ} 0 1 = cc in omega arith)
reads_in (Ending line) talk most h e = absurd (let z : ◌≡◌ {A = ℕ} 0 1 = cc in omega arith)
reads_in (Failing name) talk most h e = absurd (let z : ◌≡◌ {A = ℕ} 0 1 = cc in omega arith)
reads_in Stopped talk most h e = absurd (let z : ◌≡◌ {A = ℕ} 0 1 = cc in omega arith)

pub consoles_always : ConsolesAlways
consoles_always answers = record {
  tells = written_is consoling answers ∙ tells_in (state_after consoling answers) (exchanges consoling answers) (always answers);
  reads = λ most e. reads_in (state_after consoling answers) (exchanges consoling answers) most (always answers) e;
  says = error_text_is consoling answers ∙ says_in (state_after consoling answers) (exchanges consoling answers) (always answers);
  stops = λ h. stops consoling consoling_ends answers h;
}
