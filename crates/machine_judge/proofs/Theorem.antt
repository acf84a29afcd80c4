-- What the machine does with every list of answers.
-- Assumes nothing.
use Rattle.std.specs.Prelude.{◌≡◌, ◌||◌, ◌∷◌, ◌++◌, ◌+◌, ◌≤◌}
use Rattle.laws.specs.Basics.{refl, sym, ◌∙◌, ap, Bool, false, List, [], append-nil, ℕ, arith, length, pick, by_bool}
use Rattle.laws.specs.Tests.{some_of}
use Rattle.machines.specs.Machines.{Read, Write, Answer, Bytes, End, Exchange, heard, heard_read, heard_done, stepped, exchanged, state_after, exchanges, written, error_text, written_of, error_text_of, brought, read_by, read_of, gathered, is_end, end_met, failed, failure, requests_of}
use Rattle.machines.proofs.{Runs.throughout, Runs.written_is, Runs.error_text_is, Runs.stops, Answers.by_read, Answers.by_done, Leading.read_size}
use Rattle.machines.proofs.Reporting.{Account, printed_in, more, reads, ends, writes, same_read, shown_in, Fine, InWriting, InFailing, InStopped, fine_on, failed_read, failed_write, done_write, after_fail, after_stop, fine_says, failing_says}
use Rattle.theory_patterns.specs.Verdicts.{verdict}
use Rattle.machine_judge.specs.Text.{verdict_text}
use Rattle.machine_judge.specs.Judging.{most_read, settled, input_name, output_name, wanted, State, Reading, Printing, Failing, Stopped, ask, next, onward, after_read_of, after_write_of, judging, is_whole, failures, JudgesAlways}
use Rattle.machine_judge.proofs.{Standing.wanted_fits, Ending.unsettled_short, Ending.judging_ends}

-- The line of the verdict, once all that counts was read.
abbrev account : Account
account = record { input = input_name; output = output_name; shown = λ (ended : Bool) (trace : List ℕ). pick (ended || settled trace) (verdict_text (verdict trace)) [] }

record InReading (trace : List ℕ) (talk : List Exchange) : Type 0 where
  all : read_of talk ≡ trace
  unsettled : settled trace ≡ false
  unended : end_met talk ≡ false
  silent : printed_in talk ≡ []
  quiet : Fine account talk

abbrev Holds : State → List Exchange → Type 0
Holds (Reading trace) talk = InReading trace talk
Holds (Printing line) talk = InWriting account line talk
Holds (Failing name) talk = InFailing account name talk
Holds Stopped talk = InStopped account talk

-- From a state in which bytes are read.
module _ (trace : List ℕ) (talk : List Exchange) (h : InReading trace talk) where
  nothing_yet : printed_in talk ≡ shown_in account talk
  nothing_yet = h.silent ∙ sym (rw (h.unended, h.all, h.unsettled))

  module _ (most : ℕ) where
    still_silent : (a : Answer) (text : List ℕ) → printed_in (more talk (Read most) a) ++ text ≡ text
    unfolding written
    still_silent a text = ap (λ (x : List ℕ). x ++ text) (writes talk (Read most) a ∙ ap (λ (x : List ℕ). x ++ []) h.silent)

    ended_read : InWriting account (verdict_text (verdict trace)) (more talk (Read most) End)
    unfolding read_by brought is_end error_text failure failed
    ended_read = record {
      right = still_silent End (verdict_text (verdict trace)) ∙ sym (rw (ends talk (Read most) End, h.unended, same_read talk (Read most) End refl, h.all));
      quiet = fine_on account talk (Read most) End h.quiet refl refl;
    }

    module _ (bytes : List ℕ) where
      brought_read : read_of (more talk (Read most) (Bytes bytes)) ≡ trace ++ bytes
      unfolding read_by brought
      brought_read = reads talk (Read most) (Bytes bytes) ∙ ap (λ (x : List ℕ). x ++ bytes) h.all

      still_unended : end_met (more talk (Read most) (Bytes bytes)) ≡ false
      unfolding is_end
      still_unended = ends talk (Read most) (Bytes bytes) ∙ ap (λ (b : Bool). b || false) h.unended

      still_quiet : Fine account (more talk (Read most) (Bytes bytes))
      unfolding error_text failure failed
      still_quiet = fine_on account talk (Read most) (Bytes bytes) h.quiet refl refl

      onward_holds : Holds (onward (trace ++ bytes)) (more talk (Read most) (Bytes bytes))
      unfolding onward
      onward_holds =
          by_bool (settled (trace ++ bytes))
          (λ e. rw e (record { right = still_silent (Bytes bytes) (verdict_text (verdict (trace ++ bytes))) ∙ sym (rw (still_unended, brought_read, e)); quiet = still_quiet }))
          (λ e. rw e (record {
            all = brought_read;
            unsettled = e;
            unended = still_unended;
            silent = sym (append-nil (printed_in (more talk (Read most) (Bytes bytes)))) ∙ still_silent (Bytes bytes) [];
            quiet = still_quiet;
          }))

    after_read : (a : Answer) → Holds (after_read_of trace (heard_read most a)) (more talk (Read most) (heard_read most a))
    unfolding after_read_of
    after_read a =
        by_read (λ (x : Answer). Holds (after_read_of trace x) (more talk (Read most) x)) (failed_read account talk most h.quiet nothing_yet) most
        (λ bytes some few. onward_holds bytes)
        ended_read a

after_write : (line : List ℕ) (talk : List Exchange) → InWriting account line talk → (a : Answer) → Holds (after_write_of (heard_done a)) (more talk (Write line) (heard_done a))
unfolding after_write_of
after_write line talk h a =
    by_done (λ (x : Answer). Holds (after_write_of x) (more talk (Write line) x)) (failed_write account line talk h) (done_write account line talk h) a

-- So every answer keeps what holds,
holds_on : (s : State) (talk : List Exchange) (a : Answer) → Holds s talk → Holds (stepped judging s a) (talk ++ (exchanged judging s a ∷ []))
unfolding stepped ask next heard
holds_on (Reading trace) talk a h = after_read trace talk h (wanted (length trace)) a
holds_on (Printing line) talk a h = after_write line talk h a
holds_on (Failing name) talk a h = after_fail account name talk h
holds_on Stopped talk a h = after_stop account talk h

-- and it holds before the first.
at_first : Holds (Reading []) []
unfolding settled end_met some_of gathered read_of requests_of written_of error_text_of
at_first = record { all = refl; unsettled = refl; unended = refl; silent = refl; quiet = record { mute = refl; fine = refl } }

always : (answers : List Answer) → Holds (state_after judging answers) (exchanges judging answers)
always answers = throughout judging Holds holds_on at_first answers

-- What follows in each state.
tells_in : (s : State) (talk : List Exchange) → Holds s talk → printed_in talk ++ written (ask s) ≡ shown_in account talk
unfolding written ask
tells_in (Reading trace) talk h = append-nil (printed_in talk) ∙ nothing_yet trace talk h
tells_in (Printing line) talk h = h.right
tells_in (Failing name) talk h = append-nil (printed_in talk) ∙ h.right
tells_in Stopped talk h = append-nil (printed_in talk) ∙ h.right

says_in : (s : State) (talk : List Exchange) → Holds s talk → error_text_of (requests_of talk) ++ error_text (ask s) ≡ failures talk
unfolding error_text ask
says_in (Reading trace) talk h = fine_says account talk h.quiet
says_in (Printing line) talk h = fine_says account talk h.quiet
says_in (Failing name) talk h = failing_says account name talk h
says_in Stopped talk h = append-nil (error_text_of (requests_of talk)) ∙ h.why

reads_in : (s : State) (talk : List Exchange) (most : ℕ) → Holds s talk → ask s ≡ Read most
    → (is_whole talk ≡ false) × (failures talk ≡ []) × (length (read_of talk) + most ≤ most_read)
unfolding ask
reads_in (Reading trace) talk most h e =
    let short = unsettled_short trace h.unsettled in
    (rw (h.unended, h.all, h.unsettled), h.quiet.fine, rw h.all (omega (arith, read_size _ _ e, wanted_fits (length trace) (omega (arith, short)))))
reads_in (Printing line) talk most h e = absurd (let z : ◌≡◌ {A = ℕ} 0 1 = cc in omega arith)
reads_in (Failing name) talk most h e = absurd (let z : ◌≡◌ {A = ℕ} 0 1 = cc in omega arith)
reads_in Stopped talk most h e = absurd (let z : ◌≡◌ {A = ℕ} 0 1 = cc in omega arith)

pub judges_always : JudgesAlways
judges_always answers = record {
  tells = written_is judging answers ∙ tells_in (state_after judging answers) (exchanges judging answers) (always answers);
  reads = λ most e. reads_in (state_after judging answers) (exchanges judging answers) most (always answers) e;
  says = error_text_is judging answers ∙ says_in (state_after judging answers) (exchanges judging answers) (always answers);
  stops = λ h. stops judging judging_ends answers h;
}
