-- What the machine does with every list of answers.
-- Assumes nothing.
use Rattle.std.specs.Prelude.{◌≡◌, ◌||◌, ◌∷◌, ◌++◌, ◌+◌, ◌≤◌, ◌<◌}
use Rattle.laws.specs.Basics.{refl, sym, ◌∙◌, ap, subst, Bool, true, false, List, [], append-nil, Option, None, Some, ℕ, zero, suc, arith, eqb, ltb, leb, length, take, replicate, length-append, eqb-false, ltb-true, ltb-false, le-leb, lt-leb, pick, by_bool}
use lib.Seq.{take-take}
use Rattle.laws.specs.Choice.{pick_same}
use Rattle.model.specs.laws.Refusals.{by_refusal}
use Rattle.machines.specs.programs.Numbers.{decimal_in, stands_for, number_in, no_number, at_most}
use Rattle.machines.specs.Machines.{Read, Write, Say, Fail, Stop, Answer, Failed, Exchange, heard, heard_count, heard_word, heard_read, heard_done, is_number, stepped, exchanged, state_after, exchanges, written, written_of, requests_of, brought}
use Rattle.machines.proofs.{Runs.throughout, Runs.written_next, Runs.written_is, Answers.by_word, Answers.by_read, Answers.by_done}
use Rattle.theory_merges.specs.Merge.{Taken, stopped, took, take_all, count_of, merge_refusal}
use Rattle.machine_merge.specs.Buffered.{most_kept_of, most_counted, buffered_size, buffered_of, wanted, keeping}
use Rattle.machine_merge.specs.Printed.{Printed, putting, printed}
use Rattle.machine_merge.specs.Merging.{usage, longest_word, longest_name, output_name, Stage, FirstHalf, SecondHalf, State, Counting, Setting, Naming, Opening, Reading, Writing, Reporting, Failing, Stopped, word_of_def, ask, shown, showing, half_read, ended, onward, after_count, after_set, after_name, after_open_of, after_read_of, after_write_of, next, merging}
use Rattle.machine_merge.specs.Promised.{Met, nothing, opened, grown, read_on, worded, met, met_in, whole_file, is_whole, merge_of, merged_of, trace_of, refusal_of, line_of, MergesAlways, SaysFailures}
use Rattle.machine_merge.proofs.{Standing.sized, Standing.refused_text_lem, Standing.printed_same, Sets.asked_set}

-- What is kept and counted of a file.
record Kept (file kept : List ℕ) (total : ℕ) : Type 0 where
  all : total ≡ length file
  front : kept ≡ take most_kept_of file

take_cut : (k : ℕ) (file more : List ℕ) → take k (take k file ++ more) ≡ take k (file ++ more)
take_cut zero file more = refl
take_cut (suc k) [] more = refl
take_cut (suc k) (x ∷ file) more = ap (λ (l : List ℕ). x ∷ l) (take_cut k file more)

kept_more : (file kept more : List ℕ) (total : ℕ) → Kept file kept total → Kept (file ++ more) (keeping kept more) (total + length more)
unfolding keeping
kept_more file kept more total h = record {
  all = omega (arith, h.all, length-append file more);
  front = ap (λ (l : List ℕ). take most_kept_of (l ++ more)) h.front ∙ take_cut most_kept_of file more;
}

buffered_is : (file kept : List ℕ) (total : ℕ) → Kept file kept total → take (buffered_size total) kept ≡ buffered_of file
unfolding buffered_of
buffered_is file kept total h =
    ap (take (buffered_size total)) h.front ∙ take-take (buffered_size total) most_kept_of file (sized total).most ∙ ap (λ (k : ℕ). take (buffered_size k) file) h.all

-- The set that a word is.
record SetOf (word : List ℕ) (set : ℕ) : Type 0 where
  whole : ℕ
  known : decimal_in word ≡ Some whole
  right : set ≡ at_most (number_in word)

known_by : (o : Option ℕ) → (stands_for o ≡ no_number → ⊥) → (whole : ℕ) × (o ≡ Some whole)
unfolding stands_for
known_by None h = absurd (h refl)
known_by (Some whole) h = (whole, refl)

set_known : (word : List ℕ) → eqb (number_in word) no_number ≡ false → SetOf word (at_most (number_in word))
unfolding number_in
set_known word e = let k = known_by (decimal_in word) (eqb-false (number_in word) no_number e) in record { whole = k.0; known = k.1; right = refl }

-- Before a file is opened, and once it is.
abbrev Before : Stage → Met → Type 0
Before (FirstHalf set) m = (m.files ≡ []) × SetOf m.word set
Before (SecondHalf set first) m = (file : List ℕ) × ((m.files ≡ file ∷ []) × ((first ≡ buffered_of file) × SetOf m.word set))

abbrev During : Stage → List ℕ → Met → Type 0
During (FirstHalf set) file m = (m.files ≡ file ∷ []) × SetOf m.word set
During (SecondHalf set first) file m = (one : List ℕ) × ((m.files ≡ file ∷ one ∷ []) × ((first ≡ buffered_of one) × SetOf m.word set))

record InReading (stage : Stage) (kept : List ℕ) (total : ℕ) (w : List ℕ) (m : Met) : Type 0 where
  file : List ℕ
  during : During stage file m
  keeps : Kept file kept total
  going : m.ended ≡ false
  short : total < most_counted
  silent : w ≡ []

-- What holds in each state of what was written and met.
abbrev Holds : State → List ℕ → Met → Type 0
Holds Counting w m = (w ≡ []) × (m.files ≡ [])
Holds Setting w m = (w ≡ []) × (m.files ≡ [])
Holds (Naming stage) w m = (w ≡ []) × Before stage m
Holds (Opening stage name) w m = (w ≡ []) × Before stage m
Holds (Reading stage name kept total) w m = InReading stage kept total w m
Holds (Writing trace) w m = (w ≡ []) × (trace ≡ trace_of m)
Holds (Reporting line) w m = (w ≡ trace_of m) × (line ≡ line_of m.files (decimal_in m.word))
Holds (Failing name) w m = w ≡ trace_of m
Holds Stopped w m = w ≡ trace_of m

-- Nothing is to be written before both files have ended.
no_trace : (m : Met) → m.files ≡ [] → trace_of m ≡ []
unfolding trace_of merged_of
no_trace m e = ap (λ (f : List (List ℕ)). pick (is_whole m) (merged_of f (decimal_in m.word)) []) e ∙ pick_same (is_whole m) []

one_trace : (m : Met) (file : List ℕ) → m.files ≡ file ∷ [] → trace_of m ≡ []
unfolding trace_of merged_of
one_trace m file e = ap (λ (f : List (List ℕ)). pick (is_whole m) (merged_of f (decimal_in m.word)) []) e ∙ pick_same (is_whole m) []

unended_trace : (m : Met) → is_whole m ≡ false → trace_of m ≡ []
unfolding trace_of
unended_trace m e = ap (λ (b : Bool). pick b (merged_of m.files (decimal_in m.word)) []) e

-- Before a file is opened nothing but how the program is started is said.
no_line : (m : Met) → m.files ≡ [] → usage ≡ line_of m.files (decimal_in m.word)
unfolding line_of
no_line m e = sym (ap (λ (f : List (List ℕ)). line_of f (decimal_in m.word)) e)

reported_usage : (w : List ℕ) (m : Met) → w ≡ [] → m.files ≡ [] → (w ≡ trace_of m) × (usage ≡ line_of m.files (decimal_in m.word))
reported_usage w m s e = (s ∙ sym (no_trace m e), no_line m e)

before_trace : (stage : Stage) (m : Met) → Before stage m → trace_of m ≡ []
before_trace (FirstHalf set) m h = no_trace m h.0
before_trace (SecondHalf set first) m h = one_trace m h.0 h.1.0

during_whole : (stage : Stage) (file : List ℕ) (m : Met) → During stage file m → whole_file m.files ≡ leb most_counted (length file)
unfolding whole_file
during_whole (FirstHalf set) file m h = ap whole_file h.0
during_whole (SecondHalf set first) file m h = ap whole_file h.1.0

reading_unended : (stage : Stage) (kept : List ℕ) (total : ℕ) (w : List ℕ) (m : Met) → InReading stage kept total w m → is_whole m ≡ false
unfolding is_whole
reading_unended stage kept total w m h =
    ap (λ (b : Bool). b || whole_file m.files) h.going
    ∙ during_whole stage h.file m h.during
    ∙ lt-leb most_counted (length h.file) (omega (arith, h.short, h.keeps.all))

-- A refusal is said, and then nothing is written.
abbrev Apart : Printed → Type 0
Apart p = (b : ℕ) (line : List ℕ) → p.refusal ≡ b ∷ line → p.trace ≡ []

putting_apart : (n : ℕ) (t : Taken) → Apart (putting n t)
unfolding putting
putting_apart n (stopped r) b line e = refl
putting_apart n (took taken) b line e = cc

printed_apart : (first second : List ℕ) (set : ℕ) → Apart (printed first second set)
unfolding printed
printed_apart first second set = by_refusal (merge_refusal first second set (replicate (length first + length second) 0))
    (λ e. rw e (putting_apart (count_of first) (take_all first second set)))
    (λ x e. subst Apart (sym (refused_text_lem first second set x e)) (λ b line d. refl))

shown_holds : (trace line w : List ℕ) (m : Met) → w ≡ [] → trace ≡ trace_of m → line ≡ line_of m.files (decimal_in m.word) → ((b : ℕ) (rest : List ℕ) → line ≡ b ∷ rest → trace ≡ []) → Holds (shown trace line) w m
unfolding shown
shown_holds trace [] w m s t l apart = (s, t)
shown_holds trace (b ∷ line) w m s t l apart = (s ∙ sym (apart b line refl) ∙ t, l)

-- Both files have ended.
module _ (m : Met) (one file : List ℕ) (set : ℕ) (files : m.files ≡ file ∷ one ∷ []) (known : SetOf m.word set) (done : is_whole m ≡ true) where
  trace_is : (printed one file known.whole).trace ≡ trace_of m
  unfolding trace_of merged_of merge_of
  trace_is = sym (
      ap (λ (b : Bool). pick b (merged_of m.files (decimal_in m.word)) []) done
      ∙ ap (λ (f : List (List ℕ)). merged_of f (decimal_in m.word)) files
      ∙ ap (λ (o : Option ℕ). merged_of (file ∷ one ∷ []) o) known.known
      )

  line_is : (printed one file known.whole).refusal ≡ line_of m.files (decimal_in m.word)
  unfolding line_of refusal_of
  line_is = sym (
      ap (λ (f : List (List ℕ)). line_of f (decimal_in m.word)) files
      ∙ ap (λ (o : Option ℕ). line_of (file ∷ one ∷ []) o) known.known
      )

  print_is : (first half : List ℕ) → first ≡ buffered_of one → half ≡ buffered_of file → printed first half set ≡ printed one file known.whole
  print_is first half e f =
      ap (λ (l : List ℕ). printed l half set) e
      ∙ ap (λ (l : List ℕ). printed (buffered_of one) l set) f
      ∙ printed_same one file set
      ∙ ap (printed one file) known.right
      ∙ asked_set one file m.word known.whole known.known

  both_hold : (first half w : List ℕ) → first ≡ buffered_of one → half ≡ buffered_of file → w ≡ [] → Holds (showing (printed first half set)) w m
  unfolding showing
  both_hold first half w e f s =
      subst (λ (p : Printed). Holds (showing p) w m) (sym (print_is first half e f))
      (shown_holds (printed one file known.whole).trace (printed one file known.whole).refusal w m s trace_is line_is (printed_apart one file known.whole))

ended_holds : (stage : Stage) (file kept : List ℕ) (total : ℕ) (w : List ℕ) (m : Met) → During stage file m → Kept file kept total → w ≡ [] → is_whole m ≡ true
    → Holds (ended stage kept total) w m
unfolding half_read
ended_holds (FirstHalf set) file kept total w m h k s done = (s, (file, (h.0, (buffered_is file kept total k, h.1))))
ended_holds (SecondHalf set first) file kept total w m h k s done =
    both_hold m h.0 file set h.1.0 h.1.1.1 done first (take (buffered_size total) kept) w h.1.1.0 (buffered_is file kept total k) s

-- One answer more, in each state.
after_count_lem : (w : List ℕ) (m : Met) (a : Answer) → (w ≡ []) × (m.files ≡ []) → Holds (after_count a) w m
unfolding after_count
after_count_lem w m a h = by_bool (is_number a 4) (λ e. rw e h) (λ e. rw e (reported_usage w m h.0 h.1))

after_set_lem : (w : List ℕ) (m : Met) (a : Answer) → (w ≡ []) × (m.files ≡ []) → Holds (after_set (heard_word longest_word a)) w (worded m 3 (heard_word longest_word a))
unfolding after_set worded brought
after_set_lem w m a h =
    by_word (λ (x : Answer). Holds (after_set x) w (worded m 3 x)) (reported_usage w (record { word = []; files = m.files; ended = m.ended }) h.0 h.1) longest_word
    (λ word few. by_bool (eqb (number_in word) no_number)
    (λ e. rw e (reported_usage w (record { word = word; files = m.files; ended = m.ended }) h.0 h.1))
    (λ e. rw e (h.0, (h.1, set_known word e))))
    a

other_word : (stage : Stage) (m : Met) (a : Answer) → worded m (word_of_def stage) a ≡ m
unfolding worded word_of_def
other_word (FirstHalf set) m a = refl
other_word (SecondHalf set first) m a = refl

module _ (stage : Stage) (w : List ℕ) (m : Met) (h : (w ≡ []) × Before stage m) where
  unwritten : w ≡ trace_of m
  unwritten = h.0 ∙ sym (before_trace stage m h.1)

  after_name_lem : (a : Answer) → Holds (after_name stage (heard_word longest_name a)) w m
  unfolding after_name
  after_name_lem a = by_word (λ (x : Answer). Holds (after_name stage x) w m) unwritten longest_name (λ name few. h) a

opens : (stage : Stage) (m : Met) → Before stage m → During stage [] (record { word = m.word; files = [] ∷ m.files; ended = false })
opens (FirstHalf set) m h = (ap (λ (f : List (List ℕ)). [] ∷ f) h.0, h.1)
opens (SecondHalf set first) m h = (h.0, (ap (λ (f : List (List ℕ)). [] ∷ f) h.1.0, h.1.1))

after_open : (stage : Stage) (name w : List ℕ) (m : Met) (a : Answer) → (w ≡ []) × Before stage m → Holds (after_open_of stage name (heard_done a)) w (opened m (heard_done a))
unfolding after_open_of opened
after_open stage name w m a h =
    by_done (λ (x : Answer). Holds (after_open_of stage name x) w (opened m x)) (unwritten stage w m h)
    (record {
      file = [];
      during = opens stage m h.1;
      keeps = record { all = refl; front = refl };
      going = refl;
      short = omega arith;
      silent = h.0;
    })
    a

grows : (stage : Stage) (file more : List ℕ) (m : Met) → During stage file m → During stage (file ++ more) (record { word = m.word; files = grown m.files more; ended = m.ended })
unfolding grown
grows (FirstHalf set) file more m h = (ap (λ (f : List (List ℕ)). grown f more) h.0, h.1)
grows (SecondHalf set first) file more m h = (h.0, (ap (λ (f : List (List ℕ)). grown f more) h.1.0, h.1.1))

module _ (stage : Stage) (name kept : List ℕ) (total : ℕ) (w : List ℕ) (m : Met) (h : InReading stage kept total w m) where
  unread : w ≡ trace_of m
  unread = h.silent ∙ sym (unended_trace m (reading_unended stage kept total w m h))

  module _ (more : List ℕ) where
    abbrev grown_met : Met
    grown_met = record { word = m.word; files = grown m.files more; ended = m.ended }

    kept_on : Kept (h.file ++ more) (keeping kept more) (total + length more)
    kept_on = kept_more h.file kept more total h.keeps

    by_count : most_counted ≤ total + length more → is_whole grown_met ≡ true
    unfolding is_whole
    by_count far =
        ap (λ (b : Bool). b || whole_file (grown m.files more)) h.going
        ∙ during_whole stage (h.file ++ more) grown_met (grows stage h.file more m h.during)
        ∙ le-leb most_counted (length (h.file ++ more)) (omega (arith, far, kept_on.all))

    onward_holds : Holds (onward stage name (keeping kept more) (total + length more)) w grown_met
    unfolding onward
    onward_holds =
        by_bool (ltb (total + length more) most_counted)
        (λ e. rw e (record {
          file = h.file ++ more;
          during = grows stage h.file more m h.during;
          keeps = kept_on;
          going = h.going;
          short = ltb-true (total + length more) most_counted e;
          silent = h.silent;
        }))
        (λ e. rw e (ended_holds stage (h.file ++ more) (keeping kept more) (total + length more) w grown_met (grows stage h.file more m h.during) kept_on h.silent
        (by_count (ltb-false (total + length more) most_counted e))))

  abbrev ended_met : Met
  ended_met = record { word = m.word; files = m.files; ended = true }

  still : (st : Stage) (file : List ℕ) → During st file m → During st file ended_met
  still (FirstHalf set) file d = d
  still (SecondHalf set first) file d = d

  ended_met_lem : is_whole ended_met ≡ true
  unfolding is_whole
  ended_met_lem = refl

  after_read : (most : ℕ) (a : Answer) → Holds (after_read_of stage name kept total (heard_read most a)) w (read_on m (heard_read most a))
  unfolding after_read_of read_on
  after_read most a =
      by_read (λ (x : Answer). Holds (after_read_of stage name kept total x) w (read_on m x)) unread most
      (λ more Some few. onward_holds more)
      (ended_holds stage h.file kept total w ended_met (still stage h.file h.during) h.keeps h.silent ended_met_lem)
      a

after_write : (trace w : List ℕ) (m : Met) (a : Answer) → (w ≡ []) × (trace ≡ trace_of m) → Holds (after_write_of (heard_done a)) (w ++ trace) m
unfolding after_write_of
after_write trace w m a h =
    let all = ap (λ (x : List ℕ). x ++ trace) h.0 ∙ h.1 in
    by_done (λ (x : Answer). Holds (after_write_of x) (w ++ trace) m) all all a

-- So every answer keeps what holds.
unwritten_on : (s : State) (w : List ℕ) (m : Met) → Holds s w m → Holds s (w ++ []) m
unwritten_on s w m h = subst (λ (x : List ℕ). Holds s x m) (sym (append-nil w)) h

step_holds : (s : State) (w : List ℕ) (m : Met) (a : Answer) → Holds s w m → Holds (stepped merging s a) (w ++ written (ask s)) (met m (ask s) (heard (ask s) a))
unfolding stepped ask next heard met written
step_holds Counting w m a h = unwritten_on (after_count (heard_count a)) w m (after_count_lem w m (heard_count a) h)
step_holds Setting w m a h = unwritten_on (after_set (heard_word longest_word a)) w (worded m 3 (heard_word longest_word a)) (after_set_lem w m a h)
step_holds (Naming stage) w m a h =
    unwritten_on (after_name stage (heard_word longest_name a)) w (worded m (word_of_def stage) (heard_word longest_name a))
    (subst (Holds (after_name stage (heard_word longest_name a)) w) (sym (other_word stage m (heard_word longest_name a))) (after_name_lem stage w m h a))
step_holds (Opening stage name) w m a h = unwritten_on (after_open_of stage name (heard_done a)) w (opened m (heard_done a)) (after_open stage name w m a h)
step_holds (Reading stage name kept total) w m a h =
    unwritten_on (after_read_of stage name kept total (heard_read (wanted total) a)) w (read_on m (heard_read (wanted total) a))
    (after_read stage name kept total w m h (wanted total) a)
step_holds (Writing trace) w m a h = after_write trace w m a h
step_holds (Reporting line) w m a h = append-nil w ∙ h.0
step_holds (Failing name) w m a h = append-nil w ∙ h
step_holds Stopped w m a h = append-nil w ∙ h

met_then : (m : Met) (talk : List Exchange) (e : Exchange) → met_in m (talk ++ (e ∷ [])) ≡ met (met_in m talk) e.request e.answer
unfolding met_in
met_then m [] e = refl
met_then m (d ∷ talk) e = met_then (met m d.request d.answer) talk e

abbrev HoldsOf : State → List Exchange → Type 0
HoldsOf s talk = Holds s (written_of (requests_of talk)) (met_in nothing talk)

holds_on : (s : State) (talk : List Exchange) (a : Answer) → HoldsOf s talk → HoldsOf (stepped merging s a) (talk ++ (exchanged merging s a ∷ []))
holds_on s talk a h =
    subst (λ (w : List ℕ). Holds (stepped merging s a) w (met_in nothing (talk ++ (exchanged merging s a ∷ [])))) (sym (written_next talk (exchanged merging s a)))
    (subst (Holds (stepped merging s a) (written_of (requests_of talk) ++ written (ask s))) (sym (met_then nothing talk (exchanged merging s a)))
    (step_holds s (written_of (requests_of talk)) (met_in nothing talk) a h))

at_first : HoldsOf Counting []
unfolding requests_of written_of met_in
at_first = (refl, refl)

always : (answers : List Answer) → HoldsOf (state_after merging answers) (exchanges merging answers)
always answers = throughout merging HoldsOf holds_on at_first answers

-- What follows in each state.
writes_in : (s : State) (w : List ℕ) (m : Met) → Holds s w m → w ++ written (ask s) ≡ trace_of m
unfolding written ask
writes_in Counting w m h = append-nil w ∙ h.0 ∙ sym (no_trace m h.1)
writes_in Setting w m h = append-nil w ∙ h.0 ∙ sym (no_trace m h.1)
writes_in (Naming stage) w m h = append-nil w ∙ unwritten stage w m h
writes_in (Opening stage name) w m h = append-nil w ∙ unwritten stage w m h
writes_in (Reading stage name kept total) w m h = append-nil w ∙ unread stage name kept total w m h
writes_in (Writing trace) w m h = ap (λ (x : List ℕ). x ++ trace) h.0 ∙ h.1
writes_in (Reporting line) w m h = append-nil w ∙ h.0
writes_in (Failing name) w m h = append-nil w ∙ h
writes_in Stopped w m h = append-nil w ∙ h

reads_in : (s : State) (w : List ℕ) (m : Met) (most : ℕ) → Holds s w m → ask s ≡ Read most → is_whole m ≡ false
unfolding ask
reads_in Counting w m most h e = cc
reads_in Setting w m most h e = cc
reads_in (Naming stage) w m most h e = cc
reads_in (Opening stage name) w m most h e = cc
reads_in (Reading stage name kept total) w m most h e = reading_unended stage kept total w m h
reads_in (Writing trace) w m most h e = cc
reads_in (Reporting line) w m most h e = cc
reads_in (Failing name) w m most h e = cc
reads_in Stopped w m most h e = cc

same_line : (line text : List ℕ) → Say line ≡ Say text → line ≡ text
same_line line text e = cc

says_in : (s : State) (w : List ℕ) (m : Met) (text : List ℕ) → Holds s w m → ask s ≡ Say text → text ≡ line_of m.files (decimal_in m.word)
unfolding ask
says_in Counting w m text h e = cc
says_in Setting w m text h e = cc
says_in (Naming stage) w m text h e = cc
says_in (Opening stage name) w m text h e = cc
says_in (Reading stage name kept total) w m text h e = cc
says_in (Writing trace) w m text h e = cc
says_in (Reporting line) w m text h e = sym (same_line line text e) ∙ h.1
says_in (Failing name) w m text h e = cc
says_in Stopped w m text h e = cc

pub merges_always : MergesAlways
merges_always answers =
    let s = state_after merging answers in
    let talk = exchanges merging answers in
    let w = written_of (requests_of talk) in
    let m = met_in nothing talk in
    record {
      writes = written_is merging answers ∙ writes_in s w m (always answers);
      says = λ line e. says_in s w m line (always answers) e;
      reads = λ most e. reads_in s w m most (always answers) e;
    }

-- A write that failed is said, and after what is said comes nothing.
write_failed : (s : State) (text : List ℕ) (a : Answer) → ask s ≡ Write text → heard (Write text) a ≡ Failed → ask (stepped merging s a) ≡ Fail output_name
unfolding stepped ask next heard after_write_of
write_failed Counting text a e f = cc
write_failed Setting text a e f = cc
write_failed (Naming stage) text a e f = cc
write_failed (Opening stage name) text a e f = cc
write_failed (Reading stage name kept total) text a e f = cc
write_failed (Writing trace) text a e f = ap (λ (x : Answer). ask (after_write_of x)) f
write_failed (Reporting line) text a e f = cc
write_failed (Failing name) text a e f = cc
write_failed Stopped text a e f = cc

fail_stops : (s : State) (text : List ℕ) (a : Answer) → ask s ≡ Fail text → ask (stepped merging s a) ≡ Stop
unfolding stepped ask next
fail_stops Counting text a e = cc
fail_stops Setting text a e = cc
fail_stops (Naming stage) text a e = cc
fail_stops (Opening stage name) text a e = cc
fail_stops (Reading stage name kept total) text a e = cc
fail_stops (Writing trace) text a e = cc
fail_stops (Reporting line) text a e = refl
fail_stops (Failing name) text a e = refl
fail_stops Stopped text a e = cc

pub says_failures : SaysFailures
unfolding stepped ask next heard heard_word heard_done heard_read after_name after_open_of after_read_of
says_failures = record {
  unnamed_reported = λ stage. refl;
  unopened_reported = λ stage name. refl;
  unread_reported = λ stage name kept total. refl;
  unwritten_reported = write_failed;
  then_stops = fail_stops;
}
