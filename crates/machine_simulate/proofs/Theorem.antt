-- What the machine does with every list of answers.
-- Assumes nothing.
use Rattle.std.specs.Prelude.{◌≡◌, ◌||◌, ◌∷◌, ◌++◌, ◌+◌, ◌-◌, ◌≤◌, ◌<◌}
use Rattle.laws.specs.Basics.{refl, sym, ◌∙◌, ap, subst, Bool, true, false, List, [], append-nil, append_assoc, ℕ, suc, arith, eqb, ltb, eq-eqb, ne_eqb, ltb-true, ltb-false, pick, by_bool, by_eq}
use Rattle.laws.specs.{Rows.or_false, Tests.some_of}
use Rattle.model.specs.declared.Refusal.TheVariants.{TrialOutsideRange}
use Rattle.machines.specs.{programs.Numbers.number_in, programs.Texts.refused_text}
use Rattle.machines.specs.Machines.{Request, Count, Argument, Write, Say, Fail, Stop, Answer, Done, Failed, Exchange, heard, heard_count, heard_word, heard_done, is_number, brought, stepped, exchanged, state_after, exchanges, written, error_text, written_of, error_text_of, gathered, failed, requests_of}
use Rattle.machines.proofs.{Runs.throughout, Runs.gathered_next, Runs.some_next, Runs.written_is, Runs.error_text_is, Runs.stops, Answers.by_done}
use Rattle.machines.proofs.Reporting.{printed_in, reported_in, more, writes, reports}
use Rattle.machine_simulate.specs.declared.arguments.Numbers.{Numbers}
use Rattle.machine_simulate.specs.Arguments.{spacings_in, is_wrong_of, is_refused, no_numbers, with_word, numbers_in}
use Rattle.machine_simulate.specs.Text.{head_line, result_text, row_text, trial_of, rows_text, rows_of, table_text, right_text, text_of}
use Rattle.machine_simulate.specs.Simulating.{usage, output_name, longest_word, State, Counting, Asking, Printing, Tabling, Reporting, Failing, Stopped, ask, next, tabled, answered, decided, after_count, after_word, without_first, next_row_of, after_write_of, simulating, word_by, word_of_def, numbers_of, is_last, last_asked, failure, failures, wrong_words, SimulatesAlways, StopsAfterFailure}
use Rattle.machine_simulate.proofs.Ending.{simulating_ends, answered_table, answered_one}

-- What is to be reported of all exchanges.
abbrev due : List Exchange → List ℕ
due talk = wrong_words (last_asked talk) (numbers_of talk) ++ failures talk

abbrev Front : List Exchange → Type 0
Front talk = (rest : List ℕ) × (printed_in talk ++ rest ≡ text_of (numbers_of talk))

-- Nothing is written or reported so far, and nothing failed.
record Quiet (talk : List Exchange) : Type 0 where
  silent : printed_in talk ≡ []
  mute : reported_in talk ≡ []
  fine : failures talk ≡ []

record InCounting (talk : List Exchange) : Type 0 where
  quiet : Quiet talk
  unasked : last_asked talk ≡ false
  later : (j : ℕ) → word_of_def j talk ≡ []

record InAsking (i : ℕ) (k : Numbers) (talk : List Exchange) : Type 0 where
  low : 1 ≤ i
  high : i ≤ 4
  quiet : Quiet talk
  unasked : last_asked talk ≡ false
  later : (j : ℕ) → i ≤ j → word_of_def j talk ≡ []
  one : 1 < i → k.n ≡ number_in (word_of_def 1 talk)
  two : 2 < i → k.spacings ≡ spacings_in (word_of_def 2 talk)
  three : 3 < i → k.steps ≡ number_in (word_of_def 3 talk)

-- A text is written next, and then the rest.
record InPrinting (rest text : List ℕ) (talk : List Exchange) : Type 0 where
  right : printed_in talk ++ (text ++ rest) ≡ text_of (numbers_of talk)
  mute : reported_in talk ≡ []
  clean : due talk ≡ []

record InLast (text : List ℕ) (talk : List Exchange) : Type 0 where
  why : due talk ≡ text
  mute : reported_in talk ≡ []
  front : Front talk
  whole : failures talk ≡ [] → printed_in talk ≡ text_of (numbers_of talk)

record InStopped (talk : List Exchange) : Type 0 where
  why : reported_in talk ≡ due talk
  front : Front talk
  whole : failures talk ≡ [] → printed_in talk ≡ text_of (numbers_of talk)

abbrev Holds : State → List Exchange → Type 0
Holds Counting talk = InCounting talk
Holds (Asking i k) talk = InAsking i k talk
Holds (Printing text) talk = InPrinting [] text talk
Holds (Tabling text k) talk = InPrinting (rows_of k) text talk
Holds (Reporting text) talk = InLast text talk
Holds (Failing name) talk = InLast name talk
Holds Stopped talk = InStopped talk

not_empty : (l : List ℕ) (x : ℕ) (m : List ℕ) → l ++ (x ∷ m) ≡ [] → ⊥
not_empty [] x m e = let z : ◌≡◌ {A = ℕ} 0 1 = cc in omega arith
not_empty (y ∷ l) x m e = let z : ◌≡◌ {A = ℕ} 0 1 = cc in omega arith

-- One exchange more.
module _ (talk : List Exchange) (r : Request) (a : Answer) where
  word_next : (i : ℕ) → word_of_def i (more talk r a) ≡ word_of_def i talk ++ word_by i r a
  word_next i = gathered_next talk (record { request = r; answer = a }) (word_by i)

  last_next : last_asked (more talk r a) ≡ last_asked talk || is_last r
  last_next = some_next talk (record { request = r; answer = a }) (λ (e : Exchange). is_last e.request)

  failures_next : failures (more talk r a) ≡ failures talk ++ failure r a
  failures_next = gathered_next talk (record { request = r; answer = a }) failure

  -- An exchange that writes, says and fails nothing.
  still : Quiet talk → written r ≡ [] → error_text r ≡ [] → failure r a ≡ [] → Quiet (more talk r a)
  still q w s f = record {
    silent = writes talk r a ∙ ap (λ (x : List ℕ). printed_in talk ++ x) w ∙ append-nil (printed_in talk) ∙ q.silent;
    mute = reports talk r a ∙ ap (λ (x : List ℕ). reported_in talk ++ x) s ∙ append-nil (reported_in talk) ∙ q.mute;
    fine = failures_next ∙ ap (λ (x : List ℕ). failures talk ++ x) f ∙ append-nil (failures talk) ∙ q.fine;
  }

  -- An exchange that brings no word leaves the numbers.
  module _ (none : (i : ℕ) → word_by i r a ≡ []) (on : is_last r ≡ false) where
    same_word : (i : ℕ) → word_of_def i (more talk r a) ≡ word_of_def i talk
    same_word i = word_next i ∙ ap (λ (x : List ℕ). word_of_def i talk ++ x) (none i) ∙ append-nil (word_of_def i talk)

    same_numbers : numbers_of (more talk r a) ≡ numbers_of talk
    unfolding numbers_of
    same_numbers = λ j. numbers_in (same_word 1 j) (same_word 2 j) (same_word 3 j) (same_word 4 j)

    same_last : last_asked (more talk r a) ≡ last_asked talk
    same_last = last_next ∙ ap (λ (b : Bool). last_asked talk || b) on ∙ or_false (last_asked talk)

    due_next : due (more talk r a) ≡ due talk ++ failure r a
    due_next =
        ap (λ (b : Bool). wrong_words b (numbers_of (more talk r a)) ++ failures (more talk r a)) same_last
        ∙ ap (λ (k : Numbers). wrong_words (last_asked talk) k ++ failures (more talk r a)) same_numbers
        ∙ ap (λ (x : List ℕ). wrong_words (last_asked talk) (numbers_of talk) ++ x) failures_next
        ∙ sym (append_assoc (wrong_words (last_asked talk) (numbers_of talk)) (failures talk) (failure r a))

    same_text : text_of (numbers_of (more talk r a)) ≡ text_of (numbers_of talk)
    same_text = ap text_of same_numbers

due_none : (talk : List Exchange) → last_asked talk ≡ false → failures talk ≡ [] → due talk ≡ []
unfolding wrong_words
due_none talk e f = rw (e, f)

-- All four words are known.
module _ (k : Numbers) (talk : List Exchange) (numbers : numbers_of talk ≡ k) (last : last_asked talk ≡ true) (quiet : Quiet talk) where
  front_quiet : Front talk
  front_quiet = (text_of (numbers_of talk), ap (λ (x : List ℕ). x ++ text_of (numbers_of talk)) quiet.silent)

  wrong_holds : is_wrong_of k.n k.spacings k.steps k.seed ≡ true → InLast usage talk
  unfolding wrong_words text_of
  wrong_holds e = record {
    why = rw (last, numbers, quiet.fine, e);
    mute = quiet.mute;
    front = front_quiet;
    whole = λ f. quiet.silent ∙ sym (rw (numbers, e));
  }

  module _ (right : is_wrong_of k.n k.spacings k.steps k.seed ≡ false) where
    printing_now : (text rest : List ℕ) → text_of k ≡ text ++ rest → InPrinting rest text talk
    unfolding wrong_words
    printing_now text rest e = record {
      right = ap (λ (x : List ℕ). x ++ (text ++ rest)) quiet.silent ∙ sym (ap text_of numbers ∙ e);
      mute = quiet.mute;
      clean = rw (last, numbers, quiet.fine, right);
    }

    tabled_holds : k.spacings.many ≡ true → Holds (tabled k) talk
    unfolding tabled text_of right_text table_text
    tabled_holds m =
        by_bool (is_refused k.n k.spacings.from k.spacings.to k.steps)
        (λ e. rw e (printing_now (refused_text TrialOutsideRange) [] (rw (right, m, e) (sym (append-nil (refused_text TrialOutsideRange))))))
        (λ e. rw e (printing_now head_line (rows_of k) (rw (right, m, e))))

    one_text : k.spacings.many ≡ false → text_of k ≡ result_text (trial_of k.n k.spacings.from k.steps k.seed) ++ []
    unfolding text_of right_text
    one_text m =
        ap (λ (b : Bool). pick b [] (right_text k)) right
        ∙ ap (λ (b : Bool). pick b (table_text k) (result_text (trial_of k.n k.spacings.from k.steps k.seed))) m
        ∙ sym (append-nil (result_text (trial_of k.n k.spacings.from k.steps k.seed)))

    answered_holds : Holds (answered k) talk
    answered_holds =
        by_bool k.spacings.many
        (λ m. subst (λ (s : State). Holds s talk) (sym (answered_table k m)) (tabled_holds m))
        (λ m. subst (λ (s : State). Holds s talk) (sym (answered_one k m)) (printing_now (result_text (trial_of k.n k.spacings.from k.steps k.seed)) [] (one_text m)))

  decided_holds : Holds (decided k) talk
  unfolding decided
  decided_holds = by_bool (is_wrong_of k.n k.spacings k.steps k.seed) (λ e. rw e (wrong_holds e)) (λ e. rw e (answered_holds e))

-- The count is answered.
module _ (talk : List Exchange) (h : InCounting talk) (a : Answer) where
  counted : is_number a 5 ≡ true → InAsking 1 no_numbers (more talk Count a)
  unfolding written error_text failure word_by is_last
  counted e = record {
    low = omega arith;
    high = omega arith;
    quiet = still talk Count a h.quiet refl refl (rw e);
    unasked = same_last talk Count a (λ i. refl) refl ∙ h.unasked;
    later = λ j from. same_word talk Count a (λ i. refl) refl j ∙ h.later j;
    one = λ few. absurd (omega (arith, few));
    two = λ few. absurd (omega (arith, few));
    three = λ few. absurd (omega (arith, few));
  }

  miscounted : is_number a 5 ≡ false → InLast usage (more talk Count a)
  unfolding written error_text failure word_by is_last
  miscounted e =
      let fails : failure Count a ≡ usage = rw e in
      let nothing : printed_in (more talk Count a) ≡ [] = writes talk Count a ∙ append-nil (printed_in talk) ∙ h.quiet.silent in
      record {
        why = due_next talk Count a (λ i. refl) refl ∙ ap (λ (x : List ℕ). x ++ failure Count a) (due_none talk h.unasked h.quiet.fine) ∙ fails;
        mute = reports talk Count a ∙ append-nil (reported_in talk) ∙ h.quiet.mute;
        front = (text_of (numbers_of (more talk Count a)), ap (λ (x : List ℕ). x ++ text_of (numbers_of (more talk Count a))) nothing);
        whole = λ f. absurd (not_empty (failures talk) _ _ (ap (λ (x : List ℕ). failures talk ++ x) (sym fails) ∙ sym (failures_next talk Count a) ∙ f));
      }

  after_count_lem : Holds (after_count a) (more talk Count a)
  unfolding after_count
  after_count_lem = by_bool (is_number a 5) (λ e. rw e (counted e)) (λ e. rw e (miscounted e))

-- A word is answered.
module _ (i : ℕ) (k : Numbers) (talk : List Exchange) (h : InAsking i k talk) (a : Answer) where
  abbrev now : List Exchange
  now = more talk (Argument i longest_word) a

  abbrev known : Numbers
  known = with_word i k (brought a)

  this_word : word_of_def i now ≡ brought a
  unfolding word_by
  this_word = word_next talk (Argument i longest_word) a i ∙ ap (λ (x : List ℕ). x ++ pick (eqb i i) (brought a) []) (h.later i (omega arith)) ∙ rw (eq-eqb i i refl)

  other_word : (j : ℕ) → (i ≡ j → ⊥) → word_of_def j now ≡ word_of_def j talk
  unfolding word_by
  other_word j other = word_next talk (Argument i longest_word) a j ∙ rw (ne_eqb i j other) (append-nil (word_of_def j talk))

  quiet_now : Quiet now
  unfolding written error_text failure
  quiet_now = still talk (Argument i longest_word) a h.quiet refl refl refl

  first_known : known.n ≡ number_in (word_of_def 1 now)
  unfolding with_word
  first_known =
      by_eq i 1
      (λ e. rw (eq-eqb i 1 e) (ap number_in (sym (ap (λ (j : ℕ). word_of_def j now) (sym e) ∙ this_word))))
      (λ e. by_eq i 2
      (λ f. rw (ne_eqb i 1 e, eq-eqb i 2 f) (h.one (omega (arith, f)) ∙ ap number_in (sym (other_word 1 e))))
      (λ f. by_eq i 3
      (λ g. rw (ne_eqb i 1 e, ne_eqb i 2 f, eq-eqb i 3 g) (h.one (omega (arith, g)) ∙ ap number_in (sym (other_word 1 e))))
      (λ g. rw (ne_eqb i 1 e, ne_eqb i 2 f, ne_eqb i 3 g) (h.one (above e f) ∙ ap number_in (sym (other_word 1 e))))))
    where
      above : (i ≡ 1 → ⊥) → (i ≡ 2 → ⊥) → 1 < i
      above e f = omega (arith, h.low, e)

  second_known : 2 ≤ i → known.spacings ≡ spacings_in (word_of_def 2 now)
  unfolding with_word
  second_known least =
      by_eq i 2
      (λ f. rw (ne_eqb i 1 (λ e. omega (arith, e, least)), eq-eqb i 2 f) (ap spacings_in (sym (ap (λ (j : ℕ). word_of_def j now) (sym f) ∙ this_word))))
      (λ f. by_eq i 3
      (λ g. rw (ne_eqb i 1 (λ e. omega (arith, e, least)), ne_eqb i 2 f, eq-eqb i 3 g) (h.two (omega (arith, g)) ∙ ap spacings_in (sym (other_word 2 f))))
      (λ g. rw (ne_eqb i 1 (λ e. omega (arith, e, least)), ne_eqb i 2 f, ne_eqb i 3 g) (h.two (above f) ∙ ap spacings_in (sym (other_word 2 f)))))
    where
      above : (i ≡ 2 → ⊥) → 2 < i
      above f = omega (arith, least, f)

  third_known : 3 ≤ i → known.steps ≡ number_in (word_of_def 3 now)
  unfolding with_word
  third_known least =
      by_eq i 3
      (λ g. rw (ne_eqb i 1 (λ e. omega (arith, e, least)), ne_eqb i 2 (λ e. omega (arith, e, least)), eq-eqb i 3 g) (ap number_in (sym (ap (λ (j : ℕ). word_of_def j now) (sym g) ∙ this_word))))
      (λ g. rw (ne_eqb i 1 (λ e. omega (arith, e, least)), ne_eqb i 2 (λ e. omega (arith, e, least)), ne_eqb i 3 g) (h.three (above g) ∙ ap number_in (sym (other_word 3 g))))
    where
      above : (i ≡ 3 → ⊥) → 3 < i
      above g = omega (arith, least, g)

  fourth_known : 4 ≤ i → known.seed ≡ number_in (word_of_def 4 now)
  unfolding with_word
  fourth_known least =
      let all : i ≡ 4 = omega (arith, least, h.high) in
      rw (ne_eqb i 1 (λ e. omega (arith, e, least)), ne_eqb i 2 (λ e. omega (arith, e, least)), ne_eqb i 3 (λ e. omega (arith, e, least))) (ap number_in (sym (ap (λ (j : ℕ). word_of_def j now) (sym all) ∙ this_word)))

  asking_on : i < 4 → InAsking (i + 1) known now
  unfolding is_last
  asking_on few = record {
    low = omega arith;
    high = omega (arith, few);
    quiet = quiet_now;
    unasked = last_next talk (Argument i longest_word) a ∙ rw (h.unasked, ne_eqb i 4 (λ e. omega (arith, e, few)));
    later = λ j from. other_word j (λ e. omega (arith, e, from)) ∙ h.later j (omega (arith, from));
    one = λ some. first_known;
    two = λ some. second_known (omega (arith, some));
    three = λ some. third_known (omega (arith, some));
  }

  all_known : 4 ≤ i → numbers_of now ≡ known
  unfolding numbers_of numbers_in
  all_known least =
      let one = sym first_known in
      let two = sym (second_known (omega (arith, least))) in
      let three = sym (third_known (omega (arith, least))) in
      let four = sym (fourth_known least) in
      λ j. record { n = one j; spacings = two j; steps = three j; seed = four j }

  last_known : 4 ≤ i → last_asked now ≡ true
  unfolding is_last
  last_known least = last_next talk (Argument i longest_word) a ∙ rw (h.unasked, eq-eqb i 4 (omega (arith, least, h.high)))

  after_word_lem : Holds (after_word i k (brought a)) now
  unfolding after_word
  after_word_lem =
      by_bool (ltb i 4)
      (λ e. rw e (asking_on (ltb-true i 4 e)))
      (λ e. rw e (let least = ltb-false i 4 e in decided_holds known now (all_known least) (last_known least) quiet_now))

-- A text is written, or not.
module _ (rest text : List ℕ) (talk : List Exchange) (h : InPrinting rest text talk) where
  written_on : (a : Answer) → printed_in (more talk (Write text) a) ++ rest ≡ text_of (numbers_of (more talk (Write text) a))
  unfolding written word_by is_last
  written_on a =
      ap (λ (x : List ℕ). x ++ rest) (writes talk (Write text) a)
      ∙ append_assoc (printed_in talk) text rest
      ∙ h.right
      ∙ sym (same_text talk (Write text) a (λ i. refl) refl)

  mute_on : (a : Answer) → reported_in (more talk (Write text) a) ≡ []
  unfolding error_text
  mute_on a = reports talk (Write text) a ∙ append-nil (reported_in talk) ∙ h.mute

  due_on : (a : Answer) → due (more talk (Write text) a) ≡ failure (Write text) a
  unfolding word_by is_last
  due_on a = due_next talk (Write text) a (λ i. refl) refl ∙ ap (λ (x : List ℕ). x ++ failure (Write text) a) h.clean

  failed_write : InLast output_name (more talk (Write text) Failed)
  unfolding failure failed
  failed_write = record {
    why = due_on Failed;
    mute = mute_on Failed;
    front = (rest, written_on Failed);
    whole = λ f. absurd (not_empty (failures talk) _ _ (sym (failures_next talk (Write text) Failed) ∙ f));
  }

  done_last : rest ≡ [] → InStopped (more talk (Write text) Done)
  unfolding failure failed
  done_last e =
      let all = sym (append-nil (printed_in (more talk (Write text) Done))) ∙ ap (λ (x : List ℕ). printed_in (more talk (Write text) Done) ++ x) (sym e) ∙ written_on Done in
      record {
        why = mute_on Done ∙ sym (due_on Done);
        front = (rest, written_on Done);
        whole = λ f. all;
      }

  done_more : (line others : List ℕ) → rest ≡ line ++ others → InPrinting others line (more talk (Write text) Done)
  unfolding failure failed
  done_more line others e = record {
    right = ap (λ (x : List ℕ). printed_in (more talk (Write text) Done) ++ x) (sym e) ∙ written_on Done;
    mute = mute_on Done;
    clean = due_on Done;
  }

  after_write : (s : State) → Holds s (more talk (Write text) Done) → (a : Answer) → Holds (after_write_of s (heard_done a)) (more talk (Write text) (heard_done a))
  unfolding after_write_of
  after_write s on a = by_done (λ (x : Answer). Holds (after_write_of s x) (more talk (Write text) x)) failed_write on a

-- The rows of a table, one by one.
rows_none : (k : Numbers) → k.spacings.to < k.spacings.from → rows_of k ≡ []
unfolding rows_of rows_text
rows_none k h =
    let none : k.spacings.to + 1 - k.spacings.from ≡ 0 = omega (arith, h) in
    ap (λ (x : ℕ). rows_text k.n k.steps k.seed x k.spacings.from) none

rows_more : (k : Numbers) → k.spacings.from ≤ k.spacings.to → rows_of k ≡ row_text k.spacings.from (trial_of k.n k.spacings.from k.steps k.seed) ++ rows_of (without_first k)
unfolding rows_of rows_text without_first
rows_more k h =
    let some : k.spacings.to + 1 - k.spacings.from ≡ suc (k.spacings.to + 1 - (k.spacings.from + 1)) = omega (arith, h) in
    ap (λ (x : ℕ). rows_text k.n k.steps k.seed x k.spacings.from) some

row_holds : (text : List ℕ) (k : Numbers) (talk : List Exchange) → InPrinting (rows_of k) text talk → Holds (next_row_of k) (more talk (Write text) Done)
unfolding next_row_of
row_holds text k talk h =
    by_bool (ltb k.spacings.to k.spacings.from)
    (λ e. rw e (done_last (rows_of k) text talk h (rows_none k (ltb-true k.spacings.to k.spacings.from e))))
    (λ e. rw e (done_more (rows_of k) text talk h _ _ (rows_more k (ltb-false k.spacings.to k.spacings.from e))))

-- What is reported, with the request that is not answered yet.
says_in : (s : State) (talk : List Exchange) → Holds s talk → reported_in talk ++ error_text (ask s) ≡ due talk
unfolding error_text ask
says_in Counting talk h = append-nil (reported_in talk) ∙ h.quiet.mute ∙ sym (due_none talk h.unasked h.quiet.fine)
says_in (Asking i k) talk h = append-nil (reported_in talk) ∙ h.quiet.mute ∙ sym (due_none talk h.unasked h.quiet.fine)
says_in (Printing text) talk h = append-nil (reported_in talk) ∙ h.mute ∙ sym h.clean
says_in (Tabling text k) talk h = append-nil (reported_in talk) ∙ h.mute ∙ sym h.clean
says_in (Reporting text) talk h = ap (λ (x : List ℕ). x ++ text) h.mute ∙ sym h.why
says_in (Failing name) talk h = ap (λ (x : List ℕ). x ++ name) h.mute ∙ sym h.why
says_in Stopped talk h = append-nil (reported_in talk) ∙ h.why

-- An exchange that writes, asks for and fails nothing, after which all is said.
module _ (talk : List Exchange) (r : Request) (a : Answer) (writes-none : written r ≡ []) (fails : failure r a ≡ []) (none : (i : ℕ) → word_by i r a ≡ []) (on : is_last r ≡ false) where
  same_printed : printed_in (more talk r a) ≡ printed_in talk
  same_printed = writes talk r a ∙ ap (λ (x : List ℕ). printed_in talk ++ x) writes-none ∙ append-nil (printed_in talk)

  same_failures : failures (more talk r a) ≡ failures talk
  same_failures = failures_next talk r a ∙ ap (λ (x : List ℕ). failures talk ++ x) fails ∙ append-nil (failures talk)

  now_stopped : reported_in talk ++ error_text r ≡ due talk → Front talk → (failures talk ≡ [] → printed_in talk ≡ text_of (numbers_of talk)) → InStopped (more talk r a)
  now_stopped says (rest, front) whole = record {
    why = reports talk r a ∙ says ∙ sym (due_next talk r a none on ∙ ap (λ (x : List ℕ). due talk ++ x) fails ∙ append-nil (due talk));
    front = (rest, ap (λ (x : List ℕ). x ++ rest) same_printed ∙ front ∙ sym (same_text talk r a none on));
    whole = λ f. same_printed ∙ whole (sym same_failures ∙ f) ∙ sym (same_text talk r a none on);
  }

-- So every answer keeps what holds,
holds_on : (s : State) (talk : List Exchange) (a : Answer) → Holds s talk → Holds (stepped simulating s a) (talk ++ (exchanged simulating s a ∷ []))
unfolding stepped ask next heard written error_text failure word_by is_last
holds_on Counting talk a h = after_count_lem talk h (heard_count a)
holds_on (Asking i k) talk a h = after_word_lem i k talk h (heard_word longest_word a)
holds_on (Printing text) talk a h = after_write [] text talk h Stopped (done_last [] text talk h refl) a
holds_on (Tabling text k) talk a h = after_write (rows_of k) text talk h (next_row_of k) (row_holds text k talk h) a
holds_on (Reporting text) talk a h = now_stopped talk (Say text) Done refl refl (λ i. refl) refl (says_in (Reporting text) talk h) h.front h.whole
holds_on (Failing name) talk a h = now_stopped talk (Fail name) Done refl refl (λ i. refl) refl (says_in (Failing name) talk h) h.front h.whole
holds_on Stopped talk a h = now_stopped talk Stop Failed refl refl (λ i. refl) refl (says_in Stopped talk h) h.front h.whole

-- and it holds before the first.
at_first : Holds Counting []
unfolding gathered some_of requests_of written_of error_text_of
at_first = record { quiet = record { silent = refl; mute = refl; fine = refl }; unasked = refl; later = λ j. refl }

always : (answers : List Answer) → Holds (state_after simulating answers) (exchanges simulating answers)
always answers = throughout simulating Holds holds_on at_first answers

-- What follows in each state.
abbrev FrontIn : State → List Exchange → Type 0
FrontIn s talk = (rest : List ℕ) × ((printed_in talk ++ written (ask s)) ++ rest ≡ text_of (numbers_of talk))

silent_front : (talk : List Exchange) → printed_in talk ≡ [] → (printed_in talk ++ []) ++ text_of (numbers_of talk) ≡ text_of (numbers_of talk)
silent_front talk e = ap (λ (x : List ℕ). (x ++ []) ++ text_of (numbers_of talk)) e

front_in : (s : State) (talk : List Exchange) → Holds s talk → FrontIn s talk
unfolding written ask
front_in Counting talk h = (text_of (numbers_of talk), silent_front talk h.quiet.silent)
front_in (Asking i k) talk h = (text_of (numbers_of talk), silent_front talk h.quiet.silent)
front_in (Printing text) talk h = ([], append_assoc (printed_in talk) text [] ∙ h.right)
front_in (Tabling text k) talk h = (rows_of k, append_assoc (printed_in talk) text (rows_of k) ∙ h.right)
front_in (Reporting text) talk h = (h.front.0, ap (λ (x : List ℕ). x ++ h.front.0) (append-nil (printed_in talk)) ∙ h.front.1)
front_in (Failing name) talk h = (h.front.0, ap (λ (x : List ℕ). x ++ h.front.0) (append-nil (printed_in talk)) ∙ h.front.1)
front_in Stopped talk h = (h.front.0, ap (λ (x : List ℕ). x ++ h.front.0) (append-nil (printed_in talk)) ∙ h.front.1)

whole_in : (s : State) (talk : List Exchange) → Holds s talk → ask s ≡ Stop → failures talk ≡ [] → printed_in talk ++ written (ask s) ≡ text_of (numbers_of talk)
unfolding written ask
whole_in Counting talk h e f = cc
whole_in (Asking i k) talk h e f = cc
whole_in (Printing text) talk h e f = cc
whole_in (Tabling text k) talk h e f = cc
whole_in (Reporting text) talk h e f = cc
whole_in (Failing name) talk h e f = cc
whole_in Stopped talk h e f = append-nil (printed_in talk) ∙ h.whole f

pub simulates_always : SimulatesAlways
simulates_always answers =
    let s = state_after simulating answers in
    let talk = exchanges simulating answers in
    let front = front_in s talk (always answers) in
    record {
      fronts = (front.0, ap (λ (x : List ℕ). x ++ front.0) (written_is simulating answers) ∙ front.1);
      whole = λ e f. written_is simulating answers ∙ whole_in s talk (always answers) e f;
      says = error_text_is simulating answers ∙ says_in s talk (always answers);
      stops = λ h. stops simulating simulating_ends answers h;
    }

-- A write that failed.
fails_so : (s t : State) (a : Answer) → heard_done a ≡ Failed → ask (after_write_of t (heard_done a)) ≡ Fail output_name
unfolding after_write_of ask
fails_so s t a e = ap (λ (x : Answer). ask (after_write_of t x)) e

output_fails : (s : State) (text : List ℕ) (a : Answer) → ask s ≡ Write text → heard (Write text) a ≡ Failed → ask (stepped simulating s a) ≡ Fail output_name
unfolding stepped ask next heard
output_fails Counting text a e f = cc
output_fails (Asking i k) text a e f = cc
output_fails (Printing line) text a e f = fails_so (Printing line) Stopped a f
output_fails (Tabling line k) text a e f = fails_so (Tabling line k) (next_row_of k) a f
output_fails (Reporting line) text a e f = cc
output_fails (Failing name) text a e f = cc
output_fails Stopped text a e f = cc

stops_after : (s : State) (text : List ℕ) (a : Answer) → ask s ≡ Fail text → ask (stepped simulating s a) ≡ Stop
unfolding stepped ask next
stops_after Counting text a e = cc
stops_after (Asking i k) text a e = cc
stops_after (Printing line) text a e = cc
stops_after (Tabling line k) text a e = cc
stops_after (Reporting line) text a e = cc
stops_after (Failing name) text a e = refl
stops_after Stopped text a e = cc

pub stops_after_failure : StopsAfterFailure
stops_after_failure = record { output_fails = output_fails; stops_after = stops_after }
