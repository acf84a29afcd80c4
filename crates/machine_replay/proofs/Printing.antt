-- What the replay program asks to be written is the listing of what it read, over every list of answers.
-- Assumes nothing.
use Rattle.std.specs.Prelude.{◌≡◌, ◌&&◌, ◌||◌, ◌∷◌, ◌++◌, ◌+◌, ◌*◌, ◌≤◌, ◌<◌}
use Rattle.laws.specs.Basics.{refl, sym, ◌∙◌, ap, subst, Bool, true, false, List, [], append-nil, append_assoc, ℕ, arith, eqb, ltb, leb, length, length-append, eqb-true, lt-ltb, ltb-true, le-leb, leb-true, leb-false, by_bool}
use Rattle.laws.specs.{Truth.and_left, Truth.and_right, Truth.or_left, Tests.same, Tests.some_of}
use Rattle.model.specs.{Words.ones, Refusals.start_refusal, laws.Refusals.by_refusal}
use Rattle.whole_runs.specs.Listing.{most_records, asks_for_all, records, started, listing}
use Rattle.listing.specs.Lines.{longest_line}
use Rattle.library_replay.specs.Taken.{BlockOutcome, may_take, outcome_of, block_outcome, Within, BlocksGoOn}
use Rattle.library_replay.proofs.Onward.{blocks_go_on}
use Rattle.machines.specs.Machines.{Request, Count, Argument, Read, Write, Fail, Stop, Answer, Bytes, End, Done, Failed, Machine, Exchange, stepped, exchanged, state_after, exchanges, written_of, error_text_of, read_by, read_of, requests_of, brought, is_number, is_end, end_met, heard, heard_read, heard_done, heard_count, heard_word}
use Rattle.machines.proofs.Runs.{throughout, written_is, error_text_is, read_next, written_next, error_text_next, end_next}
use Rattle.machines.proofs.{Answers.by_count, Answers.by_word, Answers.by_read, Answers.by_done, Leading.never, Leading.read_size}
use Rattle.machine_replay.specs.Replaying.{Between, State, starting, counted, opening, reading, printing, ending, failing, stopped, all_word, input_text, output_text, most_to_read, asks, taking, onward, begun, opened, filled, wrote, next, replaying}
use Rattle.machine_replay.specs.Printing.{number_of, way_of, lines_of, goes_on_after, MayFollow, PrintsTheListing}
use Rattle.machine_replay.proofs.Ending.{only_stopped}
use Rattle.machine_replay.proofs.Going.{Going, begun_going, read_length, owed, going_filled, going_taken, owed_last, buffered_length, lines_so_far, goes_on_after_lem}
use Rattle.machines.specs.Machines as m

-- What was asked and answered so far comes to.
record Account (all : Bool) (read written : List ℕ) (ended : Bool) (talk : List Exchange) : Type 0 where
  way : (more : List Exchange) → way_of (talk ++ more) ≡ all
  is_read : read_of talk ≡ read
  is_written : written_of (requests_of talk) ≡ written
  is_ended : end_met talk ≡ ended

abbrev one : Request → Answer → Exchange
one r a = record { request = r; answer = a }

module _ (all : Bool) (read written : List ℕ) (ended : Bool) (talk : List Exchange) (account : Account all read written ended talk) where
  account_then : (r : Request) (a : Answer) → Account all (read ++ read_by r a) (written ++ m.written r) (ended || is_end a) (talk ++ (one r a ∷ []))
  account_then r a = record {
    way = λ more. ap way_of (append_assoc talk (one r a ∷ []) more) ∙ account.way (one r a ∷ more);
    is_read = read_next talk (one r a) ∙ rw account.is_read;
    is_written = written_next talk (one r a) ∙ rw account.is_written;
    is_ended = end_next talk (one r a) ∙ rw account.is_ended;
  }

-- Bytes may follow until the input has ended.
abbrev Follows : Bool → List ℕ → Type 0
Follows ended unread = ended ≡ true → unread ≡ []

abbrev Whole : Bool → List ℕ → List ℕ → Bool → Type 0
Whole all read written ended = (unread : List ℕ) → Follows ended unread → listing all (read ++ unread) ≡ written

abbrev Front : Bool → List ℕ → List ℕ → Bool → Type 0
Front all read written ended = (unread : List ℕ) → Follows ended unread → (rest : List ℕ) × (listing all (read ++ unread) ≡ written ++ rest)

whole_front : (all : Bool) (read written : List ℕ) (ended : Bool) → Whole all read written ended → Front all read written ended
whole_front all read written ended h unread f = ([], h unread f ∙ sym (append-nil written))

-- What is known in each state.
record Known-reading (b : Between) (talk : List Exchange) : Type 0 where
  read : List ℕ
  written : List ℕ
  account : Account b.all read written false talk
  going : Going read written b
  few : length b.buffered < 4

record Known-printing (b : Between) (lines : List ℕ) (talk : List Exchange) : Type 0 where
  read : List ℕ
  written : List ℕ
  account : Account b.all read written false talk
  going : Going read (written ++ lines) b

record Known-ending (lines : List ℕ) (talk : List Exchange) : Type 0 where
  all : Bool
  read : List ℕ
  written : List ℕ
  ended : Bool
  account : Account all read written ended talk
  whole : Whole all read (written ++ lines) ended

record Known-failing (text : List ℕ) (talk : List Exchange) : Type 0 where
  all : Bool
  read : List ℕ
  written : List ℕ
  ended : Bool
  account : Account all read written ended talk
  front : Front all read written ended
  says : 1 ≤ length text

record Known-stopped (talk : List Exchange) : Type 0 where
  all : Bool
  read : List ℕ
  written : List ℕ
  ended : Bool
  account : Account all read written ended talk
  front : Front all read written ended
  whole : error_text_of (requests_of talk) ≡ [] → Whole all read written ended

Known : State → List Exchange → Type 0
Known starting talk = talk ≡ []
Known (counted single) talk = (a : Answer) × (talk ≡ one Count (heard_count a) ∷ []) × (single ≡ is_number (heard_count a) 2)
Known (opening all) talk = Account all [] [] false talk
Known (reading b) talk = Known-reading b talk
Known (printing b lines) talk = Known-printing b lines talk
Known (ending lines) talk = Known-ending lines talk
Known (failing text) talk = Known-failing text talk
Known stopped talk = Known-stopped talk

not_end_count : (a : Answer) → is_end (heard_count a) ≡ false
unfolding is_end
not_end_count a = by_count (λ (x : Answer). is_end x ≡ false) refl (λ n. refl) a

not_end_word : (most : ℕ) (a : Answer) → is_end (heard_word most a) ≡ false
unfolding is_end
not_end_word most a = by_word (λ (x : Answer). is_end x ≡ false) refl most (λ l few. refl) a

number_two : (a : Answer) → is_number (heard_count a) 2 ≡ eqb (number_of (heard_count a)) 2
unfolding is_number number_of
number_two a = by_count (λ (x : Answer). is_number x 2 ≡ eqb (number_of x) 2) refl (λ n. refl) a

-- Both arguments are heard.
argument_account : (a b : Answer) → Account (is_number (heard_count a) 2 && same (brought (heard_word 4 b)) all_word) [] [] false (one Count (heard_count a) ∷ one (Argument 1 4) (heard_word 4 b) ∷ [])
unfolding way_of asks_for_all read_of read_by written_of requests_of m.written end_met some_of
argument_account a b = record { way = λ more. ap (λ (single : Bool). single && same (brought (heard_word 4 b)) all_word) (sym (number_two a)); is_read = refl; is_written = refl; is_ended = rw (not_end_count a, not_end_word 4 b) }

follows_before : (ended more : Bool) (unread : List ℕ) → Follows (ended || more) unread → Follows ended unread
follows_before ended more unread f t = f (or_left ended more t)

-- A failure is said: what was written is the front of the listing.
fails : (all : Bool) (read written : List ℕ) (ended : Bool) (talk : List Exchange) (text : List ℕ) → Account all read written ended talk → Front all read written ended → 1 ≤ length text → Known (failing text) talk
unfolding Known
fails all read written ended talk text account front says = record { all = all; read = read; written = written; ended = ended; account = account; front = front; says = says }

module _ (size room : ℕ) (enough_room : longest_line ≤ room) where
  -- The records that were read are taken.
  module _ (b : Between) (read written : List ℕ) (talk : List Exchange) (account : Account b.all read written false talk) (going : Going read written b) where
    abbrev o : BlockOutcome
    o = block_outcome b.all b.done b.run b.buffered room

    within : Within b.all b.done b.run b.buffered room o.taken
    unfolding block_outcome outcome_of BlocksGoOn
    within = blocks_go_on b.all b.done b.run b.buffered room

    none_whole : o.taken ≡ 0 → length b.buffered < 4
    unfolding may_take
    none_whole none_taken = by_bool (leb 4 (length b.buffered))
        (λ e. absurd (omega (arith, none_taken, within.some (leb-true 4 (length b.buffered) e) (rw (lt-ltb b.done most_records going.less, le-leb longest_line room enough_room)))))
        (λ e. leb-false 4 (length b.buffered) e)

    onward_known : Known (onward room b) talk
    unfolding Known onward taking block_outcome outcome_of
    onward_known = by_bool (eqb o.taken 0)
        (λ e. rw e (record { read = read; written = written; account = account; going = going; few = none_whole (eqb-true o.taken 0 e) }))
        (λ e. by_bool (o.going && ltb (b.done + o.taken) most_records)
        (λ g. rw (e, g) (record {
          read = read;
          written = written;
          account = account;
          going = going_taken read written b going o.taken within.inside (and_left o.going (ltb (b.done + o.taken) most_records) g) (ltb-true (b.done + o.taken) most_records (and_right o.going (ltb (b.done + o.taken) most_records) g));
        }))
        (λ g. rw (e, g) (record { all = b.all; read = read; written = written; ended = false; account = account; whole = λ unread f. owed_last read written b going o.taken within.inside g unread })))

  -- The first byte.
  module _ (all : Bool) (talk : List Exchange) (account : Account all [] [] false talk) where
    abbrev then : Answer → List Exchange
    then x = talk ++ (one (Read 1) x ∷ [])

    opened_failed : Known (failing input_text) (then Failed)
    unfolding read_by brought m.written is_end
    opened_failed = fails all [] [] false (then Failed) input_text (account_then all [] [] false talk account (Read 1) Failed) (λ unread f. (listing all unread, refl)) (omega arith)

    opened_begun : (n : ℕ) → Known (begun all n (start_refusal n ones)) (then (Bytes (n ∷ [])))
    unfolding Known begun read_by brought m.written is_end listing started
    opened_begun n = by_refusal (start_refusal n ones)
        (λ ok. rw ok (record { read = n ∷ []; written = []; account = account_then all [] [] false talk account (Read 1) (Bytes (n ∷ [])); going = begun_going all n ok; few = omega arith }))
        (λ why e. rw e (record { all = all; read = n ∷ []; written = []; ended = false; account = account_then all [] [] false talk account (Read 1) (Bytes (n ∷ [])); whole = λ unread f. rw e }))

    opened_byte : (l : List ℕ) → 1 ≤ length l → length l ≤ 1 → Known (opened all (Bytes l)) (then (Bytes l))
    unfolding opened
    opened_byte [] some few = absurd (omega (arith, some))
    opened_byte (n ∷ []) some few = opened_begun n
    opened_byte (n ∷ y ∷ l) some few = absurd (omega (arith, few))

    opened_known : (a : Answer) → Known (opened all (heard_read 1 a)) (then (heard_read 1 a))
    unfolding opened Known read_by brought m.written is_end listing
    opened_known a = by_read (λ (x : Answer). Known (opened all x) (then x)) opened_failed 1 opened_byte
        (record { all = all; read = []; written = []; ended = true; account = account_then all [] [] false talk account (Read 1) End; whole = λ unread f. rw (f refl) })
        a

  -- The next bytes.
  module _ (b : Between) (talk : List Exchange) (h : Known-reading b talk) where
    abbrev most : ℕ
    most = most_to_read size b

    abbrev after : Answer → List Exchange
    after x = talk ++ (one (Read most) x ∷ [])

    account_after : (x : Answer) → Account b.all (h.read ++ brought x) h.written (is_end x) (after x)
    unfolding read_by m.written
    account_after x = rw (append-nil h.written) at (account_then b.all h.read h.written false talk h.account (Read most) x)

    filled_failed : Known (failing input_text) (after Failed)
    unfolding brought
    filled_failed =
        fails b.all h.read h.written (is_end Failed) (after Failed) input_text (rw (append-nil h.read) at (account_after Failed))
        (λ unread f. (records b.all b.done b.run (b.buffered ++ unread), owed h.read h.written b h.going unread)) (omega arith)

    filled_more : (l : List ℕ) → 1 ≤ length l → length l ≤ most → Known (filled room b (Bytes l)) (after (Bytes l))
    unfolding filled brought is_end most_to_read
    filled_more l some few =
        onward_known (record { all = b.all; done = b.done; run = b.run; buffered = b.buffered ++ l }) (h.read ++ l) h.written (after (Bytes l)) (account_after (Bytes l))
        (going_filled h.read h.written b h.going l (omega (arith, some, few, buffered_length h.read h.written b h.going, h.going.less)))

    filled_end : Known (filled room b End) (after End)
    unfolding filled Known brought is_end
    filled_end = record {
      all = b.all;
      read = h.read;
      written = h.written;
      ended = true;
      account = rw (append-nil h.read) at (account_after End);
      whole = λ unread f. rw (f refl) (owed h.read h.written b h.going [] ∙ ap (λ (l : List ℕ). h.written ++ records b.all b.done b.run l) (append-nil b.buffered));
    }

    filled_known : (a : Answer) → Known (filled room b (heard_read most a)) (after (heard_read most a))
    unfolding filled
    filled_known a = by_read (λ (x : Answer). Known (filled room b x) (after x)) filled_failed most filled_more filled_end a

  -- Lines are written.
  module _ (all : Bool) (read written lines : List ℕ) (ended : Bool) (talk : List Exchange) (account : Account all read written ended talk) where
    account_written : (x : Answer) → Account all read (written ++ lines) (ended || is_end x) (talk ++ (one (Write lines) x ∷ []))
    unfolding read_by m.written
    account_written x = rw (append-nil read) at (account_then all read written ended talk account (Write lines) x)

    wrote_failed : Front all read (written ++ lines) ended → Known (failing output_text) (talk ++ (one (Write lines) Failed ∷ []))
    wrote_failed front =
        fails all read (written ++ lines) (ended || is_end Failed) (talk ++ (one (Write lines) Failed ∷ [])) output_text (account_written Failed)
        (λ unread f. front unread (follows_before ended (is_end Failed) unread f)) (omega arith)

    wrote_known : (s : State) (a : Answer) → Front all read (written ++ lines) ended → Known s (talk ++ (one (Write lines) Done ∷ []))
        → Known (wrote s (heard_done a)) (talk ++ (one (Write lines) (heard_done a) ∷ []))
    unfolding wrote
    wrote_known s a front h = by_done (λ (x : Answer). Known (wrote s x) (talk ++ (one (Write lines) x ∷ []))) (wrote_failed front) h a

  printed_known : (b : Between) (lines : List ℕ) (talk : List Exchange) → Known-printing b lines talk → (a : Answer) → Known (wrote (onward room b) (heard_done a)) (talk ++ (one (Write lines) (heard_done a) ∷ []))
  unfolding is_end
  printed_known b lines talk h a =
      wrote_known b.all h.read h.written lines false talk h.account (onward room b) a
      (λ unread f. (records b.all b.done b.run (b.buffered ++ unread), owed h.read (h.written ++ lines) b h.going unread))
      (onward_known b h.read (h.written ++ lines) (talk ++ (one (Write lines) Done ∷ [])) (account_written b.all h.read h.written lines false talk h.account Done) h.going)

  ended_known : (lines : List ℕ) (talk : List Exchange) → Known-ending lines talk → (a : Answer) → Known (wrote stopped (heard_done a)) (talk ++ (one (Write lines) (heard_done a) ∷ []))
  unfolding Known
  ended_known lines talk h a =
      let all_lines = h.written ++ lines in
      let still : Whole h.all h.read (h.written ++ lines) (h.ended || is_end Done) = λ unread f. h.whole unread (follows_before h.ended (is_end Done) unread f) in
      wrote_known h.all h.read h.written lines h.ended talk h.account stopped a (whole_front h.all h.read all_lines h.ended h.whole)
      (record {
        all = h.all;
        read = h.read;
        written = all_lines;
        ended = h.ended || is_end Done;
        account = account_written h.all h.read h.written lines h.ended talk h.account Done;
        front = whole_front h.all h.read all_lines (h.ended || is_end Done) still;
        whole = λ silent. still;
      })

  failed_known : (text : List ℕ) (talk : List Exchange) → Known-failing text talk → (x : Answer) → Known stopped (talk ++ (one (Fail text) x ∷ []))
  unfolding Known read_by m.written m.error_text
  failed_known text talk h x = record {
    all = h.all;
    read = h.read;
    written = h.written;
    ended = h.ended || is_end x;
    account = rw (append-nil h.read, append-nil h.written) at (account_then h.all h.read h.written h.ended talk h.account (Fail text) x);
    front = λ unread f. h.front unread (follows_before h.ended (is_end x) unread f);
    whole = λ silent. absurd (omega (arith, h.says, ap length (sym (error_text_next talk (one (Fail text) x)) ∙ silent), length-append (error_text_of (requests_of talk)) text));
  }

  stopped_known : (talk : List Exchange) → Known-stopped talk → (x : Answer) → Known stopped (talk ++ (one Stop x ∷ []))
  unfolding Known read_by m.written m.error_text
  stopped_known talk h x = record {
    all = h.all;
    read = h.read;
    written = h.written;
    ended = h.ended || is_end x;
    account = rw (append-nil h.read, append-nil h.written) at (account_then h.all h.read h.written h.ended talk h.account Stop x);
    front = λ unread f. h.front unread (follows_before h.ended (is_end x) unread f);
    whole = λ silent unread f. h.whole (sym (append-nil (error_text_of (requests_of talk))) ∙ sym (error_text_next talk (one Stop x)) ∙ silent) unread (follows_before h.ended (is_end x) unread f);
  }

  known_step : (s : State) (talk : List Exchange) (a : Answer) → Known s talk → Known (stepped (replaying size room) s a) (talk ++ (exchanged (replaying size room) s a ∷ []))
  unfolding stepped next asks heard Known
  known_step starting talk a h = (a, rw h, refl)
  known_step (counted single) talk a h = rw (h.1, h.2) (argument_account h.0 a)
  known_step (opening all) talk a h = opened_known all talk h a
  known_step (reading b) talk a h = filled_known b talk h a
  known_step (printing b lines) talk a h = printed_known b lines talk h a
  known_step (ending lines) talk a h = ended_known lines talk h a
  known_step (failing text) talk a h = failed_known text talk h Done
  known_step stopped talk a h = stopped_known talk h Failed

  -- What follows for the state that was reached. Two states ask to read.
  asking : (P : State → Type 0) → ((all : Bool) → P (opening all)) → ((b : Between) → P (reading b)) → (s : State) (most : ℕ) → asks size s ≡ Read most → P s
  unfolding asks
  asking P first more starting most e = never (cc)
  asking P first more (counted single) most e = never (cc)
  asking P first more (opening all) most e = first all
  asking P first more (reading b) most e = more b
  asking P first more (printing b lines) most e = never (cc)
  asking P first more (ending lines) most e = never (cc)
  asking P first more (failing text) most e = never (cc)
  asking P first more stopped most e = never (cc)

  module _ (all : Bool) (read written : List ℕ) (ended : Bool) (talk : List Exchange) (account : Account all read written ended talk) where
    way_now : way_of talk ≡ all
    way_now = ap way_of (sym (append-nil talk)) ∙ account.way []

    front_now : (lines : List ℕ) → Front all read (written ++ lines) ended
        → (unread : List ℕ) → MayFollow talk unread → (rest : List ℕ) × (listing (way_of talk) (read_of talk ++ unread) ≡ (written_of (requests_of talk) ++ lines) ++ rest)
    front_now lines front unread f = rw (way_now, account.is_read, account.is_written) (front unread (rw account.is_ended at f))

    front_silent : Front all read written ended → (unread : List ℕ) → MayFollow talk unread → (rest : List ℕ) × (listing (way_of talk) (read_of talk ++ unread) ≡ (written_of (requests_of talk) ++ []) ++ rest)
    front_silent front = front_now [] (rw (append-nil written) front)

  -- What was asked for, with the request that is not answered yet.
  abbrev asked_of : State → List Exchange → List ℕ
  asked_of s talk = written_of (requests_of talk) ++ m.written (asks size s)

  front_known : (s : State) (talk : List Exchange) → Known s talk → (unread : List ℕ) → MayFollow talk unread → (rest : List ℕ) × (listing (way_of talk) (read_of talk ++ unread) ≡ asked_of s talk ++ rest)
  unfolding Known asks m.written read_of read_by written_of requests_of
  front_known starting talk h = λ unread f. rw h (listing (way_of []) unread, refl)
  front_known (counted single) talk h = λ unread f. rw h.1 (listing (way_of (one Count (heard_count h.0) ∷ [])) unread, refl)
  front_known (opening all) talk h = front_silent all [] [] false talk h (λ unread f. (listing all unread, refl))
  front_known (reading b) talk h =
      front_silent b.all h.read h.written false talk h.account (λ unread f. (records b.all b.done b.run (b.buffered ++ unread), owed h.read h.written b h.going unread))
  front_known (printing b lines) talk h =
      front_now b.all h.read h.written false talk h.account lines (λ unread f. (records b.all b.done b.run (b.buffered ++ unread), owed h.read (h.written ++ lines) b h.going unread))
  front_known (ending lines) talk h = front_now h.all h.read h.written h.ended talk h.account lines (whole_front h.all h.read (h.written ++ lines) h.ended h.whole)
  front_known (failing text) talk h = front_silent h.all h.read h.written h.ended talk h.account h.front
  front_known stopped talk h = front_silent h.all h.read h.written h.ended talk h.account h.front

  lines_known : (s : State) (talk : List Exchange) → Known s talk → (most : ℕ) → asks size s ≡ Read most → asked_of s talk ≡ lines_of (way_of talk) (read_of talk)
  unfolding Known asks m.written lines_of
  lines_known s talk h most e = asking (λ (x : State). Known x talk → asked_of x talk ≡ lines_of (way_of talk) (read_of talk))
      (λ all w. rw (w.is_read, w.is_written))
      (λ b w. rw (way_now b.all w.read w.written false talk w.account, w.account.is_read, w.account.is_written, append-nil w.written) (lines_so_far w.read w.written b w.going w.few))
      s most e h

  further_known : (s : State) (talk : List Exchange) → Known s talk → (most : ℕ) → asks size s ≡ Read most
      → (end_met talk ≡ false) × (goes_on_after (way_of talk) (read_of talk) ≡ true) × (length (read_of talk) + most ≤ 1 + 4 * most_records)
  unfolding Known asks most_to_read goes_on_after
  further_known s talk h most e = asking
      (λ (x : State). Known x talk → asks size x ≡ Read most → (end_met talk ≡ false) × (goes_on_after (way_of talk) (read_of talk) ≡ true) × (length (read_of talk) + most ≤ 1 + 4 * most_records))
      (λ all w f. (w.is_ended, rw w.is_read, omega (arith, ap length w.is_read, read_size 1 most f)))
      (λ b w f. (
        w.account.is_ended,
        rw (way_now b.all w.read w.written false talk w.account, w.account.is_read) (goes_on_after_lem w.read w.written b w.going w.few),
        omega (arith, ap length w.account.is_read, read_size (most_to_read size b) most f, read_length w.read w.written b w.going, w.going.less, w.few),
      ))
      s most e h e

  whole_known : (s : State) (talk : List Exchange) → Known s talk → asks size s ≡ Stop → error_text_of (requests_of talk) ++ m.error_text (asks size s) ≡ [] → (unread : List ℕ) → MayFollow talk unread
      → asked_of s talk ≡ listing (way_of talk) (read_of talk ++ unread)
  unfolding Known asks m.written m.error_text
  whole_known s talk h e = subst
      (λ (x : State). Known x talk → error_text_of (requests_of talk) ++ m.error_text (asks size x) ≡ [] → (unread : List ℕ) → MayFollow talk unread → asked_of x talk ≡ listing (way_of talk) (read_of talk ++ unread))
      (sym (only_stopped size room s e))
      (λ w silent unread f. rw (way_now w.all w.read w.written w.ended talk w.account, w.account.is_read, w.account.is_written, append-nil w.written)
      (sym (w.whole (sym (append-nil (error_text_of (requests_of talk))) ∙ silent) unread (rw w.account.is_ended at f))))
      h

  known_first : Known starting []
  unfolding Known
  known_first = refl

  module _ (answers : List Answer) where
    abbrev machine : Machine State
    machine = replaying size room

    abbrev known : Known (state_after machine answers) (exchanges machine answers)
    known = throughout machine Known known_step known_first answers

    pub prints_the_listing : PrintsTheListing size room answers
    prints_the_listing = record {
      so_far = rw (written_is machine answers) (front_known (state_after machine answers) (exchanges machine answers) known);
      before_reading = rw (written_is machine answers) (lines_known (state_after machine answers) (exchanges machine answers) known);
      at_the_stop = rw (written_is machine answers, error_text_is machine answers) (whole_known (state_after machine answers) (exchanges machine answers) known);
      no_further = further_known (state_after machine answers) (exchanges machine answers) known;
    }
