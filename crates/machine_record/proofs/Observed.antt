-- Where the machine stands after a list of answers, by what was asked and answered.
-- Assumes nothing.
use Rattle.std.specs.Prelude.{◌≡◌, ◌∷◌, ◌++◌, ◌+◌, ◌≤◌, ◌<◌}
use Rattle.laws.specs.Basics.{refl, sym, ◌∙◌, ap, true, false, List, [], append-nil, append_assoc, ℕ, arith, eqb, ltb, length, eqb-true, le-ltb, ltb-true, by_bool}
use Rattle.whole_runs.specs.Listing.{most_records}
use Rattle.machines.specs.programs.Numbers.{number_in}
use Rattle.machines.specs.Machines.{Count, Argument, Read, Write, Say, Fail, Stop, Answer, Number, Bytes, End, Done, Failed, Exchange, heard, stepped, exchanged, state_after, exchanges, written, error_text, written_of, error_text_of, brought, read_by, read_of, requests_of}
use Rattle.machines.proofs.{Answers.by_count, Answers.by_word, Answers.by_read, Answers.by_done, Runs.throughout, Runs.read_next, Runs.written_next, Runs.error_text_next}
use Rattle.machine_record.specs.Recorded.{long_enough, start_number, recorded_trace, refused_lines, left_over_of}
use Rattle.machine_record.specs.{Records.bytes_of_def, Records.line_of, Records.standing_after, Records.texts_after, Records.bytes_after, Records.lines_after, Promised.words_in, Promised.size_given, Promised.size_asked}
use Rattle.machine_record.specs.Machine.{Position, State, counting, naming, beginning, writing, reporting, reading, ending, failing, stopped, machine, ask, next, most_to_read, to_read_of, to_report, to_write_of, to_end_of, counted, sized, begun as machine-begun, begins_with, block_taken, longest_word, largest_buffer}
use Rattle.machine_record.proofs.Starts.{first, trace_is, lines_are}
use Rattle.machine_record.proofs.Parts.{standing_append, left_append, texts_append}

-- The size of the buffer is settled, whatever is asked from here on.
abbrev pub Settled : ℕ → List Exchange → Type 0
Settled size talk = (more : List Exchange) → size_asked (talk ++ more) ≡ size

-- All that was written and reported.
abbrev wrote : List Exchange → List ℕ
wrote talk = written_of (requests_of talk)

abbrev errors_in : List Exchange → List ℕ
errors_in talk = error_text_of (requests_of talk)

-- The recorder stands after the records of what was read, with the bytes left over kept.
pub record At (p : Position) (talk : List Exchange) (out lines : List ℕ) : Type 0 where
  pub size : ℕ
  pub settled : Settled size talk
  pub n : ℕ
  pub l : List ℕ
  pub read : read_of talk ≡ n ∷ l
  pub fine : eqb (start_number size n) 0 ≡ true
  pub standing : p.standing ≡ standing_after (first size n) l
  pub rest : p.rest ≡ left_over_of l
  pub all_written : wrote talk ++ out ≡ recorded_trace size (read_of talk)
  pub all_reported : errors_in talk ++ lines ≡ refused_lines size (read_of talk)

-- Nothing more is read; what was written is all that was recorded.
abbrev Over : List Exchange → Type 0
Over talk = (size : ℕ) × Settled size talk × (wrote talk ≡ recorded_trace size (read_of talk))

-- Nothing was read, written or reported yet.
abbrev Nothing : List Exchange → Type 0
Nothing talk = (read_of talk ≡ []) × (wrote talk ≡ []) × (errors_in talk ≡ [])

abbrev pub Stands : State → List Exchange → Type 0
Stands counting talk = talk ≡ []
Stands naming talk = (e : Exchange) × (talk ≡ e ∷ []) × (eqb (words_in e.answer) 2 ≡ true) × Nothing talk
Stands (beginning size) talk = Settled size talk × Nothing talk
Stands (writing out lines p) talk = At p talk out lines
Stands (reporting lines p) talk = At p talk [] lines
Stands (reading p) talk = At p talk [] [] × (p.standing.done < most_records)
Stands (ending text) talk = Over talk
Stands (failing text) talk = Over talk
Stands stopped talk = Over talk

-- One exchange more.
module _ (talk : List Exchange) (e : Exchange) where
  abbrev more : List Exchange
  more = talk ++ (e ∷ [])

  settled_more : (size : ℕ) → Settled size talk → Settled size more
  settled_more size h = λ k. ap size_asked (append_assoc talk (e ∷ []) k) ∙ h (e ∷ k)

  read_none : read_by e.request e.answer ≡ [] → read_of more ≡ read_of talk
  read_none h = read_next talk e ∙ ap (λ (x : List ℕ). read_of talk ++ x) h ∙ append-nil (read_of talk)

  -- Some of what is to be written or reported was asked for.
  at_more : (p : Position) (out lines out' lines' : List ℕ) → At p talk out lines → read_by e.request e.answer ≡ [] → written e.request ++ out' ≡ out → error_text e.request ++ lines' ≡ lines
      → At p more out' lines'
  at_more p out lines out' lines' w none_read o s = record {
    size = w.size;
    settled = settled_more w.size w.settled;
    n = w.n;
    l = w.l;
    read = read_none none_read ∙ w.read;
    fine = w.fine;
    standing = w.standing;
    rest = w.rest;
    all_written =
        ap (λ (x : List ℕ). x ++ out') (written_next talk e)
        ∙ append_assoc (wrote talk) (written e.request) out'
        ∙ ap (λ (x : List ℕ). wrote talk ++ x) o
        ∙ w.all_written
        ∙ ap (recorded_trace w.size) (sym (read_none none_read));
    all_reported =
        ap (λ (x : List ℕ). x ++ lines') (error_text_next talk e)
        ∙ append_assoc (errors_in talk) (error_text e.request) lines'
        ∙ ap (λ (x : List ℕ). errors_in talk ++ x) s
        ∙ w.all_reported
        ∙ ap (refused_lines w.size) (sym (read_none none_read));
  }

  over_more : (size : ℕ) → Settled size talk → read_by e.request e.answer ≡ [] → wrote talk ++ written e.request ≡ recorded_trace size (read_of talk) → Over more
  over_more size h none_read o = (size, settled_more size h, written_next talk e ∙ o ∙ ap (recorded_trace size) (sym (read_none none_read)))

  over_silent : Over talk → read_by e.request e.answer ≡ [] → written e.request ≡ [] → Over more
  over_silent w none_read o = over_more w.0 w.1 none_read (ap (λ (x : List ℕ). wrote talk ++ x) o ∙ append-nil (wrote talk) ∙ w.2)

  nothing_more : Nothing talk → read_by e.request e.answer ≡ [] → written e.request ≡ [] → error_text e.request ≡ [] → Nothing more
  nothing_more w r o s = (read_none r ∙ w.0, written_next talk e ∙ ap (λ (x : List ℕ). wrote talk ++ x) o ∙ append-nil (wrote talk) ∙ w.1, error_text_next talk e ∙ ap (λ (x : List ℕ). errors_in talk ++ x) s ∙ append-nil (errors_in talk) ∙ w.2)

-- Before anything is read, nothing is recorded.
none_over : (size : ℕ) (talk : List Exchange) → Settled size talk → Nothing talk → Over talk
unfolding recorded_trace
none_over size talk h w = (size, h, w.1 ∙ sym (ap (recorded_trace size) w.0))

-- Where the machine goes after records.
to_read : (p : Position) (talk : List Exchange) → At p talk [] [] → Stands (to_read_of p) talk
unfolding to_read_of
to_read p talk w = by_bool (ltb p.standing.done most_records)
    (λ t. rw t (w, ltb-true p.standing.done most_records t))
    (λ t. rw t (w.size, w.settled, sym (append-nil (wrote talk)) ∙ w.all_written))

to_report_lem : (lines : List ℕ) (p : Position) (talk : List Exchange) → At p talk [] lines → Stands (to_report lines p) talk
unfolding to_report
to_report_lem [] p talk w = to_read p talk w
to_report_lem (b ∷ lines) p talk w = w

to_write : (out lines : List ℕ) (p : Position) (talk : List Exchange) → At p talk out lines → Stands (to_write_of out lines p) talk
unfolding to_write_of
to_write [] lines p talk w = to_report_lem lines p talk w
to_write (b ∷ out) lines p talk w = w

to_end : (text : List ℕ) (talk : List Exchange) → Over talk → Stands (to_end_of text) talk
unfolding to_end_of
to_end [] talk w = w
to_end (b ∷ text) talk w = w

-- A block.
at_block : (p : Position) (talk : List Exchange) (e : Exchange) (m : List ℕ) → At p talk [] [] → read_by e.request e.answer ≡ m → written e.request ≡ [] → error_text e.request ≡ []
    → let block = p.rest ++ m in
    At (record { standing = standing_after p.standing block; rest = left_over_of block }) (talk ++ (e ∷ [])) (bytes_after p.standing block) (lines_after p.standing block)
at_block p talk e m w brings o s =
    let f = first w.size w.n in
    let l = w.l in
    let now_read : read_of (talk ++ (e ∷ [])) ≡ w.n ∷ (l ++ m) = read_next talk e ∙ ap (λ (x : List ℕ). read_of talk ++ x) brings ∙ ap (λ (x : List ℕ). x ++ m) w.read in
    let block_is : p.rest ++ m ≡ left_over_of l ++ m = ap (λ (x : List ℕ). x ++ m) w.rest in
    record {
      size = w.size;
      settled = settled_more talk e w.size w.settled;
      n = w.n;
      l = l ++ m;
      read = now_read;
      fine = w.fine;
      standing = (λ j. standing_after (w.standing j) (block_is j)) ∙ sym (standing_append f l m);
      rest = ap left_over_of block_is ∙ sym (left_append l m);
      all_written =
          ap (λ (x : List ℕ). x ++ bytes_after p.standing (p.rest ++ m)) (written_next talk e ∙ ap (λ (x : List ℕ). wrote talk ++ x) o ∙ w.all_written ∙ ap (recorded_trace w.size) w.read ∙ trace_is w.size w.n l w.fine)
          ∙ (λ j. ((w.n ∷ []) ++ bytes_after f l) ++ bytes_after (w.standing j) (block_is j))
          ∙ append_assoc (w.n ∷ []) (bytes_after f l) (bytes_after (standing_after f l) (left_over_of l ++ m))
          ∙ ap (λ (x : List ℕ). (w.n ∷ []) ++ x) (sym (texts_append bytes_of_def f l m))
          ∙ sym (trace_is w.size w.n (l ++ m) w.fine)
          ∙ ap (recorded_trace w.size) (sym now_read);
      all_reported =
          ap (λ (x : List ℕ). x ++ lines_after p.standing (p.rest ++ m)) (error_text_next talk e ∙ ap (λ (x : List ℕ). errors_in talk ++ x) s ∙ w.all_reported ∙ ap (refused_lines w.size) w.read ∙ lines_are w.size w.n l w.fine)
          ∙ (λ j. lines_after f l ++ lines_after (w.standing j) (block_is j))
          ∙ sym (texts_append line_of f l m)
          ∙ sym (lines_are w.size w.n (l ++ m) w.fine)
          ∙ ap (refused_lines w.size) (sym now_read);
    }

-- The start.
at_start : (size n : ℕ) (talk : List Exchange) (e : Exchange) → Settled size talk → Nothing talk → read_by e.request e.answer ≡ n ∷ [] → written e.request ≡ [] → error_text e.request ≡ []
    → eqb (start_number size n) 0 ≡ true → At (record { standing = first size n; rest = [] }) (talk ++ (e ∷ [])) (n ∷ []) []
unfolding standing_after left_over_of texts_after
at_start size n talk e h w brings o s fine =
    let now_read : read_of (talk ++ (e ∷ [])) ≡ n ∷ [] = read_next talk e ∙ ap (λ (x : List ℕ). read_of talk ++ x) brings ∙ ap (λ (x : List ℕ). x ++ (n ∷ [])) w.0 in
    record {
      size = size;
      settled = settled_more talk e size h;
      n = n;
      l = [];
      read = now_read;
      fine = fine;
      standing = refl;
      rest = refl;
      all_written =
          ap (λ (x : List ℕ). x ++ (n ∷ [])) (written_next talk e ∙ ap (λ (x : List ℕ). wrote talk ++ x) o ∙ append-nil (wrote talk) ∙ w.1)
          ∙ sym (trace_is size n [] fine)
          ∙ ap (recorded_trace size) (sym now_read);
      all_reported =
          ap (λ (x : List ℕ). x ++ []) (error_text_next talk e ∙ ap (λ (x : List ℕ). errors_in talk ++ x) s ∙ append-nil (errors_in talk) ∙ w.2)
          ∙ sym (lines_are size n [] fine)
          ∙ ap (refused_lines size) (sym now_read);
    }

refused_start : (size n : ℕ) (talk : List Exchange) (e : Exchange) → Settled size talk → Nothing talk → read_by e.request e.answer ≡ n ∷ [] → written e.request ≡ []
    → eqb (start_number size n) 0 ≡ false → Over (talk ++ (e ∷ []))
unfolding recorded_trace
refused_start size n talk e h w brings o wrong =
    let now_read : read_of (talk ++ (e ∷ [])) ≡ n ∷ [] = read_next talk e ∙ ap (λ (x : List ℕ). read_of talk ++ x) brings ∙ ap (λ (x : List ℕ). x ++ (n ∷ [])) w.0 in
    let nothing : recorded_trace size (n ∷ []) ≡ [] = rw wrong refl in
    (size, settled_more talk e size h, written_next talk e ∙ ap (λ (x : List ℕ). wrote talk ++ x) o ∙ append-nil (wrote talk) ∙ w.1 ∙ sym nothing ∙ ap (recorded_trace size) (sym now_read))

-- The first two answers.
settled_words : (e : Exchange) → eqb (words_in e.answer) 2 ≡ false → Settled long_enough (e ∷ [])
unfolding size_asked
settled_words e h = λ k. rw h refl

settled_asked : (e f : Exchange) → eqb (words_in e.answer) 2 ≡ true → Settled (number_in (brought f.answer)) (e ∷ f ∷ [])
unfolding size_asked size_given
settled_asked e f h = λ k. rw h refl

module _ (b : Answer) where
  abbrev counted_one : List Exchange
  counted_one = record { request = Count; answer = b } ∷ []

  nothing_yet : Nothing counted_one
  unfolding read_of read_by requests_of written_of written error_text_of error_text
  nothing_yet = (refl, refl, refl)

  over_early : eqb (words_in b) 2 ≡ false → Over counted_one
  over_early h = none_over long_enough counted_one (settled_words _ h) nothing_yet

stands_counted : (words : ℕ) → Stands (counted words) (counted_one (Number words))
unfolding counted words_in
stands_counted words = by_bool (eqb words 2)
    (λ t. let e = eqb-true words 2 t in rw (le-ltb words 2 (omega arith), t) (record { request = Count; answer = Number words }, refl, t, nothing_yet (Number words)))
    (λ t. by_bool (ltb words 2)
    (λ u. rw u (settled_words (record { request = Count; answer = Number words }) t, nothing_yet (Number words)))
    (λ u. rw (u, t) (over_early (Number words) t)))

stands_sized : (e : Exchange) (talk : List Exchange) (word : List ℕ) → talk ≡ e ∷ [] → eqb (words_in e.answer) 2 ≡ true → Nothing talk
    → Stands (sized (number_in word)) (talk ++ (record { request = Argument 1 longest_word; answer = Bytes word } ∷ []))
unfolding sized read_by written error_text brought
stands_sized e talk word is two none_yet =
    let f : Exchange = record { request = Argument 1 longest_word; answer = Bytes word } in
    let settled : Settled (number_in word) (talk ++ (f ∷ [])) = rw is (settled_asked e f two) in
    let none-now = nothing_more talk f none_yet refl refl refl in
    by_bool (ltb largest_buffer (number_in word))
    (λ t. rw t (none_over (number_in word) (talk ++ (f ∷ [])) settled none-now))
    (λ t. rw t (settled, none-now))

over_asked : (e : Exchange) (talk : List Exchange) (b : Answer) → talk ≡ e ∷ [] → eqb (words_in e.answer) 2 ≡ true → Nothing talk
    → Over (talk ++ (record { request = Argument 1 longest_word; answer = b } ∷ []))
unfolding read_by written error_text
over_asked e talk b is two none_yet =
    let f : Exchange = record { request = Argument 1 longest_word; answer = b } in
    none_over (number_in (brought b)) (talk ++ (f ∷ [])) (rw is (settled_asked e f two)) (nothing_more talk f none_yet refl refl refl)

-- The first byte.
stands_begun : (size n : ℕ) (talk : List Exchange) → Settled size talk → Nothing talk → Stands (machine-begun size n) (talk ++ (record { request = Read 1; answer = Bytes (n ∷ []) } ∷ []))
unfolding machine-begun read_by brought written error_text
stands_begun size n talk h w = by_bool (eqb (start_number size n) 0)
    (λ t. rw t (at_start size n talk (record { request = Read 1; answer = Bytes (n ∷ []) }) h w refl refl refl t))
    (λ t. rw t (refused_start size n talk (record { request = Read 1; answer = Bytes (n ∷ []) }) h w refl refl t))

stands_first : (size : ℕ) (talk : List Exchange) → Settled size talk → Nothing talk → (l : List ℕ) → 1 ≤ length l → length l ≤ 1
    → Stands (begins_with size l) (talk ++ (record { request = Read 1; answer = Bytes l } ∷ []))
unfolding begins_with
stands_first size talk h w [] some few = absurd (omega (arith, some))
stands_first size talk h w (n ∷ []) some few = stands_begun size n talk h w
stands_first size talk h w (n ∷ k ∷ l) some few = absurd (omega (arith, few))

over_begun : (size : ℕ) (talk : List Exchange) (b : Answer) → brought b ≡ [] → Settled size talk → Nothing talk → Over (talk ++ (record { request = Read 1; answer = b } ∷ []))
unfolding read_by written
over_begun size talk b e h w = over_silent talk (record { request = Read 1; answer = b }) (none_over size talk h w) e refl

-- A failure, and the end of the input.
over_read : (p : Position) (talk : List Exchange) (most : ℕ) (b : Answer) → brought b ≡ [] → At p talk [] [] → Over (talk ++ (record { request = Read most; answer = b } ∷ []))
unfolding read_by written
over_read p talk most b e w = over_silent talk (record { request = Read most; answer = b }) (w.size, w.settled, sym (append-nil (wrote talk)) ∙ w.all_written) e refl

over_write : (p : Position) (talk : List Exchange) (out lines : List ℕ) (b : Answer) → At p talk out lines → Over (talk ++ (record { request = Write out; answer = b } ∷ []))
unfolding read_by written
over_write p talk out lines b w = over_more talk (record { request = Write out; answer = b }) w.size w.settled refl w.all_written

kept_next : (s : State) (talk : List Exchange) (a : Answer) → Stands s talk → Stands (stepped machine s a) (talk ++ (exchanged machine s a ∷ []))
unfolding stepped ask heard next block_taken brought read_by written error_text words_in
kept_next counting talk a h = rw h (by_count (λ (b : Answer). Stands (next counting b) (counted_one b)) (over_early Failed refl) stands_counted a)
kept_next naming talk a h =
    by_word (λ (b : Answer). Stands (next naming b) (talk ++ (record { request = Argument 1 longest_word; answer = b } ∷ [])))
    (over_asked h.0 talk Failed h.1 h.2 h.3) longest_word (λ word few. stands_sized h.0 talk word h.1 h.2 h.3) a
kept_next (beginning size) talk a h =
    by_read (λ (b : Answer). Stands (next (beginning size) b) (talk ++ (record { request = Read 1; answer = b } ∷ [])))
    (over_begun size talk Failed refl h.0 h.1) 1 (stands_first size talk h.0 h.1) (over_begun size talk End refl h.0 h.1) a
kept_next (writing out lines p) talk a h =
    by_done (λ (b : Answer). Stands (next (writing out lines p) b) (talk ++ (record { request = Write out; answer = b } ∷ [])))
    (over_write p talk out lines Failed h) (to_report_lem lines p _ (at_more talk (record { request = Write out; answer = Done }) p out lines [] lines h refl (append-nil out) refl)) a
kept_next (reporting lines p) talk a h = to_read p _ (at_more talk (record { request = Say lines; answer = Done }) p [] lines [] [] h refl refl (append-nil lines))
kept_next (reading p) talk a h =
    by_read (λ (b : Answer). Stands (next (reading p) b) (talk ++ (record { request = Read (most_to_read p); answer = b } ∷ [])))
    (over_read p talk (most_to_read p) Failed refl h.0) (most_to_read p)
    (λ m some few. to_write _ _ _ _ (at_block p talk (record { request = Read (most_to_read p); answer = Bytes m }) m h.0 refl refl refl))
    (to_end _ _ (over_read p talk (most_to_read p) End refl h.0)) a
kept_next (ending text) talk a h = over_silent talk (record { request = Say text; answer = Done }) h refl refl
kept_next (failing text) talk a h = over_silent talk (record { request = Fail text; answer = Done }) h refl refl
kept_next stopped talk a h = over_silent talk (record { request = Stop; answer = Failed }) h refl refl

-- So after every list of answers.
pub stands : (answers : List Answer) → Stands (state_after machine answers) (exchanges machine answers)
stands answers = throughout machine Stands kept_next refl answers
