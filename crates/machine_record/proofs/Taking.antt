-- What the functions leave that take records.
-- Assumes nothing.
use Rattle.std.specs.Prelude.{◌≡◌, ◌∷◌, ◌+◌, ◌-◌, ◌≤◌}
use Rattle.laws.specs.Basics.{refl, sym, ◌∙◌, ap, true, false, List, [], Option, None, Some, ℕ, arith, ltb, length, take, length-replicate, sets, lt-ltb, le-ltb, ltb-true, ltb-false, by_bool}
use Rattle.model.specs.{declared.Event.Event, declared.Run.Run, Refusals.number}
use Rattle.whole_runs.specs.{Outcomes.Report, Calls.Reply, Calls.answered}
use Rattle.listing.specs.declared.Summary.{Summary}
use Rattle.listing.specs.{Lines.number_said, Summarised.report_in, Printed.Printed}
use Rattle.theory_recording.specs.Recording.{Recorded, Tape, taped}
use Rattle.machine_record.specs.declared.{calls.Played.Played, block.Taken.Taken}
use Rattle.machine_record.specs.Recorded.{lent, in_front, recorded_in, line_for}
use Rattle.machine_record.specs.Records.{Standing, emptied, taken, standing_next, bytes_of_def, line_of}
use Rattle.machine_record.specs.Played.{tape, Plays, longest_line, place_for_of, standing_of, TakesOne}
use Rattle.machine_record.proofs.Emptied.{SameLeft, record_alike, front}

-- A call through the recorder, by what its contract says and what its answer is summed up to.
pub plays : {A : Type 0} (report : A → Report) (s : Run) (buffer : List ℕ) (place : ℕ) (o : Option Event) (x : Recorded A) → recorded_in (tape s buffer place) o ≡ taped report x
    → (summary : Summary) {s' : Run} {b : List ℕ} {p : ℕ} {a : A} → s' ≡ x.outcome.run → a ≡ x.outcome.answer → b ≡ x.buffer → p ≡ x.place → report_in summary ≡ report a
    → Plays s buffer place o s' b (record { refused = number_said summary.refused; place = p })
unfolding taped report_in answered
plays report s buffer place o x is summary run answer bytes next sum = record {
  left = (λ j. tape (run j) (bytes j) (next j)) ∙ ap (λ (y : _). y.tape) (sym is);
  number = ap (λ (r : Report). r.refused) (sum ∙ ap report answer) ∙ ap (λ (y : _). y.reply.report.refused) (sym is);
}

pub plays_malformed : (s : Run) (buffer : List ℕ) (place : ℕ) (d o : Option Event) → d ≡ None → d ≡ o → Plays s buffer place o s buffer (record { refused = 14; place = place })
unfolding recorded_in number
plays_malformed s buffer place d o e f =
    let none_is : None ≡ o = sym e ∙ f in
    rw (← none_is) (record { left = refl; number = refl })

pub plays_event : (s : Run) (buffer : List ℕ) (place : ℕ) (d : Option Event) (x : Event) (o : Option Event) (s' : Run) (buffer' : List ℕ) (r : Played) → d ≡ Some x → d ≡ o
    → Plays s buffer place (Some x) s' buffer' r → Plays s buffer place o s' buffer' r
plays_event s buffer place d x o s' buffer' r e f w =
    let some_is : Some x ≡ o = sym e ∙ f in
    rw (← some_is) w

nowhere : (b x : List ℕ) (p q : ℕ) → length x ≡ 0 → sets b p x ≡ sets b q x
nowhere b [] p q h = refl
nowhere b (a ∷ x) p q h = absurd (omega (arith, h))

-- One record at the place for it.
pub record PlayedAt (s : Run) (t : Taken) (o : Option Event) (out : List ℕ) (s' : Run) (out' : List ℕ) (r : Played) (place : ℕ) : Type 0 where
  pub room : t.size + 4 ≤ length out
  pub there : place ≡ place_for_of t.left t.size (length out)
  pub plays : Plays s out place o s' out' r

module _ {s : Run} {t : Taken} {o : Option Event} {out : List ℕ} {s' : Run} {out' : List ℕ} {r : Played} {place : ℕ} (d : PlayedAt s t o out s' out' r place) where
  abbrev g : Standing
  g = standing_of s t

  at_end_lem : ltb t.left 4 ≡ true → place ≡ length out
  unfolding place_for_of
  at_end_lem h = d.there ∙ rw h refl

  here : ltb t.left 4 ≡ false → place ≡ t.size
  unfolding place_for_of
  here h = d.there ∙ rw h refl

  place_inside : place ≤ length out
  place_inside = by_bool (ltb t.left 4) (λ h. omega (arith, at_end_lem h)) (λ h. omega (arith, here h, d.room))

  same_test : ltb (length out - place) 4 ≡ ltb (length (lent t.left) - 0) 4
  unfolding lent
  same_test = by_bool (ltb t.left 4)
      (λ h. lt-ltb (length out - place) 4 (omega (arith, at_end_lem h)) ∙ sym (lt-ltb (length (lent t.left) - 0) 4 (omega (arith, ltb-true t.left 4 h, length-replicate {A = ℕ} t.left 0))))
      (λ h. le-ltb (length out - place) 4 (omega (arith, here h, d.room)) ∙ sym (le-ltb (length (lent t.left) - 0) 4 (omega (arith, ltb-false t.left 4 h, length-replicate {A = ℕ} t.left 0))))

  alike : SameLeft (tape s out place) (emptied g) (recorded_in (tape s out place) o) (taken g o)
  unfolding taken emptied
  alike = record_alike (tape s out place) (emptied g) (record { run = refl; inside = place_inside; inside_other = omega arith; room = same_test }) o

  abbrev bytes : List ℕ
  bytes = alike.bytes

  place_after : r.place ≡ place + length bytes
  place_after = ap (λ (x : Tape). x.place) d.plays.left ∙ alike.place

  pub not_back : place ≤ r.place
  not_back = omega (arith, place_after)

  pub at_most_four : r.place - place ≤ 4
  at_most_four = omega (arith, place_after, alike.few)

  other_size : length bytes ≤ t.left
  unfolding emptied lent
  other_size = omega (arith, alike.fits_other, length-replicate {A = ℕ} t.left 0)

  pub enough_left : r.place - place ≤ t.left
  enough_left = omega (arith, place_after, other_size)

  bytes_are : bytes_of_def g o ≡ bytes
  unfolding bytes_of_def in_front emptied
  bytes_are = (λ j. take (alike.place_other j) (alike.buffer_other j)) ∙ front (lent t.left) bytes 0 alike.fits_other

  none_fit : ltb t.left 4 ≡ true → length bytes ≡ 0
  none_fit h = omega (arith, at_end_lem h, alike.fits)

  written_there : sets out place bytes ≡ sets out t.size bytes
  written_there = by_bool (ltb t.left 4)
      (λ h. nowhere out bytes place t.size (none_fit h))
      (λ h. ap (λ (k : ℕ). sets out k bytes) (here h))

  pub one_taken : (lines lines' : List ℕ) (pending : ℕ) → Printed lines t.pending (line_for (t.done + 1) r.refused) lines' pending → pending ≤ t.pending + longest_line
      → TakesOne s t o out lines s' (record { left = t.left - (r.place - place); done = t.done + 1; size = t.size + (r.place - place); pending = pending }) out' lines'
  unfolding standing_next line_of emptied
  one_taken lines lines' pending printed short =
      let more : r.place - place ≡ length (bytes_of_def g o) = omega (arith, place_after, ap (λ (x : List ℕ). length x) bytes_are) in
      let gone : r.place - place ≡ (taken g o).tape.place = omega (arith, place_after, alike.place_other) in
      let summary : line_for (t.done + 1) r.refused ≡ line_of g o = ap (line_for (t.done + 1)) (d.plays.number ∙ ap (λ (y : Reply). y.report.refused) alike.reply) in
      record {
        standing = λ j. record { run = (ap (λ (x : Tape). x.run) d.plays.left ∙ alike.run) j; left = t.left - gone j; done = t.done + 1 };
        written = ap (λ (x : Tape). x.buffer) d.plays.left ∙ alike.buffer ∙ written_there ∙ ap (sets out t.size) (sym bytes_are);
        size = ap (λ (k : ℕ). t.size + k) more;
        few = omega (arith, at_most_four);
        reported = printed.holds ∙ ap (sets lines t.pending) summary;
        pending = printed.next_place ∙ ap (λ (x : List ℕ). t.pending + length x) summary;
        short = short;
      }
