-- What is recorded in emptied buffers is what one long buffer holds.
-- Assumes nothing.
use Rattle.std.specs.Prelude.{◌≡◌, ◌∷◌, ◌++◌, ◌⊎◌, ◌+◌, ◌-◌, ◌≤◌}
use Rattle.laws.specs.Basics.{refl, sym, ◌∙◌, ap, subst, false, List, [], append-nil, append_assoc, Option, None, Some, inl, inr, ℕ, arith, ltb, length, take, drop, replicate, length-append, length-replicate, sets, length-take-le, le-ltb, ltb-false, by_bool}
use lib.Seq.{sets-eq, length-sets, take_at}
use Rattle.model.specs.declared.{Event.Event, Refusal.Refusal, Run.Run}
use Rattle.model.specs.declared.Event.TheVariants.{Checkpoint, Send, Deliver, Lose, Recover}
use Rattle.model.specs.{Trace.decoded, Trace.fits, Trace.encoded, Trace.bytes_of_def as four_bytes, laws.Refusals.by_refusal}
use Rattle.whole_runs.specs.{Outcomes.Outcome, Outcomes.Report, Calls.Call, Calls.Reply, Calls.answered, Listing.call_of}
use Rattle.theory_recording.specs.Replay.{record_bytes}
use Rattle.theory_recording.specs.Recording.{Recorded, Tape, Taped, unwritten, appended, recording, taped, recorded, recorded_checkpoint, recorded_send, recorded_deliver, recorded_lose, recorded_recover, tape_after}
use Rattle.machine_record.specs.Recorded.{call_in, calls_in, lent, in_front, recorded_in, line_for, lines_in}
use Rattle.machine_record.specs.Records.{Standing, emptied, taken, standing_next, bytes_of_def, line_of, standing_after, texts_after, bytes_after, lines_after, StandsAt}

-- Two tapes with the same state, and both with room for a record or both without.
pub record SameRoom (t u : Tape) : Type 0 where
  pub run : t.run ≡ u.run
  pub inside : t.place ≤ length t.buffer
  pub inside_other : u.place ≤ length u.buffer
  pub room : ltb (length t.buffer - t.place) 4 ≡ ltb (length u.buffer - u.place) 4

-- What a record leaves of both: the same state and reply, and the same bytes appended.
pub record SameLeft (t u : Tape) (x y : Taped) : Type 0 where
  pub run : x.tape.run ≡ y.tape.run
  pub reply : x.reply ≡ y.reply
  pub bytes : List ℕ
  pub few : length bytes ≤ 4
  pub fits : t.place + length bytes ≤ length t.buffer
  pub fits_other : u.place + length bytes ≤ length u.buffer
  pub buffer : x.tape.buffer ≡ sets t.buffer t.place bytes
  pub place : x.tape.place ≡ t.place + length bytes
  pub buffer_other : y.tape.buffer ≡ sets u.buffer u.place bytes
  pub place_other : y.tape.place ≡ u.place + length bytes

-- The same of what one call leaves.
record Alike {A : Type 0} (b : List ℕ) (p : ℕ) (c : List ℕ) (q : ℕ) (x y : Recorded A) : Type 0 where
  outcome : x.outcome ≡ y.outcome
  bytes : List ℕ
  few : length bytes ≤ 4
  fits : p + length bytes ≤ length b
  fits_other : q + length bytes ≤ length c
  buffer : x.buffer ≡ sets b p bytes
  place : x.place ≡ p + length bytes
  buffer_other : y.buffer ≡ sets c q bytes
  place_other : y.place ≡ q + length bytes

module _ {A : Type 0} (own : Option Refusal) (outcome short : Outcome A) (bytes b : List ℕ) (p : ℕ) (c : List ℕ) (q : ℕ) (inside : p ≤ length b) (inside_other : q ≤ length c)
    (room : ltb (length b - p) 4 ≡ ltb (length c - q) 4) where
  still : (o : Outcome A) → Alike b p c q (unwritten o b p) (unwritten o c q)
  unfolding unwritten
  still o = record { outcome = refl; bytes = []; few = omega arith; fits = omega arith; fits_other = omega arith; buffer = refl; place = omega arith; buffer_other = refl; place_other = omega arith }

  wrote : length bytes ≤ 4 → p + length bytes ≤ length b → q + length bytes ≤ length c → Alike b p c q (appended outcome bytes b p) (appended outcome bytes c q)
  unfolding appended
  wrote few h k = record { outcome = refl; bytes = bytes; few = few; fits = h; fits_other = k; buffer = refl; place = refl; buffer_other = refl; place_other = refl }

  same_test : (length bytes ≡ 0) ⊎ (length bytes ≡ 4) → ltb (length b - p) (length bytes) ≡ ltb (length c - q) (length bytes)
  same_test (inl e) = rw e (le-ltb (length b - p) 0 (omega arith) ∙ sym (le-ltb (length c - q) 0 (omega arith)))
  same_test (inr e) = rw e room

  at_most_lem : (length bytes ≡ 0) ⊎ (length bytes ≡ 4) → length bytes ≤ 4
  at_most_lem (inl e) = omega arith
  at_most_lem (inr e) = omega arith

  alike : (length bytes ≡ 0) ⊎ (length bytes ≡ 4) → Alike b p c q (recording own outcome short bytes b p) (recording own outcome short bytes c q)
  unfolding recording
  alike w = by_refusal own
      (λ h. by_bool (ltb (length b - p) (length bytes))
      (λ t. rw (h, t, sym (same_test w) ∙ t) (still short))
      (λ t.
      let u : ltb (length c - q) (length bytes) ≡ false = sym (same_test w) ∙ t in
      rw (h, t, u) (wrote (at_most_lem w) (omega (arith, ltb-false (length b - p) (length bytes) t)) (omega (arith, ltb-false (length c - q) (length bytes) u)))))
      (λ x h. rw h (still outcome))

-- A record has four bytes, or none.
record_size : (e : Event) → (length (record_bytes e) ≡ 0) ⊎ (length (record_bytes e) ≡ 4)
unfolding record_bytes encoded four_bytes
record_size e = by_bool (fits e) (λ h. rw h (inr refl)) (λ h. rw h (inl refl))

left_of : {A : Type 0} (report : A → Report) (t u : Tape) (x y : Recorded A) → Alike t.buffer t.place u.buffer u.place x y → SameLeft t u (taped report x) (taped report y)
unfolding taped
left_of report t u x y w = record {
  run = ap (λ (o : Outcome _). o.run) w.outcome;
  reply = ap (λ (o : Outcome _). (answered report o).reply) w.outcome;
  bytes = w.bytes;
  few = w.few;
  fits = w.fits;
  fits_other = w.fits_other;
  buffer = w.buffer;
  place = w.place;
  buffer_other = w.buffer_other;
  place_other = w.place_other;
}

abbrev tape : Run → List ℕ → ℕ → Tape
tape s b p = record { run = s; buffer = b; place = p }

module _ (s : Run) (b : List ℕ) (p : ℕ) (c : List ℕ) (q : ℕ) (inside : p ≤ length b) (inside_other : q ≤ length c) (room : ltb (length b - p) 4 ≡ ltb (length c - q) 4) where
  both : {A : Type 0} (report : A → Report) (own : Option Refusal) (outcome short : Outcome A) (e : Event)
      → SameLeft (tape s b p) (tape s c q) (taped report (recording own outcome short (record_bytes e) b p)) (taped report (recording own outcome short (record_bytes e) c q))
  both report own outcome short e = left_of report (tape s b p) (tape s c q) _ _ (alike own outcome short (record_bytes e) b p c q inside inside_other room (record_size e))

  event_alike : (e : Event) → SameLeft (tape s b p) (tape s c q) (recorded (tape s b p) (call_of e)) (recorded (tape s c q) (call_of e))
  unfolding recorded call_of recorded_checkpoint recorded_send recorded_deliver recorded_lose recorded_recover
  event_alike (Checkpoint i) = both _ _ _ _ (Checkpoint i)
  event_alike (Send i j) = both _ _ _ _ (Send i j)
  event_alike (Deliver m) = both _ _ _ _ (Deliver m)
  event_alike (Lose m) = both _ _ _ _ (Lose m)
  event_alike (Recover F) = both _ _ _ _ (Recover F)

pub record_alike : (t u : Tape) → SameRoom t u → (o : Option Event) → SameLeft t u (recorded_in t o) (recorded_in u o)
unfolding recorded_in
record_alike t u w None = record {
  run = w.run;
  reply = refl;
  bytes = [];
  few = omega arith;
  fits = omega (arith, w.inside);
  fits_other = omega (arith, w.inside_other);
  buffer = refl;
  place = omega arith;
  buffer_other = refl;
  place_other = omega arith;
}
record_alike t u w (Some e) =
    let path : tape t.run u.buffer u.place ≡ u = λ j. record { run = w.run j; buffer = u.buffer; place = u.place } in
    subst (λ (v : Tape). SameLeft t v (recorded t (call_of e)) (recorded v (call_of e))) path
    (event_alike t.run t.buffer t.place u.buffer u.place w.inside w.inside_other w.room e)

-- What stands in front of the place: what stood there before, and the bytes.
pub front : (b bytes : List ℕ) (p : ℕ) → p + length bytes ≤ length b → take (p + length bytes) (sets b p bytes) ≡ take p b ++ bytes
front b bytes p h =
    let size : length (take p b ++ bytes) ≡ p + length bytes = rw (length-append (take p b) bytes, length-take-le p b (omega arith)) in
    rw (sets-eq bytes b p h) (take_at (take p b ++ bytes) (drop (p + length bytes) b) (p + length bytes) size)

grown : (b : List ℕ) (p : ℕ) (c bytes : List ℕ) → p + length bytes ≤ length b → 0 + length bytes ≤ length c → {b' c' : List ℕ} {p' q' : ℕ}
    → p' ≡ p + length bytes → b' ≡ sets b p bytes → q' ≡ 0 + length bytes → c' ≡ sets c 0 bytes → take p' b' ≡ take p b ++ take q' c'
grown b p c bytes h k e f e' f' = rw (e, f, e', f', front b bytes p h, front c bytes 0 k) refl

module _ (g : Standing) (t : Tape) (w : StandsAt g t) where
  same_room : SameRoom t (emptied g)
  unfolding emptied lent
  same_room = record {
    run = w.run;
    inside = w.inside;
    inside_other = omega arith;
    room = let e : length t.buffer - t.place ≡ length (replicate {A = ℕ} g.left 0) - 0 = omega (arith, w.left, length-replicate {A = ℕ} g.left 0) in rw e;
  }

  one : (o : Option Event) → SameLeft t (emptied g) (recorded_in t o) (taken g o)
  unfolding taken
  one o = record_alike t (emptied g) same_room o

  -- One record leaves a long buffer that stands where the emptied one does,
  pub stands_on : (o : Option Event) → StandsAt (standing_next g o) (recorded_in t o).tape
  unfolding standing_next emptied
  stands_on o =
      let x = one o in
      let size : length (recorded_in t o).tape.buffer ≡ length t.buffer = ap (λ (l : List ℕ). length l) x.buffer ∙ length-sets t.buffer t.place x.bytes in
      record {
        run = x.run;
        inside = omega (arith, x.fits, size, x.place);
        left = omega (arith, x.fits, size, x.place, x.place_other, w.left);
      }

  -- and what was in front of its place has grown by the bytes of that record.
  pub front_grows : (o : Option Event) → in_front (recorded_in t o).tape ≡ in_front t ++ bytes_of_def g o
  unfolding in_front bytes_of_def emptied
  front_grows o =
      let x = one o in
      grown t.buffer t.place (lent g.left) x.bytes x.fits x.fits_other x.place x.buffer x.place_other x.buffer_other

  pub same_line : (o : Option Event) → line_for (g.done + 1) (recorded_in t o).reply.report.refused ≡ line_of g o
  unfolding line_of
  same_line o = ap (λ (r : Reply). line_for (g.done + 1) r.report.refused) (one o).reply

-- The calls of a record and of those after it.
calls_after : (t : Tape) (o : Option Event) (l : List Call) → tape_after t (call_in o ++ l) ≡ tape_after (recorded_in t o).tape l
unfolding call_in recorded_in tape_after
calls_after t None l = refl
calls_after t (Some e) l = refl

-- What the records of some bytes leave of a long buffer, and what emptied buffers leave of them.
pub record Same (g : Standing) (t : Tape) (l : List ℕ) : Type 0 where
  pub stands : StandsAt (standing_after g l) (tape_after t (calls_in l))
  pub bytes : in_front (tape_after t (calls_in l)) ≡ in_front t ++ bytes_after g l
  pub lines : lines_in g.done t l ≡ lines_after g l

none_taken : (g : Standing) (t : Tape) (l : List ℕ) → StandsAt g t → standing_after g l ≡ g → calls_in l ≡ [] → bytes_after g l ≡ [] → lines_in g.done t l ≡ lines_after g l → Same g t l
unfolding tape_after
none_taken g t l w a b c d = record { stands = rw (a, b) w; bytes = rw (b, c) (sym (append-nil (in_front t))); lines = d }

pub same : (g : Standing) (t : Tape) → StandsAt g t → (l : List ℕ) → Same g t l
unfolding standing_after standing_next calls_in texts_after lines_in
same g t w [] = none_taken g t [] w refl refl refl refl
same g t w (a ∷ []) = none_taken g t (a ∷ []) w refl refl refl refl
same g t w (a ∷ b ∷ []) = none_taken g t (a ∷ b ∷ []) w refl refl refl refl
same g t w (a ∷ b ∷ c ∷ []) = none_taken g t (a ∷ b ∷ c ∷ []) w refl refl refl refl
same g t w (a ∷ b ∷ c ∷ d ∷ l) =
    let o = decoded (a ∷ b ∷ c ∷ d ∷ []) in
    let x = same (standing_next g o) (recorded_in t o).tape (stands_on g t w o) l in
    record {
      stands = rw (calls_after t o (calls_in l)) x.stands;
      bytes =
          ap in_front (calls_after t o (calls_in l)) ∙ x.bytes
          ∙ ap (λ (m : List ℕ). m ++ bytes_after (standing_next g o) l) (front_grows g t w o)
          ∙ append_assoc (in_front t) (bytes_of_def g o) (bytes_after (standing_next g o) l);
      lines = ap (λ (m : List ℕ). m ++ lines_in (g.done + 1) (recorded_in t o).tape l) (same_line g t w o) ∙ ap (λ (m : List ℕ). line_of g o ++ m) x.lines;
    }
