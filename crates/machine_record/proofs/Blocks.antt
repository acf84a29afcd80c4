-- The loop over the records of a block.
-- Assumes nothing.
use Rattle.std.specs.Prelude.{◌≡◌, ◌∷◌, ◌++◌, ◌+◌, ◌-◌, ◌*◌, ◌≤◌, ◌<◌}
use Rattle.laws.specs.Basics.{refl, sym, ◌∙◌, ap, List, [], append-nil, append_assoc, Option, ℕ, arith, length, take, drop, length-drop, sets, length-take-le, eq-eqb, le-leb, pick}
use lib.Seq.{length-sets, drop-drop}
use Rattle.model.specs.{declared.Event.Event, declared.Run.Run, Trace.decoded}
use Rattle.trace.specs.Answers.{record_at, event_in}
use Rattle.machine_record.specs.declared.block.Taken.{Taken}
use Rattle.machine_record.specs.Records.{Standing, standing_next, bytes_of_def, line_of, standing_after, texts_after, bytes_after, lines_after}
use Rattle.machine_record.specs.Played.{longest_line, standing_of, TakesOne, TakesAll}
use Rattle.machine_record.proofs.{Emptied.front, Parts.few_bytes}

-- One record and those after it.
one_standing : (g : Standing) (l : List ℕ) → 4 ≤ length l → standing_after g l ≡ standing_after (standing_next g (decoded (take 4 l))) (drop 4 l)
unfolding standing_after
one_standing g [] h = absurd (omega (arith, h))
one_standing g (a ∷ []) h = absurd (omega (arith, h))
one_standing g (a ∷ b ∷ []) h = absurd (omega (arith, h))
one_standing g (a ∷ b ∷ c ∷ []) h = absurd (omega (arith, h))
one_standing g (a ∷ b ∷ c ∷ d ∷ l) h = refl

one_text : (text : Standing → Option Event → List ℕ) (g : Standing) (l : List ℕ) → 4 ≤ length l
    → texts_after text g l ≡ text g (decoded (take 4 l)) ++ texts_after text (standing_next g (decoded (take 4 l))) (drop 4 l)
unfolding texts_after
one_text text g [] h = absurd (omega (arith, h))
one_text text g (a ∷ []) h = absurd (omega (arith, h))
one_text text g (a ∷ b ∷ []) h = absurd (omega (arith, h))
one_text text g (a ∷ b ∷ c ∷ []) h = absurd (omega (arith, h))
one_text text g (a ∷ b ∷ c ∷ d ∷ l) h = refl

-- The records of a block up to a place are taken: what is left to take gives the rest.
pub record SoFar (g : Standing) (block : List ℕ) (out lines : ℕ) (s : Run) (t : Taken) (at : ℕ) (out' lines' : List ℕ) : Type 0 where
  pub inside : at ≤ length block
  pub count : 4 * t.done ≡ 4 * g.done + at
  pub size : t.size ≤ at
  pub pending : 4 * t.pending ≤ longest_line * at
  pub out_length : length out' ≡ out
  pub lines_length : length lines' ≡ lines
  pub standing : standing_after (standing_of s t) (drop at block) ≡ standing_after g block
  pub written : take t.size out' ++ bytes_after (standing_of s t) (drop at block) ≡ bytes_after g block
  pub reported : take t.pending lines' ++ lines_after (standing_of s t) (drop at block) ≡ lines_after g block

pub none_so_far : (s : Run) (left done : ℕ) (block out lines : List ℕ)
    → SoFar (record { run = s; left = left; done = done }) block (length out) (length lines) s (record { left = left; done = done; size = 0; pending = 0 }) 0 out lines
none_so_far s left done block out lines = record {
  inside = omega arith;
  count = omega arith;
  size = omega arith;
  pending = omega arith;
  out_length = refl;
  lines_length = refl;
  standing = refl;
  written = refl;
  reported = refl;
}

-- The record at a place.
pub event_at : (block : List ℕ) (at : ℕ) (part : List ℕ) → at + 4 ≤ length block → part ≡ record_at block at → event_in part ≡ decoded (take 4 (drop at block))
unfolding record_at event_in
event_at block at part h e =
    let whole : part ≡ take 4 (drop at block) = e ∙ ap (λ b. pick b (take 4 (drop at block)) []) (le-leb (at + 4) (length block) h) in
    let four : length (take 4 (drop at block)) ≡ 4 = length-take-le 4 (drop at block) (omega (arith, h, length-drop at block)) in
    rw whole (rw (eq-eqb (length (take 4 (drop at block))) 4 four) refl)

-- A record's text goes to a buffer after those of the records in front of it.
module _ (text : Standing → Option Event → List ℕ) (g here there : Standing) (block : List ℕ) (at : ℕ) (more : at + 4 ≤ length block)
    (o : Option Event) (is : o ≡ decoded (take 4 (drop at block))) (then : there ≡ standing_next here o) where
  one_text_more : (l l' : List ℕ) (size size' : ℕ) → size + length (text here o) ≤ length l → l' ≡ sets l size (text here o) → size' ≡ size + length (text here o)
      → take size l ++ texts_after text here (drop at block) ≡ texts_after text g block → take size' l' ++ texts_after text there (drop (at + 4) block) ≡ texts_after text g block
  one_text_more l l' size size' room put grown so_far =
      let rest = drop at block in
      let after : List ℕ = texts_after text (standing_next here o) (drop 4 rest) in
      (λ j. ((λ i. take (grown i) (put i)) ∙ front l (text here o) size room) j ++ texts_after text (then j) (sym (drop-drop 4 at block) j))
      ∙ append_assoc (take size l) (text here o) after
      ∙ ap (λ (x : List ℕ). take size l ++ x) ((λ j. text here (is j) ++ texts_after text (standing_next here (is j)) (drop 4 rest)) ∙ sym (one_text text here rest (omega (arith, more, length-drop at block))))
      ∙ so_far

module _ (g : Standing) (block : List ℕ) (out lines : ℕ) (s : Run) (t : Taken) (at : ℕ) (o₁ l₁ : List ℕ) (w : SoFar g block out lines s t at o₁ l₁) (more : at + 4 ≤ length block)
    (o : Option Event) (is : o ≡ decoded (take 4 (drop at block))) (s' : Run) (t' : Taken) (o₂ l₂ : List ℕ) (one : TakesOne s t o o₁ l₁ s' t' o₂ l₂)
    (room : t.size + 4 ≤ length o₁) (lines-enough-room : t.pending + longest_line ≤ length l₁) where
  pub one_more : SoFar g block out lines s' t' (at + 4) o₂ l₂
  unfolding standing_next
  one_more =
      let here = standing_of s t in
      let there = standing_of s' t' in
      record {
        inside = more;
        count = omega (arith, w.count, ap (λ (x : Standing). x.done) one.standing);
        size = omega (arith, w.size, one.few);
        pending = omega (arith, w.pending, one.short);
        out_length = ap (λ (x : List ℕ). length x) one.written ∙ length-sets o₁ t.size (bytes_of_def here o) ∙ w.out_length;
        lines_length = ap (λ (x : List ℕ). length x) one.reported ∙ length-sets l₁ t.pending (line_of here o) ∙ w.lines_length;
        standing =
            (λ j. standing_after ((one.standing ∙ ap (standing_next here) is) j) (sym (drop-drop 4 at block) j))
            ∙ sym (one_standing here (drop at block) (omega (arith, more, length-drop at block)))
            ∙ w.standing;
        written = one_text_more bytes_of_def g here there block at more o is one.standing o₁ o₂ t.size t'.size (omega (arith, room, one.size, one.few)) one.written one.size w.written;
        reported =
            one_text_more line_of g here there block at more o is one.standing l₁ l₂ t.pending t'.pending
            (omega (arith, lines-enough-room, one.pending, one.short)) one.reported one.pending w.reported;
      }

-- No whole record is left.
pub all_so_far : (s : Run) (left done : ℕ) (block : List ℕ) (out lines : ℕ) (s' : Run) (t : Taken) (at : ℕ) (out' lines' : List ℕ)
    → SoFar (record { run = s; left = left; done = done }) block out lines s' t at out' lines' → length block - at < 4 → length block ≤ out → length block ≤ 4096
    → TakesAll s left done block out lines s' t out' lines'
all_so_far s left done block out lines s' t at out' lines' w few enough_room small =
    let none_left = few_bytes (standing_of s' t) (drop at block) (omega (arith, few, length-drop at block)) in
    record {
      standing = sym none_left.0 ∙ w.standing;
      written = sym (append-nil (take t.size out')) ∙ ap (λ (x : List ℕ). take t.size out' ++ x) (sym (none_left.1 bytes_of_def)) ∙ w.written;
      reported = sym (append-nil (take t.pending lines')) ∙ ap (λ (x : List ℕ). take t.pending lines' ++ x) (sym (none_left.1 line_of)) ∙ w.reported;
      size = omega (arith, w.size, w.inside, enough_room);
      pending = omega (arith, w.pending, w.inside, small);
      out_length = w.out_length;
      lines_length = w.lines_length;
    }
