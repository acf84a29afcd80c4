-- Texts printed one after the other, and the text of a deletion list by its last pair.
-- Assumes nothing.
use Rattle.std.specs.Prelude.{◌≡◌, ◌∷◌, ◌++◌, ◌+◌, ◌*◌, ◌≤◌, ◌<◌}
use Rattle.std.specs.declared.num.NonZeroU8.{NonZeroU8}
use Rattle.std.specs.Int.NonZero.{non_zero_u8_get}
use Rattle.laws.specs.Basics.{refl, sym, ◌∙◌, ap, None, Some, List, [], append-nil, append_assoc, ℕ, zero, suc, arith, eqb, length, get_or, length-append, ne_eqb, pick}
use lib.Seq.{length-sets}
use Rattle.laws.specs.Written.{sets_append}
use Rattle.whole_runs.specs.Calls.{Reply}
use Rattle.whole_runs.specs.Listing.{digits, decimal, space, colon, line_feed, deletions_text, accepted_text, line_text}
use Rattle.listing.specs.declared.Summary.{Summary}
use Rattle.listing.specs.{Lines.number_said, Lines.reply_of, Lines.pair_text, Lines.refusal_line, Printed.Room, Printed.Printed}

-- A text after a text is the two together.
pub then : {l m n s t : List ℕ} {at p q : ℕ} → Printed l at s m p → Printed m p t n q → Printed l at (s ++ t) n q
then {l} {m} {n} {s} {t} {at} {p} {q} first second = record {
  next_place = omega (arith, first.next_place, second.next_place, length-append s t);
  holds = second.holds ∙ rw (first.holds, first.next_place) (sym (sets_append l at s t));
}

-- Room for two texts is room for the first, and for the second once the first is printed.
pub room_first : (l : List ℕ) (at : ℕ) (s t : List ℕ) → Room l at (s ++ t) → Room l at s
room_first l at s t h = omega (arith, length-append s t)

pub room_rest : {l m s : List ℕ} {at p : ℕ} (t : List ℕ) → Printed l at s m p → Room l at (s ++ t) → Room m p t
room_rest {l} {m} {s} {at} {p} t first h = omega (arith, length-append s t, first.next_place, ap length first.holds ∙ length-sets l at s)

-- The line of a record that is refused, and of one that is accepted: its 0, and what is printed of it.
pub refused_line : (k : ℕ) (r : Reply) → (r.report.refused ≡ 0 → ⊥) → line_text k r ≡ refusal_line k r.report.refused
unfolding line_text refusal_line
refused_line k r h = rw (ne_eqb r.report.refused 0 h)

zero_printed : (refused : ℕ) (more feed : List ℕ) → refused ≡ 0 → decimal refused ++ (pick (eqb refused 0) more [] ++ feed) ≡ (48 ∷ []) ++ (more ++ feed)
unfolding decimal digits
zero_printed refused more feed e = rw e

pub accepted_line : (k : ℕ) (r : Reply) → r.report.refused ≡ 0 → line_text k r ≡ decimal k ++ (space ∷ ((48 ∷ []) ++ (accepted_text r ++ (line_feed ∷ []))))
unfolding line_text
accepted_line k r e = ap (λ (t : List ℕ). decimal k ++ (space ∷ t)) (zero_printed r.report.refused (accepted_text r) (line_feed ∷ []) e)

-- The same of the reply that a summary makes, by its option of a number.
pub line_of_refused : (k : ℕ) (s : Summary) (deleted : List ℕ) (refused : NonZeroU8) → s.refused ≡ Some refused
    → line_text k (reply_of s deleted) ≡ refusal_line k (non_zero_u8_get refused)
unfolding reply_of
line_of_refused k s deleted refused e = rw e (refused_line k _ (λ z. omega (arith, refused.ok)))

pub line_of_accepted : (k : ℕ) (s : Summary) (deleted : List ℕ) → s.refused ≡ None
    → line_text k (reply_of s deleted) ≡ decimal k ++ (space ∷ ((48 ∷ []) ++ (accepted_text (reply_of s deleted) ++ (line_feed ∷ []))))
unfolding reply_of
line_of_accepted k s deleted e = accepted_line k (reply_of s deleted) (ap number_said e)

pub accepted_length : (k : ℕ) (s : Summary) (deleted : List ℕ) → s.refused ≡ None
    → length (line_text k (reply_of s deleted)) ≡ length (decimal k) + length (accepted_text (reply_of s deleted)) + 3
accepted_length k s deleted e = rw (line_of_accepted k s deleted e) (simp length-append (omega arith))

-- No text is printed.
pub nothing : (l : List ℕ) (at : ℕ) → Printed l at [] l at
nothing l at = record { next_place = omega arith; holds = refl }

-- One deletion more.
pub one_more : (k : ℕ) (l : List ℕ) → 2 * k + 1 < length l → deletions_text (suc k) l ≡ deletions_text k l ++ pair_text (get_or l (2 * k) 0) (get_or l (2 * k + 1) 0)
unfolding deletions_text pair_text
one_more k [] h = absurd (omega arith)
one_more k (p ∷ []) h = absurd (omega arith)
one_more zero (p ∷ i ∷ l) h = rw append-nil
one_more (suc k) (p ∷ i ∷ l) h =
    let even : 2 * suc k ≡ suc (suc (2 * k)) = omega arith in
    let odd : 2 * suc k + 1 ≡ suc (suc (2 * k + 1)) = omega arith in
    rw (odd, even, one_more k l (omega arith)) (sym (moved (decimal p) (decimal i) (deletions_text k l) (pair_text (get_or l (2 * k) 0) (get_or l (2 * k + 1) 0))))
  where
    moved : (a b c d : List ℕ) → (space ∷ (a ++ (colon ∷ (b ++ c)))) ++ d ≡ space ∷ (a ++ (colon ∷ (b ++ (c ++ d))))
    moved a b c d = simp append_assoc

-- Fewer deletions have no longer text.
pub no_longer : (k n : ℕ) (l : List ℕ) → k ≤ n → length (deletions_text k l) ≤ length (deletions_text n l)
unfolding deletions_text
no_longer zero n l h = omega arith
no_longer (suc k) zero l h = absurd (omega arith)
no_longer (suc k) (suc n) [] h = omega arith
no_longer (suc k) (suc n) (p ∷ []) h = omega arith
no_longer (suc k) (suc n) (p ∷ i ∷ l) h = simp length-append (omega (arith, no_longer k n l (omega arith)))

-- Room for all deletions is room for the first k of them and one more.
pub room_for_one_more : (out : List ℕ) (at k count : ℕ) (l : List ℕ) → k < count → 2 * count ≤ length l → Room out at (deletions_text count l)
    → Room out at (deletions_text k l ++ pair_text (get_or l (2 * k) 0) (get_or l (2 * k + 1) 0))
room_for_one_more out at k count l h m r = rw (← one_more k l (omega arith)) (omega (arith, no_longer (suc k) count l h))
