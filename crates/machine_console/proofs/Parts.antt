-- The texts of pairs and of a line list: how long they are, and what one entry more adds.
-- Assumes nothing.
use Rattle.std.specs.Prelude.{◌≡◌, ◌∷◌, ◌++◌, ◌+◌, ◌*◌, ◌/◌, ◌≤◌, ◌<◌}
use Rattle.laws.specs.Basics.{refl, sym, ◌∙◌, ap, subst, List, [], append-nil, append_assoc, Option, None, Some, ℕ, zero, suc, min, arith, eqb, ltb, length, get_or, take, length-append, ne_eqb, ltb-true, ltb-false, by_bool}
use native.Mathlib.Numerals.{add-one}
use lib.Seq.{take_all}
use Rattle.whole_runs.specs.Listing.{decimal, space, colon, line_feed, value_text, deletions_text}
use Rattle.listing.specs.Printed.{Printed}
use Rattle.listing.proofs.Bounds.{twenty_digits}
use Rattle.theory_roles.specs.{declared.Caller.Caller, declared.Role.TheVariants.Operator, Console.entitled_by, Console.entitled}
use Rattle.machine_console.specs.Text.{field_text, entries_text, member_shown, members_text, line_text}

pub value_length : (v : Option ℕ) → length (value_text v) ≤ 20
unfolding value_text
value_length None = omega arith
value_length (Some x) = twenty_digits x

pub deletions_length : (k : ℕ) (l : List ℕ) → length (deletions_text k l) ≤ 21 * length l
unfolding deletions_text
deletions_length zero l = omega arith
deletions_length (suc k) [] = omega arith
deletions_length (suc k) (p ∷ []) = omega arith
deletions_length (suc k) (p ∷ i ∷ l) =
    omega (arith, length-append (decimal p) (colon ∷ (decimal i ++ deletions_text k l)), length-append (decimal i) (deletions_text k l), twenty_digits p, twenty_digits i, deletions_length k l)

-- A list has no more pairs than half its entries.
all_shown : (k count : ℕ) (l : List ℕ) → k ≤ count → length l ≤ 2 * k + 1 → deletions_text k l ≡ deletions_text count l
unfolding deletions_text
all_shown zero zero l h s = refl
all_shown zero (suc count) [] h s = refl
all_shown zero (suc count) (p ∷ []) h s = refl
all_shown zero (suc count) (p ∷ i ∷ l) h s = absurd (omega (arith, s))
all_shown (suc k) zero l h s = absurd (omega (arith, h))
all_shown (suc k) (suc count) [] h s = refl
all_shown (suc k) (suc count) (p ∷ []) h s = refl
all_shown (suc k) (suc count) (p ∷ i ∷ l) h s =
    ap (λ (x : List ℕ). space ∷ (decimal p ++ (colon ∷ (decimal i ++ x)))) (all_shown k count l (omega (arith, h)) (omega (arith, s)))

pub pairs_shown : (count shown : ℕ) (l : List ℕ) → shown ≡ min count (length l / 2) → deletions_text shown l ≡ deletions_text count l
pairs_shown count shown l e = by_bool (ltb (length l / 2) count)
    (λ h. all_shown shown count l (omega (arith, e, ltb-true (length l / 2) count h)) (omega (arith, e, ltb-true (length l / 2) count h)))
    (λ h. ap (λ (k : ℕ). deletions_text k l) {x = shown} {y = count} (omega (arith, e, ltb-false (length l / 2) count h)))

-- One place more of a line list.
members_more : (c : Caller) (n p k : ℕ) (l : List ℕ) → k < length l → members_text c n p (take (suc k) l) ≡ members_text c n p (take k l) ++ field_text (member_shown c n (p + k) (get_or l k 0))
unfolding members_text
members_more c n p k [] h = absurd (omega (arith, h))
members_more c n p zero (x ∷ l) h =
    append-nil (field_text (member_shown c n p x)) ∙ ap (λ (q : ℕ). field_text (member_shown c n q x)) {x = p} {y = p + 0} (omega arith)
members_more c n p (suc k) (x ∷ l) h =
    let t = field_text (member_shown c n p x) in
    ap (λ (z : List ℕ). t ++ z) (members_more c n (suc p) k l (omega (arith, h)))
    ∙ sym (append_assoc t (members_text c n (suc p) (take k l)) (field_text (member_shown c n (suc p + k) (get_or l k 0))))
    ∙ ap (λ (q : ℕ). (t ++ members_text c n (suc p) (take k l)) ++ field_text (member_shown c n q (get_or l k 0))) {x = suc p + k} {y = p + suc k} (omega arith)

pub members_next : (c : Caller) (n k : ℕ) (l : List ℕ) → k < length l → members_text c n 0 (take (k + 1) l) ≡ members_text c n 0 (take k l) ++ field_text (member_shown c n k (get_or l k 0))
members_next c n k l h =
    ap (λ (j : ℕ). members_text c n 0 (take j l)) (add-one k) ∙ members_more c n 0 k l h
    ∙ ap (λ (q : ℕ). members_text c n 0 (take k l) ++ field_text (member_shown c n q (get_or l k 0))) {x = 0 + k} {y = k} (omega arith)

-- An operator sees them all.
abbrev pub everyone : Caller
everyone = record { role = Operator; owned = 0 }

pub entries_members : (n p : ℕ) (l : List ℕ) → members_text everyone n p l ≡ entries_text l
unfolding members_text entries_text member_shown entitled entitled_by
entries_members n p [] = refl
entries_members n p (x ∷ l) = ap (λ (z : List ℕ). field_text (Some x) ++ z) (entries_members n (suc p) l)

-- A text that is another one, printed.
pub printed_as : {l m s t : List ℕ} {at p : ℕ} → t ≡ s → Printed l at s m p → Printed l at t m p
printed_as {l} {m} {s} {t} {at} {p} e h = subst (λ (x : List ℕ). Printed l at x m p) (sym e) h

-- The texts of a line by its parts.
pub refused_line : (k x : ℕ) → line_text k x [] ≡ (decimal k ++ field_text (Some x)) ++ (line_feed ∷ [])
unfolding line_text
refused_line k x = by_bool (eqb x 0)
    (λ e. rw e (sym (append_assoc (decimal k) (field_text (Some x)) (line_feed ∷ []))))
    (λ e. rw e (sym (append_assoc (decimal k) (field_text (Some x)) (line_feed ∷ []))))

pub accepted_line : (k : ℕ) (answer : List ℕ) → line_text k 0 answer ≡ ((decimal k ++ field_text (Some 0)) ++ answer) ++ (line_feed ∷ [])
unfolding line_text
accepted_line k answer =
    sym (append_assoc (decimal k) (field_text (Some 0)) (answer ++ (line_feed ∷ [])))
    ∙ sym (append_assoc (decimal k ++ field_text (Some 0)) answer (line_feed ∷ []))

pub refused_any : (k x : ℕ) (answer : List ℕ) → (x ≡ 0 → ⊥) → line_text k x answer ≡ line_text k x []
unfolding line_text
refused_any k x answer h = rw (ne_eqb x 0 h) refl

pub whole_line : (c : Caller) (n k : ℕ) (l : List ℕ) → length l ≤ k → members_text c n 0 l ≡ members_text c n 0 (take k l)
whole_line c n k l h = ap (members_text c n 0) (sym (take_all k l h))
