-- The decimal digits of a number: how many there are, by powers of ten, and what stands in a buffer while they are stored, the last one first.
-- Assumes nothing.
use Rattle.std.specs.Prelude.{◌≡◌, ◌∷◌, ◌++◌, ◌+◌, ◌-◌, ◌*◌, ◌/◌, ◌%◌, ◌^◌, ◌≤◌, ◌<◌}
use Rattle.laws.specs.Basics.{refl, sym, ◌∙◌, ap, List, [], append-nil, append_assoc, ℕ, zero, suc, arith, ltb, length, set, length-set, length-append, sets, lt-ltb, le-ltb, ltb-true, ltb-false, by_bool}
use native.Mathlib.Nat.{pow-suc, one-le-pow}
use lib.Seq.{set_comm}
use Rattle.whole_runs.specs.Listing.{digits, decimal}

-- One digit, and more than one.
pub one_digit : (k n : ℕ) → n < 10 → digits (suc k) n ≡ (48 + n) ∷ []
unfolding digits
one_digit k n h = rw (lt-ltb n 10 h)

pub more_digits : (k n : ℕ) → 10 ≤ n → digits (suc k) n ≡ digits k (n / 10) ++ ((48 + n % 10) ∷ [])
unfolding digits
more_digits k n h = rw (le-ltb n 10 h)

pub length_more : (k n : ℕ) → 10 ≤ n → length (digits (suc k) n) ≡ length (digits k (n / 10)) + 1
length_more k n h = rw (more_digits k n h, length-append)

-- There are never more than were asked for, and one at least.
pub no_more : (k n : ℕ) → length (digits k n) ≤ k
unfolding digits
no_more zero n = omega arith
no_more (suc k) n =
    by_bool (ltb n 10)
    (λ t. rw (one_digit k n (ltb-true n 10 t)) (omega arith))
    (λ t. rw (length_more k n (ltb-false n 10 t)) (omega (arith, no_more k (n / 10))))

pub at_least_one : (k n : ℕ) → 1 ≤ length (digits (suc k) n)
at_least_one k n =
    by_bool (ltb n 10)
    (λ t. rw (one_digit k n (ltb-true n 10 t)) (omega arith))
    (λ t. rw (length_more k n (ltb-false n 10 t)) (omega arith))

-- A number below ten to the power of w has at most w digits.
pub at_most_lem : (k w n : ℕ) → 1 ≤ w → n < 10 ^ w → length (digits k n) ≤ w
at_most_lem k zero n l h = absurd (omega arith)
at_most_lem zero (suc w) n l h = omega (arith, no_more zero n)
at_most_lem (suc k) (suc zero) n l h = rw (one_digit k n h) (omega arith)
at_most_lem (suc k) (suc (suc w)) n l h =
    by_bool (ltb n 10)
    (λ t. rw (one_digit k n (ltb-true n 10 t)) (omega arith))
    (λ t. rw (length_more k n (ltb-false n 10 t)) (omega (arith, at_most_lem k (suc w) (n / 10) (omega arith) (omega (arith, pow-suc 10 (suc w))))))

-- A number of at least ten to the power of w has more than w digits.
pub more_than : (k w n : ℕ) → 10 ^ w ≤ n → w < k → w < length (digits k n)
more_than zero w n h l = absurd (omega arith)
more_than (suc k) zero n h l = at_least_one k n
more_than (suc k) (suc w) n h l =
    let ten : 10 ≤ n = omega (arith, pow-suc 10 w, one-le-pow w 10 (omega arith)) in
    rw (length_more k n ten) (omega (arith, more_than k w (n / 10) (omega (arith, pow-suc 10 w)) (omega arith)))

-- A number from ten to the power of k on, and below the next power, has one digit more than k.
pub digits_counted : (k x : ℕ) → 10 ^ k ≤ x → x < 10 * 10 ^ k → k < 20 → k + 1 ≡ length (decimal x)
unfolding decimal
digits_counted k x low high few =
    omega (arith, more_than 20 k x low few, at_most_lem 20 (suc k) x (omega arith) (omega (arith, pow-suc 10 k)))

-- A store in front of values that were stored.
set_before : (l : List ℕ) (i p : ℕ) (vs : List ℕ) (d : ℕ) → p < i → set (sets l i vs) p d ≡ sets (set l p d) i vs
set_before l i p [] d h = refl
set_before l i p (v ∷ vs) d h = set_before (set l i v) (suc i) p vs d (omega arith) ∙ ap (λ (m : List ℕ). sets m (suc i) vs) (set_comm l i p v d (omega arith))

in_front : (before out : List ℕ) (p place d : ℕ) (stored : List ℕ) → place ≡ suc p → out ≡ sets before place stored → set out p d ≡ sets before p (d ∷ stored)
in_front before out p place d stored e h = rw (h, e) (set_before before (suc p) p stored d (omega arith))

-- The digits of x after `place` are stored, those of `rest` are still to come: at most `left` and one.
pub record Storing (before : List ℕ) (at x : ℕ) (out : List ℕ) (place rest : ℕ) : Type 0 where
  pub left : ℕ
  pub stored : List ℕ
  pub small : rest < 10 ^ suc left
  pub all : decimal x ≡ digits (suc left) rest ++ stored
  pub next : place ≡ at + length (digits (suc left) rest)
  pub same_length : length out ≡ length before
  pub holds : out ≡ sets before place stored

pub none_stored : (before : List ℕ) (at x : ℕ) → x < 18446744073709551616 → Storing before at x before (at + length (decimal x)) x
unfolding decimal
none_stored before at x h =
    record { left = 19; stored = []; small = omega arith; all = sym (append-nil (digits 20 x)); next = refl; same_length = refl; holds = refl }

-- The place is after the first digit and not past the last one.
pub between : (before : List ℕ) (at x : ℕ) (out : List ℕ) (place rest : ℕ) → Storing before at x out place rest → (at < place) × (place ≤ at + length (decimal x))
between before at x out place rest s =
    (omega (arith, at_least_one s.left rest), omega (arith, ap length s.all, length-append (digits (suc s.left) rest) s.stored))

-- One digit more is stored.
pub one_stored : (before : List ℕ) (at x : ℕ) (out : List ℕ) (place rest : ℕ) → Storing before at x out place rest → 10 ≤ rest
    → Storing before at x (set out (place - 1) (48 + rest % 10)) (place - 1) (rest / 10)
one_stored before at x out place rest s h = by_left s.left s.small s.all s.next
  where
    by_left : (left : ℕ) → rest < 10 ^ suc left → decimal x ≡ digits (suc left) rest ++ s.stored → place ≡ at + length (digits (suc left) rest)
        → Storing before at x (set out (place - 1) (48 + rest % 10)) (place - 1) (rest / 10)
    by_left zero small all next = absurd (omega arith)
    by_left (suc k) small all next =
        record {
          left = k;
          stored = (48 + rest % 10) ∷ s.stored;
          small = omega (arith, pow-suc 10 (suc k));
          all = all ∙ ap (λ (l : List ℕ). l ++ s.stored) (more_digits (suc k) rest h) ∙ append_assoc (digits (suc k) (rest / 10)) ((48 + rest % 10) ∷ []) s.stored;
          next = omega (arith, length_more (suc k) rest h);
          same_length = length-set out (place - 1) (48 + rest % 10) ∙ s.same_length;
          holds = in_front before out (place - 1) place (48 + rest % 10) s.stored (omega (arith, length_more (suc k) rest h)) s.holds;
        }

-- Two digits more are stored, as the code works them out.
pub two_stored : (before : List ℕ) (at x : ℕ) (out : List ℕ) (place rest : ℕ) → Storing before at x out place rest → 100 ≤ rest
    → Storing before at x (set (set out (place - 2) (48 + rest % 100 / 10)) (place - 2 + 1) (48 + rest % 100 % 10)) (place - 2) (rest / 100)
two_stored before at x out place rest s h =
    let one = one_stored before at x out place rest s (omega arith) in
    let two = one_stored before at x (set out (place - 1) (48 + rest % 10)) (place - 1) (rest / 10) one (omega arith) in
    let far : 2 ≤ place = omega (arith, between before at x (set out (place - 1) (48 + rest % 10)) (place - 1) (rest / 10) one) in
    let last : place - 2 + 1 ≡ place - 1 = omega arith in
    let first : place - 2 ≡ place - 1 - 1 = omega arith in
    let last-digit : rest % 100 % 10 ≡ rest % 10 = omega arith in
    let first-digit : rest % 100 / 10 ≡ rest / 10 % 10 = omega arith in
    let less : rest / 100 ≡ rest / 10 / 10 = omega arith in
    rw (last, first, last-digit, first-digit, less, set_comm out (place - 1 - 1) (place - 1) (48 + rest / 10 % 10) (48 + rest % 10) (omega arith)) two

-- Where the digits stand: after the first place, inside a buffer that has room for all of them; two more, if the rest has three; the first two, if it has two.
pub inside : {before : List ℕ} {at x : ℕ} {out : List ℕ} {place rest : ℕ} → Storing before at x out place rest → at + length (decimal x) ≤ length before → (at < place) × (place ≤ length out)
inside {before} {at} {x} {out} {place} {rest} s room = let b = between before at x out place rest s in (b.0, omega (arith, b.1, s.same_length))

pub two_before : {before : List ℕ} {at x : ℕ} {out : List ℕ} {place rest : ℕ} → Storing before at x out place rest → 100 ≤ rest → at + 2 < place
two_before {before} {at} {x} {out} {place} {rest} s h = omega (arith, between before at x _ (place - 2) (rest / 100) (two_stored before at x out place rest s h))

-- The first digit is stored: that is the whole number.
pub all_stored : {before : List ℕ} {at x : ℕ} {out : List ℕ} {place rest : ℕ} → Storing before at x out place rest → rest < 10 → set out at (48 + rest) ≡ sets before at (decimal x)
all_stored {before} {at} {x} {out} {place} {rest} s h =
    let one = one_digit s.left rest h in
    in_front before out at place (48 + rest) s.stored (omega (arith, ap length one)) s.holds
    ∙ ap (λ (l : List ℕ). sets before at l) (sym (s.all ∙ ap (λ (l : List ℕ). l ++ s.stored) one))

-- The first two digits are stored.
pub all_stored_by_two : {before : List ℕ} {at x : ℕ} {out : List ℕ} {place rest : ℕ} → Storing before at x out place rest → 10 ≤ rest → rest < 100
    → (place ≡ at + 2) × (set (set out at (48 + rest / 10)) (at + 1) (48 + rest % 10) ≡ sets before at (decimal x))
all_stored_by_two {before} {at} {x} {out} {place} {rest} s low high =
    let one = one_stored before at x out place rest s low in
    let next : place - 1 ≡ at + 1 = omega (arith, one.next, ap length (one_digit one.left (rest / 10) (omega arith))) in (
      omega (arith, between before at x out place rest s),
      rw (set_comm out at (at + 1) (48 + rest / 10) (48 + rest % 10) (omega arith), ← next) (all_stored one (omega arith)),
    )
