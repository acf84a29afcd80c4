-- No line is longer than `longest_line`: a bound for the buffer that lines are printed into.
-- Assumes nothing.
use Rattle.std.specs.Prelude.{◌≡◌, ◌∷◌, ◌*◌, ◌^◌, ◌≤◌, ◌<◌}
use Rattle.laws.specs.Basics.{refl, List, [], Option, None, Some, ℕ, zero, suc, arith, eqb, length, get_or, length-append, by_bool}
use Rattle.whole_runs.specs.{Calls.Reply, Listing.decimal, Listing.value_text, Listing.deletions_text, Listing.accepted_text, Listing.line_text}
use Rattle.listing.specs.Lines.{longest_line}
use Rattle.listing.proofs.Digits.{no_more, at_most_lem}

decimal_length : (w n : ℕ) → 1 ≤ w → n < 10 ^ w → length (decimal n) ≤ w
unfolding decimal
decimal_length w n l h = at_most_lem 20 w n l h

-- No number has more than 20 digits.
pub twenty_digits : (n : ℕ) → length (decimal n) ≤ 20
unfolding decimal
twenty_digits n = no_more 20 n

value_length : (o : Option ℕ) → ((v : ℕ) → o ≡ Some v → v < 10000000000) → length (value_text o) ≤ 10
unfolding value_text
value_length None h = omega arith
value_length (Some v) h = decimal_length 10 v (omega arith) (h v refl)

-- A deletion takes at most 12 bytes: a space, a colon, and two numbers of 16 bits.
deletions_length : (k : ℕ) (l : List ℕ) → ((j : ℕ) → get_or l j 0 < 65536) → length (deletions_text k l) ≤ 12 * k
unfolding deletions_text
deletions_length zero l h = omega arith
deletions_length (suc k) [] h = omega arith
deletions_length (suc k) (p ∷ []) h = omega arith
deletions_length (suc k) (p ∷ i ∷ l) h =
    let first : length (decimal p) ≤ 5 = decimal_length 5 p (omega arith) (omega (arith, h 0)) in
    let second : length (decimal i) ≤ 5 = decimal_length 5 i (omega arith) (omega (arith, h 1)) in
    simp length-append (omega (arith, deletions_length k l (λ j. h (suc (suc j)))))

-- For every record number of a replay, every number of 32 bits as the value, and as many deletions as 16 processes can have.
pub line_length : (number : ℕ) (r : Reply) → number ≤ 1000000000 → r.report.refused < 1000
    → ((v : ℕ) → r.report.value ≡ Some v → v < 10000000000) → r.report.deletions ≤ 256 → ((j : ℕ) → get_or r.deleted j 0 < 65536)
    → length (line_text number r) ≤ longest_line
unfolding line_text accepted_text
line_length number r hn hr hv hd hl =
    let a : length (decimal number) ≤ 10 = decimal_length 10 number (omega arith) (omega arith) in
    let b : length (decimal r.report.refused) ≤ 3 = decimal_length 3 r.report.refused (omega arith) hr in
    let c : length (value_text r.report.value) ≤ 10 = value_length r.report.value hv in
    let d : length (decimal r.report.deletions) ≤ 3 = decimal_length 3 r.report.deletions (omega arith) (omega arith) in
    let e : length (deletions_text r.report.deletions r.deleted) ≤ 12 * r.report.deletions = deletions_length r.report.deletions r.deleted hl in
    by_bool (eqb r.report.refused 0)
    (λ t. rw t (simp length-append (omega arith)))
    (λ t. rw t (simp length-append (omega arith)))
