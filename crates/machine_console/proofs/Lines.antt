-- The lines of calls, one call more.
-- Assumes nothing.
use Rattle.std.specs.Prelude.{◌≡◌, ◌∷◌, ◌++◌, ◌+◌, ◌*◌, ◌/◌, ◌%◌, ◌≤◌, ◌<◌}
use Rattle.laws.specs.Basics.{refl, sym, ◌∙◌, ap, List, [], append-nil, append_assoc, ℕ, zero, suc, arith, length, drop, length-drop}
use lib.Seq.{take-append-le, drop-append-le}
use Rattle.model.specs.declared.Run.{Run}
use Rattle.machine_console.specs.{Made.made_on, Text.first_call, Text.call_text, Text.call_lines, Text.run_after}

-- What follows k calls does not change their lines.
pub lines_front : (k done : ℕ) (s : Run) (a b : List ℕ) → 8 * k ≤ length a → call_lines k done s (a ++ b) ≡ call_lines k done s a
unfolding call_lines
lines_front zero done s a b h = refl
lines_front (suc k) done s a b h =
    rw (take-append-le 8 a b (omega (arith, h)), drop-append-le 8 a b (omega (arith, h)))
    (ap (λ (l : List ℕ). call_text (done + 1) s (first_call a) ++ l) (lines_front k (done + 1) (made_on s (first_call a)).run (drop 8 a) b (omega (arith, h, length-drop 8 a))))

none : (a : List ℕ) → length a ≡ 0 → a ≡ []
none [] e = refl
none (x ∷ a) e = absurd (omega (arith, e))

-- One call more.
pub one_line : (k done : ℕ) (s : Run) (a x : List ℕ) → length a ≡ 8 * k
    → call_lines (suc k) done s (a ++ x) ≡ call_lines k done s a ++ call_text (done + k + 1) (run_after k s a) (first_call x)
unfolding call_lines run_after
one_line zero done s a x e =
    let nil = none a (omega (arith, e)) in
    let same : done + 0 ≡ done = omega arith in
    rw (nil, same) (append-nil (call_text (done + 1) s (first_call x)))
one_line (suc k) done s a x e =
    let t = call_text (done + 1) s (first_call a) in
    let same : done + suc k ≡ done + 1 + k = omega arith in
    rw (take-append-le 8 a x (omega (arith, e)), drop-append-le 8 a x (omega (arith, e)), same)
    (ap (λ (l : List ℕ). t ++ l) (one_line k (done + 1) (made_on s (first_call a)).run (drop 8 a) x (omega (arith, e, length-drop 8 a)))
    ∙ sym (append_assoc t (call_lines k (done + 1) (made_on s (first_call a)).run (drop 8 a)) (call_text (done + 1 + k + 1) (run_after k (made_on s (first_call a)).run (drop 8 a)) (first_call x))))

pub one_run : (k : ℕ) (s : Run) (a x : List ℕ) → length a ≡ 8 * k → run_after (suc k) s (a ++ x) ≡ (made_on (run_after k s a) (first_call x)).run
unfolding run_after
one_run zero s a x e = rw (none a (omega (arith, e)))
one_run (suc k) s a x e =
    rw (take-append-le 8 a x (omega (arith, e)), drop-append-le 8 a x (omega (arith, e)))
    (one_run k (made_on s (first_call a)).run (drop 8 a) x (omega (arith, e, length-drop 8 a)))

-- How many whole calls there are, and how many bytes are left over.
pub whole_calls : (k h size : ℕ) → size ≡ 8 * k + h → h < 8 → size / 8 ≡ k
whole_calls k h size e f = omega (arith, e, f)

pub left_over : (k h size : ℕ) → size ≡ 8 * k + h → h < 8 → size % 8 ≡ h
left_over k h size e f = omega (arith, e, f)
