-- A settled verdict is settled for good.
-- Assumes nothing.
use Rattle.std.specs.Prelude.{◌≡◌, ◌&&◌, ◌||◌, ◌∷◌, ◌++◌, ◌≤◌}
use Rattle.laws.specs.Basics.{refl, sym, Bool, true, false, not, false≢true, List, [], None, ℕ, ltb, leb, length, le-ltb, leb-true, by_bool}
use Rattle.model.specs.{Words.ones, Refusals.start_refusal, laws.Refusals.no_rule, laws.Refusals.by_refusal}
use Rattle.theory_patterns.specs.{Patterns.reading, Verdicts.count_of, Verdicts.verdict}
use Rattle.theory_patterns.proofs.Ends.{long_traces_end}
use Rattle.machine_judge.specs.Judging.{most_read, settled, SettledForGood}

both : (a b : Bool) → not (a && b) ≡ false → (a ≡ true) × (b ≡ true)
both true true e = (refl, refl)
both true false e = absurd (false≢true (sym e))
both false b e = absurd (false≢true (sym e))

-- A first byte that is not refused is a count of processes.
counted : (n : ℕ) → start_refusal n ones ≡ None → (1 ≤ n) × (n ≤ 16)
counted n a =
    let h : (leb 1 n ≡ true) × (leb n 16 ≡ true) = unfold start_refusal in both (leb 1 n) (leb n 16) (no_rule _ a 0) in
    (leb-true 1 n h.0, leb-true n 16 h.1)

-- The first byte is refused: whatever follows it plays no part.
refused_first : (n : ℕ) (l rest : List ℕ) → ltb n 1 || (ltb 16 n || false) ≡ true → verdict (n ∷ (l ++ rest)) ≡ verdict (n ∷ l)
unfolding verdict reading count_of
refused_first n l rest e =
    by_refusal (start_refusal n ones)
    (λ a. absurd (false≢true (rw (le-ltb n 1 (counted n a).0, le-ltb 16 n (counted n a).1) at e)))
    (λ r a. rw a)

pub settled_for_good : SettledForGood
unfolding settled
settled_for_good [] rest e = absurd (false≢true e)
settled_for_good (n ∷ l) rest e =
    by_bool (leb most_read (length (n ∷ l)))
    (λ long. long_traces_end (n ∷ l) rest (leb-true most_read (length (n ∷ l)) long))
    (λ short. refused_first n l rest (rw short at e))
