-- The line rule on a sound state is one of precedence: it accepts a state exactly if the last stored checkpoint of no failed process comes causally before it.
-- Assumes nothing.
use Rattle.std.specs.Prelude.{◌≡◌, ◌&&◌, ◌-◌, ◌≤◌}
use Rattle.laws.specs.Basics.{true, not, ℕ, arith, ltb, lt-ltb, le-ltb, ltb-true, ltb-false, by_bool}
use Rattle.laws.specs.{Ranges.all_same, Search.all_below}
use Rattle.model.specs.declared.{Checkpoint.Checkpoint, Run.Run}
use Rattle.model.specs.{Words.entry, Words.last_stored_of, Words.comes_before, Words.own, Words.failed, Steps.allowed, Sound.sound, laws.Sound.sound_state}

-- An entry is less than an own entry exactly if the last stored checkpoint does not come before: its index is one less than the own entry.
not_before : (own e : ℕ) → 1 ≤ own → ltb e own ≡ not (ltb (own - 1) e)
not_before own e pos = by_bool (ltb e own)
    (λ d. rw (d, le-ltb (own - 1) e (omega (arith, ltb-true e own d))))
    (λ d. rw (d, lt-ltb (own - 1) e (omega (arith, ltb-false e own d))))

-- So the line rule is one of precedence.
pub rule_by_precedence : (s : Run) (F : ℕ) → sound s ≡ true → (c : Checkpoint)
    → allowed s F c ≡ all_below s.count (λ f. not (failed F f && comes_before (last_stored_of (own s f)) f c.vector))
unfolding allowed
rule_by_precedence s F whole c = all_same s.count _ _ (λ f lt. by_bool (failed F f)
    (λ e. rw e (not_before (own s f).0 (entry c.vector f).0 ((sound_state s whole).processes f lt).own_some))
    (λ e. rw e))
