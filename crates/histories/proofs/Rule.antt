-- What the tests of the run say: a state passes the rule of the line, a process rolls back, a checkpoint is kept.
use Rattle.std.specs.Prelude.{◌≡◌, ◌≤◌, ◌<◌}
use Rattle.laws.specs.Basics.{refl, ap, true, false, Option, None, Some, ℕ, eq-eqb, eqb-true, lt-ltb, ltb-true, ltb-false, not-true, not-false, by_bool}
use Rattle.laws.specs.{Search.any_out, Search.any_in, Search.all_out, Search.all_in, Search.all_fails, Truth.never_both}
use Rattle.histories.proofs.Run.{Ideal, Failed, safe, names, keeps, rolled}

-- A state that passes the rule has entries below the own entries of the failed.
pub safe_out : (r : Ideal) (F : Failed) (p k : ℕ) → safe r F p k ≡ true → (f : ℕ) → f < r.n → F f ≡ true → r.vector p k f < r.own f
unfolding safe
safe_out r F p k e f hf q = let z = all_out r.n _ e f hf in ltb-true _ _ (rw q at z)

-- A state whose entries are below the own entries of the failed passes the rule.
pub safe_in : (r : Ideal) (F : Failed) (p k : ℕ) → ((f : ℕ) → f < r.n → F f ≡ true → r.vector p k f < r.own f) → safe r F p k ≡ true
unfolding safe
safe_in r F p k h = all_in r.n _ (λ f hf. by_bool (F f)
    (λ q. rw q (lt-ltb (r.vector p k f) (r.own f) (h f hf q)))
    (λ q. rw q))

-- A state that does not pass the rule knows the current interval of some failed process.
pub unsafe_out : (r : Ideal) (F : Failed) (p k : ℕ) → safe r F p k ≡ false → (f : ℕ) × (f < r.n) × (F f ≡ true) × (r.own f ≤ r.vector p k f)
unfolding safe
unsafe_out r F p k e =
    let w = all_fails r.n _ e in
    by_bool (F w.0)
    (λ q. (w.0, w.1, q, ltb-false _ _ (rw q at w.2)))
    (λ q. never_both true refl (rw q at w.2))

-- A process rolls back where its live state does not pass.
pub rolled_out : (r : Ideal) (F : Failed) (p : ℕ) → rolled r F p ≡ true → safe r F p (r.own p) ≡ false
unfolding rolled
rolled_out r F p e = not-true _ e

-- A process stays where its live state passes.
pub stays_out : (r : Ideal) (F : Failed) (p : ℕ) → rolled r F p ≡ false → safe r F p (r.own p) ≡ true
unfolding rolled
stays_out r F p e = not-false _ e

-- A checkpoint that a pin names is kept.
pub keeps_in : (r : Ideal) (p f k : ℕ) → f < r.n → r.pin p f ≡ Some k → keeps r p k ≡ true
unfolding keeps
keeps_in r p f k hf e = any_in r.n _ f hf (rw e (eq-eqb k k refl))

-- What a pin names.
names_out : (o : Option ℕ) (k : ℕ) → names o k ≡ true → o ≡ Some k
names_out None k e = never_both false e refl
names_out (Some j) k e = ap Some (eqb-true j k e)

-- A kept checkpoint is named by a pin.
pub keeps_out : (r : Ideal) (p k : ℕ) → keeps r p k ≡ true → (f : ℕ) × (f < r.n) × (r.pin p f ≡ Some k)
unfolding keeps
keeps_out r p k e = let w = any_out r.n _ e in (w.0, w.1, names_out (r.pin p w.0) k w.2)
