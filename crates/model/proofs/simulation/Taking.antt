-- What a process takes in of a message: the vector and the pins of its part, and the part and the deleted ones once what no pin names goes.
-- Assumes nothing.
use Rattle.std.specs.Prelude.{◌≡◌, ◌&&◌, ◌≤◌, ◌<◌, None}
use Rattle.laws.specs.Basics.{refl, sym, ◌∙◌, ap, Bool, true, false, not, ℕ, suc, max, arith, ltb, get_or, leb-true, leb-false, pick, by_bool}
use Rattle.laws.specs.{Choice.pick_same, Ranges.any_same, Ranges.any_wider, Search.any_below, Tables.table_same, Update.upds}
use Rattle.model.specs.Shapes.{Pin}
use Rattle.model.specs.{Words.most_processes, Words.entry, Words.below, Words.Process}
use Rattle.model.specs.Steps.{settled, gone, taken_entry, taken_vector, taken_pin, taken_pins}
use Rattle.histories.proofs.Run.{Ideal, Ledger, keeps, taken_by, taken_in}
use Rattle.histories.proofs.TakenInViews.{taken_in_n, taken_in_own, taken_in_live, taken_in_vector, taken_in_mark, taken_in_keeps_old}
use Rattle.model.proofs.simulation.View.{passing, vector_of, pin_of_def, pins_of, checkpoint_of, kept_of, process_of}
use Rattle.model.proofs.simulation.Passing.{passing_same}
use Rattle.model.proofs.simulation.Reads.{entry_is, entry_past, vector_same, pin_is, pin_past}
use Rattle.model.proofs.simulation.Rows.{process_eq, checkpoint_same, settled_kept, settled_gone}
use Rattle.model.specs.Steps as steps
use Rattle.histories.proofs.Run as ideal

module _ (n : ℕ) (v w : ℕ → ℕ) (few : n ≤ most_processes) where
  -- Whether an entry is smaller than the carried one.
  pub below_is : (f : ℕ) → f < n → below (entry (vector_of n v) f) (entry (vector_of n w) f) ≡ ltb (v f) (w f)
  below_is f lt = rw (entry_is n v f few lt, entry_is n w f few lt)

  pub below_past : (f : ℕ) → n ≤ f → below (entry (vector_of n v) f) (entry (vector_of n w) f) ≡ false
  below_past f le = rw (entry_past n v f le, entry_past n w f le)

  -- Some carried entry is greater: it is one below n.
  pub newer_is : steps.newer (vector_of n v) (vector_of n w) ≡ any_below n (λ f. ltb (v f) (w f))
  unfolding steps.newer
  newer_is = any_wider n most_processes _ few (λ f le lt. below_past f le) ∙ any_same n _ _ (λ f lt. below_is f lt)

  -- The vector taken in: the greater of the two at each entry.
  taken_entry_lem : (f : ℕ) → taken_entry (vector_of n v) (vector_of n w) f ≡ record { 0 = pick (ltb f n) (max (v f) (w f)) 0 }
  unfolding taken_entry
  taken_entry_lem f = by_bool (ltb f n)
      (λ e. let lt : f < n = leb-true (suc f) n e in rw (below_is f lt, entry_is n v f few lt, entry_is n w f few lt, e) (by_bool (ltb (v f) (w f))
      (λ d. let up : v f < w f = leb-true (suc (v f)) (w f) d in let m : w f ≡ max (v f) (w f) = omega arith in rw d (ap (λ (x : ℕ). record { 0 = x }) m))
      (λ d. let no : w f < suc (v f) = leb-false (suc (v f)) (w f) d in let m : v f ≡ max (v f) (w f) = omega arith in rw d (ap (λ (x : ℕ). record { 0 = x }) m))))
      (λ e. let le : n ≤ f = omega (arith, leb-false (suc f) n e) in rw (below_past f le, entry_past n v f le, e))

  pub taken_vector_lem : taken_vector (vector_of n v) (vector_of n w) ≡ vector_of n (λ f. max (v f) (w f))
  unfolding taken_vector vector_of
  taken_vector_lem = table_same most_processes _ _ (λ f lt. taken_entry_lem f)

-- Taking in leaves the ledger.
pub taken_ledger : (r : Ideal) (m : ℕ) → (taken_in r m).ledger ≡ r.ledger
unfolding taken_in taken_by
taken_ledger r m = refl

-- The delivery forces a checkpoint in the state exactly if it does in the run.
pub forces_is : (r : Ideal) (m : ℕ) → r.n ≤ most_processes → steps.forces (process_of r (r.receiver m)) (vector_of r.n (r.carried m)) ≡ ideal.forces r m
unfolding steps.forces ideal.forces ideal.newer process_of
forces_is r m few = rw (newer_is r.n (r.vector (r.receiver m) (r.own (r.receiver m))) (r.carried m) few)

module _ (r : Ideal) (m : ℕ) (few : r.n ≤ most_processes) (hi : r.receiver m < r.n) where
  abbrev i : ℕ
  i = r.receiver m

  abbrev v : ℕ → ℕ
  v = r.vector i (r.own i)

  -- The own pin does not change.
  pub taken_own_pin : (taken_in r m).pin i i ≡ r.pin i i
  unfolding taken_in taken_by
  taken_own_pin = simp upds (pick_same (ltb (v i) (r.carried m i)) (r.pin i i))

  pin_taken : (f : ℕ) → (taken_in r m).pin i f ≡ pick (ltb (v f) (r.carried m f)) (r.pin i i) (r.pin i f)
  unfolding taken_in taken_by
  pin_taken f = simp upds

  taken_pin_lem : (f : ℕ) → taken_pin i (vector_of r.n v) (vector_of r.n (r.carried m)) (pins_of r i) f ≡ pick (ltb f r.n) (pin_of_def ((taken_in r m).pin i f)) None
  unfolding taken_pin
  taken_pin_lem f = by_bool (ltb f r.n)
      (λ e. let lt : f < r.n = leb-true (suc f) r.n e in
      ap (λ (up : Bool). pick up (get_or (pins_of r i) i None) (get_or (pins_of r i) f None)) (below_is r.n v (r.carried m) few f lt)
      ∙ ap (λ (named : Pin). pick (ltb (v f) (r.carried m f)) named (get_or (pins_of r i) f None)) (pin_is r i i few hi)
      ∙ ap (λ (named : Pin). pick (ltb (v f) (r.carried m f)) (pin_of_def (r.pin i i)) named) (pin_is r i f few lt)
      ∙ rw (e, pin_taken f) (by_bool (ltb (v f) (r.carried m f)) (λ d. rw d) (λ d. rw d)))
      (λ e. let le : r.n ≤ f = omega (arith, leb-false (suc f) r.n e) in rw (below_past r.n v (r.carried m) few f le, pin_past r i f le, e))

  pub taken_pins_lem : taken_pins i (vector_of r.n v) (vector_of r.n (r.carried m)) (pins_of r i) ≡ pins_of (taken_in r m) i
  unfolding taken_pins pins_of
  taken_pins_lem = rw (taken_in_n r m) (table_same most_processes _ _ (λ f lt. taken_pin_lem f))

  few_taken : (taken_in r m).n ≤ most_processes
  few_taken = rw (taken_in_n r m) few

  -- The stored ones are as they were.
  stored_same : (t : ℕ → Bool) → passing (r.own i) t (checkpoint_of (taken_in r m) i) ≡ passing (r.own i) t (checkpoint_of r i)
  stored_same t = passing_same (r.own i) _ _ _ _ (λ k lt. refl)
      (λ k lt q. checkpoint_same r (taken_in r m) i k (taken_in_n r m) (λ f hf. taken_in_vector r m i k f (λ a b. omega arith)) lt (omega (arith, taken_in_own r m i))
      (ap (λ (l : Ledger). l.cause i k) (taken_ledger r m)) (ap (λ (l : Ledger). l.block_counts i) (taken_ledger r m)))

  -- A part with the run's vector, pins and mark, and with the checkpoints that pass a test.
  module _ (P : Process) (t : ℕ → Bool) (ev : P.vector ≡ vector_of r.n v) (ep : P.pins ≡ pins_of r i) (em : P.mark ≡ r.mark i)
      (ek : P.kept ≡ passing (r.own i) t (checkpoint_of r i)) where
    kept_taken : P.kept ≡ passing ((taken_in r m).own i) t (checkpoint_of (taken_in r m) i)
    kept_taken = rw (taken_in_own r m i) (ek ∙ sym (stored_same t))

    -- What is left of it, if the test passes whatever the run keeps.
    pub taken_process : ((k : ℕ) → k < r.own i → keeps r i k ≡ true → t k ≡ true) → settled (steps.taken_in i (vector_of r.n (r.carried m)) P) ≡ process_of (taken_in r m) i
    unfolding settled steps.taken_in process_of kept_of
    taken_process all = process_eq (settled (steps.taken_in i (vector_of r.n (r.carried m)) P)) (process_of (taken_in r m) i)
        (rw (ev, taken_in_n r m, taken_in_own r m i) (taken_vector_lem r.n v (r.carried m) few ∙ vector_same r.n _ _ (λ f hf. sym (taken_in_live r m f))))
        (rw (ev, ep) taken_pins_lem)
        (em ∙ sym (taken_in_mark r m i))
        (rw (ev, ep, kept_taken, taken_pins_lem) (settled_kept (taken_in r m) i ((taken_in r m).own i) t few_taken
        (λ k lt q. all k (omega (arith, taken_in_own r m i)) (taken_in_keeps_old r m hi i k q))))

    -- What goes.
    pub taken_gone : gone (steps.taken_in i (vector_of r.n (r.carried m)) P) ≡ passing (r.own i) (λ k. t k && not (keeps (taken_in r m) i k)) (checkpoint_of r i)
    unfolding gone steps.taken_in
    taken_gone = rw (ev, ep, taken_pins_lem, kept_taken) (settled_gone (taken_in r m) i ((taken_in r m).own i) t few_taken
        ∙ rw (taken_in_own r m i) (stored_same (λ k. t k && not (keeps (taken_in r m) i k))))
