-- The set of entries that rose at a delivery: of each process of the run exactly if the run's live state knows less of it than the message carries, a forced
-- checkpoint or not; and of no other.
-- Assumes nothing.
use Rattle.std.specs.Prelude.{◌≡◌, ◌+◌, ◌≤◌, ◌<◌}
use Rattle.laws.specs.Basics.{sym, ◌∙◌, ap, Bool, true, false, List, ℕ, suc, arith, ltb, leb, length, get_or-set_same, get_or-set_other, le-ltb, leb-true, leb-false, pick, by_bool, by_eq}
use Rattle.laws.specs.Tables.{length_table}
use Rattle.model.specs.declared.Interval.{Interval}
use Rattle.model.specs.{Words.most_processes, Words.entry, Words.below, Words.in_set, Steps.advanced, Steps.risen, Steps.deliver_risen}
use Rattle.model.proofs.{Risen.risen_is_exact, simulation.View.vector_of, simulation.View.process_of, simulation.View.message_of, simulation.View.state_of}
use Rattle.histories.proofs.{Run.Ideal, Run.forces, Invariant.Inv, Messages.underway_proper, Messages.underway_own}
use Rattle.model.proofs.{simulation.Reads.process_is, simulation.Taking.below_is, simulation.Taking.below_past, simulation.Taking.forces_is}

module _ (r : Ideal) (v : Inv r) (few : r.n ≤ most_processes) (m : ℕ) (under : r.transit m ≡ true) where
  abbrev i : ℕ
  i = r.receiver m

  abbrev known : ℕ → ℕ
  known = r.vector i (r.own i)

  -- The receiver's vector and the carried one, as lists.
  abbrev own : List Interval
  own = vector_of r.n known

  abbrev carried : List Interval
  carried = vector_of r.n (r.carried m)

  receives : i < r.n
  receives = (underway_proper r v m under).to

  long : length own ≡ most_processes
  unfolding vector_of
  long = length_table most_processes _

  -- The own entry never rises, a forced checkpoint or not: the message carries nothing newer of its receiver.
  own_stays : below (entry own i) (entry carried i) ≡ false
  own_stays = below_is r.n known (r.carried m) few i receives ∙ le-ltb (known i) (r.carried m i) (underway_own r v m under)

  advanced_stays : below (entry (advanced i own) i) (entry carried i) ≡ false
  unfolding advanced
  advanced_stays =
      ap (λ (x : Interval). below x (entry carried i)) (get_or-set_same own i (record { 0 = (entry own i).0 + 1 }) (record { 0 = 0 }) (omega (arith, long, receives)))
      ∙ le-ltb ((entry own i).0 + 1) (entry carried i).0 (omega (arith, ltb_out (entry own i).0 (entry carried i).0 own_stays))
    where
      ltb_out : (a b : ℕ) → ltb a b ≡ false → b ≤ a
      ltb_out a b e = omega (arith, leb-false (suc a) b e)

  -- The other entries are as they were when the checkpoint was forced.
  same_entry : (b : Bool) (f : ℕ) → below (entry (pick b (advanced i own) own) f) (entry carried f) ≡ below (entry own f) (entry carried f)
  unfolding advanced
  same_entry b f = by_bool b
      (λ e. rw e (by_eq f i
      (λ c. rw c (advanced_stays ∙ sym own_stays))
      (λ ne. ap (λ (x : Interval). below x (entry carried f)) (get_or-set_other own i f (record { 0 = (entry own i).0 + 1 }) (record { 0 = 0 }) ne))))
      (λ e. rw e)

  risen_there : deliver_risen (state_of r) (message_of r m) ≡ risen (pick (forces r m) (advanced i own) own) carried
  unfolding deliver_risen message_of process_of
  risen_there = rw (process_is r i few receives, forces_is r m few)

  abbrev rose : ℕ
  rose = deliver_risen (state_of r) (message_of r m)

  pub rose_small : rose < 65_536
  rose_small = rw risen_there (risen_is_exact (pick (forces r m) (advanced i own) own) carried).small

  in_places : (f : ℕ) → f < most_processes → in_set rose f ≡ below (entry own f) (entry carried f)
  in_places f lt = ap (λ (S : ℕ). in_set S f) risen_there ∙ (risen_is_exact (pick (forces r m) (advanced i own) own) carried).exact f lt ∙ same_entry (forces r m) f

  pub rose_is : (f : ℕ) → f < r.n → in_set rose f ≡ ltb (known f) (r.carried m f)
  rose_is f hf = in_places f (omega arith) ∙ below_is r.n known (r.carried m) few f hf

  pub rose_past : (f : ℕ) → r.n ≤ f → in_set rose f ≡ false
  rose_past f le = by_bool (leb (suc f) most_processes)
      (λ e. in_places f (leb-true (suc f) most_processes e) ∙ below_past r.n known (r.carried m) few f le)
      (λ e. ap (λ (S : ℕ). in_set S f) risen_there ∙ (risen_is_exact (pick (forces r m) (advanced i own) own) carried).no_more f (omega (arith, leb-false (suc f) most_processes e)))
