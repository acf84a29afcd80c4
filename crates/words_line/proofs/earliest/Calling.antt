-- Which refusal the call gives, up to number 18.
-- Assumes nothing.
use Rattle.std.specs.Prelude.{◌≡◌, ◌≤◌, ◌<◌}
use Rattle.laws.specs.Basics.{refl, true, false, List, Some, ℕ, length, lt-ltb, le-ltb}
use Rattle.model.specs.declared.{Named.Named, Run.Run}
use Rattle.model.specs.declared.Refusal.TheVariants.{ListTooShort, NoSuchProcess, UnfitNamedList}
use Rattle.model.specs.{Sound.sound, laws.Refusals.refusal_in}
use Rattle.whole_runs.specs.Earliest.{some_absent, unfit, earliest_refusal}

-- The rules, in their order: each is asked where those before it do not hold.
module _ (s : Run) (l : List Named) (lent : List ℕ) (whole : sound s ≡ true) where
  pub gives_short : length lent < s.count → earliest_refusal s l lent ≡ Some ListTooShort
  unfolding earliest_refusal
  gives_short short = refusal_in _ (Some ListTooShort) (1, (rw whole, tt), lt-ltb _ _ short, refl)

  module _ (room : s.count ≤ length lent) where
    pub gives_absent : some_absent s.count l ≡ true → earliest_refusal s l lent ≡ Some NoSuchProcess
    unfolding earliest_refusal
    gives_absent e = refusal_in _ (Some NoSuchProcess) (2, (rw whole, (le-ltb _ _ room, tt)), e, refl)

    module _ (present : some_absent s.count l ≡ false) where
      pub gives_unfit : unfit s.count l ≡ true → earliest_refusal s l lent ≡ Some UnfitNamedList
      unfolding earliest_refusal
      gives_unfit e = refusal_in _ (Some UnfitNamedList) (3, (rw whole, (le-ltb _ _ room, (present, tt))), e, refl)
