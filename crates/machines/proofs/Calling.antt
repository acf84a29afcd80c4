-- What a call of a machine leaves, by whether a list is too short.
-- Assumes nothing.
use Rattle.std.specs.Prelude.{◌≡◌, ◌||◌, ◌≤◌, ◌<◌}
use Rattle.laws.specs.Basics.{refl, sym, ◌∙◌, Bool, true, false, false≢true, List, ℕ, ltb, length, sets, lt-ltb, le-ltb}
use Rattle.machines.specs.{Packed.packed, Called.Called}
use Rattle.machines.specs.declared.Request as requests

module _ (lacks : Bool) (Kept : Type 0) (before : List ℕ) (Stands : requests.Request → Type 0) where
  too_short : lacks || ltb (length before) 4 ≡ true → Kept → Called lacks Kept before before Stands 3
  too_short e kept = record { short = λ h. (refl, kept, refl); taken = λ h. absurd (false≢true (sym h ∙ e)) }

  pub lacking : lacks ≡ true → Kept → Called lacks Kept before before Stands 3
  lacking e = too_short (rw e)

  pub no_request : lacks ≡ false → length before < 4 → Kept → Called lacks Kept before before Stands 3
  no_request e h = too_short (rw (e, lt-ltb (length before) 4 h))

  pub posed : lacks ≡ false → 4 ≤ length before → (request : List ℕ) (form : requests.Request) → Stands form → request ≡ sets before 0 (packed form)
      → Called lacks Kept before request Stands 0
  posed e h request form stands is = record {
    short = λ s. absurd (false≢true (sym (rw (e, le-ltb (length before) 4 h)) ∙ s));
    taken = λ s. (refl, record { form = form; stands = stands; posed_request = is });
  }
