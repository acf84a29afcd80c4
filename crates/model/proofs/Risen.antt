-- The set of entries that rose is exact, of any two vectors (specs/Risen).
-- Assumes nothing.
use Rattle.std.specs.Prelude.{◌≡◌, ◌≤◌, ◌<◌}
use Rattle.laws.specs.Basics.{sym, ◌∙◌, ap, Bool, not, List, ℕ, arith, eqb, eq-eqb, ne_eqb, le-ltb, by_bool}
use Rattle.laws.specs.{Bits.bits_of, Bits.bits_less, Bits.bits_at, Bits.bits_past, Bits.bits_none, Bits.bits_some, Tables.get_d_table}
use Rattle.laws.specs.Search.{any_below, any_out, any_none}
use Rattle.model.specs.declared.Interval.{Interval}
use Rattle.model.specs.{Words.most_processes, Words.entry, Words.below, Steps.newer, Steps.taken_entry, Steps.taken_vector, Steps.risen, Risen.RisenIsExact}

-- A number of bits is 0 exactly if no test holds.
none_set : (n : ℕ) (t : ℕ → Bool) → eqb (bits_of n t) 0 ≡ not (any_below n t)
none_set n t = by_bool (any_below n t)
    (λ e. let w = any_out n t e in let some : 1 ≤ bits_of n t = bits_some t n w.0 w.1 w.2 in rw e (ne_eqb (bits_of n t) 0 (λ z. omega arith)))
    (λ e. rw e (eq-eqb (bits_of n t) 0 (bits_none t n (any_none n t e))))

module _ (own carried : List Interval) where
  abbrev rises : ℕ → Bool
  rises f = below (entry own f) (entry carried f)

  -- An entry is smaller than the one that comes out exactly if it is smaller than the carried one.
  out_is_greater : (f : ℕ) → rises f ≡ below (entry own f) (taken_entry own carried f)
  unfolding taken_entry
  out_is_greater f = by_bool (rises f) (λ e. rw e (sym e)) (λ e. rw e (sym (le-ltb (entry own f).0 (entry own f).0 (omega arith))))

  taken_entry_lem : (f : ℕ) → f < most_processes → entry (taken_vector own carried) f ≡ taken_entry own carried f
  unfolding taken_vector
  taken_entry_lem f lt = get_d_table most_processes (taken_entry own carried) f (record { 0 = 0 }) lt

  pub risen_is_exact : RisenIsExact own carried
  unfolding risen newer
  risen_is_exact = record {
    small = bits_less _ most_processes;
    exact = λ f lt. bits_at _ most_processes f lt;
    rose = λ f lt. bits_at rises most_processes f lt ∙ out_is_greater f ∙ ap (λ (x : Interval). below (entry own f) x) (sym (taken_entry_lem f lt));
    no_more = λ f le. bits_past _ most_processes f le;
    nothing = none_set most_processes rises;
  }
