-- What the least crossing says of all messages.
-- Assumes nothing.
use Rattle.std.specs.Prelude.{◌≡◌, ◌≤◌, ◌<◌}
use Rattle.laws.specs.Basics.{refl, sym, ◌∙◌, true, false, false≢true, List, Option, None, Some, ℕ, zero, suc, arith, get_or, min, by_bool, by_eq}
use Rattle.laws.specs.{Loops.iter, Options.some_same, Options.none≢some}
use Rattle.library_judge.specs.declared.pattern.{State.State, Sent.Sent}
use Rattle.library_judge.specs.decision.Rows.{no_sent}
use Rattle.library_judge.specs.decision.Crossings.{crosses_at, known_at, crossing_of, lesser_of, least_crossing_of}

module _ (states : List State) (messages : List Sent) (f : ℕ) where
  pub record LeastOf (last : ℕ) (r : Option ℕ) : Type 0 where
    pub one : (v : ℕ) → r ≡ Some v → (m : ℕ) × (m < last) × (crosses_at states messages f m ≡ true) × (known_at states messages f m ≡ v)
    pub all : (m : ℕ) → m < last → crosses_at states messages f m ≡ true → (v : ℕ) × (r ≡ Some v) × (v ≤ known_at states messages f m)

  none_yet : LeastOf 0 None
  none_yet = record { one = λ v e. absurd (none≢some e); all = λ m h e. absurd (omega arith) }

  skip : (m : ℕ) (a : Option ℕ) → LeastOf m a → crosses_at states messages f m ≡ false → LeastOf (suc m) a
  skip m a w e = record {
    one = λ v d. let o = w.one v d in (o.0, omega (arith, o.1), o.2, o.3);
    all = λ x h d. by_eq x m
        (λ q. absurd (false≢true (sym e ∙ (rw q at d))))
        (λ ne. w.all x (omega arith) d);
  }

  -- One more message crosses: it is the first, or the lesser of two is known.
  first_one : (m : ℕ) → LeastOf m None → crosses_at states messages f m ≡ true → LeastOf (suc m) (Some (known_at states messages f m))
  first_one m w e = record {
    one = λ v d. (m, omega arith, e, some_same d);
    all = λ x h d. by_eq x m
        (λ q. rw q (known_at states messages f m, refl, omega arith))
        (λ ne. absurd (none≢some (w.all x (omega arith) d).1));
  }

  one_more : (m a : ℕ) → LeastOf m (Some a) → crosses_at states messages f m ≡ true → LeastOf (suc m) (Some (min a (known_at states messages f m)))
  one_more m a w e = let k = known_at states messages f m in record {
    one = λ v d. let least : min a k ≡ v = some_same d in by_eq (min a k) a
        (λ q. let o = w.one a refl in (o.0, omega (arith, o.1), o.2, omega (arith, o.3, q, least)))
        (λ ne. (m, omega arith, e, omega (arith, ne, least)));
    all = λ x h d. (
      min a k,
      refl,
      by_eq x m
          (λ q. rw q (omega arith))
          (λ ne. let o = w.all x (omega arith) d in let same : a ≡ o.0 = some_same o.1 in omega (arith, o.2, same)),
    );
  }

  one_more_step : (m : ℕ) (a : Option ℕ) → LeastOf m a → LeastOf (suc m) (lesser_of a (crossing_of states f (get_or messages m no_sent)))
  unfolding lesser_of
  one_more_step m a w = by_bool (crosses_at states messages f m)
      (λ e. rw (crossing_yes e) (with_one a w e))
      (λ e. rw (crossing_no e) (without a w e))
    where
      crossing_yes : crosses_at states messages f m ≡ true → crossing_of states f (get_or messages m no_sent) ≡ Some (known_at states messages f m)
      crossing_yes e = unfold crossing_of in rw e

      crossing_no : crosses_at states messages f m ≡ false → crossing_of states f (get_or messages m no_sent) ≡ None
      crossing_no e = unfold crossing_of in rw e

      with_one : (a : Option ℕ) → LeastOf m a → crosses_at states messages f m ≡ true → LeastOf (suc m) (lesser_of a (Some (known_at states messages f m)))
      with_one None w e = first_one m w e
      with_one (Some x) w e = one_more m x w e

      without : (a : Option ℕ) → LeastOf m a → crosses_at states messages f m ≡ false → LeastOf (suc m) (lesser_of a None)
      without a w e = skip m a w e

  pub least_of : (last : ℕ) → LeastOf last (least_crossing_of states messages f last)
  unfolding least_crossing_of iter
  least_of zero = none_yet
  least_of (suc m) = one_more_step m (least_crossing_of states messages f m) (least_of m)
