-- The first byte: the start in place, and what was read.
-- Assumes nothing.
use Rattle.std.specs.Prelude.{◌≡◌, ◌++◌, ◌+◌, ◌-◌, ◌*◌, ◌≤◌, Err, Ok}
use Rattle.laws.specs.Basics.{refl, ◌∙◌, ap, false, List, None, Some, ℕ, min, arith, leb, length, get_or, take, drop, length-take-le, leb-true, by_bool}
use lib.Seq.{take-add, get_or-take, get_or-drop}
use Rattle.laws.specs.Truth.{and_no_right}
use Prim.{tt}
use Rattle.model.specs.Shapes.{StartAnswer}
use Rattle.model.specs.declared.{Run.Run, Refusal.Refusal}
use Rattle.model.specs.{Words.ones, Refusals.start_refusal, Refusals.first_of, Steps.start_state, laws.Refusals.by_refusal}
use Rattle.whole_runs.specs.{Outcomes.Outcome, Outcomes.start_outcome, Listing.most_records}
use Rattle.words.specs.Layout.{state_size}
use Rattle.in_place.specs.Starting.{start_refusal_in, start_outcome_in, StartsTheSame}
use Rattle.in_place.proofs.Judging.{starts_the_same}
use Rattle.machine_replay.specs.declared.place.Place.{Place}
use Rattle.machine_replay.specs.{Replaying.most_to_read, Standing.between_in, Standing.holding}

module _ (many n : ℕ) (whole : many ≡ state_size) where
  same_start : start_outcome_in many n ones ≡ start_outcome n ones
  unfolding StartsTheSame start_outcome_in start_refusal_in start_outcome start_refusal first_of
  same_start = by_bool (leb n 16)
      (λ e. rw whole (starts_the_same n ones (leb-true n 16 e)))
      (λ e. rw (whole, e, and_no_right (leb 1 n) false refl))

  module _ (a : StartAnswer) (is-a : a ≡ (start_outcome_in many n ones).answer) where
    answer_same : a ≡ (start_outcome n ones).answer
    answer_same = is-a ∙ ap (λ (o : Outcome StartAnswer). o.answer) same_start

    pub start_refuses : (w : Refusal) → a ≡ Err w → start_refusal n ones ≡ Some w
    unfolding start_outcome
    start_refuses w e = by_refusal (start_refusal n ones)
        (λ h. let started = rw h at answer_same in cc)
        (λ x h. let refused = rw h at answer_same in cc)

    pub start_none : a ≡ Ok tt → start_refusal n ones ≡ None
    unfolding start_outcome
    start_none e = by_refusal (start_refusal n ones)
        (λ h. h)
        (λ x h. let refused = rw h at answer_same in cc)

    pub start_run : (run : Run) → run ≡ (start_outcome_in many n ones).run → a ≡ Ok tt → run ≡ start_state n ones
    unfolding start_outcome
    start_run run is-run e =
        let same = is-run ∙ ap (λ (o : Outcome StartAnswer). o.run) same_start in
        rw (start_none e) at same

-- The byte that was read.
pub first_byte : (k at : ℕ) (l : List ℕ) → 1 ≤ k → get_or (take k (drop at l)) 0 0 ≡ get_or l at 0
first_byte k at l h = get_or-take k (drop at l) 0 0 h ∙ get_or-drop at l 0 0 ∙ ap (λ (j : ℕ). get_or l j 0) {x = at + 0} {y = at} (omega arith)

-- The bytes that are read after those that are held at the front.
module _ (p : Place) (words input : List ℕ) (front : p.from ≡ 0) (fits : p.buffered ≤ length input) where
  pub most_same : min (length input) (4 * (most_records - p.count)) - p.buffered ≡ most_to_read (length input) (between_in p words input)
  unfolding most_to_read between_in
  most_same = rw (front, length-take-le p.buffered input fits)

  pub more_buffered : (more : ℕ) → between_in (holding p more) words input
      ≡ record { all = (between_in p words input).all; done = (between_in p words input).done; run = (between_in p words input).run; buffered = (between_in p words input).buffered ++ take more (drop p.buffered input) }
  unfolding between_in holding
  more_buffered more = rw (front, take-add p.buffered more input)
