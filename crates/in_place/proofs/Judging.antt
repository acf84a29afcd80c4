-- Which start is refused, test by test.
-- Assumes nothing.
use Rattle.std.specs.Prelude.{◌≡◌, ◌≤◌, ◌<◌, Err, Ok}
use Rattle.laws.specs.Basics.{refl, ◌∙◌, ap, Bool, true, false, not, List, [], None, Some, ℕ, zero, suc, arith, length, get_or, eq-eqb, ne_eqb, lt-ltb, le-ltb, le-leb, lt-leb, by_bool}
use Rattle.laws.specs.Search.{any_below, all_below}
use Prim.{tt}
use Rattle.model.specs.Shapes.{StartAnswer}
use Rattle.model.specs.declared.{Refusal.Refusal, Run.Run}
use Rattle.model.specs.declared.Refusal.TheVariants.{CountOutsideRange, UnsoundState, ListTooShort, BlockCountOutsideRange}
use Rattle.model.specs.{Words.blank, Steps.start_state, Sound.is_block_count_of, Refusals.first_of, Refusals.start_refusal, laws.Refusals.by_refusal}
use Rattle.whole_runs.specs.{Outcomes.Outcome, Outcomes.start_outcome, WholeRuns.StartPromise}
use Rattle.whole_runs.proofs.WholeRuns.{start_promise}
use Rattle.words.specs.Layout.{state_size}
use Rattle.in_place.specs.Starting.{start_refusal_in, start_outcome_in, StartsTheSame}
use Rattle.in_place.proofs.Starting.{accepted_size, accepted_long}

-- Some count is none exactly if not all are.
some_not : (n : ℕ) (t : ℕ → Bool) → any_below n (λ p. not (t p)) ≡ not (all_below n t)
unfolding any_below all_below
some_not zero t = refl
some_not (suc n) t = by_bool (t n) (λ e. rw e (some_not n t)) (λ e. rw e)

-- The answer says whether there is a refusal.
pub by_answer : (many n : ℕ) (block_counts : List ℕ) → (start_outcome_in many n block_counts).answer ≡ Ok tt → start_refusal_in many n block_counts ≡ None
unfolding start_outcome_in
by_answer many n block_counts e = by_refusal (start_refusal_in many n block_counts) (λ f. f) (λ why q. absurd (let z : Err why ≡ Ok tt = rw q at e in let y : ◌≡◌ {A = ℕ} 0 1 = cc in omega arith))

module _ (many n : ℕ) (block_counts : List ℕ) where
  abbrev Gives : Refusal → Type 0
  Gives why = start_refusal_in many n block_counts ≡ Some why

  pub refused : (why : Refusal) → Gives why → start_outcome_in many n block_counts ≡ record { run = blank 0; answer = Err why; rose = 0; deleted = []; line = [] }
  unfolding start_outcome_in
  refused why e = rw e

  pub few : n < 1 → start_outcome_in many n block_counts ≡ record { run = blank 0; answer = Err CountOutsideRange; rose = 0; deleted = []; line = [] }
  unfolding start_refusal_in first_of
  few lt = refused CountOutsideRange (rw (lt-leb 1 n lt))

  module _ (one : 1 ≤ n) where
    pub many_processes : 16 < n → start_outcome_in many n block_counts ≡ record { run = blank 0; answer = Err CountOutsideRange; rose = 0; deleted = []; line = [] }
    unfolding start_refusal_in first_of
    many_processes lt = refused CountOutsideRange (rw (le-leb 1 n one, lt-leb n 16 lt))

    module _ (most : n ≤ 16) where
      pub other_size : (many ≡ state_size → ⊥) → start_outcome_in many n block_counts ≡ record { run = blank 0; answer = Err UnsoundState; rose = 0; deleted = []; line = [] }
      unfolding start_refusal_in first_of
      other_size ne = refused UnsoundState (rw (le-leb 1 n one, le-leb n 16 most, ne_eqb many state_size ne))

      module _ (right : many ≡ state_size) where
        pub short_counts : length block_counts < n → start_outcome_in many n block_counts ≡ record { run = blank 0; answer = Err ListTooShort; rose = 0; deleted = []; line = [] }
        unfolding start_refusal_in first_of
        short_counts lt = refused ListTooShort (rw (le-leb 1 n one, le-leb n 16 most, eq-eqb many state_size right, lt-ltb (length block_counts) n lt))

        module _ (enough : n ≤ length block_counts) where
          pub outside : all_below n (λ p. is_block_count_of (get_or block_counts p 0)) ≡ false
              → start_outcome_in many n block_counts ≡ record { run = blank 0; answer = Err BlockCountOutsideRange; rose = 0; deleted = []; line = [] }
          unfolding start_refusal_in first_of
          outside e = refused BlockCountOutsideRange
              (rw (le-leb 1 n one, le-leb n 16 most, eq-eqb many state_size right, le-ltb (length block_counts) n enough, some_not n (λ p. is_block_count_of (get_or block_counts p 0)), e))

          pub fine_refusal : all_below n (λ p. is_block_count_of (get_or block_counts p 0)) ≡ true → start_refusal_in many n block_counts ≡ None
          unfolding start_refusal_in first_of
          fine_refusal e = rw (le-leb 1 n one, le-leb n 16 most, eq-eqb many state_size right, le-ltb (length block_counts) n enough, some_not n (λ p. is_block_count_of (get_or block_counts p 0)), e)

          pub fine : all_below n (λ p. is_block_count_of (get_or block_counts p 0)) ≡ true
              → start_outcome_in many n block_counts ≡ record { run = start_state n block_counts; answer = Ok tt; rose = 0; deleted = []; line = [] }
          unfolding start_outcome_in
          fine e = rw (fine_refusal e)

-- With enough lent, 2 and 3 are not met, and the rest is document 01's.
pub starts_the_same : StartsTheSame
unfolding StartsTheSame start_outcome_in start_refusal_in start_outcome start_refusal first_of
starts_the_same n block_counts enough = rw (le-ltb (length block_counts) n enough)

pub started_promise : (many n : ℕ) (block_counts : List ℕ) (t : Run) → t ≡ (start_outcome_in many n block_counts).run → (start_outcome_in many n block_counts).answer ≡ Ok tt → StartPromise n block_counts t
unfolding StartsTheSame
started_promise many n block_counts t e a =
    let fine = by_answer many n block_counts a in
    let same : start_outcome_in many n block_counts ≡ start_outcome n block_counts = rw (accepted_size many n block_counts fine) (starts_the_same n block_counts (accepted_long many n block_counts fine)) in
    start_promise n block_counts t (e ∙ ap (λ (o : Outcome StartAnswer). o.run) same)
