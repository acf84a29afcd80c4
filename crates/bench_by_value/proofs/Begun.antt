-- Whether a start is refused, by its answer; and what a trace then comes to.
-- Assumes nothing.
use Rattle.std.specs.Prelude.{◌≡◌, Err, Ok, is_err}
use Rattle.laws.specs.Basics.{sym, true, false, false≢true, List, [], Option, None, Some, ℕ}
use Prim.{tt}
use Rattle.model.specs.Shapes.{StartAnswer}
use Rattle.model.specs.declared.{Refusal.Refusal, Run.Run}
use Rattle.model.specs.{Words.blank, Words.ones, Steps.start_state, laws.Refusals.by_refusal}
use Rattle.whole_runs.specs.Outcomes.{Outcome, judged}
use Rattle.bench_by_value.specs.Timed.{Timed, records_taken, timed_records, timed_trace}

-- The outcome of a start, by value and in place.
abbrev pub started_or : Option Refusal → Run → Outcome StartAnswer
started_or o t = judged o
    (λ why. record { run = blank 0; answer = Err why; rose = 0; deleted = []; line = [] })
    (record { run = t; answer = Ok tt; rose = 0; deleted = []; line = [] })

module _ (o : Option Refusal) (t : Run) (a : StartAnswer) (answer : a ≡ (started_or o t).answer) where
  -- it is accepted,
  pub begun : is_err a ≡ false → o ≡ None
  begun fine = by_refusal o (λ e. e) (λ why e. absurd (false≢true (sym (rw (answer, e) at fine))))

  -- or refused
  pub not_begun : is_err a ≡ true → (why : Refusal) × (o ≡ Some why)
  not_begun refused = by_refusal o (λ e. absurd (false≢true (rw (answer, e) at refused))) (λ why e. (why, e))

-- The records of a trace after it: none, or those that are taken.
module _ (o : Option Refusal) (n : ℕ) (trace : List ℕ) (t : Run) (state : t ≡ (started_or o (start_state n ones)).run) where
  pub none_timed : (why : Refusal) → o ≡ Some why → ◌≡◌ {A = Timed} (record { accepted = 0; run = t }) (timed_trace o n trace)
  unfolding timed_trace
  none_timed why e = rw (state, e)

  pub all_timed : o ≡ None → timed_records t (records_taken trace) ≡ timed_trace o n trace
  unfolding timed_trace
  all_timed e = rw (state, e)
