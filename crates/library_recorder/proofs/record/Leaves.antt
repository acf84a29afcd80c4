-- What a call through the recorder leaves, field by field: the functions return and write each by itself.
-- Assumes nothing.
use Rattle.std.specs.Prelude.{◌≡◌, ◌+◌}
use Rattle.laws.specs.Basics.{sym, ap, List, ℕ, length, sets}
use Rattle.whole_runs.specs.Outcomes.{Outcome}
use Rattle.theory_recording.specs.Recording.{Recorded, unwritten, appended}

pub record Leaves {A : Type 0} (r : Recorded A) (outcome : Outcome A) (bytes : List ℕ) (next : ℕ) : Type 0 where
  pub run : outcome.run ≡ r.outcome.run
  pub answer : outcome.answer ≡ r.outcome.answer
  pub rose : outcome.rose ≡ r.outcome.rose
  pub deleted : outcome.deleted ≡ r.outcome.deleted
  pub line : outcome.line ≡ r.outcome.line
  pub buffer : bytes ≡ r.buffer
  pub place : next ≡ r.place

module _ {A : Type 0} (outcome : Outcome A) where
  leaves : (r : Recorded A) (bytes : List ℕ) (next : ℕ) → r ≡ record { outcome = outcome; buffer = bytes; place = next } → Leaves r outcome bytes next
  leaves r bytes next e = record {
    run = ap (λ (x : Recorded A). x.outcome.run) (sym e);
    answer = ap (λ (x : Recorded A). x.outcome.answer) (sym e);
    rose = ap (λ (x : Recorded A). x.outcome.rose) (sym e);
    deleted = ap (λ (x : Recorded A). x.outcome.deleted) (sym e);
    line = ap (λ (x : Recorded A). x.outcome.line) (sym e);
    buffer = ap (λ (x : Recorded A). x.buffer) (sym e);
    place = ap (λ (x : Recorded A). x.place) (sym e);
  }

  pub leaves_all : (r : Recorded A) (buffer : List ℕ) (place : ℕ) → r ≡ unwritten outcome buffer place → Leaves r outcome buffer place
  unfolding unwritten
  leaves_all r buffer place e = leaves r buffer place e

  pub leaves_written : (r : Recorded A) (bytes buffer : List ℕ) (place : ℕ) → r ≡ appended outcome bytes buffer place → Leaves r outcome (sets buffer place bytes) (place + length bytes)
  unfolding appended
  leaves_written r bytes buffer place e = leaves r (sets buffer place bytes) (place + length bytes) e
