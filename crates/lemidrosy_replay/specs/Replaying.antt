-- For C: a block of records applied to the words.
-- Assumes nothing.
use Rattle.std.specs.Prelude.{◌∷◌}
use Rattle.laws.specs.Basics.{Bool, List, [], None, ℕ, ltb, length, pick}
use Rattle.model.specs.declared.{Refusal.TheVariants.ListTooShort, Run.Run}
use Rattle.whole_runs.specs.Outcomes.{Report, written, refusing, accepting}
use Rattle.library_replay.specs.Taken.{BlockOutcome, block_outcome}

pub record Replaying : Type 0 where
  pub report : Report
  pub run : Run
  pub text : List ℕ
  pub progress : List ℕ

-- How many records are taken, how many bytes of lines are written, and 1 if the replay goes on after them.
abbrev pub progress_of : BlockOutcome → List ℕ
progress_of o = o.taken ∷ length o.lines ∷ pick o.going 1 0 ∷ []

-- The lines go to the front of the lent text, the three numbers to the front of the lent list. 3 for a list with fewer than three entries: then nothing changes.
unfoldable pub replaying : Bool → ℕ → Run → List ℕ → List ℕ → List ℕ → Replaying
replaying all done s records text progress = pick (ltb (length progress) 3)
    (record { report = refusing ListTooShort; run = s; text = text; progress = progress })
    (let o = block_outcome all done s records (length text) in
    record { report = accepting None 0; run = o.run; text = written text o.lines; progress = written progress (progress_of o) })
