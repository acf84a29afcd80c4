-- The same, record by record, in emptied buffers: between two records the recorder is left with the state, how many bytes of the buffer are left, and how many records it
-- took. What it wrote has gone. proofs/Emptied has the theorem that nothing of what is written or reported depends on that.
-- Assumes nothing.
use Rattle.std.specs.Prelude.{◌≡◌, ◌∷◌, ◌++◌, ◌+◌, ◌-◌, ◌≤◌}
use Rattle.laws.specs.Basics.{List, [], Option, ℕ, length}
use Rattle.model.specs.{declared.Event.Event, declared.Run.Run, Trace.decoded}
use Rattle.theory_recording.specs.Recording.{Tape, Taped}
use Rattle.machine_record.specs.Recorded.{lent, in_front, recorded_in, line_for}

pub record Standing : Type 0 where
  pub run : Run
  pub left : ℕ
  pub done : ℕ

-- An emptied buffer of the bytes that are left.
unfoldable pub emptied : Standing → Tape
emptied g = record { run = g.run; buffer = lent g.left; place = 0 }

-- One record.
unfoldable pub taken : Standing → Option Event → Taped
taken g o = recorded_in (emptied g) o

unfoldable pub standing_next : Standing → Option Event → Standing
standing_next g o = record { run = (taken g o).tape.run; left = g.left - (taken g o).tape.place; done = g.done + 1 }

unfoldable pub bytes_of_def : Standing → Option Event → List ℕ
bytes_of_def g o = in_front (taken g o).tape

unfoldable pub line_of : Standing → Option Event → List ℕ
line_of g o = line_for (g.done + 1) (taken g o).reply.report.refused

-- The whole records of some bytes: where the recorder stands after them,
unfoldable pub standing_after : Standing → List ℕ → Standing
standing_after g [] = g
standing_after g (a ∷ []) = g
standing_after g (a ∷ b ∷ []) = g
standing_after g (a ∷ b ∷ c ∷ []) = g
standing_after g (a ∷ b ∷ c ∷ d ∷ l) = standing_after (standing_next g (decoded (a ∷ b ∷ c ∷ d ∷ []))) l

-- the texts that `text` gives of each of them, one after the other,
unfoldable pub texts_after : (Standing → Option Event → List ℕ) → Standing → List ℕ → List ℕ
texts_after text g [] = []
texts_after text g (a ∷ []) = []
texts_after text g (a ∷ b ∷ []) = []
texts_after text g (a ∷ b ∷ c ∷ []) = []
texts_after text g (a ∷ b ∷ c ∷ d ∷ l) = text g (decoded (a ∷ b ∷ c ∷ d ∷ [])) ++ texts_after text (standing_next g (decoded (a ∷ b ∷ c ∷ d ∷ []))) l

-- so what it wrote, and what is reported of them.
abbrev pub bytes_after : Standing → List ℕ → List ℕ
bytes_after = texts_after bytes_of_def

abbrev pub lines_after : Standing → List ℕ → List ℕ
lines_after = texts_after line_of

-- A long buffer that stands where an emptied one does: the same state, and as many bytes left.
pub record StandsAt (g : Standing) (t : Tape) : Type 0 where
  pub run : t.run ≡ g.run
  pub inside : t.place ≤ length t.buffer
  pub left : length t.buffer - t.place ≡ g.left
