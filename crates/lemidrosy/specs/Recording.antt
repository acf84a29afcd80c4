-- For C: a call through the recorder is lent the place of the next byte in a list, of which it uses the first entry.
-- Assumes nothing.
use Rattle.std.specs.Prelude.{◌∷◌, Err}
use Rattle.laws.specs.Basics.{List, [], ℕ, length}
use Rattle.model.specs.Shapes.{CheckpointAnswer, DeliverAnswer, LineAnswer, LoseAnswer, RecoverAnswer, SendAnswer, StartAnswer}
use Rattle.model.specs.declared.{Run.Run, Named.Named, Refusal.TheVariants.ListTooShort}
use Rattle.whole_runs.specs.Outcomes.{Outcome}
use Rattle.theory_recording.specs.Recording.{Recorded, recorded_checkpoint, recorded_send, recorded_deliver, recorded_lose, recorded_line, recorded_recover, recorded_earliest}
use Rattle.words.specs.Layout.{run_of}
use Rattle.library_recorder.specs.Recorded.{recorded_start_in, recorded_start_words}

-- What the call leaves behind: its outcome, the buffer and the list with the place.
pub record Placed (A : Type 0) : Type 0 where
  pub outcome : Outcome A
  pub buffer : List ℕ
  pub places : List ℕ

-- With no entry for the place nothing is done, and that is refused with 3 before any other number: `none` is the outcome then. Else the call is made at the place, and the
-- place after it stands where it stood.
unfoldable pub at_place : {A : Type 0} → Outcome A → (ℕ → Recorded A) → List ℕ → List ℕ → Placed A
at_place none made buffer [] = record { outcome = none; buffer = buffer; places = [] }
at_place none made buffer (p ∷ l) = record { outcome = (made p).outcome; buffer = (made p).buffer; places = (made p).place ∷ l }

abbrev pub unplaced : {A : Type 0} → A → Run → List ℕ → List ℕ → Outcome A
unplaced answer s deleted line = record { run = s; answer = answer; rose = 0; deleted = deleted; line = line }

unfoldable pub start_at : List ℕ → ℕ → List ℕ → List ℕ → List ℕ → Placed StartAnswer
start_at w n block_counts buffer = at_place (unplaced (Err ListTooShort) (run_of w) [] []) (recorded_start_in (length w) n block_counts buffer) buffer

unfoldable pub start_words_at : List ℕ → ℕ → List ℕ → List ℕ → List ℕ → List ℕ
start_words_at w n block_counts buffer [] = w
start_words_at w n block_counts buffer (p ∷ l) = recorded_start_words w n block_counts buffer

unfoldable pub checkpoint_at : Run → ℕ → List ℕ → List ℕ → List ℕ → Placed CheckpointAnswer
checkpoint_at s i deleted buffer = at_place (unplaced (Err ListTooShort) s deleted []) (recorded_checkpoint s i deleted buffer) buffer

unfoldable pub send_at : Run → ℕ → ℕ → List ℕ → List ℕ → Placed SendAnswer
send_at s i j buffer = at_place (unplaced (Err ListTooShort) s [] []) (recorded_send s i j buffer) buffer

unfoldable pub deliver_at : Run → ℕ → List ℕ → List ℕ → List ℕ → Placed DeliverAnswer
deliver_at s m deleted buffer = at_place (unplaced (Err ListTooShort) s deleted []) (recorded_deliver s m deleted buffer) buffer

unfoldable pub lose_at : Run → ℕ → List ℕ → List ℕ → Placed LoseAnswer
lose_at s m buffer = at_place (unplaced (Err ListTooShort) s [] []) (recorded_lose s m buffer) buffer

unfoldable pub line_at : Run → ℕ → List ℕ → List ℕ → List ℕ → Placed LineAnswer
line_at s F line buffer = at_place (unplaced (Err ListTooShort) s [] line) (recorded_line s F line buffer) buffer

unfoldable pub recover_at : Run → ℕ → List ℕ → List ℕ → List ℕ → List ℕ → Placed RecoverAnswer
recover_at s F deleted line buffer = at_place (unplaced (Err ListTooShort) s deleted line) (recorded_recover s F deleted line buffer) buffer

unfoldable pub earliest_at : Run → List Named → List ℕ → List ℕ → List ℕ → Placed LineAnswer
earliest_at s l line buffer = at_place (unplaced (Err ListTooShort) s [] line) (recorded_earliest s l line buffer) buffer
