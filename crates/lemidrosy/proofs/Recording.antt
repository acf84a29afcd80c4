-- A call through the recorder for C: what it leaves, field by field, and that its report fits the fields of its number.
-- Assumes nothing.
use Rattle.std.specs.Prelude.{◌≡◌, ◌∷◌, ◌-◌, ◌≤◌, Err}
use Rattle.laws.specs.Basics.{refl, sym, ap, List, [], Option, ℕ, arith, ltb, length, get_or, set, by_bool}
use Rattle.model.specs.declared.{Named.Named, Run.Run, Refusal.Refusal, Refusal.TheVariants.ListTooShort, Refusal.TheVariants.BufferTooShort}
use Rattle.model.specs.Refusals.{number, checkpoint_refusal, send_refusal, deliver_refusal, lose_refusal, recover_refusal}
use Rattle.model.specs.laws.Refusals.{by_refusal}
use Rattle.whole_runs.specs.Outcomes.{Outcome, Report, start_report, checkpoint_report, checkpoint_outcome, send_report, send_outcome, deliver_report, deliver_outcome, lose_report, lose_outcome, line_report, recover_report, recover_outcome}
use Rattle.theory_recording.specs.Recording.{Recorded, unwritten, appended, recording, recorded_checkpoint, recorded_send, recorded_deliver, recorded_lose, recorded_line, recorded_recover, recorded_earliest}
use Rattle.listing.specs.answers.Codes.{Fits, coded, value_code_of, start_code, checkpoint_code, send_code, deliver_code, lose_code, line_code, recover_code}
use Rattle.listing.proofs.answers.Fit.{fits_refused, checkpoint_fits, send_fits, deliver_fits, lose_fits, line_fits, recover_fits, earliest_fits}
use Rattle.words.specs.Layout.{run_of}
use Rattle.in_place.specs.Starting.{start_refusal_in}
use Rattle.library_recorder.specs.Recorded.{recorded_start_in, recorded_start_words}
use Rattle.lemidrosy.specs.Recording.{Placed, at_place, unplaced, start_at, start_words_at, checkpoint_at, send_at, deliver_at, lose_at, line_at, recover_at, earliest_at}
use Rattle.lemidrosy.proofs.Starting.{start_fits}

-- What a call leaves, each by itself.
pub record LeavesAt {A : Type 0} (r : Placed A) (outcome : Outcome A) (bytes list : List ℕ) : Type 0 where
  pub run : outcome.run ≡ r.outcome.run
  pub answer : outcome.answer ≡ r.outcome.answer
  pub rose : outcome.rose ≡ r.outcome.rose
  pub deleted : outcome.deleted ≡ r.outcome.deleted
  pub line : outcome.line ≡ r.outcome.line
  pub buffer : bytes ≡ r.buffer
  pub places : list ≡ r.places

-- What it leaves without a place, and at one.
pub record ByPlace {A : Type 0} (r : Placed A) (none : Outcome A) (made : ℕ → Recorded A) (buffer l : List ℕ) : Type 0 where
  pub without : length l ≡ 0 → LeavesAt r none buffer l
  pub placed : (length l ≡ 0 → ⊥) → LeavesAt r (made (get_or l 0 0)).outcome (made (get_or l 0 0)).buffer (set l 0 (made (get_or l 0 0)).place)

module _ {A : Type 0} where
  leaves_at : (r : Placed A) (outcome : Outcome A) (bytes list : List ℕ) → r ≡ record { outcome = outcome; buffer = bytes; places = list } → LeavesAt r outcome bytes list
  leaves_at r outcome bytes list e = record {
    run = ap (λ (x : Placed A). x.outcome.run) (sym e);
    answer = ap (λ (x : Placed A). x.outcome.answer) (sym e);
    rose = ap (λ (x : Placed A). x.outcome.rose) (sym e);
    deleted = ap (λ (x : Placed A). x.outcome.deleted) (sym e);
    line = ap (λ (x : Placed A). x.outcome.line) (sym e);
    buffer = ap (λ (x : Placed A). x.buffer) (sym e);
    places = ap (λ (x : Placed A). x.places) (sym e);
  }

  module _ (none : Outcome A) (made : ℕ → Recorded A) (buffer : List ℕ) where
    is_none : (l : List ℕ) → length l ≡ 0 → at_place none made buffer l ≡ record { outcome = none; buffer = buffer; places = l }
    unfolding at_place
    is_none [] e = refl
    is_none (p ∷ l) e = absurd (omega arith)

    is_some : (l : List ℕ) → (length l ≡ 0 → ⊥)
        → at_place none made buffer l ≡ record { outcome = (made (get_or l 0 0)).outcome; buffer = (made (get_or l 0 0)).buffer; places = set l 0 (made (get_or l 0 0)).place }
    unfolding at_place
    is_some [] e = absurd (e refl)
    is_some (p ∷ l) e = refl

    by_place : (l : List ℕ) → ByPlace (at_place none made buffer l) none made buffer l
    by_place l = record { without = λ e. leaves_at _ none buffer l (is_none l e); placed = λ e. leaves_at _ _ _ _ (is_some l e) }

pub start_by : (w : List ℕ) (n : ℕ) (block_counts buffer l : List ℕ) → ByPlace (start_at w n block_counts buffer l) (unplaced (Err ListTooShort) (run_of w) [] []) (recorded_start_in (length w) n block_counts buffer) buffer l
unfolding start_at
start_by w n block_counts buffer l = by_place _ _ buffer l

pub checkpoint_by : (s : Run) (i : ℕ) (deleted buffer l : List ℕ) → ByPlace (checkpoint_at s i deleted buffer l) (unplaced (Err ListTooShort) s deleted []) (recorded_checkpoint s i deleted buffer) buffer l
unfolding checkpoint_at
checkpoint_by s i deleted buffer l = by_place _ _ buffer l

pub send_by : (s : Run) (i j : ℕ) (buffer l : List ℕ) → ByPlace (send_at s i j buffer l) (unplaced (Err ListTooShort) s [] []) (recorded_send s i j buffer) buffer l
unfolding send_at
send_by s i j buffer l = by_place _ _ buffer l

pub deliver_by : (s : Run) (m : ℕ) (deleted buffer l : List ℕ) → ByPlace (deliver_at s m deleted buffer l) (unplaced (Err ListTooShort) s deleted []) (recorded_deliver s m deleted buffer) buffer l
unfolding deliver_at
deliver_by s m deleted buffer l = by_place _ _ buffer l

pub lose_by : (s : Run) (m : ℕ) (buffer l : List ℕ) → ByPlace (lose_at s m buffer l) (unplaced (Err ListTooShort) s [] []) (recorded_lose s m buffer) buffer l
unfolding lose_at
lose_by s m buffer l = by_place _ _ buffer l

pub line_by : (s : Run) (F : ℕ) (line buffer l : List ℕ) → ByPlace (line_at s F line buffer l) (unplaced (Err ListTooShort) s [] line) (recorded_line s F line buffer) buffer l
unfolding line_at
line_by s F line buffer l = by_place _ _ buffer l

pub recover_by : (s : Run) (F : ℕ) (deleted line buffer l : List ℕ) → ByPlace (recover_at s F deleted line buffer l) (unplaced (Err ListTooShort) s deleted line) (recorded_recover s F deleted line buffer) buffer l
unfolding recover_at
recover_by s F deleted line buffer l = by_place _ _ buffer l

pub earliest_by : (s : Run) (x : List Named) (line buffer l : List ℕ) → ByPlace (earliest_at s x line buffer l) (unplaced (Err ListTooShort) s [] line) (recorded_earliest s x line buffer) buffer l
unfolding earliest_at
earliest_by s x line buffer l = by_place _ _ buffer l

module _ (w : List ℕ) (n : ℕ) (block_counts buffer : List ℕ) where
  pub words_none : (l : List ℕ) → length l ≡ 0 → w ≡ start_words_at w n block_counts buffer l
  unfolding start_words_at
  words_none [] e = refl
  words_none (p ∷ l) e = absurd (omega arith)

  pub words_some : (l : List ℕ) → (length l ≡ 0 → ⊥) → recorded_start_words w n block_counts buffer ≡ start_words_at w n block_counts buffer l
  unfolding start_words_at
  words_some [] e = absurd (e refl)
  words_some (p ∷ l) e = refl

-- The code of an answer to a call that is lent no place.
pub start_three : 3 ≡ start_code (Err ListTooShort)
unfolding start_report coded value_code_of number
start_three = refl

pub checkpoint_three : 3 ≡ checkpoint_code (Err ListTooShort)
unfolding checkpoint_report coded value_code_of number
checkpoint_three = refl

pub send_three : 3 ≡ send_code (Err ListTooShort)
unfolding send_report coded value_code_of number
send_three = refl

pub deliver_three : 3 ≡ deliver_code (Err ListTooShort) 0
unfolding deliver_report coded value_code_of number
deliver_three = refl

pub lose_three : 3 ≡ lose_code (Err ListTooShort)
unfolding lose_report coded value_code_of number
lose_three = refl

pub line_three : 3 ≡ line_code (Err ListTooShort)
unfolding line_report coded value_code_of number
line_three = refl

pub recover_three : 3 ≡ recover_code (Err ListTooShort)
unfolding recover_report coded value_code_of number
recover_three = refl

-- The answer is the call's own, or the refusal with 21.
fits_recorded : {A : Type 0} (report : A → Report) (own : Option Refusal) (outcome short : Outcome A) (bytes buffer : List ℕ) (place : ℕ)
    → Fits (report outcome.answer) → Fits (report short.answer) → Fits (report (recording own outcome short bytes buffer place).outcome.answer)
unfolding recording unwritten appended
fits_recorded report own outcome short bytes buffer place a b = by_refusal own
    (λ e. rw e (by_bool (ltb (length buffer - place) (length bytes)) (λ q. rw q b) (λ q. rw q a)))
    (λ x e. rw e a)

pub start_recorded_fits : (many n : ℕ) (block_counts buffer : List ℕ) (place : ℕ) → Fits (start_report (recorded_start_in many n block_counts buffer place).outcome.answer)
unfolding start_report recorded_start_in unwritten appended
start_recorded_fits many n block_counts buffer place = by_refusal (start_refusal_in many n block_counts)
    (λ e. rw e (by_bool (ltb (length buffer) 1) (λ q. rw q (fits_refused BufferTooShort)) (λ q. rw q (start_fits many n block_counts))))
    (λ x e. rw e (start_fits many n block_counts))

module _ (s : Run) where
  pub checkpoint_recorded_fits : (i : ℕ) (deleted buffer : List ℕ) (place : ℕ) → Fits (checkpoint_report (recorded_checkpoint s i deleted buffer place).outcome.answer)
  unfolding recorded_checkpoint checkpoint_report
  checkpoint_recorded_fits i deleted buffer place = fits_recorded checkpoint_report (checkpoint_refusal s i deleted) (checkpoint_outcome s i deleted) _ _ buffer place (checkpoint_fits s i deleted) (fits_refused BufferTooShort)

  pub send_recorded_fits : (i j : ℕ) (buffer : List ℕ) (place : ℕ) → Fits (send_report (recorded_send s i j buffer place).outcome.answer)
  unfolding recorded_send send_report
  send_recorded_fits i j buffer place = fits_recorded send_report (send_refusal s i j) (send_outcome s i j) _ _ buffer place (send_fits s i j) (fits_refused BufferTooShort)

  pub deliver_recorded_fits : (m : ℕ) (deleted buffer : List ℕ) (place : ℕ) → Fits (deliver_report (recorded_deliver s m deleted buffer place).outcome.answer)
  unfolding recorded_deliver deliver_report
  deliver_recorded_fits m deleted buffer place = fits_recorded deliver_report (deliver_refusal s m deleted) (deliver_outcome s m deleted) _ _ buffer place (deliver_fits s m deleted) (fits_refused BufferTooShort)

  pub lose_recorded_fits : (m : ℕ) (buffer : List ℕ) (place : ℕ) → Fits (lose_report (recorded_lose s m buffer place).outcome.answer)
  unfolding recorded_lose lose_report
  lose_recorded_fits m buffer place = fits_recorded lose_report (lose_refusal s m) (lose_outcome s m) _ _ buffer place (lose_fits s m) (fits_refused BufferTooShort)

  pub line_recorded_fits : (F : ℕ) (line buffer : List ℕ) (place : ℕ) → Fits (line_report (recorded_line s F line buffer place).outcome.answer)
  unfolding recorded_line unwritten
  line_recorded_fits F line buffer place = line_fits s F line

  pub recover_recorded_fits : (F : ℕ) (deleted line buffer : List ℕ) (place : ℕ) → Fits (recover_report (recorded_recover s F deleted line buffer place).outcome.answer)
  unfolding recorded_recover recover_report
  recover_recorded_fits F deleted line buffer place = fits_recorded recover_report (recover_refusal s F deleted line) (recover_outcome s F deleted line) _ _ buffer place (recover_fits s F deleted line) (fits_refused BufferTooShort)

  pub earliest_recorded_fits : (l : List Named) (line buffer : List ℕ) (place : ℕ) → Fits (line_report (recorded_earliest s l line buffer place).outcome.answer)
  unfolding recorded_earliest unwritten
  earliest_recorded_fits l line buffer place = earliest_fits s l line
