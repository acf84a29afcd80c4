-- Programs that write what they know of the bytes that were read, and report a read or a write that failed: what their theorems share.
-- Assumes nothing.
use Rattle.std.specs.Prelude.{◌≡◌, ◌||◌, ◌∷◌, ◌++◌}
use Rattle.laws.specs.Basics.{refl, sym, ◌∙◌, ap, Bool, false, List, [], append-nil, ℕ}
use Rattle.laws.specs.Rows.{or_false}
use Rattle.machines.specs.Machines.{Request, Read, Write, Fail, Stop, Answer, Done, Failed, Exchange, written, error_text, written_of, error_text_of, brought, read_by, read_of, gathered, is_end, end_met, failed, failure, requests_of}
use Rattle.machines.proofs.Runs.{read_next, gathered_next, end_next, written_next, error_text_next}

-- What such a program reports of a read and of a write that failed, and what is to be written of the bytes that were read, by whether the input has ended.
pub record Account : Type 0 where
  pub input : List ℕ
  pub output : List ℕ
  pub shown : Bool → List ℕ → List ℕ

abbrev pub printed_in : List Exchange → List ℕ
printed_in talk = written_of (requests_of talk)

abbrev pub reported_in : List Exchange → List ℕ
reported_in talk = error_text_of (requests_of talk)

-- One exchange more.
module _ (talk : List Exchange) (r : Request) (a : Answer) where
  abbrev pub more : List Exchange
  more = talk ++ (record { request = r; answer = a } ∷ [])

  pub reads : read_of more ≡ read_of talk ++ read_by r a
  reads = read_next talk (record { request = r; answer = a })

  pub ends : end_met more ≡ end_met talk || is_end a
  ends = end_next talk (record { request = r; answer = a })

  pub writes : printed_in more ≡ printed_in talk ++ written r
  writes = written_next talk (record { request = r; answer = a })

  pub reports : reported_in more ≡ reported_in talk ++ error_text r
  reports = error_text_next talk (record { request = r; answer = a })

  pub same_read : read_by r a ≡ [] → read_of more ≡ read_of talk
  same_read none = reads ∙ ap (λ (x : List ℕ). read_of talk ++ x) none ∙ append-nil (read_of talk)

  pub same_end : is_end a ≡ false → end_met more ≡ end_met talk
  same_end on = ends ∙ ap (λ (b : Bool). end_met talk || b) on ∙ or_false (end_met talk)

module _ (account : Account) where
  abbrev pub failures : List Exchange → List ℕ
  failures talk = gathered (failure account.input account.output) talk

  abbrev pub shown_in : List Exchange → List ℕ
  shown_in talk = account.shown (end_met talk) (read_of talk)

  -- Nothing is reported so far, and nothing failed.
  pub record Fine (talk : List Exchange) : Type 0 where
    pub mute : reported_in talk ≡ []
    pub fine : failures talk ≡ []

  -- With this text all is written.
  pub record InWriting (text : List ℕ) (talk : List Exchange) : Type 0 where
    pub right : printed_in talk ++ text ≡ shown_in talk
    pub quiet : Fine talk

  -- This failed, and is not reported yet.
  pub record InFailing (name : List ℕ) (talk : List Exchange) : Type 0 where
    pub why : failures talk ≡ name
    pub mute : reported_in talk ≡ []
    pub right : printed_in talk ≡ shown_in talk

  pub record InStopped (talk : List Exchange) : Type 0 where
    pub why : reported_in talk ≡ failures talk
    pub right : printed_in talk ≡ shown_in talk

  -- An exchange that reads nothing leaves what is to be written.
  module _ (talk : List Exchange) (r : Request) (a : Answer) where
    fails : failures (more talk r a) ≡ failures talk ++ failure account.input account.output r a
    fails = gathered_next talk (record { request = r; answer = a }) (failure account.input account.output)

    same_shown : read_by r a ≡ [] → is_end a ≡ false → shown_in (more talk r a) ≡ shown_in talk
    same_shown none on = λ j. account.shown (same_end talk r a on j) (same_read talk r a none j)

    -- What says nothing and does not fail.
    pub fine_on : Fine talk → error_text r ≡ [] → failure account.input account.output r a ≡ [] → Fine (more talk r a)
    fine_on quiet s f = record {
      mute = reports talk r a ∙ ap (λ (x : List ℕ). x ++ error_text r) quiet.mute ∙ s;
      fine = fails ∙ ap (λ (x : List ℕ). x ++ failure account.input account.output r a) quiet.fine ∙ f;
    }

  -- A read fails.
  pub failed_read : (talk : List Exchange) (most : ℕ) → Fine talk → printed_in talk ≡ shown_in talk → InFailing account.input (more talk (Read most) Failed)
  unfolding written error_text failure failed read_by brought is_end
  failed_read talk most quiet right = record {
    why = fails talk (Read most) Failed ∙ ap (λ (x : List ℕ). x ++ account.input) quiet.fine;
    mute = reports talk (Read most) Failed ∙ append-nil (reported_in talk) ∙ quiet.mute;
    right = writes talk (Read most) Failed ∙ append-nil (printed_in talk) ∙ right ∙ sym (same_shown talk (Read most) Failed refl refl);
  }

  -- A text is written, or the write fails.
  module _ (text : List ℕ) (talk : List Exchange) (h : InWriting text talk) where
    text_right : (a : Answer) → is_end a ≡ false → printed_in (more talk (Write text) a) ≡ shown_in (more talk (Write text) a)
    unfolding written read_by
    text_right a on = writes talk (Write text) a ∙ h.right ∙ sym (same_shown talk (Write text) a refl on)

    text_mute : (a : Answer) → reported_in (more talk (Write text) a) ≡ []
    unfolding error_text
    text_mute a = reports talk (Write text) a ∙ append-nil (reported_in talk) ∙ h.quiet.mute

    pub failed_write : InFailing account.output (more talk (Write text) Failed)
    unfolding failure failed is_end
    failed_write = record {
      why = fails talk (Write text) Failed ∙ ap (λ (x : List ℕ). x ++ account.output) h.quiet.fine;
      mute = text_mute Failed;
      right = text_right Failed refl;
    }

    pub done_write : InStopped (more talk (Write text) Done)
    unfolding failure failed is_end
    done_write = record {
      why = text_mute Done ∙ sym (fails talk (Write text) Done ∙ append-nil (failures talk) ∙ h.quiet.fine);
      right = text_right Done refl;
    }

  -- What failed is reported; then nothing more.
  pub after_fail : (name : List ℕ) (talk : List Exchange) → InFailing name talk → InStopped (more talk (Fail name) Done)
  unfolding written error_text failure read_by is_end
  after_fail name talk h = record {
    why = reports talk (Fail name) Done ∙ ap (λ (x : List ℕ). x ++ name) h.mute ∙ sym (fails talk (Fail name) Done ∙ append-nil (failures talk) ∙ h.why);
    right = writes talk (Fail name) Done ∙ append-nil (printed_in talk) ∙ h.right ∙ sym (same_shown talk (Fail name) Done refl refl);
  }

  pub after_stop : (talk : List Exchange) → InStopped talk → InStopped (more talk Stop Failed)
  unfolding written error_text failure read_by is_end
  after_stop talk h = record {
    why = reports talk Stop Failed ∙ append-nil (reported_in talk) ∙ h.why ∙ sym (fails talk Stop Failed ∙ append-nil (failures talk));
    right = writes talk Stop Failed ∙ append-nil (printed_in talk) ∙ h.right ∙ sym (same_shown talk Stop Failed refl refl);
  }

  -- What is reported, with the request that is not answered yet.
  pub fine_says : (talk : List Exchange) → Fine talk → reported_in talk ++ [] ≡ failures talk
  fine_says talk quiet = append-nil (reported_in talk) ∙ quiet.mute ∙ sym quiet.fine

  pub failing_says : (name : List ℕ) (talk : List Exchange) → InFailing name talk → reported_in talk ++ name ≡ failures talk
  failing_says name talk h = ap (λ (x : List ℕ). x ++ name) h.mute ∙ sym h.why
