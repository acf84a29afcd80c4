-- The first rows hold the start: each list is checkpoint 0.
-- Assumes nothing.
use Rattle.std.specs.Prelude.{◌≡◌, ◌≤◌, ◌<◌}
use Rattle.laws.specs.Basics.{refl, sym, ◌∙◌, ap, List, ℕ, arith, eqb, eq-eqb, pick}
use Rattle.histories.specs.History.{HistoryEvent, stored, checkpoints}
use Rattle.histories.proofs.Apart.{sent_stored, received_stored}
use Rattle.theory_patterns.specs.Paths.{StandsIn}
use Rattle.theory_patterns.proofs.{Facts.begin, Placing.first_event}
use Rattle.library_judge.specs.declared.{pattern.State.State, pattern.Sent.Sent}
use Rattle.library_judge.specs.{decision.Rows.owner_at, decision.Rows.entry_at, Readings.FirstStates, decision.Represents.interval_of, decision.Represents.Represents}

only_stored : {e : HistoryEvent} {g : ℕ} (p : ℕ) → StandsIn e g (begin.lists p) → e ≡ stored
unfolding begin
only_stored {e = e} p s = first_event s.0 e s.1

pub own_begin : (p : ℕ) → checkpoints (begin.lists p) ≡ 1
unfolding begin checkpoints
own_begin p = refl

vector_begin : (p f : ℕ) → begin.vector p 1 f ≡ pick (eqb p f) 1 0
unfolding begin
vector_begin p f = refl

module _ (n : ℕ) (vs : List State) (ms : List Sent) (current : List ℕ) (few : n ≤ 16) (w : FirstStates n vs current) where
  iv_one : (r : ℕ) → r < n → interval_of vs r ≡ 1
  iv_one r lr = ap (λ (p : ℕ). entry_at vs r p) (w.owner r lr) ∙ w.vector r r lr (omega arith) ∙ ap (λ b. pick b 1 0) (eq-eqb r r refl)

  pub begin_represented : Represents n begin.lists begin.vector n 0 vs ms
  begin_represented = record {
    few = few;
    most_rows_lem = omega arith;
    most_messages = omega arith;
    owner = λ r lr. omega (arith, w.owner r lr);
    state = λ r lr. omega (arith, iv_one r lr, own_begin (owner_at vs r));
    vector_is = λ r f lr lf. w.vector r f lr lf ∙ sym (vector_begin r f) ∙ ap (λ (k : ℕ). begin.vector r k f) (sym (iv_one r lr)) ∙ ap (λ (p : ℕ). begin.vector p (interval_of vs r) f) (sym (w.owner r lr));
    there = λ p k lp pos le. (p, lp, w.owner p lp, iv_one p lp ∙ omega (arith, own_begin p));
    ascends = λ r x lt lx e. absurd (omega (arith, w.owner r (omega arith), w.owner x lx));
    from_row = λ m lm. absurd (omega arith);
    to_row = λ m lm. absurd (omega arith);
    sent_in_lem = λ m lm. absurd (omega arith);
    received_in = λ m lm ne. absurd (omega arith);
    all_sent = λ p g m s. absurd (sent_stored m (only_stored p s));
    all_received = λ p g m s. absurd (received_stored m (only_stored p s));
  }
