-- A call in place is the call of the caller who claims its role, and its line says what it answered.
-- Assumes nothing.
use Rattle.std.specs.Prelude.{◌≡◌}
use Rattle.listing.specs.Lines.{number_said}
use Rattle.laws.specs.Basics.{sym, ◌∙◌, ap, subst, List, ℕ}
use Rattle.model.specs.declared.Run.{Run}
use Rattle.whole_runs.specs.{Outcomes.Outcome, Outcomes.Report, Calls.answered}
use Rattle.listing.specs.Summarised.{report_in}
use Rattle.words.specs.Layout.{run_of}
use Rattle.theory_roles.specs.declared.{Caller.Caller, Operation.Operation}
use Rattle.machine_console.specs.{declared.script.Call.Call, declared.calls.Replied.Replied, Replied.Claims, Replied.reply_of, Replied.Replies}
use Rattle.library_console.specs.Asked.{claim_of, asked}
use Rattle.machine_console.specs.{Made.made_with, Text.answer_text}

pub asked_as : {A : Type 0} (role owned : ℕ) (c : Caller) (refusal : Outcome A) (call : Caller → Outcome A) → Claims role owned c → asked (claim_of role) owned refusal call ≡ call c
unfolding asked
asked_as role owned c refusal call h = rw h.0 (ap (λ (k : ℕ). call (record { role = c.role; owned = k })) h.1)

pub same_number : (r : Replied) (x : Report) → report_in r.summary ≡ x → (number_said r.summary.refused) ≡ x.refused
unfolding report_in
same_number r x e = ap (λ (y : Report). y.refused) e

-- What the line says of the lent lists, and of the entries that rose, is left to each operation.
pub replies : {A : Type 0} (report : A → Report) (o : Operation) (role owned : ℕ) (c : Caller) (refusal : Outcome A) (call : Caller → Outcome A) (w' : List ℕ) (r : Replied) (answer : A) (pairs line : List ℕ)
    → let x = asked (claim_of role) owned refusal call in
    Claims role owned c → run_of w' ≡ x.run → answer ≡ x.answer → report_in r.summary ≡ report answer
    → ((k : Caller) (n : ℕ) → answer_text o k n (reply_of r pairs line) ≡ answer_text o k n (record { report = report_in r.summary; rose = x.rose; deleted = x.deleted; line = x.line }))
    → Replies o (answered report (call c)) w' r pairs line
unfolding answered
replies {A} report o role owned c refusal call w' r answer pairs line claims run is summary text =
    let e : asked (claim_of role) owned refusal call ≡ call c = asked_as role owned c refusal call claims in
    let same : report_in r.summary ≡ report (call c).answer = summary ∙ ap report (is ∙ ap (λ (x : Outcome A). x.answer) e) in
    record {
      run = run ∙ ap (λ (x : Outcome A). x.run) e;
      refused = same_number r (report (call c).answer) same;
      answer = λ k n. text k n ∙ (λ j. answer_text o k n (record { report = same j; rose = (e j).rose; deleted = (e j).deleted; line = (e j).line }));
    }

-- A call, by its operation.
pub by_operation : {o p : Operation} (s : Run) (c : Call) (pairs line : List ℕ) {w' pairs' line' : List ℕ} {r : Replied} → p ≡ o
    → Replies o (made_with o s c pairs line) w' r pairs' line' → Replies p (made_with p s c pairs line) w' r pairs' line'
by_operation s c pairs line {w'} {pairs'} {line'} {r} e h = subst (λ (x : Operation). Replies x (made_with x s c pairs line) w' r pairs' line') (sym e) h
