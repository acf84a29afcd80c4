-- A start on words is the console's start with the block count 1 at each process.
-- Assumes nothing.
use Rattle.std.specs.Prelude.{◌≡◌}
use Rattle.listing.specs.Lines.{number_said}
use Rattle.laws.specs.Basics.{refl, sym, ◌∙◌, ap, true, false, List, ℕ, arith, eqb, length, eq-eqb, ne_eqb, pick, by_bool}
use Rattle.model.specs.Shapes.{StartAnswer}
use Rattle.model.specs.declared.Refusal.TheVariants.{Denied}
use Rattle.model.specs.{Words.ones}
use Rattle.whole_runs.specs.{Outcomes.Outcome, Outcomes.Report, Outcomes.start_report, Calls.answered}
use Rattle.whole_runs.proofs.whole.Reached.{refused_number}
use Rattle.listing.specs.declared.Summary.{Summary}
use Rattle.listing.specs.Summarised.{report_in}
use Rattle.words.specs.Layout.{run_of}
use Rattle.theory_roles.specs.declared.Caller.{Caller}
use Rattle.theory_roles.specs.Console.{denied, console_start}
use Rattle.machine_console.specs.{declared.script.Call.Call, declared.calls.Replied.Replied, Replied.Claims, Replied.Replies}
use Rattle.library_console.specs.Asked.{claim_of, console_start_in, start_as}
use Rattle.machine_console.specs.{Made.started_over, Made.made_with, Made.operator, Made.opened, Text.answer_text, Text.refused_at}
use Rattle.machine_console.proofs.Replying.{asked_as, same_number}
use Rattle.in_place.proofs.Starting.{outcome_same}
use Rattle.theory_roles.specs.declared.Operation.TheVariants as operation

module _ (role owned : ℕ) (c : Caller) (claims : Claims role owned c) (w : List ℕ) (long : length w ≡ 6464) (n : ℕ) where
  start_as_lem : start_as role owned w n ones ≡ console_start_in c w n ones
  unfolding start_as
  start_as_lem = asked_as role owned c _ (λ (k : Caller). console_start_in k w n ones) claims

  same_answer : (console_start_in c w n ones).answer ≡ (console_start c n ones).answer
  unfolding console_start_in console_start
  same_answer = by_bool (denied c operation.Start) (λ e. rw e refl) (λ e. rw (e, long, outcome_same n) refl)

  pub start_answer : (start_as role owned w n ones).answer ≡ (console_start c n ones).answer
  start_answer = ap (λ (o : Outcome StartAnswer). o.answer) start_as_lem ∙ same_answer

  accepted_run : eqb (start_report (console_start c n ones).answer).refused 0 ≡ true → (console_start_in c w n ones).run ≡ (console_start c n ones).run
  unfolding console_start_in console_start start_report
  accepted_run h = by_bool (denied c operation.Start)
      (λ e. let wrong = sym (rw e at h) ∙ refused_number Denied in cc)
      (λ e. rw (e, long, outcome_same n) refl)

  pub start_run : eqb (start_report (console_start c n ones).answer).refused 0 ≡ true → (start_as role owned w n ones).run ≡ (console_start c n ones).run
  start_run h = ap (λ (o : Outcome StartAnswer). o.run) start_as_lem ∙ accepted_run h

-- Where the words of an accepted start take the place of those before, and of no other.
module _ (role owned : ℕ) (c : Call) (claims : Claims role owned c.caller) (w w' fresh fresh' : List ℕ) (long : length fresh ≡ 6464) (r : Replied) (answer : StartAnswer) (pairs line : List ℕ)
    (is : answer ≡ (start_as role owned fresh c.process ones).answer) (run : run_of fresh' ≡ (start_as role owned fresh c.process ones).run) (summary : report_in r.summary ≡ start_report answer) where
  same : report_in r.summary ≡ start_report (console_start c.caller c.process ones).answer
  same = summary ∙ ap start_report (is ∙ start_answer role owned c.caller claims fresh long c.process)

  number_is : (number_said r.summary.refused) ≡ (start_report (console_start c.caller c.process ones).answer).refused
  number_is = same_number r (start_report (console_start c.caller c.process ones).answer) same

  pub start_accepted : (number_said r.summary.refused) ≡ 0 → w' ≡ fresh' → Replies operation.Start (made_with operation.Start (run_of w) c pairs line) w' r pairs line
  unfolding made_with started_over answered answer_text
  start_accepted none copied =
      let fine : eqb (start_report (console_start c.caller c.process ones).answer).refused 0 ≡ true = eq-eqb _ 0 (sym number_is ∙ none) in
      record {
        run = ap run_of copied ∙ run ∙ start_run role owned c.caller claims fresh long c.process fine ∙ sym (ap (λ b. pick b (console_start c.caller c.process ones).run (run_of w)) fine);
        refused = number_is;
        answer = λ k n. refl;
      }

  pub start_refused : ((number_said r.summary.refused) ≡ 0 → ⊥) → w' ≡ w → Replies operation.Start (made_with operation.Start (run_of w) c pairs line) w' r pairs line
  unfolding made_with started_over answered answer_text
  start_refused some kept =
      let not : eqb (start_report (console_start c.caller c.process ones).answer).refused 0 ≡ false = ne_eqb _ 0 (λ e. some (number_is ∙ e)) in
      record {
        run = ap run_of kept ∙ sym (ap (λ b. pick b (console_start c.caller c.process ones).run (run_of w)) not);
        refused = number_is;
        answer = λ k n. refl;
      }

-- The operator's start, which a script begins with.
module _ (words : List ℕ) (n : ℕ) (answer : StartAnswer) (summary : Summary) (long : length words ≡ 6464) (is : answer ≡ (start_as 0 0 words n ones).answer) where
  claims_operator : Claims 0 0 operator
  unfolding claim_of
  claims_operator = (refl, refl)

  pub opened_number : report_in summary ≡ start_report answer → number_said summary.refused ≡ refused_at n
  unfolding report_in refused_at opened answered
  opened_number e = ap (λ (x : Report). x.refused) (e ∙ ap start_report (is ∙ start_answer 0 0 operator claims_operator words long n))

  pub opened_run : (words' : List ℕ) → run_of words' ≡ (start_as 0 0 words n ones).run → report_in summary ≡ start_report answer → number_said summary.refused ≡ 0 → run_of words' ≡ (opened n).run
  unfolding opened answered refused_at
  opened_run words' run e none = run ∙ start_run 0 0 operator claims_operator words long n (eq-eqb _ 0 (sym (opened_number e) ∙ none))
