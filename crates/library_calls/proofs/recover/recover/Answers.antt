-- `library_calls::recover::recover` meets its contract: what the call in place says of words that were filled from the state, it says of the state. Demand 3 and Notes 4
-- and 6 are theorems of `whole_runs`.
-- Assumes nothing.
use Rattle.std.specs.Prelude.{◌≡◌, Err, Ok}
use Rattle.laws.specs.Basics.{not, ◌∙◌, ap, true, ℕ, arith, rules}
use Rattle.model.specs.Shapes.{RecoverAnswer}
use Rattle.model.specs.declared.{Refusal.TheVariants.UnsoundState, Run.Run}
use Rattle.model.specs.Sound.{sound}
use Rattle.words.specs.Layout.{run_of}
use Rattle.whole_runs.specs.Outcomes.{recover_outcome}
use Rattle.whole_runs.proofs.{Clean.clean_promise, Sweep.sweep_promise, Unsound.recover_unsound, WholeRuns.line_promise, WholeRuns.recover_promise}
use Rattle.library_calls.proofs.{run_words.Sizes.sizes, Recovering.recover_small}
use Rattle.library_calls.proofs.Changing.{sound_small, small_readable, over_unsound, within, says, stays, accepted}
use Rattle.library_calls.proofs.recover.recover.Goals as goal

not_refused : (back gone : ℕ) (answer : RecoverAnswer) → answer ≡ Ok (record { rolled_back = back; deleted = gone }) → answer ≡ Err UnsoundState → ⊥
not_refused back gone answer recovered refused = let z : ◌≡◌ {A = ℕ} 0 1 = cc in omega arith

pub returns-then-not-few : goal.returns-then-not-few
returns-then-not-few c =
    let a = c.args in let d = a.deleted.now in let l = a.line.now in let g = recover_unsound a.s (over_unsound a.s _ c.are_counts_fit-few.ensures (ap not c.if-not-few.true)) a.failed d l in record { run_value = g.0; answer_value = g.1.0; deleted_after = g.1.1.0; line_after = g.1.1.1; line_promise = line_promise a.s a.failed; state_promise = recover_promise a.s a.failed d l a.s g.0; clean_promise = clean_promise a.s a.failed d l a.s g.0; sweep_promise = sweep_promise a.s a.failed d l g.1.0 g.1.1.1 g.0 }

pub fill-requires : goal.fill-requires
fill-requires c =
    let h = within c.args.s _ c.are_counts_fit-few.ensures (ap not c.if-not-few.false) in (search rules, h.0, h.1)

pub read-run-requires : goal.read-run-requires
read-run-requires c =
    let whole : sound c.args.s ≡ true = let a = c.args in let d = a.deleted.now in let l = a.line.now in accepted a.s _ c.fill.ensures (λ x. (recover_outcome x a.failed d l).answer) _ (λ t e. (recover_unsound t e a.failed d l).1.0) _ c.recover-answer.ensures.value
    (not_refused _ _ _ c.in-Ok.is) in
    let after : let a = c.args in run_of c.recover-answer.new.w ≡ (recover_outcome a.s a.failed a.deleted.now a.line.now).run = let a = c.args in c.recover-answer.ensures.w_after ∙ ap (λ (x : Run). (recover_outcome x a.failed a.deleted.now a.line.now).run) (c.fill.ensures.1 whole) in
    let a = c.args in let d = a.deleted.now in let l = a.line.now in small_readable _ (recover_outcome a.s a.failed d l).run after
    (recover_small a.s whole a.failed d l (sound_small a.s (sizes a.s _ c.well_formed.0) whole))

pub returns-in-Err : goal.returns-in-Err
returns-in-Err c =
    let said : let a = c.args in let d = a.deleted.now in let l = a.line.now in (c.recover-answer.result ≡ (recover_outcome a.s a.failed d l).answer) × (c.recover-answer.new.deleted ≡ (recover_outcome a.s a.failed d l).deleted) × (c.recover-answer.new.line ≡ (recover_outcome a.s a.failed d l).line) = let a = c.args in let d = a.deleted.now in let l = a.line.now in let g = c.recover-answer.ensures in let from = c.fill.ensures in (
      g.value ∙ says a.s _ from (λ x. (recover_outcome x a.failed d l).answer) _ (λ t e. (recover_unsound t e a.failed d l).1.0),
      g.deleted_after ∙ says a.s _ from (λ x. (recover_outcome x a.failed d l).deleted) d (λ t e. (recover_unsound t e a.failed d l).1.1.0),
      g.line_after ∙ says a.s _ from (λ x. (recover_outcome x a.failed d l).line) l (λ t e. (recover_unsound t e a.failed d l).1.1.1),
    ) in
    let a = c.args in let d = a.deleted.now in let l = a.line.now in let g = c.recover-answer.ensures in let run = stays a.s _ c.fill.ensures (λ x. (recover_outcome x a.failed d l).run) (λ t e. (recover_unsound t e a.failed d l).0) _ (g.w_unchanged _ c.in-Err.is) g.w_after in let r = said in record { run_value = run; answer_value = r.0; deleted_after = r.1; line_after = r.2; line_promise = line_promise a.s a.failed; state_promise = recover_promise a.s a.failed d l _ run; clean_promise = clean_promise a.s a.failed d l _ run; sweep_promise = sweep_promise a.s a.failed d l r.0 r.2 run }

pub returns-in-Ok : goal.returns-in-Ok
returns-in-Ok c =
    let whole : sound c.args.s ≡ true = let a = c.args in let d = a.deleted.now in let l = a.line.now in accepted a.s _ c.fill.ensures (λ x. (recover_outcome x a.failed d l).answer) _ (λ t e. (recover_unsound t e a.failed d l).1.0) _ c.recover-answer.ensures.value
    (not_refused _ _ _ c.in-Ok.is) in
    let after : let a = c.args in run_of c.recover-answer.new.w ≡ (recover_outcome a.s a.failed a.deleted.now a.line.now).run = let a = c.args in c.recover-answer.ensures.w_after ∙ ap (λ (x : Run). (recover_outcome x a.failed a.deleted.now a.line.now).run) (c.fill.ensures.1 whole) in
    let said : let a = c.args in let d = a.deleted.now in let l = a.line.now in (c.recover-answer.result ≡ (recover_outcome a.s a.failed d l).answer) × (c.recover-answer.new.deleted ≡ (recover_outcome a.s a.failed d l).deleted) × (c.recover-answer.new.line ≡ (recover_outcome a.s a.failed d l).line) = let a = c.args in let d = a.deleted.now in let l = a.line.now in let g = c.recover-answer.ensures in let from = c.fill.ensures in (
      g.value ∙ says a.s _ from (λ x. (recover_outcome x a.failed d l).answer) _ (λ t e. (recover_unsound t e a.failed d l).1.0),
      g.deleted_after ∙ says a.s _ from (λ x. (recover_outcome x a.failed d l).deleted) d (λ t e. (recover_unsound t e a.failed d l).1.1.0),
      g.line_after ∙ says a.s _ from (λ x. (recover_outcome x a.failed d l).line) l (λ t e. (recover_unsound t e a.failed d l).1.1.1),
    ) in
    let a = c.args in let d = a.deleted.now in let l = a.line.now in let run = c.read-run.ensures ∙ after in let r = said in record { run_value = run; answer_value = r.0; deleted_after = r.1; line_after = r.2; line_promise = line_promise a.s a.failed; state_promise = recover_promise a.s a.failed d l _ run; clean_promise = clean_promise a.s a.failed d l _ run; sweep_promise = sweep_promise a.s a.failed d l r.0 r.2 run }
