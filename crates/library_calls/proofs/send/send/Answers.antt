-- `library_calls::send::send` meets its contract: what the call in place says of words that were filled from the state, it says of the state. Demand 3 is the theorem of
-- `whole_runs`.
-- Assumes nothing.
use Rattle.std.specs.Prelude.{◌≡◌, Err, Ok}
use Rattle.laws.specs.Basics.{not, sym, ◌∙◌, ap, true, ℕ, arith, rules}
use Rattle.model.specs.Shapes.{SendAnswer}
use Rattle.model.specs.declared.{Refusal.TheVariants.UnsoundState, Run.Run}
use Rattle.model.specs.Sound.{sound}
use Rattle.words.specs.Layout.{run_of}
use Rattle.whole_runs.specs.Outcomes.{send_outcome}
use Rattle.whole_runs.proofs.{Unsound.send_unsound, WholeRuns.send_promise}
use Rattle.library_calls.specs.run_words.Readable.{after_messages}
use Rattle.library_calls.proofs.{run_words.Sizes.sizes, Leaving.send_leaves}
use Rattle.library_calls.proofs.Changing.{sound_small, small_readable, send_small, over_unsound, within, says, stays, accepted}
use Rattle.library_calls.proofs.send.send.Goals as goal

not_refused : (x : ℕ) (answer : SendAnswer) → answer ≡ Ok x → answer ≡ Err UnsoundState → ⊥
not_refused x answer sent refused = let z : ◌≡◌ {A = ℕ} 0 1 = cc in omega arith

pub returns-then-not-few : goal.returns-then-not-few
returns-then-not-few c =
    let a = c.args in let g = send_unsound a.s (over_unsound a.s _ c.are_counts_fit-few.ensures (ap not c.if-not-few.true)) a.i a.j in record { run_value = g.0; answer_value = g.1; state_promise = send_promise a.s a.i a.j a.s g.0 }

pub fill-requires : goal.fill-requires
fill-requires c =
    let h = within c.args.s _ c.are_counts_fit-few.ensures (ap not c.if-not-few.false) in (search rules, h.0, h.1)

pub read_messages-run-requires : goal.read_messages-run-requires
read_messages-run-requires c =
    let whole : sound c.args.s ≡ true = let a = c.args in accepted a.s _ c.fill.ensures (λ x. (send_outcome x a.i a.j).answer) _ (λ t e. (send_unsound t e a.i a.j).1) _ c.send-answer.ensures.value (not_refused _ _ c.in-Ok.is) in
    let after : let a = c.args in run_of c.send-answer.new.w ≡ (send_outcome a.s a.i a.j).run = let a = c.args in c.send-answer.ensures.w_after ∙ ap (λ (x : Run). (send_outcome x a.i a.j).run) (c.fill.ensures.1 whole) in
    let a = c.args in let z = sizes a.s _ c.well_formed.0 in let run = after in (small_readable _ (send_outcome a.s a.i a.j).run run (send_small a.s a.i a.j (sound_small a.s z whole)), run ∙ send_leaves a.s z whole a.i a.j ∙ sym (ap (after_messages a.s) run))

pub returns-in-Err : goal.returns-in-Err
returns-in-Err c =
    let answer_is : let a = c.args in c.send-answer.result ≡ (send_outcome a.s a.i a.j).answer = let a = c.args in c.send-answer.ensures.value ∙ says a.s _ c.fill.ensures (λ x. (send_outcome x a.i a.j).answer) _ (λ t e. (send_unsound t e a.i a.j).1) in
    let a = c.args in let run = stays a.s _ c.fill.ensures (λ x. (send_outcome x a.i a.j).run) (λ t e. (send_unsound t e a.i a.j).0) _ (c.send-answer.ensures.w_unchanged _ c.in-Err.is) c.send-answer.ensures.w_after in record { run_value = run; answer_value = answer_is; state_promise = send_promise a.s a.i a.j a.s run }

pub returns-in-Ok : goal.returns-in-Ok
returns-in-Ok c =
    let whole : sound c.args.s ≡ true = let a = c.args in accepted a.s _ c.fill.ensures (λ x. (send_outcome x a.i a.j).answer) _ (λ t e. (send_unsound t e a.i a.j).1) _ c.send-answer.ensures.value (not_refused _ _ c.in-Ok.is) in
    let after : let a = c.args in run_of c.send-answer.new.w ≡ (send_outcome a.s a.i a.j).run = let a = c.args in c.send-answer.ensures.w_after ∙ ap (λ (x : Run). (send_outcome x a.i a.j).run) (c.fill.ensures.1 whole) in
    let answer_is : let a = c.args in c.send-answer.result ≡ (send_outcome a.s a.i a.j).answer = let a = c.args in c.send-answer.ensures.value ∙ says a.s _ c.fill.ensures (λ x. (send_outcome x a.i a.j).answer) _ (λ t e. (send_unsound t e a.i a.j).1) in
    let a = c.args in let run = c.read_messages-run.ensures ∙ after in record { run_value = run; answer_value = answer_is; state_promise = send_promise a.s a.i a.j c.read_messages-run.result run }
