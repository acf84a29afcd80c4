-- `library_calls::lose::lose` meets its contract: what the call in place says of words that were filled from the state, it says of the state. Demand 3 is the theorem of
-- `whole_runs`.
-- Assumes nothing.
use Rattle.std.specs.Prelude.{◌≡◌, Err, Ok}
use Rattle.laws.specs.Basics.{not, sym, ◌∙◌, ap, true, ℕ, arith, rules}
use Prim.{tt}
use Rattle.model.specs.Shapes.{LoseAnswer}
use Rattle.model.specs.declared.{Refusal.TheVariants.UnsoundState, Run.Run}
use Rattle.model.specs.Sound.{sound}
use Rattle.words.specs.Layout.{run_of}
use Rattle.whole_runs.specs.Outcomes.{lose_outcome}
use Rattle.whole_runs.proofs.{Unsound.lose_unsound, WholeRuns.lose_promise}
use Rattle.library_calls.specs.run_words.Readable.{after_messages}
use Rattle.library_calls.proofs.{run_words.Sizes.sizes, Leaving.lose_leaves}
use Rattle.library_calls.proofs.Changing.{sound_small, small_readable, lose_small, over_unsound, within, says, stays, accepted}
use Rattle.library_calls.proofs.lose.lose.Goals as goal

not_refused : (answer : LoseAnswer) → answer ≡ Ok tt → answer ≡ Err UnsoundState → ⊥
not_refused answer lost refused = let z : ◌≡◌ {A = ℕ} 0 1 = cc in omega arith

pub returns-then-not-few : goal.returns-then-not-few
returns-then-not-few c =
    let a = c.args in let g = lose_unsound a.s (over_unsound a.s _ c.are_counts_fit-few.ensures (ap not c.if-not-few.true)) a.m in record { run_value = g.0; answer_value = g.1; state_promise = lose_promise a.s a.m a.s g.0 }

pub fill-requires : goal.fill-requires
fill-requires c =
    let h = within c.args.s _ c.are_counts_fit-few.ensures (ap not c.if-not-few.false) in (search rules, h.0, h.1)

pub read_messages-run-requires : goal.read_messages-run-requires
read_messages-run-requires c =
    let whole : sound c.args.s ≡ true = let a = c.args in accepted a.s _ c.fill.ensures (λ x. (lose_outcome x a.m).answer) _ (λ t e. (lose_unsound t e a.m).1) _ c.lose-answer.ensures.value (not_refused _ c.in-Ok.is) in
    let after : let a = c.args in run_of c.lose-answer.new.w ≡ (lose_outcome a.s a.m).run = let a = c.args in c.lose-answer.ensures.w_after ∙ ap (λ (x : Run). (lose_outcome x a.m).run) (c.fill.ensures.1 whole) in
    let a = c.args in let z = sizes a.s _ c.well_formed.0 in let run = after in (small_readable _ (lose_outcome a.s a.m).run run (lose_small a.s a.m (sound_small a.s z whole)), run ∙ lose_leaves a.s a.m ∙ sym (ap (after_messages a.s) run))

pub returns-in-Err : goal.returns-in-Err
returns-in-Err c =
    let answer_is : let a = c.args in c.lose-answer.result ≡ (lose_outcome a.s a.m).answer = let a = c.args in c.lose-answer.ensures.value ∙ says a.s _ c.fill.ensures (λ x. (lose_outcome x a.m).answer) _ (λ t e. (lose_unsound t e a.m).1) in
    let a = c.args in let run = stays a.s _ c.fill.ensures (λ x. (lose_outcome x a.m).run) (λ t e. (lose_unsound t e a.m).0) _ (c.lose-answer.ensures.w_unchanged _ c.in-Err.is) c.lose-answer.ensures.w_after in record { run_value = run; answer_value = answer_is; state_promise = lose_promise a.s a.m a.s run }

pub returns-in-Ok : goal.returns-in-Ok
returns-in-Ok c =
    let whole : sound c.args.s ≡ true = let a = c.args in accepted a.s _ c.fill.ensures (λ x. (lose_outcome x a.m).answer) _ (λ t e. (lose_unsound t e a.m).1) _ c.lose-answer.ensures.value (not_refused _ c.in-Ok.is) in
    let after : let a = c.args in run_of c.lose-answer.new.w ≡ (lose_outcome a.s a.m).run = let a = c.args in c.lose-answer.ensures.w_after ∙ ap (λ (x : Run). (lose_outcome x a.m).run) (c.fill.ensures.1 whole) in
    let answer_is : let a = c.args in c.lose-answer.result ≡ (lose_outcome a.s a.m).answer = let a = c.args in c.lose-answer.ensures.value ∙ says a.s _ c.fill.ensures (λ x. (lose_outcome x a.m).answer) _ (λ t e. (lose_unsound t e a.m).1) in
    let a = c.args in let run = c.read_messages-run.ensures ∙ after in record { run_value = run; answer_value = answer_is; state_promise = lose_promise a.s a.m c.read_messages-run.result run }
