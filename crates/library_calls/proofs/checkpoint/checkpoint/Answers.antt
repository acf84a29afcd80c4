-- `library_calls::checkpoint::checkpoint` meets its contract: what the call in place says of words that were filled from the state, it says of the state. Demand 3 is the
-- theorem of `whole_runs`.
-- Assumes nothing.
use Rattle.std.specs.Prelude.{◌≡◌, Err, Ok}
use Rattle.laws.specs.Basics.{not, ◌∙◌, ap, true, ℕ, arith, rules}
use Rattle.model.specs.Shapes.{CheckpointAnswer}
use Rattle.model.specs.declared.CheckpointIndex.{CheckpointIndex}
use Rattle.model.specs.declared.{Refusal.TheVariants.UnsoundState, Run.Run}
use Rattle.model.specs.Sound.{sound}
use Rattle.words.specs.Layout.{run_of}
use Rattle.whole_runs.specs.Outcomes.{checkpoint_outcome}
use Rattle.whole_runs.proofs.{Unsound.checkpoint_unsound, WholeRuns.checkpoint_promise}
use Rattle.library_calls.proofs.{run_words.Sizes.sizes, Stepping.checkpoint_small}
use Rattle.library_calls.proofs.Changing.{sound_small, small_readable, over_unsound, within, says, stays, accepted}
use Rattle.library_calls.proofs.checkpoint.checkpoint.Goals as goal

not_refused : (index : CheckpointIndex) (gone : ℕ) (answer : CheckpointAnswer) → answer ≡ Ok (record { index = index; deleted = gone }) → answer ≡ Err UnsoundState → ⊥
not_refused index gone answer stored refused = let z : ◌≡◌ {A = ℕ} 0 1 = cc in omega arith

pub returns-then-not-few : goal.returns-then-not-few
returns-then-not-few c =
    let a = c.args in let d = a.deleted.now in let g = checkpoint_unsound a.s (over_unsound a.s _ c.are_counts_fit-few.ensures (ap not c.if-not-few.true)) a.i d in record { run_value = g.0; answer_value = g.1.0; deleted_after = g.1.1; state_promise = checkpoint_promise a.s a.i d a.s g.0 }

pub fill-requires : goal.fill-requires
fill-requires c =
    let h = within c.args.s _ c.are_counts_fit-few.ensures (ap not c.if-not-few.false) in (search rules, h.0, h.1)

pub read-run-requires : goal.read-run-requires
read-run-requires c =
    let whole : sound c.args.s ≡ true = let a = c.args in let d = a.deleted.now in accepted a.s _ c.fill.ensures (λ x. (checkpoint_outcome x a.i d).answer) _ (λ t e. (checkpoint_unsound t e a.i d).1.0) _ c.checkpoint-answer.ensures.value
    (not_refused _ _ _ c.in-Ok.is) in
    let after : let a = c.args in run_of c.checkpoint-answer.new.w ≡ (checkpoint_outcome a.s a.i a.deleted.now).run = let a = c.args in c.checkpoint-answer.ensures.w_after ∙ ap (λ (x : Run). (checkpoint_outcome x a.i a.deleted.now).run) (c.fill.ensures.1 whole) in
    let a = c.args in small_readable _ (checkpoint_outcome a.s a.i a.deleted.now).run after
    (checkpoint_small a.s whole (sound_small a.s (sizes a.s _ c.well_formed.0) whole) a.i a.deleted.now)

pub shape_of-deleted-in-Err : goal.shape_of-deleted-in-Err
shape_of-deleted-in-Err c =
    c.checkpoint-answer.auto.deleted

pub returns-in-Err : goal.returns-in-Err
returns-in-Err c =
    let said : let a = c.args in (c.checkpoint-answer.result ≡ (checkpoint_outcome a.s a.i a.deleted.now).answer) × (c.checkpoint-answer.new.deleted ≡ (checkpoint_outcome a.s a.i a.deleted.now).deleted) = let a = c.args in let d = a.deleted.now in (
      c.checkpoint-answer.ensures.value ∙ says a.s _ c.fill.ensures (λ x. (checkpoint_outcome x a.i d).answer) _ (λ t e. (checkpoint_unsound t e a.i d).1.0),
      c.checkpoint-answer.ensures.deleted_after ∙ says a.s _ c.fill.ensures (λ x. (checkpoint_outcome x a.i d).deleted) d (λ t e. (checkpoint_unsound t e a.i d).1.1),
    ) in
    let a = c.args in let d = a.deleted.now in let g = c.checkpoint-answer.ensures in let run = stays a.s _ c.fill.ensures (λ x. (checkpoint_outcome x a.i d).run) (λ t e. (checkpoint_unsound t e a.i d).0) _ (g.w_unchanged _ c.in-Err.is) g.w_after in record {
      run_value = run;
      answer_value = said.0;
      deleted_after = said.1;
      state_promise = checkpoint_promise a.s a.i d a.s run;
    }

pub shape_of-deleted-in-Ok : goal.shape_of-deleted-in-Ok
shape_of-deleted-in-Ok c =
    c.checkpoint-answer.auto.deleted

pub returns-in-Ok : goal.returns-in-Ok
returns-in-Ok c =
    let whole : sound c.args.s ≡ true = let a = c.args in let d = a.deleted.now in accepted a.s _ c.fill.ensures (λ x. (checkpoint_outcome x a.i d).answer) _ (λ t e. (checkpoint_unsound t e a.i d).1.0) _ c.checkpoint-answer.ensures.value
    (not_refused _ _ _ c.in-Ok.is) in
    let after : let a = c.args in run_of c.checkpoint-answer.new.w ≡ (checkpoint_outcome a.s a.i a.deleted.now).run = let a = c.args in c.checkpoint-answer.ensures.w_after ∙ ap (λ (x : Run). (checkpoint_outcome x a.i a.deleted.now).run) (c.fill.ensures.1 whole) in
    let said : let a = c.args in (c.checkpoint-answer.result ≡ (checkpoint_outcome a.s a.i a.deleted.now).answer) × (c.checkpoint-answer.new.deleted ≡ (checkpoint_outcome a.s a.i a.deleted.now).deleted) = let a = c.args in let d = a.deleted.now in (
      c.checkpoint-answer.ensures.value ∙ says a.s _ c.fill.ensures (λ x. (checkpoint_outcome x a.i d).answer) _ (λ t e. (checkpoint_unsound t e a.i d).1.0),
      c.checkpoint-answer.ensures.deleted_after ∙ says a.s _ c.fill.ensures (λ x. (checkpoint_outcome x a.i d).deleted) d (λ t e. (checkpoint_unsound t e a.i d).1.1),
    ) in
    let a = c.args in let run = c.read-run.ensures ∙ after in record {
      run_value = run;
      answer_value = said.0;
      deleted_after = said.1;
      state_promise = checkpoint_promise a.s a.i a.deleted.now c.read-run.result run;
    }
