-- `library_calls::deliver::deliver` meets its contract: what the call in place says of words that were filled from the state, it says of the state. Demand 3 is the theorem
-- of `whole_runs`.
-- Assumes nothing.
use Rattle.std.specs.Prelude.{◌≡◌}
use Rattle.laws.specs.Basics.{not, ◌∙◌, ap, true, rules}
use Rattle.model.specs.declared.{Run.Run}
use Rattle.model.specs.Sound.{sound}
use Rattle.words.specs.Layout.{run_of}
use Rattle.whole_runs.specs.Outcomes.{deliver_outcome}
use Rattle.whole_runs.proofs.{Unsound.deliver_unsound, WholeRuns.deliver_promise}
use Rattle.library_calls.proofs.{run_words.Sizes.sizes, Stepping.deliver_small}
use Rattle.library_calls.proofs.Changing.{sound_small, small_readable, over_unsound, within, says, stays, accepted}
use Rattle.library_calls.proofs.deliver.deliver.Goals as goal

pub returns-then-not-few : goal.returns-then-not-few
returns-then-not-few c =
    let a = c.args in let d = a.deleted.now in let g = deliver_unsound a.s (over_unsound a.s _ c.are_counts_fit-few.ensures (ap not c.if-not-few.true)) a.m d in record { run_value = g.0; answer_value = g.1.0; rose_value = g.1.1.0; deleted_after = g.1.1.1; state_promise = deliver_promise a.s a.m d a.s g.0 }

pub fill-requires : goal.fill-requires
fill-requires c =
    let h = within c.args.s _ c.are_counts_fit-few.ensures (ap not c.if-not-few.false) in (search rules, h.0, h.1)

pub read-run-requires : goal.read-run-requires
read-run-requires c =
    let whole : sound c.args.s ≡ true = let a = c.args in let d = a.deleted.now in accepted a.s _ c.fill.ensures (λ x. (deliver_outcome x a.m d).answer) _ (λ t e. (deliver_unsound t e a.m d).1.0) _ c.deliver-delivered.ensures.answer_value
    (c.in_default.not-Err _) in
    let after : let a = c.args in run_of c.deliver-delivered.new.w ≡ (deliver_outcome a.s a.m a.deleted.now).run = let a = c.args in c.deliver-delivered.ensures.w_after ∙ ap (λ (x : Run). (deliver_outcome x a.m a.deleted.now).run) (c.fill.ensures.1 whole) in
    let a = c.args in small_readable _ (deliver_outcome a.s a.m a.deleted.now).run after
    (deliver_small a.s whole (sound_small a.s (sizes a.s _ c.well_formed.0) whole) a.m a.deleted.now)

pub shape_of-deleted-in-Err : goal.shape_of-deleted-in-Err
shape_of-deleted-in-Err c =
    c.deliver-delivered.auto.deleted

pub returns-in-Err : goal.returns-in-Err
returns-in-Err c =
    let said : let a = c.args in (c.deliver-delivered.result.answer ≡ (deliver_outcome a.s a.m a.deleted.now).answer) × (c.deliver-delivered.result.rose ≡ (deliver_outcome a.s a.m a.deleted.now).rose) × (c.deliver-delivered.new.deleted ≡ (deliver_outcome a.s a.m a.deleted.now).deleted) = let a = c.args in let d = a.deleted.now in let g = c.deliver-delivered.ensures in let from = c.fill.ensures in (
      g.answer_value ∙ says a.s _ from (λ x. (deliver_outcome x a.m d).answer) _ (λ t e. (deliver_unsound t e a.m d).1.0),
      g.rose_value ∙ says a.s _ from (λ x. (deliver_outcome x a.m d).rose) 0 (λ t e. (deliver_unsound t e a.m d).1.1.0),
      g.deleted_after ∙ says a.s _ from (λ x. (deliver_outcome x a.m d).deleted) d (λ t e. (deliver_unsound t e a.m d).1.1.1),
    ) in
    let a = c.args in let d = a.deleted.now in let g = c.deliver-delivered.ensures in let run = stays a.s _ c.fill.ensures (λ x. (deliver_outcome x a.m d).run) (λ t e. (deliver_unsound t e a.m d).0) _ (g.w_unchanged _ c.in-Err.is) g.w_after in record {
      run_value = run;
      answer_value = said.0;
      rose_value = said.1;
      deleted_after = said.2;
      state_promise = deliver_promise a.s a.m d a.s run;
    }

pub shape_of-deleted-in_default : goal.shape_of-deleted-in_default
shape_of-deleted-in_default c =
    c.deliver-delivered.auto.deleted

pub returns-in_default : goal.returns-in_default
returns-in_default c =
    let whole : sound c.args.s ≡ true = let a = c.args in let d = a.deleted.now in accepted a.s _ c.fill.ensures (λ x. (deliver_outcome x a.m d).answer) _ (λ t e. (deliver_unsound t e a.m d).1.0) _ c.deliver-delivered.ensures.answer_value
    (c.in_default.not-Err _) in
    let after : let a = c.args in run_of c.deliver-delivered.new.w ≡ (deliver_outcome a.s a.m a.deleted.now).run = let a = c.args in c.deliver-delivered.ensures.w_after ∙ ap (λ (x : Run). (deliver_outcome x a.m a.deleted.now).run) (c.fill.ensures.1 whole) in
    let said : let a = c.args in (c.deliver-delivered.result.answer ≡ (deliver_outcome a.s a.m a.deleted.now).answer) × (c.deliver-delivered.result.rose ≡ (deliver_outcome a.s a.m a.deleted.now).rose) × (c.deliver-delivered.new.deleted ≡ (deliver_outcome a.s a.m a.deleted.now).deleted) = let a = c.args in let d = a.deleted.now in let g = c.deliver-delivered.ensures in let from = c.fill.ensures in (
      g.answer_value ∙ says a.s _ from (λ x. (deliver_outcome x a.m d).answer) _ (λ t e. (deliver_unsound t e a.m d).1.0),
      g.rose_value ∙ says a.s _ from (λ x. (deliver_outcome x a.m d).rose) 0 (λ t e. (deliver_unsound t e a.m d).1.1.0),
      g.deleted_after ∙ says a.s _ from (λ x. (deliver_outcome x a.m d).deleted) d (λ t e. (deliver_unsound t e a.m d).1.1.1),
    ) in
    let a = c.args in let run = c.read-run.ensures ∙ after in record {
      run_value = run;
      answer_value = said.0;
      rose_value = said.1;
      deleted_after = said.2;
      state_promise = deliver_promise a.s a.m a.deleted.now c.read-run.result run;
    }
