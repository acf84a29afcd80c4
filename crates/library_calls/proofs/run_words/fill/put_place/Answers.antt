-- `library_calls::run_words::fill::put_place` meets its contract. Assumes nothing.
use Rattle.laws.specs.Basics.{ap, not}
use Rattle.library_calls.proofs.run_words.Steps.{denied, granted, place_refused, place_put, place_unused}
use Rattle.library_calls.proofs.run_words.fill.put_place.Goals as goal

pub returns-then-not-fit : goal.returns-then-not-fit
returns-then-not-fit c =
    let a = c.args in place_refused a.p a.k a.kept_count a.blocks a.c a.w.now c.if-k-kept_count.true (denied _ c.is_index_fit-fit.ensures (ap not c.if-not-fit.true))

pub put_checkpoint-requires : goal.put_checkpoint-requires
put_checkpoint-requires c =
    (c.requires.0, c.requires.1, c.requires.2, granted _ c.is_index_fit-fit.ensures (ap not c.if-not-fit.false))

pub shape_of-w-then-k-kept_count : goal.shape_of-w-then-k-kept_count
shape_of-w-then-k-kept_count c =
    c.put_checkpoint.auto.w

pub returns-then-k-kept_count : goal.returns-then-k-kept_count
returns-then-k-kept_count c =
    let a = c.args in place_put a.p a.k a.kept_count a.blocks a.c a.w.now _ c.if-k-kept_count.true (granted _ c.is_index_fit-fit.ensures (ap not c.if-not-fit.false)) c.put_checkpoint.ensures

pub returns : goal.returns
returns c =
    let a = c.args in place_unused a.p a.k a.kept_count a.blocks a.c a.w.now _ c.if-k-kept_count.false c.is_unused.ensures
