-- `library_calls::run_words::fill::put_one` meets its contract. Assumes nothing.
use Rattle.laws.specs.Basics.{ap, not}
use Rattle.library_calls.proofs.run_words.Steps.{denied, granted, one_refused, one_put, one_unused}
use Rattle.library_calls.proofs.{run_words.Tests.message_words}
use Rattle.library_calls.proofs.run_words.fill.put_one.Goals as goal

pub returns-then-not-fit : goal.returns-then-not-fit
returns-then-not-fit c =
    let a = c.args in one_refused a.k a.many a.x a.w.now c.if-k-many.true (denied _ c.is_message_fit-fit.ensures (ap not c.if-not-fit.true))

pub put_message-requires : goal.put_message-requires
put_message-requires c =
    let m = message_words c.args.x (granted _ c.is_message_fit-fit.ensures (ap not c.if-not-fit.false)) in (c.requires.0, c.requires.1, m.0, m.1)

pub shape_of-w-then-k-many : goal.shape_of-w-then-k-many
shape_of-w-then-k-many c =
    c.put_message.auto.w

pub returns-then-k-many : goal.returns-then-k-many
returns-then-k-many c =
    let a = c.args in one_put a.k a.many a.x a.w.now _ c.if-k-many.true (granted _ c.is_message_fit-fit.ensures (ap not c.if-not-fit.false)) c.put_message.ensures

pub returns : goal.returns
returns c =
    let a = c.args in one_unused a.k a.many a.x a.w.now _ c.if-k-many.false c.is_message_unused.ensures
