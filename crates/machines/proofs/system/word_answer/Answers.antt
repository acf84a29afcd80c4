-- `machines::system::word_answer` meets its contract, by its test.
-- Assumes nothing.
use Rattle.machines.proofs.{Hearing.word_whole, Hearing.word_error}
use Rattle.machines.proofs.system.word_answer.Goals as goal

pub returns-then-error-eq0 : goal.returns-then-error-eq0
returns-then-error-eq0 c =
    word_whole c.args.error c.args.size c.ranges.error c.if-error-eq0.true

pub returns : goal.returns
returns c =
    word_error c.args.error c.args.size c.if-error-eq0.false
