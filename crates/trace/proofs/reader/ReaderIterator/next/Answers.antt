-- `trace::reader::Reader::next` meets its contract: where a record is left it is handed on, and the reader after it has the others.
-- Assumes nothing.
use Rattle.laws.specs.Basics.{sym, ◌∙◌, ap, arith, length, rules}
use Rattle.trace.specs.reader.Whole.{parts_left}
use Rattle.trace.proofs.reader.Whole.{none_left, one_taken}
use Rattle.trace.proofs.reader.ReaderIterator.next.Goals as goal

pub returns-then-not-has_record-clause-steps : goal.returns-then-not-has_record-clause-steps
returns-then-not-has_record-clause-steps c =
    let none = none_left c.args.self.now (sym c.has_record.ensures ∙ c.if-not-has_record.true) in (none, none)

pub returns-clause-steps : goal.returns-clause-steps
returns-clause-steps c =
    rw (c.advance.ensures, c.next_record.ensures) (one_taken c.args.self.now (sym c.has_record.ensures ∙ c.if-not-has_record.false))

pub returns-clause-goes : goal.returns-clause-goes
returns-clause-goes c =
    let fewer = ap length (one_taken c.args.self.now (sym c.has_record.ensures ∙ c.if-not-has_record.false)) in
    let after = ap (λ r. length (parts_left r)) c.advance.ensures in
    search (rules, arith)
