-- `library_halves::taking::ready_at` meets its contract.
-- Assumes nothing.
use Rattle.laws.specs.Basics.{◌∙◌, rules}
use Rattle.library_halves.proofs.Ready.{read_is, not_ready, always_ready, sent_ready}
use Rattle.library_halves.proofs.taking.ready_at.Goals as goal

pub returns-then-part-ne4-clause-value : goal.returns-then-part-ne4-clause-value
returns-then-part-ne4-clause-value c =
    λ l h e. not_ready l c.args.half.now c.args.at _ c.record_part-part.ensures c.if-part-ne4.true

pub returns-then-r-eq2-clause-value : goal.returns-then-r-eq2-clause-value
returns-then-r-eq2-clause-value c =
    let x = c.read_fields-r in
    λ l h e. c.is_sent.ensures l h e ∙ sent_ready l c.args.half.now c.args.at _ c.record_part-part.ensures c.if-part-ne4.false x.result (x.ensures ∙ read_is _ c.if-part-ne4.false) (search rules)

pub returns-clause-value : goal.returns-clause-value
returns-clause-value c =
    let x = c.read_fields-r in
    λ l h e. always_ready l c.args.half.now c.args.at _ c.record_part-part.ensures c.if-part-ne4.false x.result (x.ensures ∙ read_is _ c.if-part-ne4.false) c.if-r-eq2.false c.if-r-eq3.false
