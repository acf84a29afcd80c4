-- `library_halves::record::judge_checkpoint` meets its contract.
-- Assumes nothing.
use Rattle.laws.specs.Basics.{sym, ◌∙◌}
use Rattle.library_halves.specs.Taking.{Judges}
use Rattle.library_halves.proofs.Records.{no_checkpoint_lem, checkpoint_absent, checkpoint_foreign, checkpoint_taken}
use Rattle.library_halves.proofs.record.judge_checkpoint.Goals as goal

pub returns-then-r-ne0 : goal.returns-then-r-ne0
unfolding Judges
returns-then-r-ne0 c =
    let h = c.args.half in λ l. no_checkpoint_lem h.n h.set h.side l c.args.r.process c.args.r.argument c.if-r-ne0.true

pub returns-then-half-process : goal.returns-then-half-process
unfolding Judges
returns-then-half-process c =
    let h = c.args.half in λ l. checkpoint_absent h.n h.set h.side l c.args.r.process c.args.r.argument c.if-r-ne0.false c.if-half-process.true

pub returns-then-not-in_half : goal.returns-then-not-in_half
unfolding Judges
returns-then-not-in_half c =
    let h = c.args.half in λ l. checkpoint_foreign h.n h.set h.side l c.args.r.process c.args.r.argument c.if-r-ne0.false c.if-half-process.false (sym c.in_half.ensures ∙ c.if-not-in_half.true)

pub returns : goal.returns
unfolding Judges
returns c =
    let h = c.args.half in λ l. checkpoint_taken h.n h.set h.side l c.args.r.process c.args.r.argument c.requires c.if-r-ne0.false c.if-half-process.false (sym c.in_half.ensures ∙ c.if-not-in_half.false)
