-- `library_halves::record::judge_send` meets its contract.
-- Assumes nothing.
use Rattle.laws.specs.Basics.{sym, ◌∙◌, rules}
use Rattle.library_halves.specs.Taking.{Judges}
use Rattle.library_halves.proofs.Records.{send_absent, send_itself, send_foreign, send_taken}
use Rattle.library_halves.proofs.record.judge_send.Goals as goal

pub returns-then-half-process : goal.returns-then-half-process
unfolding Judges
returns-then-half-process c =
    let h = c.args.half in λ l. send_absent h.n h.set h.side l c.args.r.process c.args.r.argument (search rules)

pub returns-then-process-receiver : goal.returns-then-process-receiver
unfolding Judges
returns-then-process-receiver c =
    let h = c.args.half in λ l. send_itself h.n h.set h.side l c.args.r.process c.args.r.argument (search rules) (search rules) c.if-process-receiver.true

pub returns-then-not-in_half : goal.returns-then-not-in_half
unfolding Judges
returns-then-not-in_half c =
    let h = c.args.half in λ l. send_foreign h.n h.set h.side l c.args.r.process c.args.r.argument (search rules) (search rules) c.if-process-receiver.false (sym c.in_half.ensures ∙ c.if-not-in_half.true)

pub returns : goal.returns
unfolding Judges
returns c =
    let h = c.args.half in λ l. send_taken h.n h.set h.side l c.args.r.process c.args.r.argument c.requires (search rules) (search rules) c.if-process-receiver.false (sym c.in_half.ensures ∙ c.if-not-in_half.false)
