-- `library_halves::record::judge_message` meets its contract: what the tally of the log names is the message that the model names.
-- Assumes nothing.
use Rattle.laws.specs.Basics.{sym, ◌∙◌, ap, arith}
use Rattle.theory_merges.specs.Merge.{in_half_of}
use Rattle.library_halves.specs.Taking.{Judges}
use Rattle.library_halves.proofs.Tallies.{named_small, named_is}
use Rattle.library_halves.proofs.Records.{not_zero, message_foreign, message_taken}
use Rattle.library_halves.proofs.record.judge_message.Goals as goal

pub returns-then-r-ne0 : goal.returns-then-r-ne0
unfolding Judges
returns-then-r-ne0 c =
    let h = c.args.half in λ k l g e. not_zero h.n h.set h.side l c.args.r.process _ c.if-r-ne0.true

pub overflow_add-result : goal.overflow_add-result
overflow_add-result c =
    omega (arith, named_small _ _ c.args.log.now _ c.tally_all-t.ensures _ c.unwrap_or-message.ensures)

pub returns-then-not-in_half : goal.returns-then-not-in_half
unfolding Judges
returns-then-not-in_half c =
    let h = c.args.half in let r = c.args.r in λ k l g e.
    let m = named_is _ _ c.args.log.now _ c.tally_all-t.ensures _ c.unwrap_or-message.ensures l g e in
    message_foreign h.n h.set h.side l r.kind r.process r.argument c.if-r-ne0.false (sym (ap (in_half_of h.set h.side) m.1) ∙ sym c.in_half.ensures ∙ c.if-not-in_half.true)

pub returns : goal.returns
unfolding Judges
returns c =
    let h = c.args.half in let r = c.args.r in let small = named_small _ _ c.args.log.now _ c.tally_all-t.ensures _ c.unwrap_or-message.ensures in λ k l g e.
    let m = named_is _ _ c.args.log.now _ c.tally_all-t.ensures _ c.unwrap_or-message.ensures l g e in
    rw m.0 (message_taken h.n h.set h.side l r.kind r.process r.argument k c.if-r-ne0.false (omega (arith, small, m.0))
    (sym (ap (in_half_of h.set h.side) m.1) ∙ sym c.in_half.ensures ∙ c.if-not-in_half.false))
