-- `library_halves::taking::take_next` meets its contract: the first half is tried first.
-- Assumes nothing.
use Rattle.std.specs.Prelude.{◌≡◌}
use Rattle.laws.specs.Basics.{sym, ◌∙◌, true, false, rules}
use Rattle.library_halves.specs.Taking.{Steps}
use Rattle.library_halves.proofs.Ready.{step_of, first_taken, second_taken, neither_ready}
use Rattle.library_halves.proofs.taking.take_next.Goals as goal

pub returns-then-ready_at : goal.returns-then-ready_at
returns-then-ready_at c =
    let a = c.args in let e : c.map.result ≡ step_of true c.judge.result = search rules in λ l h k.
    rw e (first_taken a.n a.set l a.first.now a.second.now a.a a.b _ c.chosen-part.ensures (sym (c.ready_at.ensures.value l h k) ∙ c.if-ready_at.true) c.judge.result (c.judge.ensures l h k))

pub returns-then-ready_at-2 : goal.returns-then-ready_at-2
returns-then-ready_at-2 c =
    let a = c.args in let e : c.map-then-ready_at-2.result ≡ step_of false c.judge-then-ready_at-2.result = search rules in λ l h k.
    rw e (second_taken a.n a.set l a.first.now a.second.now a.a a.b (sym (c.ready_at.ensures.value l h k) ∙ c.if-ready_at.false) _ c.chosen-part-then-ready_at-2.ensures
    (sym (c.ready_at-2.ensures.value l h k) ∙ c.if-ready_at-2.true) c.judge-then-ready_at-2.result (c.judge-then-ready_at-2.ensures l h k))

pub returns : goal.returns
unfolding Steps
returns c =
    let a = c.args in let r = c.ready_at in let q = c.ready_at-2 in λ l h e.
    neither_ready a.n a.set l a.first.now a.second.now a.a a.b (sym (r.ensures.value l h e) ∙ c.if-ready_at.false) (sym (q.ensures.value l h e) ∙ c.if-ready_at-2.false)
