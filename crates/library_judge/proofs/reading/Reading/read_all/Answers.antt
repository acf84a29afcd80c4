-- `library_judge::reading::Reading::read_all` meets its contract.
-- Assumes nothing.
use Rattle.std.specs.Prelude.{◌≡◌, Err}
use Rattle.std.proofs.lemmas.Iterator.Consumers.{YieldsList-turn, YieldsList-end}
use Rattle.std.proofs.lemmas.List.{length_push}
use Rattle.laws.specs.Basics.{length, arith, rules}
use Rattle.library_judge.specs.Kept.{ReadsAll}
use Rattle.library_judge.proofs.{Keeping.kept_begin, Parts.gives_parts, Parts.turn, Parts.all_taken, Together.begins, Together.next_refused, Together.next_taken, Together.end_refused, Together.end_whole}
use Rattle.library_judge.proofs.reading.Reading.read_all.Goals as goal

pub loop-part-init : goal.loop-part-init
loop-part-init c =
    let a = c.args in let p = c.requires in begins a.n a.trace.now a.self.now p.2 (kept_begin a.n a.self.now p.1 p.0)

pub record-requires : goal.record-requires
record-requires c =
    let l = c.loop-part in let a = c.args in let w = l.invariant in
    let t = turn a.trace.now (length l.yielded) _ (YieldsList-turn (gives_parts a.trace c.into_iter-part-iterator.result (search rules)) l.yielded _ l.yielded_by _ _ c.in-Some.part c.in-Some.is c.next.ensures.steps) in
    (length l.yielded, w.pattern, w.trail, omega (arith, t.0, c.requires.3), w.kept)

pub returns-in_err-record : goal.returns-in_err-record
unfolding ReadsAll
returns-in_err-record c =
    let l = c.loop-part in let a = c.args in
    let t = turn a.trace.now (length l.yielded) _ (YieldsList-turn (gives_parts a.trace c.into_iter-part-iterator.result (search rules)) l.yielded _ l.yielded_by _ _ c.in-Some.part c.in-Some.is c.next.ensures.steps) in
    let e : c.from_residual.result ≡ Err c.in_err-record.field-0.0 = search rules in
    rw e (next_refused a.n a.trace.now (length l.yielded) t.0 l.self l.invariant (omega (arith, t.0, c.requires.3)) _ _ t.1 _ c.in_err-record.ensures)

pub loop-part-preserved : goal.loop-part-preserved
loop-part-preserved c =
    let l = c.loop-part in let a = c.args in
    let t = turn a.trace.now (length l.yielded) _ (YieldsList-turn (gives_parts a.trace c.into_iter-part-iterator.result (search rules)) l.yielded _ l.yielded_by _ _ c.in-Some.part c.in-Some.is c.next.ensures.steps) in
    rw (length_push l.yielded c.in-Some.part) (next_taken a.n a.trace.now (length l.yielded) t.0 l.self l.invariant (omega (arith, t.0, c.requires.3)) _ _ t.1 _ c.in_ok-record.ensures)

pub returns-then-trace-ne0 : goal.returns-then-trace-ne0
unfolding ReadsAll
returns-then-trace-ne0 c =
    let l = c.loop-part in let a = c.args in
    let t = YieldsList-end (gives_parts a.trace c.into_iter-part-iterator.result (search rules)) l.yielded _ l.yielded_by _ _ c.in-None.is c.next.ensures.steps in
    let short = all_taken a.trace.now (length l.yielded) c.requires.2 t.1 in
    end_refused a.n a.trace.now (length l.yielded) l.self l.invariant (omega (arith, l.invariant.inside, c.if-trace-ne0.true, c.requires.2)) short

pub returns : goal.returns
unfolding ReadsAll
returns c =
    let l = c.loop-part in let a = c.args in let w = l.invariant in
    let t = YieldsList-end (gives_parts a.trace c.into_iter-part-iterator.result (search rules)) l.yielded _ l.yielded_by _ _ c.in-None.is c.next.ensures.steps in
    let short = all_taken a.trace.now (length l.yielded) c.requires.2 t.1 in
    (length l.yielded, w.pattern, w.trail, w.kept, end_whole a.n a.trace.now (length l.yielded) l.self w (omega (arith, short, c.if-trace-ne0.false, c.requires.2, w.inside)))
