-- `library_judge::decision::reach::pass_over` meets its contract.
-- Assumes nothing.
use Rattle.std.specs.Prelude.{◌≡◌, ◌+◌, ◌-◌, ◌<◌, reverse}
use Rattle.std.proofs.lemmas.Iterator.Adapters.{YieldsList-from_rev_slice}
use Rattle.std.proofs.lemmas.Iterator.Consumers.{YieldsList-turn, YieldsList-end}
use Rattle.std.proofs.lemmas.List.{get_or_read, get_or-reverse, length-reverse, length_push}
use Rattle.laws.specs.Basics.{sym, ◌∙◌, ap, List, ℕ, length, get_or, arith}
use Rattle.library_judge.specs.declared.pattern.{State.State, Sent.Sent}
use Rattle.library_judge.specs.decision.{Rows.no_sent, Reach.Pass, Reach.relaxed_by, Reach.passed, Reach.passed_one}
use Rattle.library_judge.proofs.decision.reach.pass_over.Goals as goal

-- The messages in reverse.
next : (M : List Sent) (k : ℕ) (x : Sent) → k < length M → x ≡ get_or (reverse M) k x → x ≡ get_or M (length M - k - 1) no_sent
next M k x h e =
    let i : length M - 1 - k ≡ length M - k - 1 = omega arith in
    get_or_read (reverse M) k x (omega (arith, length-reverse M)) e no_sent ∙ get_or-reverse M k no_sent h ∙ ap (λ (j : ℕ). get_or M j no_sent) i

step : (S : List State) (M : List Sent) (k : ℕ) (x : Sent) (p q r : Pass) → k < length M → x ≡ get_or M (length M - k - 1) no_sent → q ≡ relaxed_by S x p → passed S M (length M - k) p ≡ r
    → passed S M (length M - (k + 1)) q ≡ r
step S M k x p q r h e f g =
    let i : length M - (k + 1) ≡ length M - k - 1 = omega arith in
    let same : q ≡ relaxed_by S (get_or M (length M - k - 1) no_sent) p = f ∙ ap (λ (y : Sent). relaxed_by S y p) e in
    rw (i, same) (sym (passed_one S M (length M - k) p (omega arith)) ∙ g)

pub loop-message-preserved : goal.loop-message-preserved
loop-message-preserved c =
    let l = c.loop-message in let S = c.args.states.now in let M = c.args.messages.now in
    let t = YieldsList-turn (YieldsList-from_rev_slice M cc) l.yielded _ l.yielded_by _ _ c.in-Some.message c.in-Some.is c.next.ensures.steps in
    let h : length l.yielded < length M = omega (arith, t.0, length-reverse M) in
    rw (length_push l.yielded c.in-Some.message) (step S M (length l.yielded) c.in-Some.message.now _ _ _ h (next M (length l.yielded) c.in-Some.message.now h t.1) (c.relax-changed.ensures l.changed) l.invariant)

pub returns : goal.returns
unfolding passed
returns c =
    let l = c.loop-message in let M = c.args.messages.now in
    let t = YieldsList-end (YieldsList-from_rev_slice M cc) l.yielded _ l.yielded_by _ _ c.in-None.is c.next.ensures.steps in
    let e : length M - length l.yielded ≡ 0 = omega (arith, t.1, length-reverse M) in
    rw e at l.invariant
