-- `library_judge::judge` meets its contract.
-- Assumes nothing.
use Rattle.std.specs.Prelude.{◌≡◌, Err}
use Rattle.laws.specs.Basics.{refl, ◌∙◌, rules}
use Rattle.library_judge.proofs.Together.{verdict_early, verdict_refused, verdict_taken, counted_is, in_tables, held}
use Rattle.library_judge.proofs.judge.Goals as goal

pub returns-in_err-n : goal.returns-in_err-n
returns-in_err-n c =
    let e : c.from_residual.result ≡ Err c.in_err-n.field-0.0 = search rules in e ∙ verdict_early c.args.trace.now _ c.in_err-n.ensures

pub begin-requires : goal.begin-requires
begin-requires c =
    let w = counted_is c.args.trace.now _ c.in_ok-n.ensures in (w.2, refl, refl, refl)

pub read_all-requires : goal.read_all-requires
read_all-requires c =
    let w = counted_is c.args.trace.now _ c.in_ok-n.ensures in (c.begin.ensures, w.2, w.1, w.3)

pub returns-in_err-read_all : goal.returns-in_err-read_all
returns-in_err-read_all c =
    let e : c.from_residual-in_err-read_all.result ≡ Err c.in_err-read_all.field-0.0 = search rules in e ∙ verdict_refused c.args.trace.now _ c.in_ok-n.ensures _ _ c.in_err-read_all.ensures

pub shared_ref_as_front-states : goal.shared_ref_as_front-states
shared_ref_as_front-states c =
    (in_tables _ c.args.trace.now _ _ c.in_ok-read_all.ensures).0

pub shared_ref_as_front-messages : goal.shared_ref_as_front-messages
shared_ref_as_front-messages c =
    (in_tables _ c.args.trace.now _ _ c.in_ok-read_all.ensures).1

pub decide-requires : goal.decide-requires
decide-requires c =
    held _ c.args.trace.now _ _ c.in_ok-read_all.ensures

pub returns : goal.returns
returns c =
    verdict_taken c.args.trace.now _ c.in_ok-n.ensures _ _ c.in_ok-read_all.ensures _ c.decide.ensures
