-- `library_judge::decision::decide` meets its contract.
-- Assumes nothing.
use Rattle.std.specs.Prelude.{◌≡◌}
use Rattle.laws.specs.Basics.{None, rules}
use Rattle.library_judge.specs.decision.Represents.{Says, Judges}
use Rattle.library_judge.proofs.decision.Meets.{is_trackable, near_in, reaching, no_far, breaks}
use Rattle.library_judge.proofs.decision.decide.Goals as goal

pub returns-in_err-near : goal.returns-in_err-near
unfolding Judges Says
returns-in_err-near c =
    let e : c.from_residual.result ≡ None = search rules in rw e (λ t right h. is_trackable _ _ _ t right h c.in_err-near.ensures)

pub far_end-requires : goal.far_end-requires
far_end-requires c =
    let p = c.requires in let w = c.in_ok-near.ensures in
    (p.2.few, near_in _ _ _ p.0 p.1 p.2 _ w, reaching _ _ _ p.0 p.1 p.2 _ w _ _ c.first_row.ensures c.closure-reach.ensures)

pub returns-in_err-far : goal.returns-in_err-far
unfolding Judges Says
returns-in_err-far c =
    λ t right h. absurd (no_far _ _ _ t right h _ c.in_ok-near.ensures _ _ c.first_row.ensures c.closure-reach.ensures c.in_err-far.ensures)

pub returns : goal.returns
unfolding Judges Says
returns c =
    λ t right h. breaks _ _ _ t right h _ c.in_ok-near.ensures _ _ c.first_row.ensures c.closure-reach.ensures _ c.in_ok-far.ensures
