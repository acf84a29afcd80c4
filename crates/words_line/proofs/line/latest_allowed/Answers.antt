-- `words_line::line::latest_allowed` meets its contract, by whether the live state is within the limits. Assumes nothing.
use Rattle.std.specs.Prelude.{◌≡◌}
use Rattle.laws.specs.Basics.{sym, ◌∙◌, ap, rules}
use Rattle.words.specs.Layout.{part_at, vector_in}
use Rattle.words_line.specs.Line.{is_within, past_latest}
use Rattle.words_line.proofs.line.latest_allowed.Goals as goal

pub returns-then-within : goal.returns-then-within
unfolding past_latest
returns-then-within c =
    let tested : let a = c.args in c.is_within-within.result ≡ is_within a.limits (vector_in a.w.now (part_at a.p)) = unfold is_within in c.is_within-within.ensures ∙ ap (is_within c.args.limits) c.vector_at-live.ensures in
    rw (sym tested ∙ c.if-within.true)

pub returns : goal.returns
unfolding past_latest
returns c =
    let tested : let a = c.args in c.is_within-within.result ≡ is_within a.limits (vector_in a.w.now (part_at a.p)) = unfold is_within in c.is_within-within.ensures ∙ ap (is_within c.args.limits) c.vector_at-live.ensures in
    rw (sym tested ∙ c.if-within.false) c.latest_kept.ensures
