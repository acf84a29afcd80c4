-- `words_line::line::index_in` meets its contract, by whether the state is stored. Assumes nothing.
use Rattle.std.specs.Prelude.{◌≡◌, ◌+◌, ◌-◌}
use Rattle.laws.specs.Basics.{◌∙◌, ap, arith, rules, le-leb, lt-leb}
use Rattle.model.specs.declared.Interval.{Interval}
use Rattle.model.specs.Words.{live_index_of}
use Rattle.words.specs.Layout.{word, kept_count_at_of}
use Rattle.words_line.specs.Line.{index_in_of}
use Rattle.words_line.proofs.line.index_in.Goals as goal

pub index_of-requires : goal.index_of-requires
index_of-requires c =
    c.requires.5 (c.args.past - 1) (omega (arith, c.if-past-kept_count.true, c.requires.2))

pub live_index-requires : goal.live_index-requires
live_index-requires c =
    omega (arith, ap (λ (x : Interval). x.0) c.interval_of.ensures, c.requires.4)

pub returns-then-past-kept_count : goal.returns-then-past-kept_count
unfolding index_in_of
returns-then-past-kept_count c =
    rw (le-leb c.args.past (word c.args.w.now (kept_count_at_of c.args.p)) (omega (arith, c.if-past-kept_count.true))) c.index_of.ensures

pub returns-else-past-kept_count : goal.returns-else-past-kept_count
unfolding index_in_of
returns-else-past-kept_count c =
    rw (lt-leb c.args.past (word c.args.w.now (kept_count_at_of c.args.p)) (omega (arith, c.if-past-kept_count.false))) (c.live_index.ensures ∙ ap (λ (x : Interval). live_index_of x) c.interval_of.ensures)
