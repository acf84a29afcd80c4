-- `library_judge::count` meets its contract.
-- Assumes nothing.
use Rattle.laws.specs.Basics.{rules}
use Rattle.library_judge.proofs.Together.{counts_none, counts_bad, counts_many, counts_good}
use Rattle.library_judge.proofs.count.Goals as goal

pub returns-in_default : goal.returns-in_default
returns-in_default c =
    counts_none c.args.trace.now c.in_default.ensures.cases

pub returns-then-n-lt1 : goal.returns-then-n-lt1
returns-then-n-lt1 c =
    rw c.in-Some.ensures.cases.0 (counts_bad _ _ (search rules))

pub returns-then-records-gt-MOST_JUDGED : goal.returns-then-records-gt-MOST_JUDGED
returns-then-records-gt-MOST_JUDGED c =
    rw c.in-Some.ensures.cases.0 (counts_many _ _ (search rules) (search rules) (search rules))

pub returns : goal.returns
returns c =
    rw (c.in-Some.ensures.cases.0, c.from-n.ensures) (counts_good _ _ (search rules) (search rules) (search rules))
