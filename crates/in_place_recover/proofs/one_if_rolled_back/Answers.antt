-- `in_place_recover::one_if_rolled_back` meets its contract. Assumes nothing.
use Rattle.laws.specs.Basics.{sym, ap, Bool, rules, le-leb, lt-leb, pick}
use Rattle.in_place_recover.proofs.one_if_rolled_back.Goals as goal

pub returns-then-past-w : goal.returns-then-past-w
returns-then-past-w c =
    sym (ap (λ (b : Bool). pick b 1 0) (le-leb _ _ c.if-past-w.true))

pub returns-else-past-w : goal.returns-else-past-w
returns-else-past-w c =
    sym (ap (λ (b : Bool). pick b 1 0) (lt-leb _ _ c.if-past-w.false))
