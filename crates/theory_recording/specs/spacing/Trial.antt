-- A trial between two steps: the state, the generator's last value, how many sends and deliveries of its own each process has done, and the figures so far.
-- Assumes nothing.
use Rattle.laws.specs.Basics.{List, ℕ}
use Rattle.model.specs.declared.Run.{Run}

pub record Trial : Type 0 where
  pub run : Run
  pub value : ℕ
  pub acted : List ℕ
  pub deliveries : ℕ
  pub forced : ℕ
  pub most : ℕ
