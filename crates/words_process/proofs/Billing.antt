-- The blocks written and deleted after a bill.
-- Assumes nothing.
use Rattle.std.specs.Prelude.{◌≡◌}
use Rattle.laws.specs.Basics.{List, ℕ, arith, length}
use Rattle.words.specs.{Frames.OnlyDisk, Layout.wide4, Puts.puts, Puts.puts4}
use Rattle.words.proofs.Reading.{puts_length, untouched, touched, wide4_back}

module _ (w : List ℕ) (size : length w ≡ 6464) (x : ℕ) where
  pub written_only : OnlyDisk w (puts w (puts4 4 x))
  written_only = record {
    size = puts_length w (puts4 4 x);
    front = λ k less. untouched w (puts4 4 x) k (omega arith);
    rest = λ k more. untouched w (puts4 4 x) k (omega arith);
  }

  pub written_is : wide4 (puts w (puts4 4 x)) 4 ≡ x
  written_is = rw (
    touched w (puts4 4 x) 0 0 4 (omega arith, omega arith, omega arith, omega arith),
    touched w (puts4 4 x) 1 0 5 (omega arith, omega arith, omega arith, omega arith),
    touched w (puts4 4 x) 2 0 6 (omega arith, omega arith, omega arith, omega arith),
    touched w (puts4 4 x) 3 0 7 (omega arith, omega arith, omega arith, omega arith),
  ) (wide4_back x)

  pub deleted_stays : wide4 (puts w (puts4 4 x)) 8 ≡ wide4 w 8
  deleted_stays = rw (
    untouched w (puts4 4 x) 8 (omega arith),
    untouched w (puts4 4 x) 9 (omega arith),
    untouched w (puts4 4 x) 10 (omega arith),
    untouched w (puts4 4 x) 11 (omega arith),
  )

  pub deleted_only : OnlyDisk w (puts w (puts4 8 x))
  deleted_only = record {
    size = puts_length w (puts4 8 x);
    front = λ k less. untouched w (puts4 8 x) k (omega arith);
    rest = λ k more. untouched w (puts4 8 x) k (omega arith);
  }

  pub deleted_is : wide4 (puts w (puts4 8 x)) 8 ≡ x
  deleted_is = rw (
    touched w (puts4 8 x) 0 0 8 (omega arith, omega arith, omega arith, omega arith),
    touched w (puts4 8 x) 1 0 9 (omega arith, omega arith, omega arith, omega arith),
    touched w (puts4 8 x) 2 0 10 (omega arith, omega arith, omega arith, omega arith),
    touched w (puts4 8 x) 3 0 11 (omega arith, omega arith, omega arith, omega arith),
  ) (wide4_back x)

  pub written_stays : wide4 (puts w (puts4 8 x)) 4 ≡ wide4 w 4
  written_stays = rw (
    untouched w (puts4 8 x) 4 (omega arith),
    untouched w (puts4 8 x) 5 (omega arith),
    untouched w (puts4 8 x) 6 (omega arith),
    untouched w (puts4 8 x) 7 (omega arith),
  )
