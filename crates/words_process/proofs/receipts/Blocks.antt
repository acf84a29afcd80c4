-- The blocks of checkpoints that all have the same count.
-- Assumes nothing.
use Rattle.std.specs.Prelude.{◌≡◌, ◌∷◌, ◌*◌}
use Rattle.laws.specs.Basics.{refl, Bool, true, List, [], ℕ, arith, eqb, length, eqb-true, by_bool}
use Rattle.laws.specs.{Lists.select, Tests.every, Truth.and_out}
use Rattle.model.specs.declared.Checkpoint.{Checkpoint}
use Rattle.model.specs.Words.{blocks_of}

-- Of checkpoints with the same count, that many blocks for each.
pub blocks_equal : (count : ℕ) (l : List Checkpoint) → every (λ c. eqb c.blocks count) l ≡ true → blocks_of l ≡ length l * count
unfolding blocks_of every
blocks_equal count [] h = omega arith
blocks_equal count (c ∷ l) h =
    let q = and_out (eqb c.blocks count) (every (λ c. eqb c.blocks count) l) h in
    omega (arith, eqb-true c.blocks count q.0, blocks_equal count l q.1)

-- The same of some of them.
pub equal_selected : (count : ℕ) (t : Checkpoint → Bool) (l : List Checkpoint) → every (λ c. eqb c.blocks count) l ≡ true
    → every (λ c. eqb c.blocks count) (select t l) ≡ true
unfolding every select
equal_selected count t [] h = refl
equal_selected count t (c ∷ l) h =
    let q = and_out (eqb c.blocks count) (every (λ c. eqb c.blocks count) l) h in
    by_bool (t c)
    (λ e. rw (e, q.0) (equal_selected count t l q.1))
    (λ e. rw e (equal_selected count t l q.1))
