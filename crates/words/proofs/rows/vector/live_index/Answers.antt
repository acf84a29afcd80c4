-- `words::rows::vector::live_index` meets its contract: one more than one less, of an own entry that is at least 1.
-- Assumes nothing.
use Rattle.laws.specs.Basics.{ap, ℕ, arith, rules}
use Rattle.model.specs.declared.CheckpointIndex.{CheckpointIndex}
use Rattle.words.proofs.rows.vector.live_index.Goals as goal

pub overflow_add-result : goal.overflow_add-result
overflow_add-result c =
    let e = ap (λ (x : CheckpointIndex). x.0) c.last_stored-last.ensures in omega arith

pub returns : goal.returns
returns c =
    let e = ap (λ (x : CheckpointIndex). x.0) c.last_stored-last.ensures in ap (λ (n : ℕ). record { 0 = n }) (omega arith)
