-- `words_line::through::is_index` meets its contract. Assumes nothing.
use Rattle.laws.specs.Basics.{ap, eqb, rules}
use Rattle.model.specs.declared.CheckpointIndex.{CheckpointIndex}
use Rattle.words_line.proofs.through.is_index.Goals as goal

pub returns : goal.returns
returns c =
    ap (λ (x : CheckpointIndex). eqb x.0 c.args.index) c.index_of-kept.ensures
