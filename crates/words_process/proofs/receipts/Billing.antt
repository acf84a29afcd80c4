-- The blocks of checkpoints of one process of a sound state, which all have its count; the bounds of the blocks written and deleted.
-- Assumes nothing.
use Rattle.std.specs.Prelude.{◌≡◌, ◌&&◌, ◌∷◌, ◌+◌, ◌*◌, ◌<◌}
use Rattle.laws.specs.Basics.{refl, Bool, true, List, [], ℕ, arith, eqb, length}
use Rattle.laws.specs.{Lists.select, Tests.every, Truth.and_out, Truth.and_both}
use Rattle.model.specs.declared.{Checkpoint.Checkpoint, Disk.Disk, Run.Run}
use Rattle.model.specs.{Words.Process, Words.blocks_of, Words.block_count, Words.process, Steps.billed, laws.Sound.sound_state}
use Rattle.model.specs.Sound.{cause_sound, is_block_count_of, record_sound, sound}
use Rattle.words_process.proofs.receipts.Blocks.{blocks_equal, equal_selected}

counts_same : (P : Process) (l : List Checkpoint) → every (record_sound P) l ≡ true → every (λ c. eqb c.blocks (block_count P)) l ≡ true
unfolding every record_sound
counts_same P [] e = refl
counts_same P (c ∷ l) e =
    let q = and_out (record_sound P c) (every (record_sound P) l) e in
    let one = and_out (cause_sound c.index.0 c.cause && is_block_count_of c.blocks) (eqb c.blocks (block_count P)) q.0 in
    and_both (eqb c.blocks (block_count P)) (every (λ c. eqb c.blocks (block_count P)) l) one.1 (counts_same P l q.1)

module _ (s : Run) (h : sound s ≡ true) where
  -- Some of what process i keeps: that many blocks for each.
  pub blocks_of_some : (i : ℕ) → i < s.count → (t : Checkpoint → Bool)
      → blocks_of (select t (process s i).kept) ≡ length (select t (process s i).kept) * block_count (process s i)
  blocks_of_some i lt t =
      blocks_equal (block_count (process s i)) (select t (process s i).kept)
      (equal_selected (block_count (process s i)) t (process s i).kept (counts_same (process s i) (process s i).kept ((sound_state s h).processes i lt).records_sound))

-- Where nothing is written or deleted, the sums stay.
pub billed_none : (d : Disk) → billed d 0 0 ≡ d
unfolding billed
billed_none d = λ j. record { written = zero_more d.written j; deleted = zero_more d.deleted j }
  where
    zero_more : (n : ℕ) → n + 0 ≡ n
    zero_more n = omega arith
