-- Which checkpoints are kept, by the places in the lists alone: what the pins of document 01 name, defined without a pin, a vector or a pair handed out.
-- "A pin of i for f names one kept checkpoint of i, or none. A checkpoint is kept exactly while a pin names it."
-- Assumes nothing.
use Rattle.std.specs.Prelude.{◌⊎◌, ◌-◌, ◌<◌}
use Rattle.laws.specs.Basics.{ℕ}
use Rattle.histories.specs.History.{Lists, checkpoints, before_checkpoint, ComesBefore}
use Rattle.whole_runs.specs.Survival.{Surviving}

-- The live state of p knows more of f than p knew at checkpoint k: some checkpoint of f comes causally before the one and not before the other.
unfoldable pub KnewLess : Lists → ℕ → ℕ → ℕ → Type 0
KnewLess lists p f k = (a : ℕ) × ComesBefore lists f a p (lists p) × (ComesBefore lists f a p (before_checkpoint k (lists p)) → ⊥)

-- The pin of p for f names a checkpoint. "Each own pin names checkpoint 0, others none", at the start; "a pin for f whose vector entry is not own(f) becomes
-- none", at a recovery: at the last of these p knew the current interval of f, for the last checkpoint of f comes before it. Or, "each entry that is smaller
-- than the carried one takes it, and that entry's pin becomes the own pin": p has learnt of f since then.
unfoldable pub PinStands : Surviving → ℕ → ℕ → Type 0
PinStands h p f = ComesBefore h.restart f (checkpoints (h.restart f) - 1) p (h.restart p)
    ⊎ ((a : ℕ) × ComesBefore h.lists f a p (h.lists p) × (ComesBefore h.restart f a p (h.restart p) → ⊥))

-- The checkpoint that it names: the last at which p knew less of f than it knows now.
unfoldable pub PinNames : Surviving → ℕ → ℕ → ℕ → Type 0
PinNames h p f k = (k < checkpoints (h.lists p)) × KnewLess h.lists p f k × ((j : ℕ) → k < j → j < checkpoints (h.lists p) → KnewLess h.lists p f j → ⊥)

-- Checkpoint k of p is needed: the pin of p for some process of the run names it.
unfoldable pub Needed : ℕ → Surviving → ℕ → ℕ → Type 0
Needed n h p k = (f : ℕ) × (f < n) × PinStands h p f × PinNames h p f k
