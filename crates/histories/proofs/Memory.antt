-- What the proofs about answers need of a run besides the invariant: what a set mark says, and where carried knowledge came from. Each step keeps it.
-- Assumes nothing.
use Rattle.laws.specs.Basics.{ℕ}
use Rattle.histories.proofs.{Run.Ideal, Run.Failed, Run.begin, Run.checkpointed, Run.sending, Run.delivered, Run.lost, Run.recovered, Invariant.Inv}
use Rattle.histories.proofs.Marks.{Marks, begin_marks, checkpointed_marks, sending_marks, delivered_marks, lost_marks, recovered_marks}
use Rattle.histories.proofs.Sources.{Sources, begin_sources, checkpointed_sources, sending_sources, delivered_sources, lost_sources, recovered_sources}

pub record Memory (r : Ideal) : Type 0 where
  pub marks : Marks r
  pub sources : Sources r

pub begin_memory : (n : ℕ) → Memory (begin n)
begin_memory n = record { marks = begin_marks n; sources = begin_sources n }

pub checkpointed_memory : (r : Ideal) (i : ℕ) → Memory r → Memory (checkpointed r i)
checkpointed_memory r i h = record { marks = checkpointed_marks r i h.marks; sources = checkpointed_sources r i h.sources }

pub sending_memory : (r : Ideal) (i j : ℕ) → Inv r → Memory r → Memory (sending r i j)
sending_memory r i j v h = record { marks = sending_marks r i j v h.marks; sources = sending_sources r i j v h.sources }

pub delivered_memory : (r : Ideal) (m : ℕ) → Memory r → Memory (delivered r m)
delivered_memory r m h = record { marks = delivered_marks r m h.marks; sources = delivered_sources r m h.sources }

pub lost_memory : (r : Ideal) (m : ℕ) → Memory r → Memory (lost r m)
lost_memory r m h = record { marks = lost_marks r m h.marks; sources = lost_sources r m h.sources }

pub recovered_memory : (r : Ideal) (F : Failed) → Memory r → Memory (recovered r F)
recovered_memory r F h = record { marks = recovered_marks r F h.marks; sources = recovered_sources r F h.sources }
