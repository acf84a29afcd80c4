-- Pins and answers, which are std's options and results: a pin names a checkpoint or none, an answer is what an accepted call answers or why it is refused.
-- Assumes nothing.
use Prim.{Unit}
use Rattle.std.specs.Prelude.{Option, Result}
use Rattle.laws.specs.Basics.{ℕ}
use Rattle.model.specs.declared.{CheckpointIndex.CheckpointIndex, Refusal.Refusal, Stored.Stored, Delivery.Delivery, Recovery.Recovery}

-- "A pin of i for f names one kept checkpoint of i, or none."
abbrev pub Pin : Type 0
Pin = Option CheckpointIndex

abbrev pub StartAnswer : Type 0
StartAnswer = Result (Unit {0}) Refusal

-- The checkpoint's index, and how many were deleted.
abbrev pub CheckpointAnswer : Type 0
CheckpointAnswer = Result Stored Refusal

-- The message's number.
abbrev pub SendAnswer : Type 0
SendAnswer = Result ℕ Refusal

-- The index of the forced checkpoint, if one is forced, and how many were deleted.
abbrev pub DeliverAnswer : Type 0
DeliverAnswer = Result Delivery Refusal

abbrev pub LoseAnswer : Type 0
LoseAnswer = Result (Unit {0}) Refusal

abbrev pub LineAnswer : Type 0
LineAnswer = Result (Unit {0}) Refusal

-- How many processes rolled back, and how many checkpoints were deleted.
abbrev pub RecoverAnswer : Type 0
RecoverAnswer = Result Recovery Refusal

-- How many bytes the merged trace has.
abbrev pub MergeAnswer : Type 0
MergeAnswer = Result ℕ Refusal
