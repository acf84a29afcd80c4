-- A receipt is what a checkpoint and a delivery do to the part of their process: the checkpoint is stored if there is one, then the carried vector is taken in,
-- then what no pin names is deleted. Collecting before storing, as the functions do, leaves the same.
-- Assumes nothing.
use Rattle.std.specs.Prelude.{◌≡◌, ◌<◌, None, Some}
use Rattle.laws.specs.Basics.{refl, ◌∙◌, ap, Bool, true, false, not, List, ℕ, arith, length, get_or, set, pick}
use Rattle.laws.specs.Lists.{select, or_else, last_of}
use Rattle.model.specs.Shapes.{Pin}
use Rattle.model.specs.declared.{Interval.Interval, Checkpoint.Checkpoint}
use Rattle.model.specs.{Words.entry, Words.live_index_of, Words.is_pinned, Words.no_checkpoint, Words.Process, Sound.ascending}
use Rattle.model.specs.Steps.{settled, gone, storing, checkpointed, taken_in}
use Rattle.words_process.specs.receipts.Receipt.{vector_first, pins_first, vector_then, pins_then, kept_then_of}
use Rattle.words_process.proofs.receipts.Settling.{indexes, room_after, stays_after, deleted_before, moved_own_lem, taken_own, taken_length}

module _ (cause i : ℕ) (carried : List Interval) (P : Process) where
  abbrev pub received : Bool → Process
  received stores = taken_in i carried (pick stores (checkpointed cause i P) P)

  abbrev pub pins_after : Bool → List Pin
  pins_after stores = pins_then stores i (live_index_of (entry P.vector i)) P.vector carried P.pins

  module _ (in_row : i < length P.pins) (row : i < 16) where
    -- the own pin names the stored checkpoint
    own_pin : get_or (pins_after true) i None ≡ Some (live_index_of (entry P.vector i))
    unfolding pins_then pins_first
    own_pin = taken_own i (vector_first true i P.vector) carried (set P.pins i (Some (live_index_of (entry P.vector i)))) row ∙ moved_own_lem P.pins i (live_index_of (entry P.vector i)) in_row

    there : i < length (pins_after true)
    unfolding pins_then
    there = rw taken_length row

    -- and so a place is free for it, whatever is taken in
    pub receipt_room : ascending 0 (indexes P.kept) ≡ true → (or_else (last_of P.kept) no_checkpoint).index.0 < (live_index_of (entry P.vector i)).0
        → length (select (is_pinned (pins_after true)) P.kept) < 16
    unfolding pins_then storing
    receipt_room up before =
        omega (
          arith,
          room_after (pins_after true) i (storing cause i P) there own_pin 0 no_checkpoint P.kept up before,
          taken_length i (vector_first true i P.vector) carried (pins_first true i (live_index_of (entry P.vector i)) P.pins),
        )

    -- what is left and what is deleted
    pub receipt_leaves : (stores : Bool) → settled (received stores)
        ≡ record {
          vector = vector_then stores i P.vector carried;
          pins = pins_after stores;
          mark = pick stores false P.mark;
          kept = kept_then_of stores (pins_after stores) P.kept (storing cause i P);
        }
    unfolding settled taken_in checkpointed storing vector_then pins_then kept_then_of vector_first pins_first
    receipt_leaves true =
        ap (λ (l : List Checkpoint). record { vector = vector_then true i P.vector carried; pins = pins_after true; mark = false; kept = l })
        (stays_after (pins_after true) i (storing cause i P) there own_pin P.kept)
    receipt_leaves false = refl

    pub receipt_gone : (stores : Bool) → gone (received stores) ≡ select (λ c. not (is_pinned (pins_after stores) c)) P.kept
    unfolding gone taken_in checkpointed storing pins_then vector_first pins_first
    receipt_gone true = deleted_before (pins_after true) i (storing cause i P) there own_pin P.kept
    receipt_gone false = refl
