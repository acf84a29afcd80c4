-- A table of merges, for Note 12 of document 02: what is written of two halves, and for each number two halves that meet it and also the number that comes
-- next. proofs/Merges has the theorem.
-- Assumes nothing.
use Rattle.std.specs.Prelude.{◌&&◌, ◌∷◌}
use Rattle.laws.specs.Basics.{Bool, List, [], ℕ, eqb, replicate, pick}
use Rattle.laws.specs.Tests.{every, same}
use Rattle.theory_merges.specs.Merge.{merge_outcome, merge_report}

-- Two halves, the set, how long the result buffer is, and the number that the merge meets; 0: accepted, and the buffer then.
pub record MergeCase : Type 0 where
  pub first : List ℕ
  pub second : List ℕ
  pub set : ℕ
  pub room : ℕ
  pub meets : ℕ
  pub writes : List ℕ

-- The buffer has the byte 7 everywhere before the merge; with a refusal, after it too.
unfoldable pub merge_right : MergeCase → Bool
merge_right c =
    let before : List ℕ = replicate c.room 7 in
    let o = merge_outcome c.first c.second c.set before in
    eqb (merge_report o.answer).refused c.meets && same o.buffer (pick (eqb c.meets 0) c.writes before)

unfoldable pub merges : List MergeCase
merges =
    -- two processes: a record of the first half as long as it is ready, then one of the second; numbers run over both halves, 1 to 3; the last three bytes of the
    -- buffer are as they were
    record {
      first = 2 ∷ 0x20 ∷ 0 ∷ 0 ∷ 1 ∷ 0 ∷ 0 ∷ 0 ∷ 0 ∷ 0x40 ∷ 0x20 ∷ 0 ∷ 1 ∷ 0x20 ∷ 0 ∷ 0 ∷ 1 ∷ [];
      second = 2 ∷ 0x40 ∷ 0 ∷ 0 ∷ 1 ∷ 2 ∷ 0 ∷ 0 ∷ 0 ∷ 0x22 ∷ 0 ∷ 0 ∷ 0 ∷ 0x40 ∷ 0 ∷ 0 ∷ 2 ∷ [];
      set = 1;
      room = 36;
      meets = 0;
      writes = 2 ∷ 0x20 ∷ 0 ∷ 0 ∷ 1 ∷ 0 ∷ 0 ∷ 0 ∷ 0 ∷ 0x40 ∷ 0 ∷ 0 ∷ 1 ∷ 2 ∷ 0 ∷ 0 ∷ 0 ∷ 0x22 ∷ 0 ∷ 0 ∷ 0 ∷ 0x40 ∷ 0 ∷ 0 ∷ 2 ∷ 0x20 ∷ 0 ∷ 0 ∷ 1 ∷ 0x40 ∷ 0 ∷ 0 ∷ 3 ∷ 7 ∷ 7 ∷ 7 ∷ [];
    }
    -- the same halves the other way round
    ∷ record {
      first = 2 ∷ 0x40 ∷ 0 ∷ 0 ∷ 1 ∷ 2 ∷ 0 ∷ 0 ∷ 0 ∷ 0x22 ∷ 0 ∷ 0 ∷ 0 ∷ 0x40 ∷ 0 ∷ 0 ∷ 2 ∷ [];
      second = 2 ∷ 0x20 ∷ 0 ∷ 0 ∷ 1 ∷ 0 ∷ 0 ∷ 0 ∷ 0 ∷ 0x40 ∷ 0x20 ∷ 0 ∷ 1 ∷ 0x20 ∷ 0 ∷ 0 ∷ 1 ∷ [];
      set = 2;
      room = 34;
      meets = 0;
      writes = 2 ∷ 0x20 ∷ 0 ∷ 0 ∷ 1 ∷ 0x40 ∷ 0 ∷ 0 ∷ 1 ∷ 2 ∷ 0 ∷ 0 ∷ 0 ∷ 0x22 ∷ 0 ∷ 0 ∷ 0 ∷ 0 ∷ 0 ∷ 0 ∷ 0 ∷ 0x40 ∷ 0 ∷ 0 ∷ 2 ∷ 0x20 ∷ 0 ∷ 0 ∷ 1 ∷ 0x40 ∷ 0 ∷ 0 ∷ 3 ∷ 7 ∷ [];
    }
    -- three processes, 0 and 2 in the first half: the running count is that of the sender, and a loss is numbered too
    ∷ record {
      first = 3 ∷ 0x24 ∷ 0 ∷ 0 ∷ 1 ∷ 0x20 ∷ 0 ∷ 0 ∷ 1 ∷ [];
      second = 3 ∷ 0x60 ∷ 0 ∷ 0 ∷ 1 ∷ 0x40 ∷ 0x40 ∷ 0 ∷ 1 ∷ [];
      set = 5;
      room = 18;
      meets = 0;
      writes = 3 ∷ 0x24 ∷ 0 ∷ 0 ∷ 1 ∷ 0x20 ∷ 0 ∷ 0 ∷ 1 ∷ 0x60 ∷ 0 ∷ 0 ∷ 2 ∷ 0x40 ∷ 0 ∷ 0 ∷ 1 ∷ 7 ∷ [];
    }
    -- no records; the empty set is allowed
    ∷ record { first = 0x10 ∷ []; second = 0x10 ∷ []; set = 0; room = 2; meets = 0; writes = 0x10 ∷ 7 ∷ [] }
    -- 1: either count outside 1 to 16, before 3
    ∷ record { first = 0 ∷ []; second = 2 ∷ []; set = 0; room = 0; meets = 1; writes = [] }
    ∷ record { first = 2 ∷ []; second = 0x11 ∷ []; set = 0; room = 0; meets = 1; writes = [] }
    -- 3: one byte less than both halves together, before 12
    ∷ record { first = 2 ∷ []; second = []; set = 0; room = 0; meets = 3; writes = [] }
    -- 12: either half without a first byte, before 7
    ∷ record { first = []; second = 2 ∷ []; set = 4; room = 1; meets = 12; writes = [] }
    ∷ record { first = 2 ∷ []; second = []; set = 4; room = 1; meets = 12; writes = [] }
    -- 23: unequal counts, before 7
    ∷ record { first = 2 ∷ []; second = 3 ∷ []; set = 8; room = 2; meets = 23; writes = [] }
    -- 7: a bit at n or above, before 13
    ∷ record { first = 2 ∷ 0 ∷ []; second = 2 ∷ []; set = 4; room = 3; meets = 7; writes = [] }
    -- 13: bytes left over in either half, before 17
    ∷ record { first = 2 ∷ 0 ∷ []; second = 2 ∷ []; set = 1; room = 3; meets = 13; writes = [] }
    ∷ record { first = 2 ∷ []; second = 2 ∷ 0 ∷ 0 ∷ 0 ∷ []; set = 1; room = 5; meets = 13; writes = [] }
    ∷ record { first = 2 ∷ replicate 16388 0; second = 2 ∷ 0 ∷ []; set = 1; room = 16391; meets = 13; writes = [] }
    -- 17: 4,097 records in either half
    ∷ record { first = 2 ∷ []; second = 2 ∷ replicate 16388 0; set = 1; room = 16390; meets = 17; writes = [] }
    -- 14: kind 4, and a field that must be zero is not, before 4; a delivery with a process that is ready
    ∷ record { first = 2 ∷ 0x80 ∷ 0 ∷ 0 ∷ 1 ∷ []; second = 2 ∷ []; set = 1; room = 6; meets = 14; writes = [] }
    ∷ record { first = 2 ∷ 6 ∷ 0 ∷ 0 ∷ 1 ∷ []; second = 2 ∷ []; set = 1; room = 6; meets = 14; writes = [] }
    ∷ record { first = 2 ∷ 0x20 ∷ 0 ∷ 0 ∷ 1 ∷ []; second = 2 ∷ 0x42 ∷ 0 ∷ 0 ∷ 1 ∷ []; set = 1; room = 10; meets = 14; writes = [] }
    -- 4: the process of a checkpoint, the sender and the receiver of a send, before 5
    ∷ record { first = 2 ∷ 4 ∷ 0 ∷ 0 ∷ 0 ∷ []; second = 2 ∷ []; set = 1; room = 6; meets = 4; writes = [] }
    ∷ record { first = 2 ∷ 0x24 ∷ 0 ∷ 0 ∷ 2 ∷ []; second = 2 ∷ []; set = 1; room = 6; meets = 4; writes = [] }
    ∷ record { first = 2 ∷ 0x20 ∷ 0 ∷ 0 ∷ 2 ∷ []; second = 2 ∷ []; set = 1; room = 6; meets = 4; writes = [] }
    -- 5: before 23
    ∷ record { first = 2 ∷ []; second = 2 ∷ 0x20 ∷ 0 ∷ 0 ∷ 0 ∷ []; set = 1; room = 6; meets = 5; writes = [] }
    -- 23: a record of a process outside its half; a delivery and a loss for a receiver outside it
    ∷ record { first = 2 ∷ 2 ∷ 0 ∷ 0 ∷ 0 ∷ []; second = 2 ∷ []; set = 1; room = 6; meets = 23; writes = [] }
    ∷ record { first = 2 ∷ 0x20 ∷ 0 ∷ 0 ∷ 1 ∷ 0x40 ∷ 0 ∷ 0 ∷ 1 ∷ []; second = 2 ∷ []; set = 1; room = 10; meets = 23; writes = [] }
    ∷ record { first = 2 ∷ []; second = 2 ∷ 0x22 ∷ 0 ∷ 0 ∷ 0 ∷ 0x60 ∷ 0x20 ∷ 0 ∷ 1 ∷ []; set = 1; room = 10; meets = 23; writes = [] }
    -- 24: neither half is ready; a message of a sender that is not in the run, one with the count 0, and a delivery that is not well-formed
    ∷ record { first = 2 ∷ 0x40 ∷ 0x20 ∷ 0 ∷ 1 ∷ []; second = 2 ∷ 0x40 ∷ 0 ∷ 0 ∷ 1 ∷ []; set = 1; room = 10; meets = 24; writes = [] }
    ∷ record { first = 2 ∷ 0x41 ∷ 0xE0 ∷ 0 ∷ 1 ∷ []; second = 2 ∷ []; set = 1; room = 6; meets = 24; writes = [] }
    ∷ record { first = 2 ∷ 0x20 ∷ 0 ∷ 0 ∷ 1 ∷ []; second = 2 ∷ 0x40 ∷ 0 ∷ 0 ∷ 0 ∷ []; set = 1; room = 10; meets = 24; writes = [] }
    ∷ record { first = 2 ∷ []; second = 2 ∷ 0x42 ∷ 0 ∷ 0 ∷ 1 ∷ []; set = 1; room = 6; meets = 24; writes = [] }
    ∷ []

unfoldable pub merges_right : Bool
merges_right = every merge_right merges
