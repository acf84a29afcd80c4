-- Laws that belong to no one function.
--
-- Frame: words that agree on what is process p's (SameProcess) restore it alike.
--   restored_same, gone_same : (w v) (p) → p < 16 → SameProcess w v p → word w (kept_count_at_of p) ≤ 16 → (past) (owns) → restored_part v p past owns ≡ restored_part w p past owns, ..
--   restorable_same : (w v) (p) → p < 16 → SameProcess w v p → (past) → Restorable w p past → Restorable v p past
--   same_stays; same_process, same_disk, same_moves: what changes of another process, and of the blocks, leave
-- Recovery: (w) → sound (run_of w) ≡ true → (F) → has_members w (count_of w) (limits_in w (count_of w) F) ≡ true →, with `pasts` of these members and `owns` of these,
--   owns_are : (f) → f < count_of w → entry owns f ≡ own_after (run_of w) F f
--   rolled, recovered_is, gone_is : (p) → p < count_of w → goes_back w p (past_of p) ≡ rolled_back (run_of w) F p, restored_part w p (past_of p) owns ≡ recovered (run_of w) F p, ..
--   gone_blocks : (p) → p < count_of w → length (restored_gone w p (past_of p) owns) * word w (blocks_at_of p) ≡ blocks_of (gone_at_of (run_of w) F p)
--   restorable : (p) → p < count_of w → ((k) → word w k < 65536) → Restorable w p (past_of p); all_return
-- Settling, Restoring: what the functions leave of the words. Found: the search for the checkpoint that a pin moves to.
pub mod Found
pub mod Frame
pub mod ProcessRestoring
pub mod ProcessSettling
pub mod Recovering
pub mod Recovery
pub mod Restoring
