-- Laws that belong to no one function. A crate above uses them as `Rattle.words.proofs.View.{process_is}`.
--
-- Reading: words after puts (specs/Puts).
--   untouched : (w) (l : List Put) (k) → Clear l k → word (puts w l) k ≡ word w k                 `Clear` of known places is one `omega arith`
--   touched   : (w) (l) (n k q) → Hits w l n k q → word (puts w l) q ≡ nth l n .fill k             word k of put n stands at q
--   puts_length, put_step, put_none, set_is_put (a store is a put: `simp set_is_put`), wide2_back, wide4_back
--   pin_some  : (x) → 1 ≤ x → pin_of_def x ≡ At (index_of_def x); index_back, pin_back: the word a .0 + 1 of an index a
--   names_word : (x y) → 1 ≤ y → names (pin_of_def x) (index_of_def y) ≡ eqb x y; pinned_word
-- Same: words that agree on a section are read the same there.
--   row_same, vector_same, pins_same : (w v) (a b) → ((f) → f < 16 → word w (a + f) ≡ word v (b + f)) → row_in w a ≡ row_in v b, ..
--   checkpoint_moved, checkpoint_same, kept_same, message_same; row_word, vector_word, vector_row; vector_is; vector_back, row-back
-- Frames: process_stays, process_then, process_head, process_kept_count, .. : changes one after the other, and what each leaves (specs/Frames).
-- View: what the run holds of words that fit, for p < count_of w ≤ 16.
--   run_fits  : (w) → fits w ≡ true → run_of w ≡ decoded w; run_unfit; fits_size, fits_end, fits_by, end_most
--   count_is_lem, underway_is, last_is_lem, written_is, deleted_is, messages_is, messages_most : (w) → fits w ≡ true → ..
--   process_is : (w) → fits w ≡ true → (p) → p < count_of w → count_of w ≤ 16 → process (run_of w) p ≡ process_in w p; own_is, kept_count_is, row_is
--   under_way_is : (w) → fits w ≡ true → word w 1 ≡ length (messages_in w) → under_way (run_of w) ≡ messages_in w
--   kept_table, kept_count_lem, kept_placed : (w) (p) → word w (kept_count_at_of p) ≤ 16 → ..; kept_at, kept_past, kept_none; placed_at, placed_past
-- ViewBlank: (w) → ((k) → 1 ≤ k → k < 48 → word w k ≡ 0) → ((k) → 64 ≤ k → word w k ≡ 0) →
--   blank_run : length w ≡ 6464 → run_of w ≡ blank (count_of w); blank_fits; blank_clean : (block counts from n on zero) → Clean w
-- ViewChange: the three changes.
--   with_process_lem  : (w v) (p) → fits w ≡ true → p < count_of w → count_of w ≤ 16 → OnlyProcess w v p → word v (kept_count_at_of p) ≤ 16
--                     → run_of v ≡ with_process (run_of w) p (process_in v p); process_fits
--   with_messages_lem : (w v) → OnlyMessages w v → fits w ≡ true → end_fits_of v ≡ true → word v 1 ≡ length (messages_in v)
--                     → run_of v ≡ with_messages (run_of w) (messages_in v) (wide2 v 2); messages_fit
--   with_disk_lem     : (w v) → OnlyDisk w v → fits w ≡ true → run_of v ≡ with_disk (run_of w) (record { written = wide4 v 4; deleted = wide4 v 8 }); disk_fits
-- ViewParts: a process put together, what each change leaves, and process after process.
--   process_by    : (w) (p) (P) → vector_in w (part_at p) ≡ P.vector → pins_in w (pins_at_of p) ≡ P.pins → mark_in w p ≡ P.mark
--                     → take (word w (kept_count_at_of p)) (kept_in w p) ≡ P.kept → process_in w p ≡ P; pins-is, mark-set, mark-clear, process_same
--   process-keeps, process-keeps-messages, messages-keep, disk-keeps, disk-keeps-messages : process_in and messages_in of what did not change
--   with_processes_step : (w v) (k) (f) (s) → fits w ≡ true → k < count_of w → count_of w ≤ 16 → OnlyProcess w v k → word v (kept_count_at_of k) ≤ 16
--                     → process_in v k ≡ f k → run_of w ≡ with_processes k f s → run_of v ≡ with_processes (k + 1) f s; with-processes-none
-- ViewClean: what keeps unused places zero (specs/Clean).
--   clean_process : (w v) (p) → p < count_of w → count_of w ≤ 16 → OnlyProcess w v p → CleanKept v p → Clean w → Clean v
--   clean_messages : (w v) → count_of w ≤ 16 → OnlyMessages w v → CleanMessages v → Clean w → Clean v
--   clean_disk    : (w v) → OnlyDisk w v → Clean w → Clean v
-- ViewSound: what words hold whose run is sound.
--   sound_words   : (w) → sound (run_of w) ≡ true → SoundWords w; sound_part : .. (p) → p < count_of w → SoundPart w p; sound_place; sound_known
-- ViewRows: (w) → sound (run_of w) ≡ true →
--   vector_within, vector_zero, pins-zero, stored_within, stored_zero, pin_kept, kept_pinned : (p) → p < count_of w → ..
--   carried_within, carried-zero : (k) → k < end_of w → is_message (message_in w k) ≡ true → (f) → ..
-- ViewSizes: vectors_size, vector_row_size, .., carried_size: the sizes of the arrays of run_of w, of all words w (the fields of plans' `Sized`).
-- Drawn: words written out, whose run is computed: the layout tried on a start, a send and a checkpoint.
-- Ascending: numbers that ascend along a list, and along what is selected of it, by index.
pub mod Ascending
pub mod Drawn
pub mod Frames
pub mod Reading
pub mod Same
pub mod View
pub mod ViewBlank
pub mod ViewChange
pub mod ViewClean
pub mod ViewParts
pub mod ViewRows
pub mod ViewSizes
pub mod ViewSound
