-- `words_process::steps::checkpoint` meets its contract. Assumes nothing.
use Rattle.std.specs.Prelude.{◌≡◌, ◌∷◌, ◌+◌, ◌-◌, ◌*◌, ◌<◌}
use Rattle.laws.specs.Basics.{◌∙◌, ap, true, false, List, [], ℕ, arith, length, length-set, sets, rules}
use Rattle.model.specs.declared.{Interval.Interval, CheckpointIndex.CheckpointIndex}
use Rattle.model.specs.{Sound.sound, Words.basic, Words.entry, Words.live_index_of, Words.blocks_of}
use Rattle.model.specs.Steps.{listed, settled, gone, deletions, billed, advanced, checkpointed}
use Rattle.whole_runs.specs.Outcomes.{pairs}
use Rattle.words_process.specs.{receipts.Receipt.kept_then_of, Moves.disk_in, Moves.Moves, Pins.pin_row, Pins.moved_row, Pins.risen_or_own}
use Rattle.words.specs.Layout.{word, count_of, kept_count_at_of, blocks_at_of, part_at, pins_at_of, row_in, vector_in, run_of}
use Rattle.words.specs.{Parts.process_in, Puts.puts, Puts.vector_put}
use Rattle.words.proofs.Same.{vector_length}
use Rattle.words_process.specs.Steps.{stored_in, places_of, unpinned_in, settled_part}
use Rattle.words_process.proofs.Stepping.{in_range, kept_count_most, words, facts, ready, checkpoint_part, checkpoint_gone, checkpoint_room, checkpoint_pinned, own_number, moved, deletes, lists}
use Rattle.words_process.proofs.steps.checkpoint.Goals as goal

advanced_length : (i : ℕ) (v : List Interval) → length (advanced i v) ≡ length v
unfolding advanced
advanced_length i v = length-set v i _

-- What is settled is what the definitions say.
done : (w : List ℕ) (h : sound (run_of w) ≡ true) (i : ℕ) (lt : i < count_of w) (x : List Interval) → x ≡ advanced i (vector_in w (part_at i)) → (u : List ℕ)
    → u ≡ puts w (vector_put (part_at i) x ∷ []) → (r : List ℕ) (index : CheckpointIndex) (is : index ≡ live_index_of (entry (vector_in w (part_at i)) i))
    (row : r ≡ moved_row (risen_or_own 0 i) (row_in w (pins_at_of i)) (index.0 + 1)) (vector : List Interval) → vector ≡ vector_in w (part_at i) → (y : List ℕ) (g : ℕ) (l l' : List ℕ)
    → g ≡ length (unpinned_in u i (pin_row r))
    → Moves u i (settled_part u i (pin_row r) true (stored_in u i index basic vector)) (billed (disk_in u) (word u (blocks_at_of i)) (g * word u (blocks_at_of i))) y
    → l' ≡ sets l 0 (pairs (listed i (unpinned_in u i (pin_row r))))
    → Moves w i (settled (checkpointed basic i (process_in w i))) (billed (disk_in w) (word w (blocks_at_of i)) (blocks_of (gone (checkpointed basic i (process_in w i))))) y
    × ((l' ≡ sets l 0 (pairs (deletions i (checkpointed basic i (process_in w i))))) × (g ≡ length (deletions i (checkpointed basic i (process_in w i)))))
done w h i lt x fresh u e r index is row vector read y g l l' many m lent =
    let long : length x ≡ 16 = ap length fresh ∙ advanced_length i (vector_in w (part_at i)) ∙ vector_length w (part_at i) in
    let part = (λ j. record { vector = fresh j; pins = pin_row r; mark = false; kept = kept_then_of true (pin_row r) (places_of w i) (stored_in w i index basic (read j)) }) ∙ checkpoint_part w h i lt r index is row in
    let lost = checkpoint_gone w h i lt r index is row in
    let Q = checkpointed basic i (process_in w i) in (
      moved w h i lt x long u e r true index basic vector Q part lost y g many m,
      (lent ∙ lists w h i lt x long u e r true index basic vector Q part lost l, deletes w h i lt x long u e r true index basic vector Q part lost y g many),
    )

pub overflow_mul-i : goal.overflow_mul-i
overflow_mul-i c =
    let known : (c.args.i < 16) × (length c.args.w.now ≡ 6464) = (in_range c.args.w.now c.requires.0 c.args.i c.requires.1, (words c.args.w.now c.requires.0 c.args.i c.requires.1).size) in
    let k = known in search rules

pub overflow_add-i : goal.overflow_add-i
overflow_add-i c =
    let known : (c.args.i < 16) × (length c.args.w.now ≡ 6464) = (in_range c.args.w.now c.requires.0 c.args.i c.requires.1, (words c.args.w.now c.requires.0 c.args.i c.requires.1).size) in
    let k = known in search rules

pub vector_at-vector-requires : goal.vector_at-vector-requires
vector_at-vector-requires c =
    let known : (c.args.i < 16) × (length c.args.w.now ≡ 6464) = (in_range c.args.w.now c.requires.0 c.args.i c.requires.1, (words c.args.w.now c.requires.0 c.args.i c.requires.1).size) in
    let k = known in search rules

pub overflow_mul-i-2 : goal.overflow_mul-i-2
overflow_mul-i-2 c =
    let known : (c.args.i < 16) × (length c.args.w.now ≡ 6464) = (in_range c.args.w.now c.requires.0 c.args.i c.requires.1, (words c.args.w.now c.requires.0 c.args.i c.requires.1).size) in
    let k = known in search rules

pub overflow_add-i-2 : goal.overflow_add-i-2
overflow_add-i-2 c =
    let known : (c.args.i < 16) × (length c.args.w.now ≡ 6464) = (in_range c.args.w.now c.requires.0 c.args.i c.requires.1, (words c.args.w.now c.requires.0 c.args.i c.requires.1).size) in
    let k = known in search rules

pub row_at-old-requires : goal.row_at-old-requires
row_at-old-requires c =
    let known : (c.args.i < 16) × (length c.args.w.now ≡ 6464) = (in_range c.args.w.now c.requires.0 c.args.i c.requires.1, (words c.args.w.now c.requires.0 c.args.i c.requires.1).size) in
    let k = known in search rules

pub overflow_add-kept_count : goal.overflow_add-kept_count
overflow_add-kept_count c =
    let known : (c.args.i < 16) × (length c.args.w.now ≡ 6464) = (in_range c.args.w.now c.requires.0 c.args.i c.requires.1, (words c.args.w.now c.requires.0 c.args.i c.requires.1).size) in
    let k = known in search rules

pub offset_bounds-w-i : goal.offset_bounds-w-i
offset_bounds-w-i c =
    let known : (c.args.i < 16) × (length c.args.w.now ≡ 6464) = (in_range c.args.w.now c.requires.0 c.args.i c.requires.1, (words c.args.w.now c.requires.0 c.args.i c.requires.1).size) in
    let k = known in search rules

pub bounds-w-i : goal.bounds-w-i
bounds-w-i c =
    let known : (c.args.i < 16) × (length c.args.w.now ≡ 6464) = (in_range c.args.w.now c.requires.0 c.args.i c.requires.1, (words c.args.w.now c.requires.0 c.args.i c.requires.1).size) in
    let k = known in search rules

pub overflow_cast-kept_count : goal.overflow_cast-kept_count
overflow_cast-kept_count c =
    let m = kept_count_most c.args.w.now c.requires.0 c.args.i c.requires.1 in record { fits = omega (arith, m) }

pub offset_bounds-vector-i : goal.offset_bounds-vector-i
offset_bounds-vector-i c =
    let known : (c.args.i < 16) × (length c.args.w.now ≡ 6464) = (in_range c.args.w.now c.requires.0 c.args.i c.requires.1, (words c.args.w.now c.requires.0 c.args.i c.requires.1).size) in
    let k = known in search rules

pub bounds-vector-i : goal.bounds-vector-i
bounds-vector-i c =
    let known : (c.args.i < 16) × (length c.args.w.now ≡ 6464) = (in_range c.args.w.now c.requires.0 c.args.i c.requires.1, (words c.args.w.now c.requires.0 c.args.i c.requires.1).size) in
    let k = known in search rules

pub live_index-index-requires : goal.live_index-index-requires
live_index-index-requires c =
    omega (arith, own_number c.args.w.now c.requires.0 c.args.i c.requires.1 _ c.vector_at-vector.ensures, (facts c.args.w.now c.requires.0 c.args.i c.requires.1).own_some)

pub pin_word-requires : goal.pin_word-requires
pin_word-requires c =
    omega (arith, own_number c.args.w.now c.requires.0 c.args.i c.requires.1 _ c.vector_at-vector.ensures, ap (λ (x : CheckpointIndex). x.0) c.live_index-index.ensures, c.requires.2)

pub taken_pins-pins-requires : goal.taken_pins-pins-requires
taken_pins-pins-requires c =
    let known : (c.args.i < 16) × (length c.args.w.now ≡ 6464) = (in_range c.args.w.now c.requires.0 c.args.i c.requires.1, (words c.args.w.now c.requires.0 c.args.i c.requires.1).size) in
    let k = known in search rules

pub overflow_mul-i-3 : goal.overflow_mul-i-3
overflow_mul-i-3 c =
    let known : (c.args.i < 16) × (length c.args.w.now ≡ 6464) = (in_range c.args.w.now c.requires.0 c.args.i c.requires.1, (words c.args.w.now c.requires.0 c.args.i c.requires.1).size) in
    let k = known in search rules

pub overflow_add-i-3 : goal.overflow_add-i-3
overflow_add-i-3 c =
    let known : (c.args.i < 16) × (length c.args.w.now ≡ 6464) = (in_range c.args.w.now c.requires.0 c.args.i c.requires.1, (words c.args.w.now c.requires.0 c.args.i c.requires.1).size) in
    let k = known in search rules

pub advanced-requires : goal.advanced-requires
advanced-requires c =
    let known : (c.args.i < 16) × (length c.args.w.now ≡ 6464) = (in_range c.args.w.now c.requires.0 c.args.i c.requires.1, (words c.args.w.now c.requires.0 c.args.i c.requires.1).size) in
    (known.0, omega (arith, own_number c.args.w.now c.requires.0 c.args.i c.requires.1 _ c.vector_at-vector.ensures, c.requires.2))

pub put_vector-requires : goal.put_vector-requires
put_vector-requires c =
    let known : (c.args.i < 16) × (length c.args.w.now ≡ 6464) = (in_range c.args.w.now c.requires.0 c.args.i c.requires.1, (words c.args.w.now c.requires.0 c.args.i c.requires.1).size) in
    let k = known in search rules

pub overflow_sub-kept_count : goal.overflow_sub-kept_count
overflow_sub-kept_count c =
    (facts c.args.w.now c.requires.0 c.args.i c.requires.1).kept_count_some

pub settle-requires : goal.settle-requires
settle-requires c =
    let w = c.args.w.now in let i = c.args.i in let vector = c.vector_at-vector.ensures in let is = c.live_index-index.ensures ∙ ap (λ (v : List Interval). live_index_of (entry v i)) vector in let row = c.taken_pins-pins.ensures ∙ (λ j. moved_row (risen_or_own 0 i) (c.row_at-old.ensures j) (c.pin_word.ensures.0 j)) in let put = c.put_vector.ensures in let z = ready c.args.w.now c.requires.0 c.args.i c.requires.1 c.advanced.result _ put _ (word w (kept_count_at_of i) - 1) (omega arith) (checkpoint_pinned c.args.w.now c.requires.0 c.args.i c.requires.1 _ _ is row) true _ (λ e. omega (arith, own_number c.args.w.now c.requires.0 c.args.i c.requires.1 _ vector, ap (λ (x : CheckpointIndex). x.0) c.live_index-index.ensures, c.requires.2)) (λ e. checkpoint_room c.args.w.now c.requires.0 c.args.i c.requires.1 _ _ is row) _ c.requires.3 in record { w_len = z.0; from_bound = z.1.0; i_len_bound = z.1.1 }

pub shape_of-w : goal.shape_of-w
shape_of-w c =
    c.settle.auto.w ∙ c.put_vector.auto.w

pub shape_of-deleted : goal.shape_of-deleted
shape_of-deleted c =
    c.settle.auto.deleted

pub returns : goal.returns
returns c =
    let w = c.args.w.now in let i = c.args.i in let vector = c.vector_at-vector.ensures in let is = c.live_index-index.ensures ∙ ap (λ (v : List Interval). live_index_of (entry v i)) vector in let row = c.taken_pins-pins.ensures ∙ (λ j. moved_row (risen_or_own 0 i) (c.row_at-old.ensures j) (c.pin_word.ensures.0 j)) in let put = c.put_vector.ensures in let t = c.settle in let fresh = c.advanced.ensures ∙ ap (advanced i) vector in let z = done w c.requires.0 i c.requires.1 _ fresh _ put _ _ is row _ vector _ _ _ _ t.ensures.value t.ensures.moves t.ensures.deleted_after in record { moves = z.0; deleted_after = z.1.0; value = z.1.1 }
