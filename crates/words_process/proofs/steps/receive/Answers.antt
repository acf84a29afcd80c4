-- `words_process::steps::receive` meets its contract. Assumes nothing.
use Rattle.std.specs.Prelude.{◌≡◌, ◌∷◌, ◌+◌, ◌-◌, ◌*◌, ◌<◌}
use Rattle.laws.specs.Basics.{◌∙◌, ap, Bool, true, false, List, [], ℕ, arith, length, get_or, sets, rules, pick}
use Rattle.laws.specs.Tables.{length_table}
use Rattle.model.specs.declared.{Interval.Interval, CheckpointIndex.CheckpointIndex}
use Rattle.model.specs.{Sound.sound, Words.forced, Words.entry, Words.live_index_of, Words.blocks_of}
use Rattle.model.specs.Steps.{listed, settled, gone, deletions, billed, taken_vector, risen}
use Rattle.whole_runs.specs.Outcomes.{pairs}
use Rattle.words_process.specs.{receipts.Receipt.vector_first, receipts.Receipt.kept_then_of, Moves.disk_in, Moves.Moves}
use Rattle.words.specs.Layout.{mark_in, word, count_of, blocks_at_of, part_at, pins_at_of, row_in, vector_in, run_of}
use Rattle.words.specs.{Parts.process_in, Puts.puts, Puts.vector_put}
use Rattle.words_process.specs.Pins.{pin_row, moved_row, risen_or_own}
use Rattle.words_process.specs.Steps.{stored_in, places_of, unpinned_in, settled_part, received}
use Rattle.words_process.proofs.Stepping.{in_range, words, facts, ready, receive_part, receive_gone, receive_room, pinned_none, own_number, moved, deletes, lists}
use Rattle.words_process.proofs.steps.receive.Goals as goal

taken_length : (a b : List Interval) → length (taken_vector a b) ≡ 16
unfolding taken_vector
taken_length a b = length_table 16 _

-- What is settled is what the definitions say.
done : (w : List ℕ) (h : sound (run_of w) ≡ true) (i : ℕ) (lt : i < count_of w) (stores : Bool) (carried x : List Interval) → x ≡ taken_vector (vector_first stores i (vector_in w (part_at i))) carried
    → (u : List ℕ) → u ≡ puts w (vector_put (part_at i) x ∷ []) → (r : List ℕ) (index : CheckpointIndex) (is : index ≡ live_index_of (entry (vector_in w (part_at i)) i)) (own : ℕ)
    (own-word : own ≡ pick stores (index.0 + 1) (get_or (row_in w (pins_at_of i)) i 0))
    (row : r ≡ moved_row (risen_or_own (risen (vector_first stores i (vector_in w (part_at i))) carried) i) (row_in w (pins_at_of i)) own) (vector : List Interval) → vector ≡ vector_in w (part_at i)
    → (y : List ℕ) (g : ℕ) (l l' : List ℕ) → g ≡ length (unpinned_in u i (pin_row r))
    → Moves u i (settled_part u i (pin_row r) stores (stored_in u i index forced vector)) (billed (disk_in u) (pick stores (word u (blocks_at_of i)) 0) (g * word u (blocks_at_of i))) y
    → l' ≡ sets l 0 (pairs (listed i (unpinned_in u i (pin_row r))))
    → Moves w i (settled (received i stores carried (process_in w i))) (billed (disk_in w) (pick stores (word w (blocks_at_of i)) 0) (blocks_of (gone (received i stores carried (process_in w i))))) y
    × ((l' ≡ sets l 0 (pairs (deletions i (received i stores carried (process_in w i))))) × (g ≡ length (deletions i (received i stores carried (process_in w i)))))
done w h i lt stores carried x fresh u e r index is own own-word row vector read y g l l' many m lent =
    let long : length x ≡ 16 = ap length fresh ∙ taken_length (vector_first stores i (vector_in w (part_at i))) carried in
    let part = (λ j. record { vector = fresh j; pins = pin_row r; mark = pick stores false (mark_in w i); kept = kept_then_of stores (pin_row r) (places_of w i) (stored_in w i index forced (read j)) })
    ∙ receive_part w h i lt stores carried r index is own own-word row in
    let lost = receive_gone w h i lt stores carried r index is own own-word row in
    let Q = received i stores carried (process_in w i) in (
      moved w h i lt x long u e r stores index forced vector Q part lost y g many m,
      (lent ∙ lists w h i lt x long u e r stores index forced vector Q part lost l, deletes w h i lt x long u e r stores index forced vector Q part lost y g many),
    )

pub overflow_mul-i : goal.overflow_mul-i
overflow_mul-i c =
    let known : (c.args.i < 16) × (length c.args.w.now ≡ 6464) = (in_range c.args.w.now c.requires.0 c.args.i c.requires.1, (words c.args.w.now c.requires.0 c.args.i c.requires.1).size) in
    let k = known in search rules

pub overflow_add-i : goal.overflow_add-i
overflow_add-i c =
    let known : (c.args.i < 16) × (length c.args.w.now ≡ 6464) = (in_range c.args.w.now c.requires.0 c.args.i c.requires.1, (words c.args.w.now c.requires.0 c.args.i c.requires.1).size) in
    let k = known in search rules

pub vector_at-vector-requires : goal.vector_at-vector-requires
vector_at-vector-requires c =
    let known : (c.args.i < 16) × (length c.args.w.now ≡ 6464) = (in_range c.args.w.now c.requires.0 c.args.i c.requires.1, (words c.args.w.now c.requires.0 c.args.i c.requires.1).size) in
    let k = known in search rules

pub overflow_mul-i-2 : goal.overflow_mul-i-2
overflow_mul-i-2 c =
    let known : (c.args.i < 16) × (length c.args.w.now ≡ 6464) = (in_range c.args.w.now c.requires.0 c.args.i c.requires.1, (words c.args.w.now c.requires.0 c.args.i c.requires.1).size) in
    let k = known in search rules

pub overflow_add-i-2 : goal.overflow_add-i-2
overflow_add-i-2 c =
    let known : (c.args.i < 16) × (length c.args.w.now ≡ 6464) = (in_range c.args.w.now c.requires.0 c.args.i c.requires.1, (words c.args.w.now c.requires.0 c.args.i c.requires.1).size) in
    let k = known in search rules

pub row_at-old-requires : goal.row_at-old-requires
row_at-old-requires c =
    let known : (c.args.i < 16) × (length c.args.w.now ≡ 6464) = (in_range c.args.w.now c.requires.0 c.args.i c.requires.1, (words c.args.w.now c.requires.0 c.args.i c.requires.1).size) in
    let k = known in search rules

pub offset_bounds-vector-i : goal.offset_bounds-vector-i
offset_bounds-vector-i c =
    let known : (c.args.i < 16) × (length c.args.w.now ≡ 6464) = (in_range c.args.w.now c.requires.0 c.args.i c.requires.1, (words c.args.w.now c.requires.0 c.args.i c.requires.1).size) in
    let k = known in search rules

pub bounds-vector-i : goal.bounds-vector-i
bounds-vector-i c =
    let known : (c.args.i < 16) × (length c.args.w.now ≡ 6464) = (in_range c.args.w.now c.requires.0 c.args.i c.requires.1, (words c.args.w.now c.requires.0 c.args.i c.requires.1).size) in
    let k = known in search rules

pub live_index-index-requires : goal.live_index-index-requires
live_index-index-requires c =
    omega (arith, own_number c.args.w.now c.requires.0 c.args.i c.requires.1 _ c.vector_at-vector.ensures, (facts c.args.w.now c.requires.0 c.args.i c.requires.1).own_some)

pub take_vector-rose-requires : goal.take_vector-rose-requires
take_vector-rose-requires c =
    let known : (c.args.i < 16) × (length c.args.w.now ≡ 6464) = (in_range c.args.w.now c.requires.0 c.args.i c.requires.1, (words c.args.w.now c.requires.0 c.args.i c.requires.1).size) in
    let k = known in (k.1, k.0, c.vector_at-vector.ensures, λ e. omega (arith, own_number c.args.w.now c.requires.0 c.args.i c.requires.1 _ c.vector_at-vector.ensures, c.requires.2 e))

pub offset_bounds-old-i : goal.offset_bounds-old-i
offset_bounds-old-i c =
    let known : (c.args.i < 16) × (length c.args.w.now ≡ 6464) = (in_range c.args.w.now c.requires.0 c.args.i c.requires.1, (words c.args.w.now c.requires.0 c.args.i c.requires.1).size) in
    let k = known in search rules

pub bounds-old-i : goal.bounds-old-i
bounds-old-i c =
    let known : (c.args.i < 16) × (length c.args.w.now ≡ 6464) = (in_range c.args.w.now c.requires.0 c.args.i c.requires.1, (words c.args.w.now c.requires.0 c.args.i c.requires.1).size) in
    let k = known in search rules

pub own_pin-requires : goal.own_pin-requires
own_pin-requires c =
    λ e. omega (arith, own_number c.args.w.now c.requires.0 c.args.i c.requires.1 _ c.vector_at-vector.ensures, ap (λ (x : CheckpointIndex). x.0) c.live_index-index.ensures, c.requires.2 e)

pub taken_pins-pins-requires : goal.taken_pins-pins-requires
taken_pins-pins-requires c =
    let known : (c.args.i < 16) × (length c.args.w.now ≡ 6464) = (in_range c.args.w.now c.requires.0 c.args.i c.requires.1, (words c.args.w.now c.requires.0 c.args.i c.requires.1).size) in
    let k = known in search rules

pub settle-gone-requires : goal.settle-gone-requires
settle-gone-requires c =
    let w = c.args.w.now in let i = c.args.i in let stores = c.args.stores in let vector = c.vector_at-vector.ensures in let is = c.live_index-index.ensures ∙ ap (λ (v : List Interval). live_index_of (entry v i)) vector in let own = c.own_pin.ensures ∙ ap (λ (l : List ℕ). pick stores (c.live_index-index.result.0 + 1) (get_or l i 0)) c.row_at-old.ensures in let rose = c.take_vector-rose.ensures.value ∙ ap (λ (v : List Interval). risen (vector_first stores i v) c.args.carried) vector in let row = c.taken_pins-pins.ensures ∙ (λ j. moved_row (risen_or_own (rose j) i) (c.row_at-old.ensures j) c.own_pin.result) in let put = c.take_vector-rose.ensures.w_after in let z = ready c.args.w.now c.requires.0 c.args.i c.requires.1 (taken_vector (vector_first stores i c.vector_at-vector.result) c.args.carried) _ put _ 0 (omega arith) (pinned_none c.args.w.now c.requires.0 c.args.i c.requires.1 _) stores _ (λ e. omega (arith, own_number c.args.w.now c.requires.0 c.args.i c.requires.1 _ vector, ap (λ (x : CheckpointIndex). x.0) c.live_index-index.ensures, c.requires.2 e)) (receive_room c.args.w.now c.requires.0 c.args.i c.requires.1 stores c.args.carried _ _ is _ own row) _ c.requires.3 in record { w_len = z.0; from_bound = z.1.0; i_len_bound = z.1.1 }

pub shape_of-w : goal.shape_of-w
shape_of-w c =
    c.settle-gone.auto.w ∙ c.take_vector-rose.auto.w

pub shape_of-deleted : goal.shape_of-deleted
shape_of-deleted c =
    c.settle-gone.auto.deleted

pub returns : goal.returns
returns c =
    let w = c.args.w.now in let i = c.args.i in let stores = c.args.stores in let vector = c.vector_at-vector.ensures in let is = c.live_index-index.ensures ∙ ap (λ (v : List Interval). live_index_of (entry v i)) vector in let own = c.own_pin.ensures ∙ ap (λ (l : List ℕ). pick stores (c.live_index-index.result.0 + 1) (get_or l i 0)) c.row_at-old.ensures in let rose = c.take_vector-rose.ensures.value ∙ ap (λ (v : List Interval). risen (vector_first stores i v) c.args.carried) vector in let row = c.taken_pins-pins.ensures ∙ (λ j. moved_row (risen_or_own (rose j) i) (c.row_at-old.ensures j) c.own_pin.result) in let put = c.take_vector-rose.ensures.w_after in let t = c.settle-gone in let fresh = ap (λ (v : List Interval). taken_vector (vector_first stores i v) c.args.carried) vector in let d = done w c.requires.0 i c.requires.1 stores c.args.carried _ fresh _ put _ _ is _ own row _ vector _ _ _ _ t.ensures.value t.ensures.moves t.ensures.deleted_after in record { moves = d.0; rose_value = rose; deleted_after = d.1.0; gone_value = d.1.1 }
