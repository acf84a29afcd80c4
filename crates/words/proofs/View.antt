-- What the run that words stand for holds: its count, each process's part, own entries, the messages under way; and the sizes of its parts.
-- Assumes nothing.
use Rattle.std.specs.Prelude.{◌≡◌, ◌++◌, ◌+◌, ◌-◌, ◌≤◌, ◌<◌}
use Rattle.laws.specs.Basics.{sym, ◌∙◌, ap, true, false, List, [], ℕ, arith, eqb, ltb, leb, length, get_or, take, replicate, get_or-replicate, length-take-le, eq-eqb, ne_eqb, eqb-true, lt-ltb, le-ltb, leb-true, pick, by_bool}
use lib.ListN.{get_or-append}
use lib.Seq.{get_or-take, get_or-append-add, ext_get_or}
use Rattle.laws.specs.{Lists.table, Lists.placed, Prefixes.placed_length, Rows.by_lt, Select.select_length, Truth.and_out}
use Rattle.laws.specs.Tables.{length_table, get_d_table, table_is, take_placed}
use Rattle.model.specs.declared.Run.{Run}
use Rattle.model.specs.Words.{most_processes, most_under_way, zero_vector, no_pins_of, no_checkpoint, no_message, blank, process, own, under_way}
use Rattle.words.specs.Layout.{state_size, word, wide2, wide4, count_of, end_of, kept_count_at_of, index_at_of, part_at, pins_at_of, interval_of, vector_in, pins_in, mark_in, checkpoint_in, is_kept_in, kept_in, message_in, is_message, messages_in, of_processes, decoded, end_fits_of, fits, run_of}
use Rattle.words.specs.Parts.{process_in}
use Rattle.words.proofs.Same.{vector_word}

-- Words that fit are decoded, all others are a state of zeros.
pub run_fits : (w : List ℕ) → fits w ≡ true → run_of w ≡ decoded w
unfolding run_of
run_fits w e = rw e

pub run_unfit : (w : List ℕ) → fits w ≡ false → run_of w ≡ blank 0
unfolding run_of
run_unfit w e = rw e

pub fits_size : (w : List ℕ) → fits w ≡ true → length w ≡ 6464
unfolding fits
fits_size w e = eqb-true (length w) state_size (and_out (eqb (length w) state_size) (end_fits_of w) e).0

pub fits_end : (w : List ℕ) → fits w ≡ true → end_fits_of w ≡ true
unfolding fits
fits_end w e = (and_out (eqb (length w) state_size) (end_fits_of w) e).1

pub fits_by : (w : List ℕ) → length w ≡ 6464 → end_fits_of w ≡ true → fits w ≡ true
unfolding fits
fits_by w a b = rw (eq-eqb (length w) state_size a, b)

pub end_most : (w : List ℕ) → end_fits_of w ≡ true → end_of w ≤ 64
unfolding end_fits_of
end_most w e = leb-true (end_of w) 64 (and_out (leb (end_of w) 64) _ e).0

-- One of the parts of processes, of a process below n and of another.
pub part_is : {A : Type 0} (w : List ℕ) (part : ℕ → A) (unused d : A) (p : ℕ) → p < count_of w → p < 16 → get_or (of_processes w part unused) p d ≡ part p
part_is w part unused d p lt room = get_d_table 16 (λ q. pick (ltb q (count_of w)) (part q) unused) p d room ∙ rw (lt-ltb p (count_of w) lt)

pub part_past : {A : Type 0} (w : List ℕ) (part : ℕ → A) (unused d : A) (p : ℕ) → count_of w ≤ p → p < 16 → get_or (of_processes w part unused) p d ≡ unused
part_past w part unused d p le room = get_d_table 16 (λ q. pick (ltb q (count_of w)) (part q) unused) p d room ∙ rw (le-ltb p (count_of w) le)

-- Kept checkpoints: 16 places, unused from `kept_count_of_def` on; where every index below `kept_count_of_def` is there, they are the checkpoints in their places.
pub kept_length : (w : List ℕ) (p : ℕ) → length (kept_in w p) ≡ 16
unfolding kept_in
kept_length w p = length_table 16 _

pub kept_past : (w : List ℕ) (p k : ℕ) → word w (kept_count_at_of p) ≤ k → k < 16 → get_or (kept_in w p) k no_checkpoint ≡ no_checkpoint
unfolding kept_in is_kept_in
kept_past w p k le lt = get_d_table 16 _ k no_checkpoint lt ∙ rw (le-ltb k (word w (kept_count_at_of p)) le)

pub kept_at : (w : List ℕ) (p k : ℕ) → k < word w (kept_count_at_of p) → 1 ≤ word w (index_at_of p k) → k < 16 → get_or (kept_in w p) k no_checkpoint ≡ checkpoint_in w p k
unfolding kept_in is_kept_in
kept_at w p k lt some room = get_d_table 16 _ k no_checkpoint room ∙ rw (lt-ltb k (word w (kept_count_at_of p)) lt, ne_eqb (word w (index_at_of p k)) 0 (λ e. omega arith))

pub kept_none : (w : List ℕ) (p k : ℕ) → word w (index_at_of p k) ≡ 0 → k < 16 → get_or (kept_in w p) k no_checkpoint ≡ no_checkpoint
unfolding kept_in is_kept_in
kept_none w p k none room = get_d_table 16 _ k no_checkpoint room ∙ by_bool (ltb k (word w (kept_count_at_of p))) (λ e. rw (e, none)) (λ e. rw e)

-- A list laid into a table of fixed size: its entries, and those past it. A table that holds nothing from a place on is its front, laid into a table.
module _ {A : Type 0} (n : ℕ) (d : A) where
  pub placed_at : (l : List A) (k : ℕ) → k < length l → get_or (placed n d l) k d ≡ get_or l k d
  unfolding placed
  placed_at l k lt = get_or-append l _ d k lt

  pub placed_past : (l : List A) (k : ℕ) → length l ≤ k → k < n → get_or (placed n d l) k d ≡ d
  unfolding placed
  placed_past l k le lt =
      let e : k ≡ length l + (k - length l) = omega arith in
      ap (λ (q : ℕ). get_or (l ++ replicate (n - length l) d) q d) e
      ∙ get_or-append-add l (replicate (n - length l) d) (k - length l) d
      ∙ get_or-replicate (n - length l) (k - length l) d d (omega arith)

  placed_front : (l : List A) (h : ℕ) → length l ≡ n → h ≤ n → ((k : ℕ) → h ≤ k → k < n → get_or l k d ≡ d) → placed n d (take h l) ≡ l
  placed_front l h long le past =
      let front : length (take h l) ≡ h = length-take-le h l (omega arith) in
      let whole : length (placed n d (take h l)) ≡ n = placed_length n d (take h l) (omega arith) in
      ext_get_or d (placed n d (take h l)) l (whole ∙ sym long)
      (λ k lt. by_lt k h
      (λ less. placed_at (take h l) k (omega arith) ∙ get_or-take h l k d less)
      (λ more. placed_past (take h l) k (omega arith) (omega arith) ∙ sym (past k more (omega arith))))

module _ (w : List ℕ) (p : ℕ) (most : word w (kept_count_at_of p) ≤ 16) where
  pub kept_placed : placed most_processes no_checkpoint (process_in w p).kept ≡ kept_in w p
  unfolding process_in
  kept_placed = placed_front 16 no_checkpoint (kept_in w p) (word w (kept_count_at_of p)) (kept_length w p) most (kept_past w p)

  pub kept_count_lem : length (process_in w p).kept ≡ word w (kept_count_at_of p)
  unfolding process_in
  kept_count_lem = length-take-le (word w (kept_count_at_of p)) (kept_in w p) (omega (arith, kept_length w p))

  pub kept_table : ((k : ℕ) → k < word w (kept_count_at_of p) → 1 ≤ word w (index_at_of p k)) → (process_in w p).kept ≡ table (word w (kept_count_at_of p)) (checkpoint_in w p)
  unfolding process_in
  kept_table some = table_is no_checkpoint (take (word w (kept_count_at_of p)) (kept_in w p)) (word w (kept_count_at_of p)) (checkpoint_in w p) kept_count_lem
      (λ k lt. get_or-take (word w (kept_count_at_of p)) (kept_in w p) k no_checkpoint lt ∙ kept_at w p k lt (some k lt) (omega arith))

-- The parts of the run.
module _ (w : List ℕ) (fit : fits w ≡ true) where
  pub count_is_lem : (run_of w).count ≡ count_of w
  unfolding decoded
  count_is_lem = ap (λ (r : Run). r.count) (run_fits w fit)

  pub underway_is : (run_of w).underway ≡ word w 1
  unfolding decoded
  underway_is = ap (λ (r : Run). r.underway) (run_fits w fit)

  pub last_is_lem : (run_of w).last ≡ wide2 w 2
  unfolding decoded
  last_is_lem = ap (λ (r : Run). r.last) (run_fits w fit)

  pub written_is : (run_of w).disk.written ≡ wide4 w 4
  unfolding decoded
  written_is = ap (λ (r : Run). r.disk.written) (run_fits w fit)

  pub deleted_is : (run_of w).disk.deleted ≡ wide4 w 8
  unfolding decoded
  deleted_is = ap (λ (r : Run). r.disk.deleted) (run_fits w fit)

  pub messages_is : (run_of w).messages ≡ placed most_under_way no_message (messages_in w)
  unfolding decoded
  messages_is = ap (λ (r : Run). r.messages) (run_fits w fit)

  pub messages_most : length (messages_in w) ≤ 64
  unfolding messages_in
  messages_most = omega (arith, select_length is_message (table (end_of w) (message_in w)), length_table (end_of w) (message_in w), end_most w (fits_end w fit))

  -- where word 1 says how many are under way
  pub under_way_is : word w 1 ≡ length (messages_in w) → under_way (run_of w) ≡ messages_in w
  unfolding under_way
  under_way_is e = rw (underway_is, messages_is, e) (take_placed most_under_way no_message (messages_in w))

  module _ (p : ℕ) (lt : p < count_of w) (few : count_of w ≤ 16) where
    pub kept_count_is : get_or (run_of w).kept_count p 0 ≡ word w (kept_count_at_of p)
    unfolding decoded
    kept_count_is = ap (λ (r : Run). get_or r.kept_count p 0) (run_fits w fit) ∙ part_is w (λ q. word w (kept_count_at_of q)) 0 0 p lt (omega arith)

    pub row_is : get_or (run_of w).kept.0 p [] ≡ kept_in w p
    unfolding decoded
    row_is = ap (λ (r : Run). get_or r.kept.0 p []) (run_fits w fit) ∙ part_is w (kept_in w) (replicate most_processes no_checkpoint) [] p lt (omega arith)

    pub process_is : process (run_of w) p ≡ process_in w p
    unfolding process process_in decoded
    process_is =
        let room : p < 16 = omega arith in
        rw (run_fits w fit)
        (rw (
          part_is w (λ q. vector_in w (part_at q)) zero_vector [] p lt room,
          part_is w (λ q. pins_in w (pins_at_of q)) no_pins_of [] p lt room,
          part_is w (mark_in w) false false p lt room,
          part_is w (λ q. word w (kept_count_at_of q)) 0 0 p lt room,
          part_is w (kept_in w) (replicate most_processes no_checkpoint) [] p lt room,
        ))

    pub own_is : own (run_of w) p ≡ interval_of (word w (part_at p + p))
    unfolding own process_in
    own_is = rw process_is (vector_word w (part_at p) p (omega arith))
