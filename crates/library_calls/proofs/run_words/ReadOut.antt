-- What `read` returns, put together from its parts; and when words are readable.
-- Assumes nothing.
use Rattle.std.specs.Prelude.{◌≡◌, ◌≤◌, ◌<◌}
use Rattle.laws.specs.Basics.{sym, ◌∙◌, ap, Bool, true, false, List, [], ℕ, arith, get_or, replicate, pick, by_bool}
use Rattle.laws.specs.{Lists.placed, Tables.get_d_table}
use Rattle.model.specs.declared.{Checkpoint.Checkpoint, Message.Message, Disk.Disk, Vectors.Vectors, Pins.Pins, Kept.Kept, Run.Run}
use Rattle.model.specs.Words.{most_processes, most_under_way, zero_vector, no_pins_of, no_checkpoint, no_message, blank}
use Rattle.words.specs.Layout.{word, wide2, wide4, count_of, kept_count_at_of, part_at, pins_at_of, cause_at_of, vector_in, pins_in, mark_in, checkpoint_in, is_kept_in, kept_in, messages_in, of_processes, decoded, fits, run_of}
use Rattle.words.proofs.View.{run_fits, run_unfit, count_is_lem, row_is}
use Rattle.library_calls.specs.run_words.Readable.{Readable, after_messages}

pub read_ends : (w : List ℕ) → Readable w → (vectors : Vectors) (pins : Pins) (sent : List Bool) (kept : Kept) (kept_count_of_def : List ℕ) (messages : List Message) (last : ℕ) (disk : Disk) (n many : ℕ)
    → vectors ≡ record { 0 = of_processes w (λ p. vector_in w (part_at p)) zero_vector } → pins ≡ record { 0 = of_processes w (λ p. pins_in w (pins_at_of p)) no_pins_of }
    → sent ≡ of_processes w (mark_in w) false → kept ≡ record { 0 = of_processes w (kept_in w) (replicate most_processes no_checkpoint) }
    → kept_count_of_def ≡ of_processes w (λ p. word w (kept_count_at_of p)) 0 → messages ≡ placed most_under_way no_message (messages_in w) → last ≡ wide2 w 2 → disk ≡ record { written = wide4 w 4; deleted = wide4 w 8 }
    → n ≡ word w 0 → many ≡ word w 1
    → record { count = n; vectors = vectors; pins = pins; sent = sent; kept = kept; kept_count = kept_count_of_def; messages = messages; underway = many; last = last; disk = disk } ≡ run_of w
unfolding decoded
read_ends w r vectors pins sent kept kept_count_of_def messages last disk n many a b c d e f g h i j = rw (a, b, c, d, e, f, g, h, i, j) (sym (run_fits w r.fit))

-- The same after a send or a loss, where the rest comes from the state before.
module _ (w : List ℕ) (s : Run) (r : Readable w) where
  pub count_same : run_of w ≡ after_messages s (run_of w) → s.count ≡ count_of w
  unfolding after_messages
  count_same same = sym (ap (λ (x : Run). x.count) same) ∙ count_is_lem w r.fit

  pub messages_ends : run_of w ≡ after_messages s (run_of w) → (sent : List Bool) (messages : List Message) (last many : ℕ)
      → sent ≡ of_processes w (mark_in w) false → messages ≡ placed most_under_way no_message (messages_in w) → last ≡ wide2 w 2 → many ≡ word w 1
      → record { count = s.count; vectors = s.vectors; pins = s.pins; sent = sent; kept = s.kept; kept_count = s.kept_count; messages = messages; underway = many; last = last; disk = s.disk } ≡ run_of w
  unfolding decoded after_messages
  messages_ends same sent messages last many a b c d = rw (a, b, c, d) (sym (same ∙ ap (after_messages s) (run_fits w r.fit)))

-- Words are readable whose state has 1 to 16 processes and causes of 8 bits.
module _ (w : List ℕ) (s : Run) (is : run_of w ≡ s) (some : 1 ≤ s.count) (few : s.count ≤ 16)
    (causes : (p k : ℕ) → p < s.count → k < 16 → (get_or (get_or s.kept.0 p []) k no_checkpoint).cause < 256) where
  fit : fits w ≡ true
  unfolding blank
  fit = by_bool (fits w) (λ e. e) (λ e. absurd (let z : 0 ≡ s.count = ap (λ (r : Run). r.count) (sym (run_unfit w e) ∙ is) in omega arith))

  count : count_of w ≡ s.count
  count = sym (count_is_lem w fit) ∙ ap (λ (r : Run). r.count) is

  here : (p k : ℕ) → p < count_of w → k < 16 → is_kept_in w p k ≡ true → checkpoint_in w p k ≡ get_or (get_or s.kept.0 p []) k no_checkpoint
  unfolding kept_in
  here p k lt less used =
      sym (get_d_table 16 (λ j. pick (is_kept_in w p j) (checkpoint_in w p j) no_checkpoint) k no_checkpoint less ∙ ap (λ (b : Bool). pick b (checkpoint_in w p k) no_checkpoint) used)
      ∙ ap (λ (r : List Checkpoint). get_or r k no_checkpoint) (sym (row_is w fit p lt (omega (arith, count))))
      ∙ ap (λ (r : Run). get_or (get_or r.kept.0 p []) k no_checkpoint) is

  pub readable : Readable w
  unfolding checkpoint_in
  readable = record {
    fit = fit;
    few = omega (arith, count);
    causes = λ p k lt less used.
        let e : word w (cause_at_of p k) ≡ (get_or (get_or s.kept.0 p []) k no_checkpoint).cause = ap (λ (c : Checkpoint). c.cause) (here p k lt less used) in
        omega (arith, causes p k (omega (arith, count)) less);
  }
