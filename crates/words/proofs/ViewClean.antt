-- What keeps unused places zero: for each of the three changes, what has to be shown of the places that it touches.
-- Assumes nothing.
use Rattle.std.specs.Prelude.{◌≡◌, ◌+◌, ◌≤◌, ◌<◌}
use Rattle.laws.specs.Basics.{sym, ◌∙◌, List, ℕ, arith, by_eq}
use Rattle.words.specs.Layout.{word, count_of, end_of, kept_count_at_of, mark_at, blocks_at_of, part_at, index_at_of, cause_at_of, stored_at, low_at, high_at, sender_at_of, receiver_at_of, carried_at}
use Rattle.words.specs.{Parts.is_used_in, Frames.OnlyProcess, Frames.OnlyMessages, Frames.OnlyDisk, Clean.CleanKept, Clean.CleanMessages, Clean.Clean}
use Rattle.words.proofs.Frames.{process_head, process_blocks, process_kept_count, process_mark, process_part, process_message_words}
use Rattle.words.proofs.ViewChange.{message_words_same}

-- Words that agree on what a process keeps, or on the messages.
pub clean_kept_same : (w v : List ℕ) (p : ℕ) → word v (kept_count_at_of p) ≡ word w (kept_count_at_of p) → ((k : ℕ) → part_at p ≤ k → k < part_at p + 320 → word v k ≡ word w k) → CleanKept w p → CleanKept v p
clean_kept_same w v p kept_count_of_def same h = record {
  index = λ k le lt. same (index_at_of p k) (omega arith) (omega arith) ∙ h.index k (omega arith) lt;
  cause = λ k le lt. same (cause_at_of p k) (omega arith) (omega arith) ∙ h.cause k (omega arith) lt;
  vector = λ k f le lt less. same (stored_at p k + f) (omega arith) (omega arith) ∙ h.vector k f (omega arith) lt less;
}

module _ (w v : List ℕ) (end : end_of v ≡ end_of w) (same : (k : ℕ) → 5184 ≤ k → word v k ≡ word w k) where
  used_same : (k : ℕ) → is_used_in v k ≡ is_used_in w k
  unfolding is_used_in
  used_same k = rw (end, message_words_same w v end same k)

  pub clean_messages_same : CleanMessages w → CleanMessages v
  clean_messages_same h = record {
    low = λ k lt e. same (low_at k) (omega arith) ∙ h.low k lt (sym (used_same k) ∙ e);
    high = λ k lt e. same (high_at k) (omega arith) ∙ h.high k lt (sym (used_same k) ∙ e);
    sender = λ k lt e. same (sender_at_of k) (omega arith) ∙ h.sender k lt (sym (used_same k) ∙ e);
    receiver = λ k lt e. same (receiver_at_of k) (omega arith) ∙ h.receiver k lt (sym (used_same k) ∙ e);
    vector = λ k f lt less e. same (carried_at k + f) (omega arith) ∙ h.vector k f lt less (sym (used_same k) ∙ e);
  }

-- A process below n has changed: the places after what it keeps now are to be zero.
pub clean_process : (w v : List ℕ) (p : ℕ) → p < count_of w → count_of w ≤ 16 → OnlyProcess w v p → CleanKept v p → Clean w → Clean v
clean_process w v p below few only kept h =
    let room : p < 16 = omega arith in
    let count : count_of v ≡ count_of w = process_head w v p only 0 (omega arith) in
    record {
      spare = λ k low lt. process_head w v p only k lt ∙ h.spare k low lt;
      kept_count = λ q le lt. process_kept_count w v p only q room lt (λ e. omega arith) ∙ h.kept_count q (omega arith) lt;
      mark = λ q le lt. process_mark w v p only q room lt (λ e. omega arith) ∙ h.mark q (omega arith) lt;
      blocks = λ q le lt. process_blocks w v p only q room lt ∙ h.blocks q (omega arith) lt;
      part = λ q k le lt less. process_part w v p only q room lt (λ e. omega arith) (part_at q + k) (omega arith) (omega arith) ∙ h.part q k (omega arith) lt less;
      kept = λ q lt. by_eq q p
          (λ e. rw e kept)
          (λ ne. clean_kept_same w v q (process_kept_count w v p only q room (omega arith) ne) (process_part w v p only q room (omega arith) ne) (h.kept q (omega arith)));
      messages = clean_messages_same w v (process_head w v p only 12 (omega arith)) (process_message_words w v p only room) h.messages;
    }

-- The messages have changed: the places that are not in use now are to be zero.
pub clean_messages : (w v : List ℕ) → count_of w ≤ 16 → OnlyMessages w v → CleanMessages v → Clean w → Clean v
clean_messages w v few only message_words h =
    let count : count_of v ≡ count_of w = only.count in
    record {
      spare = λ k low lt. only.rest k low (omega arith) ∙ h.spare k low lt;
      kept_count = λ q le lt. only.rest (kept_count_at_of q) (omega arith) (omega arith) ∙ h.kept_count q (omega arith) lt;
      mark = λ q le lt. only.rest (mark_at q) (omega arith) (omega arith) ∙ h.mark q (omega arith) lt;
      blocks = λ q le lt. only.rest (blocks_at_of q) (omega arith) (omega arith) ∙ h.blocks q (omega arith) lt;
      part = λ q k le lt less. only.rest (part_at q + k) (omega arith) (omega arith) ∙ h.part q k (omega arith) lt less;
      kept = λ q lt. clean_kept_same w v q (only.rest (kept_count_at_of q) (omega arith) (omega arith)) (λ k low under. only.rest k (omega arith) (omega arith)) (h.kept q (omega arith));
      messages = message_words;
    }

-- The blocks written and deleted have changed.
pub clean_disk : (w v : List ℕ) → OnlyDisk w v → Clean w → Clean v
clean_disk w v only h =
    let count : count_of v ≡ count_of w = only.front 0 (omega arith) in
    record {
      spare = λ k low lt. only.rest k (omega arith) ∙ h.spare k low lt;
      kept_count = λ q le lt. only.rest (kept_count_at_of q) (omega arith) ∙ h.kept_count q (omega arith) lt;
      mark = λ q le lt. only.rest (mark_at q) (omega arith) ∙ h.mark q (omega arith) lt;
      blocks = λ q le lt. only.rest (blocks_at_of q) (omega arith) ∙ h.blocks q (omega arith) lt;
      part = λ q k le lt less. only.rest (part_at q + k) (omega arith) ∙ h.part q k (omega arith) lt less;
      kept = λ q lt. clean_kept_same w v q (only.rest (kept_count_at_of q) (omega arith)) (λ k low under. only.rest k (omega arith)) (h.kept q (omega arith));
      messages = clean_messages_same w v (only.rest 12 (omega arith)) (λ k low. only.rest k (omega arith)) h.messages;
    }
