-- Which calls are accepted: for each call, its refusal is none exactly if every test of the table fails, said as facts about the arguments and the state.
-- And what a failed set is that no number of the table refuses.
-- Assumes nothing.
use Rattle.std.specs.Prelude.{◌≡◌, ◌||◌, ◌+◌, ◌*◌, ◌^◌, ◌≤◌, ◌<◌}
use Rattle.laws.specs.Basics.{refl, Bool, true, false, not, List, Option, None, Some, ℕ, leb, length, get_or, ne_eqb, eqb-false, le-ltb, ltb-false, le-leb, lt-leb, leb-true, leb-false, not-false, by_bool}
use Rattle.laws.specs.{Search.any_below, Search.any_out, Search.any_none, Truth.never_both, Truth.and_left, Truth.and_right, Truth.and_both, Truth.or_none}
use Rattle.model.specs.declared.{Message.Message, Run.Run}
use Rattle.model.specs.Words.{most_processes, most_under_way, most_messages, most_interval, most_blocks, block_count, process, own}
use Rattle.model.specs.{Steps.found, Steps.forces, Sound.is_block_count_of, Sound.sound, laws.Refusals.refusal_in, laws.Refusals.no_rule}
use Rattle.model.specs.Refusals.{start_refusal, short_deletions, short_line, absent, checkpoint_refusal, send_refusal, missing, forces_past, forces_over, deliver_refusal, lose_refusal, no_member_of, outside, line_refusal, recover_refusal}

-- Two tests that fail.
or_in : (a b : Bool) → a ≡ false → b ≡ false → (a || b) ≡ false
or_in a b p q = rw (p, q)

-- A test that holds.
not_in : (a : Bool) → a ≡ true → not a ≡ false
not_in a e = rw e

-- An accepted start has 1 to 16 processes and block counts in range.
pub start_out : (n : ℕ) (block_counts : List ℕ) → start_refusal n block_counts ≡ None → (1 ≤ n) × (n ≤ most_processes) × ((p : ℕ) → p < n → is_block_count_of (get_or block_counts p 0) ≡ true)
unfolding start_refusal
start_out n block_counts e =
    let fails = no_rule _ e in
    let h = not-false _ (fails 0) in (
      leb-true 1 n (and_left (leb 1 n) (leb n most_processes) h),
      leb-true n most_processes (and_right (leb 1 n) (leb n most_processes) h),
      λ p hp. not-false (is_block_count_of (get_or block_counts p 0)) (any_none n (λ p. not (is_block_count_of (get_or block_counts p 0))) (fails 1) p hp),
    )

-- A start with 1 to 16 processes and block counts in range is accepted.
pub start_in : (n : ℕ) (block_counts : List ℕ) → 1 ≤ n → n ≤ most_processes → ((p : ℕ) → p < n → is_block_count_of (get_or block_counts p 0) ≡ true) → start_refusal n block_counts ≡ None
unfolding start_refusal
start_in n block_counts a b fit = refusal_in _ None (
  not_in _ (and_both _ _ (le-leb 1 n a) (le-leb n most_processes b)),
  (
    by_bool (any_below n (λ p. not (is_block_count_of (get_or block_counts p 0))))
        (λ e. let w = any_out n (λ p. not (is_block_count_of (get_or block_counts p 0))) e in never_both (not (is_block_count_of (get_or block_counts w.0 0))) w.2 (not_in _ (fit w.0 w.1)))
        (λ e. e),
    tt,
  ),
)

-- A checkpoint that is accepted.
pub record CheckpointFine (s : Run) (i : ℕ) (deleted : List ℕ) : Type 0 where
  pub whole : sound s ≡ true
  pub room : 2 * s.count * s.count ≤ length deleted
  pub present : i < s.count
  pub early : (own s i).0 < most_interval
  pub blocks : s.disk.written + block_count (process s i) ≤ most_blocks

-- An accepted checkpoint is one of these,
pub checkpoint_out : (s : Run) (i : ℕ) (deleted : List ℕ) → checkpoint_refusal s i deleted ≡ None → CheckpointFine s i deleted
unfolding checkpoint_refusal
checkpoint_out s i deleted e =
    let fails = no_rule _ e in
    record { whole = not-false _ (fails 0); room = ltb-false _ _ (fails 1); present = leb-false _ _ (fails 2); early = leb-false _ _ (fails 3); blocks = ltb-false _ _ (fails 4) }

-- and each of these is accepted.
pub checkpoint_in : (s : Run) (i : ℕ) (deleted : List ℕ) → CheckpointFine s i deleted → checkpoint_refusal s i deleted ≡ None
unfolding checkpoint_refusal
checkpoint_in s i deleted h =
    refusal_in _ None (
      not_in _ h.whole,
      (
        le-ltb _ _ h.room,
        (
          lt-leb _ _ h.present,
          (lt-leb _ _ h.early, (le-ltb _ _ h.blocks, tt)),
        ),
      ),
    )

-- A send that is accepted.
pub record SendFine (s : Run) (i j : ℕ) : Type 0 where
  pub whole : sound s ≡ true
  pub from : i < s.count
  pub to : j < s.count
  pub apart : i ≡ j → ⊥
  pub room : s.underway < most_under_way
  pub numbers : s.last < most_messages

-- An accepted send is one of these,
pub send_out : (s : Run) (i j : ℕ) → send_refusal s i j ≡ None → SendFine s i j
unfolding send_refusal
send_out s i j e =
    let fails = no_rule _ e in
    let g = or_none (absent s i) (absent s j) (fails 1) in
    record {
      whole = not-false _ (fails 0);
      from = leb-false _ _ g.0;
      to = leb-false _ _ g.1;
      apart = eqb-false _ _ (fails 2);
      room = leb-false _ _ (fails 3);
      numbers = leb-false _ _ (fails 4);
    }

-- and each of these is accepted.
pub send_in : (s : Run) (i j : ℕ) → SendFine s i j → send_refusal s i j ≡ None
unfolding send_refusal
send_in s i j h =
    refusal_in _ None (
      not_in _ h.whole,
      (
        or_in (absent s i) (absent s j) (lt-leb _ _ h.from) (lt-leb _ _ h.to),
        (
          ne_eqb i j h.apart,
          (
            lt-leb _ _ h.room,
            (lt-leb _ _ h.numbers, tt),
          ),
        ),
      ),
    )

-- A message that is not missing is there.
there : (o : Option Message) → missing o ≡ false → (x : Message) × (o ≡ Some x)
there None e = never_both true refl e
there (Some x) e = (x, refl)

-- A delivery that is accepted.
pub record DeliverFine (s : Run) (m : ℕ) (deleted : List ℕ) : Type 0 where
  pub whole : sound s ≡ true
  pub room : 2 * s.count * s.count ≤ length deleted
  pub message : Message
  pub here : found s m ≡ Some message
  pub early : forces (process s message.receiver) message.vector ≡ true → (own s message.receiver).0 < most_interval
  pub blocks : forces (process s message.receiver) message.vector ≡ true → s.disk.written + block_count (process s message.receiver) ≤ most_blocks

-- A delivery that forces no checkpoint past the last interval: if it forces one, the own entry has room,
early_out : (s : Run) (o : Option Message) (x : Message) → forces_past s o ≡ false → o ≡ Some x → forces (process s x.receiver) x.vector ≡ true → (own s x.receiver).0 < most_interval
unfolding forces_past
early_out s o x e d q = let z = rw d at e in leb-false _ _ (rw q at z)

-- and the other way round.
early_in : (s : Run) (o : Option Message) (x : Message) → o ≡ Some x → (forces (process s x.receiver) x.vector ≡ true → (own s x.receiver).0 < most_interval) → forces_past s o ≡ false
unfolding forces_past
early_in s o x d h = rw d (by_bool (forces (process s x.receiver) x.vector)
    (λ q. rw q (lt-leb _ _ (h q)))
    (λ q. rw q))

-- The same of the blocks.
over_out : (s : Run) (o : Option Message) (x : Message) → forces_over s o ≡ false → o ≡ Some x → forces (process s x.receiver) x.vector ≡ true
    → s.disk.written + block_count (process s x.receiver) ≤ most_blocks
unfolding forces_over
over_out s o x e d q = let z = rw d at e in ltb-false _ _ (rw q at z)

over_in : (s : Run) (o : Option Message) (x : Message) → o ≡ Some x
    → (forces (process s x.receiver) x.vector ≡ true → s.disk.written + block_count (process s x.receiver) ≤ most_blocks) → forces_over s o ≡ false
unfolding forces_over
over_in s o x d h = rw d (by_bool (forces (process s x.receiver) x.vector)
    (λ q. rw q (le-ltb _ _ (h q)))
    (λ q. rw q))

-- An accepted delivery is one of these,
pub deliver_out : (s : Run) (m : ℕ) (deleted : List ℕ) → deliver_refusal s m deleted ≡ None → DeliverFine s m deleted
unfolding deliver_refusal
deliver_out s m deleted e =
    let fails = no_rule _ e in
    let w = there (found s m) (fails 2) in
    record {
      whole = not-false _ (fails 0);
      room = ltb-false _ _ (fails 1);
      message = w.0;
      here = w.1;
      early = early_out s (found s m) w.0 (fails 3) w.1;
      blocks = over_out s (found s m) w.0 (fails 4) w.1;
    }

-- and each of these is accepted.
pub deliver_in : (s : Run) (m : ℕ) (deleted : List ℕ) → DeliverFine s m deleted → deliver_refusal s m deleted ≡ None
unfolding deliver_refusal
deliver_in s m deleted h =
    refusal_in _ None (
      not_in _ h.whole,
      (
        le-ltb _ _ h.room,
        (
          rw h.here,
          (
            early_in s (found s m) h.message h.here h.early,
            (over_in s (found s m) h.message h.here h.blocks, tt),
          ),
        ),
      ),
    )

-- A loss that is accepted.
pub record LoseFine (s : Run) (m : ℕ) : Type 0 where
  pub whole : sound s ≡ true
  pub message : Message
  pub here : found s m ≡ Some message

-- An accepted loss is one of these,
pub lose_out : (s : Run) (m : ℕ) → lose_refusal s m ≡ None → LoseFine s m
unfolding lose_refusal
lose_out s m e =
    let fails = no_rule _ e in
    let w = there (found s m) (fails 1) in
    record { whole = not-false _ (fails 0); message = w.0; here = w.1 }

-- and each of these is accepted.
pub lose_in : (s : Run) (m : ℕ) → LoseFine s m → lose_refusal s m ≡ None
unfolding lose_refusal
lose_in s m h = refusal_in _ None (not_in _ h.whole, (rw h.here, tt))

-- A failed set that has no bit at n or above; it may be empty.
abbrev pub SetFine : ℕ → ℕ → Type 0
SetFine n F = F < 2 ^ n

pub set_inside : (s : Run) (F : ℕ) → SetFine s.count F → outside s F ≡ false
set_inside s F h = lt-leb _ _ h

-- A line call that is accepted.
pub record LineFine (s : Run) (F : ℕ) (line : List ℕ) : Type 0 where
  pub whole : sound s ≡ true
  pub room : s.count ≤ length line
  pub set : SetFine s.count F
  pub members : no_member_of s F ≡ false

-- An accepted line call is one of these,
pub line_out : (s : Run) (F : ℕ) (line : List ℕ) → line_refusal s F line ≡ None → LineFine s F line
unfolding line_refusal
line_out s F line e =
    let fails = no_rule _ e in
    record { whole = not-false _ (fails 0); room = ltb-false _ _ (fails 1); set = leb-false _ _ (fails 2); members = fails 3 }

-- and each of these is accepted.
pub line_in : (s : Run) (F : ℕ) (line : List ℕ) → LineFine s F line → line_refusal s F line ≡ None
unfolding line_refusal
line_in s F line h =
    refusal_in _ None (
      not_in _ h.whole,
      (
        le-ltb _ _ h.room,
        (
          set_inside s F h.set,
          (h.members, tt),
        ),
      ),
    )

-- A recover call that is accepted.
pub record RecoverFine (s : Run) (F : ℕ) (deleted line : List ℕ) : Type 0 where
  pub whole : sound s ≡ true
  pub room : 2 * s.count * s.count ≤ length deleted
  pub line_room : s.count ≤ length line
  pub set : SetFine s.count F
  pub members : no_member_of s F ≡ false

-- An accepted recovery is one of these,
pub recover_out : (s : Run) (F : ℕ) (deleted line : List ℕ) → recover_refusal s F deleted line ≡ None → RecoverFine s F deleted line
unfolding recover_refusal
recover_out s F deleted line e =
    let fails = no_rule _ e in
    let g = or_none (short_deletions s deleted) (short_line s line) (fails 1) in
    record {
      whole = not-false _ (fails 0);
      room = ltb-false _ _ g.0;
      line_room = ltb-false _ _ g.1;
      set = leb-false _ _ (fails 2);
      members = fails 3;
    }

-- and each of these is accepted.
pub recover_in : (s : Run) (F : ℕ) (deleted line : List ℕ) → RecoverFine s F deleted line → recover_refusal s F deleted line ≡ None
unfolding recover_refusal
recover_in s F deleted line h =
    refusal_in _ None (
      not_in _ h.whole,
      (
        or_in (short_deletions s deleted) (short_line s line) (le-ltb _ _ h.room) (le-ltb _ _ h.line_room),
        (
          set_inside s F h.set,
          (h.members, tt),
        ),
      ),
    )
