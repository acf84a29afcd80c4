-- A sub-run: a run without checkpoint g of process f and all that comes causally after it. A call at process b is in it exactly if b knows at most interval g of f after the
-- call, and then it does there what it does in the run: a process is whole in the sub-run as long as it knows at most g of f; f itself ends in interval g.
use Rattle.std.specs.Prelude.{◌≡◌, ◌≤◌, ◌<◌}
use Rattle.laws.specs.Basics.{refl, sym, ◌∙◌, ap, subst, true, List, ℕ, suc, arith, leb, leb-true, leb-false, by_bool, by_eq}
use Rattle.histories.proofs.Run.{Ideal, because, begin, begun, newer, checkpointed, sending, forces, delivered}
use Rattle.histories.proofs.{Invariant.Inv, Messages.underway_own, Delivered.delivered_inv, Sending.sending_n, Sending.sending_own}
use Rattle.histories.proofs.Local.{Local, local_of, got_at, forces_at, local_took_other, local_sent_other, local_got, local_got_other, forces_local}
use Rattle.histories.proofs.SubMessages.{SubMessages, Without, MessagesStay, messages_begin}
use Rattle.histories.proofs.CheckpointedViews.{checkpointed_n, checkpointed_own, checkpointed_row_own, checkpointed_row_other, checkpointed_row}
use Rattle.histories.proofs.DeliveredViews.{delivered_n, delivered_own_forced, delivered_own_plain, delivered_own_le, delivered_row, delivered_row_other}

-- What p knows of f.
abbrev pub known_of : Ideal → ℕ → ℕ → ℕ
known_of r p f = r.vector p (r.own p) f

-- A step from r to r₁ at process b: other parts stay, and b gets at most one checkpoint.
pub record StepAt (r r₁ : Ideal) (b : ℕ) : Type 0 where
  pub size : r₁.n ≡ r.n
  pub others : (p : ℕ) → (p ≡ b → ⊥) → local_of r₁ p ≡ local_of r p
  pub one : r₁.own b ≤ suc (r.own b)

-- What a part knows.
pub known_part : (r r₁ : Ideal) (p f : ℕ) → local_of r₁ p ≡ local_of r p → known_of r₁ p f ≡ known_of r p f
unfolding local_of
known_part r r₁ p f e = ap (λ (P : Local). P.vector P.own f) e

pub own_part : (r r₁ : Ideal) (p : ℕ) → local_of r₁ p ≡ local_of r p → r₁.own p ≡ r.own p
unfolding local_of
own_part r r₁ p e = ap (λ (P : Local). P.own) e

pub live_part : (r r₁ : Ideal) (p : ℕ) → local_of r₁ p ≡ local_of r p → r₁.vector p (r₁.own p) ≡ r.vector p (r.own p)
unfolding local_of
live_part r r₁ p e = ap (λ (P : Local). P.vector P.own) e

-- Note 5: r' has the block counts of r and has written no more, so it meets 16 only where r does.
pub record Cheaper (r r' : Ideal) : Type 0 where
  pub block_counts : r'.ledger.block_counts ≡ r.ledger.block_counts
  pub written : r'.ledger.written ≤ r.ledger.written

module _ (f g : ℕ) where
  -- r' is the sub-run of r.
  pub record SubRun (r r' : Ideal) : Type 0 where
    pub size : r'.n ≡ r.n
    pub messages : SubMessages f g r r'
    -- a process that knows at most g of f has the same part: states, vectors, mark and pins
    pub whole : (p : ℕ) → p < r.n → known_of r p f ≤ g → local_of r' p ≡ local_of r p
    -- f has stopped in interval g where the run goes on
    pub ended : g < r.own f → r'.own f ≡ g
    pub cheaper : Cheaper r r'

  -- At the start everything is there.
  pub subrun_begin : (n : ℕ) (block_counts : List ℕ) → 1 ≤ g → SubRun (begun n block_counts) (begun n block_counts)
  unfolding begin
  subrun_begin n block_counts pos = record {
    size = refl;
    messages = messages_begin f g (begun n block_counts) (λ m. refl);
    whole = λ p hp low. refl;
    ended = λ lt. absurd (omega arith);
    cheaper = record { block_counts = refl; written = omega arith };
  }

  -- A step at b that leaves it knowing at most g of f: the other run takes it too.
  pub subrun_kept : (r r₁ r' r₁' : Ideal) (b : ℕ) → f < r.n → Inv r₁ → SubRun r r' → StepAt r r₁ b → StepAt r' r₁' b → known_of r₁ b f ≤ g → local_of r₁' b ≡ local_of r₁ b → SubMessages f g r₁ r₁' → Cheaper r₁ r₁' → SubRun r₁ r₁'
  subrun_kept r r₁ r' r₁' b hf v₁ c s s' low same messages less = record {
    size = s'.size ∙ c.size ∙ sym s.size;
    messages = messages;
    whole = λ p hp known. by_eq p b
        (λ e. rw e same)
        (λ ne. s'.others p ne ∙ c.whole p (rw s.size at hp) (rw (← known_part r r₁ p f (s.others p ne)) known) ∙ sym (s.others p ne));
    ended = λ lt. by_eq f b
        (λ e. absurd (omega (arith, low, v₁.self f (r₁.own f) (omega arith), ap (λ (p : ℕ). known_of r₁ p f) e)))
        (λ ne. own_part r' r₁' f (s'.others f ne) ∙ c.ended (omega (arith, own_part r r₁ f (s.others f ne))));
    cheaper = less;
  }

  -- A step at b after which it knows more: the other run leaves it out.
  pub subrun_left : (r r₁ r' r₁' : Ideal) (b : ℕ) → f < r.n → Inv r → SubRun r r' → StepAt r r₁ b → ((p : ℕ) → local_of r₁' p ≡ local_of r' p) → r₁'.n ≡ r'.n → g < known_of r₁ b f → SubMessages f g r₁ r₁' → Cheaper r₁ r₁' → SubRun r₁ r₁'
  subrun_left r r₁ r' r₁' b hf v c s same size high messages less = record {
    size = size ∙ c.size ∙ sym s.size;
    messages = messages;
    whole = λ p hp known. by_eq p b
        (λ e. absurd (omega (arith, known, high, ap (λ (q : ℕ). known_of r₁ q f) e)))
        (λ ne. same p ∙ c.whole p (rw s.size at hp) (rw (← known_part r r₁ p f (s.others p ne)) known) ∙ sym (s.others p ne));
    ended = λ lt. own_part r' r₁' f (same f) ∙ by_bool (leb (r.own f) g)
        (λ e. let le : r.own f ≤ g = leb-true (r.own f) g e in
        own_part r r' f (c.whole f hf (omega (arith, v.self f (r.own f) (omega arith)))) ∙ at_end_lem lt le)
        (λ e. c.ended (leb-false (r.own f) g e));
    cheaper = less;
  }
    where
      at_end_lem : g < r₁.own f → r.own f ≤ g → r.own f ≡ g
      at_end_lem lt le = by_eq f b
          (λ e. omega (arith, s.one, ap r₁.own e, ap r.own e))
          (λ ne. absurd (omega (arith, own_part r r₁ f (s.others f ne))))

  -- A step that changes no process's part, in either run.
  pub subrun_messages : (r r₁ r' r₁' : Ideal) → SubRun r r' → r₁.n ≡ r.n → r₁'.n ≡ r'.n → ((p : ℕ) → local_of r₁ p ≡ local_of r p) → ((p : ℕ) → local_of r₁' p ≡ local_of r' p) → SubMessages f g r₁ r₁' → Cheaper r₁ r₁' → SubRun r₁ r₁'
  subrun_messages r r₁ r' r₁' c size size' same same' messages less = record {
    size = size' ∙ c.size ∙ sym size;
    messages = messages;
    whole = λ p hp known. same' p ∙ c.whole p (rw size at hp) (rw (← known_part r r₁ p f (same p)) known) ∙ sym (same p);
    ended = λ lt. own_part r' r₁' f (same' f) ∙ c.ended (omega (arith, own_part r r₁ f (same f)));
    cheaper = less;
  }

-- The steps at one process.
pub checkpointed_at : (r : Ideal) (i : ℕ) → StepAt r (checkpointed r i) i
checkpointed_at r i = record { size = checkpointed_n r i; others = local_took_other r i; one = omega (arith, checkpointed_own r i) }

pub sending_at : (r : Ideal) (i j : ℕ) → StepAt r (sending r i j) i
sending_at r i j = record { size = sending_n r i j; others = local_sent_other r i j; one = omega (arith, sending_own r i j i) }

pub delivered_at : (r : Ideal) (m : ℕ) → StepAt r (delivered r m) (r.receiver m)
delivered_at r m = record {
  size = delivered_n r m;
  others = local_got_other r m;
  one = by_bool (forces r m) (λ e. omega (arith, delivered_own_forced r m e)) (λ e. omega (arith, delivered_own_plain r m e (r.receiver m)));
}

-- The reason for the next checkpoint is in no process's part and in no message.
pub at_because : (r r₁ : Ideal) (why b : ℕ) → StepAt (because why r) r₁ b → StepAt r r₁ b
unfolding local_of
at_because r r₁ why b w = record { size = w.size; others = w.others; one = w.one }

pub without_because : (r r₁ : Ideal) (why m : ℕ) → Without (because why r) r₁ m → Without r r₁ m
without_because r r₁ why m w = record { transit = w.transit; carried = w.carried; sender = w.sender; receiver = w.receiver; last = w.last }

pub stay_because : (r r₁ : Ideal) (why : ℕ) → MessagesStay (because why r) r₁ → MessagesStay r r₁
stay_because r r₁ why w = record { transit = w.transit; carried = w.carried; sender = w.sender; receiver = w.receiver; last = w.last }

pub part_because : (r r' : Ideal) (why p : ℕ) → local_of r' p ≡ local_of r p → local_of (because why r') p ≡ local_of (because why r) p
unfolding local_of
part_because r r' why p e = e

pub forces_because : (r : Ideal) (why m : ℕ) → forces (because why r) m ≡ forces r m
unfolding forces newer
forces_because r why m = refl

-- A send changes no vector.
pub sending_row : (r : Ideal) (i j p f : ℕ) → known_of (sending r i j) p f ≡ known_of r p f
unfolding sending
sending_row r i j p f = refl

-- Two runs in which a process has the same part and receives the same vector: it has the same part after it, and a checkpoint is forced in both or in neither.
module _ (r r' : Ideal) (m k b : ℕ) (e : r.receiver m ≡ b) (e' : r'.receiver k ≡ b) (n : r'.n ≡ r.n) (c : r'.carried k ≡ r.carried m) (l : local_of r' b ≡ local_of r b) where
  pub got_same : local_of (delivered r' k) b ≡ local_of (delivered r m) b
  got_same =
      subst (λ (x : ℕ). local_of (delivered r' k) x ≡ got_at r'.n x (r'.carried k) (local_of r' x)) e' (local_got r' k)
      ∙ (λ j. got_at (n j) b (c j) (l j))
      ∙ sym (subst (λ (x : ℕ). local_of (delivered r m) x ≡ got_at r.n x (r.carried m) (local_of r x)) e (local_got r m))

  pub forces_same : forces r' k ≡ forces r m
  forces_same =
      subst (λ (x : ℕ). forces r' k ≡ forces_at r'.n (r'.carried k) (local_of r' x)) e' (forces_local r' k)
      ∙ (λ j. forces_at (n j) (c j) (l j))
      ∙ sym (subst (λ (x : ℕ). forces r m ≡ forces_at r.n (r.carried m) (local_of r x)) e (forces_local r m))

-- No entry of a live vector falls at a step, and a receipt takes what was carried.
module _ (r : Ideal) (v : Inv r) where
  pub checkpointed_rises : (i p f : ℕ) → known_of r p f ≤ known_of (checkpointed r i) p f
  checkpointed_rises i p f = by_eq p i
      (λ e. by_eq f i
      (λ d. rw (e, d) (omega (arith, checkpointed_row_own r i, v.self i (r.own i) (omega arith))))
      (λ nd. omega (arith, checkpointed_row r i p f nd)))
      (λ ne. omega (arith, checkpointed_row_other r i p f ne))

  module _ (m : ℕ) (under : r.transit m ≡ true) where
    own_entry : (delivered r m).vector (r.receiver m) ((delivered r m).own (r.receiver m)) (r.receiver m) ≡ (delivered r m).own (r.receiver m)
    own_entry = (delivered_inv r m v under).self (r.receiver m) ((delivered r m).own (r.receiver m)) (omega arith)

    pub delivered_rises : (p f : ℕ) → known_of r p f ≤ known_of (delivered r m) p f
    delivered_rises p f = by_eq p (r.receiver m)
        (λ e. rw e (by_eq f (r.receiver m)
        (λ d. rw d (omega (arith, own_entry, delivered_own_le r m (r.receiver m), v.self (r.receiver m) (r.own (r.receiver m)) (omega arith))))
        (λ nd. omega (arith, delivered_row r m f nd))))
        (λ ne. omega (arith, delivered_row_other r m p f ne))

    pub delivered_takes : (f : ℕ) → f < r.n → r.carried m f ≤ known_of (delivered r m) (r.receiver m) f
    delivered_takes f hf = by_eq f (r.receiver m)
        (λ d. rw d (omega (arith, own_entry, delivered_own_le r m (r.receiver m), underway_own r v m under, v.self (r.receiver m) (r.own (r.receiver m)) (omega arith))))
        (λ nd. omega (arith, delivered_row r m f nd))
