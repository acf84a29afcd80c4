-- A loss keeps the invariant: fewer messages are under way, and nothing else changes.
use Rattle.std.specs.Prelude.{◌≡◌}
use Rattle.laws.specs.Basics.{refl, sym, ◌∙◌, true, false, ℕ, by_eq}
use Rattle.laws.specs.{Truth.never_both, Update.upds}
use Rattle.histories.proofs.{Run.Ideal, Run.lost, Run.keeps, Invariant.Inv}

module _ (r : Ideal) (m : ℕ) where
  -- Views of the loss: all that is not listed is as before by definition.
  pub lost_this : (lost r m).transit m ≡ false
  unfolding lost
  lost_this = simp upds

  -- Other messages are under way as they were.
  pub lost_others : (x : ℕ) → (x ≡ m → ⊥) → (lost r m).transit x ≡ r.transit x
  unfolding lost
  lost_others x ne = simp upds

  -- As many processes.
  pub lost_n : (lost r m).n ≡ r.n
  unfolding lost
  lost_n = refl

  -- Own entries stay.
  pub lost_own : (p : ℕ) → (lost r m).own p ≡ r.own p
  unfolding lost
  lost_own p = refl

  -- All vectors stay.
  pub lost_vector : (p k f : ℕ) → (lost r m).vector p k f ≡ r.vector p k f
  unfolding lost
  lost_vector p k f = refl

  -- Marks stay.
  pub lost_mark : (p : ℕ) → (lost r m).mark p ≡ r.mark p
  unfolding lost
  lost_mark p = refl

  -- Pins stay.
  pub lost_pin : (p f : ℕ) → (lost r m).pin p f ≡ r.pin p f
  unfolding lost
  lost_pin p f = refl

  -- The last used number stays.
  pub lost_last : (lost r m).last ≡ r.last
  unfolding lost
  lost_last = refl

  -- The same checkpoints are kept.
  pub lost_keeps : (p k : ℕ) → keeps (lost r m) p k ≡ keeps r p k
  unfolding lost keeps
  lost_keeps p k = refl

  -- What is under way now was under way before.
  was : (x : ℕ) → (lost r m).transit x ≡ true → r.transit x ≡ true
  was x e = by_eq x m
      (λ c. never_both ((lost r m).transit m) (rw c at e) lost_this)
      (λ ne. sym (lost_others x ne) ∙ e)

  -- A loss keeps the invariant.
  pub lost_inv : Inv r → Inv (lost r m)
  unfolding lost
  lost_inv v = record {
    counted = v.counted;
    positive = v.positive;
    self = v.self;
    blank = v.blank;
    rises = v.rises;
    present = v.present;
    knows = v.knows;
    proper = λ p g x s. let w = v.proper p g x s in (w.0, record { numbered = w.1.numbered; used = w.1.used; from = w.1.from; to = w.1.to; apart = w.1.apart });
    carries = v.carries;
    arrived = v.arrived;
    single = v.single;
    takes = v.takes;
    underway = λ x e. v.underway x (was x e);
    pending = λ x e. v.pending x (was x e);
    marked = v.marked;
    known = v.known;
    source = v.source;
    learnt = v.learnt;
    pinned = v.pinned;
    pins = λ p f k hf e. let w = v.pins p f k hf e in record { below = w.below; less = w.less; next = w.next };
  }
