-- The surviving history, built from calls and answers alone, agrees with the run as functions: its lists, its sends, whom they named, and which
-- checkpoints it counts as kept; the block counts, the causes, the blocks written and deleted. Here: what agreement means, and that the checkpoints kept by the pairs handed out stay the pinned ones.
-- Assumes nothing.
use Rattle.std.specs.Prelude.{◌≡◌, ◌&&◌, ◌||◌, ◌+◌, ◌<◌}
use Rattle.laws.specs.Basics.{refl, sym, ◌∙◌, ap, Bool, true, false, not, ℕ, ltb, leb, lt-ltb, ltb-true, leb-true, leb-false}
use Rattle.histories.specs.History.{Lists, checkpoints}
use Rattle.whole_runs.specs.{Calls.Reply, Survival.Surviving, Survival.handed_out_of, Survival.kept_after}
use Rattle.histories.proofs.{Run.Ideal, Run.keeps, Invariant.Inv, Memory.Memory, Standing.Standing, Line.keeps_below, Keeping.Moved, Keeping.moved_new}
use Rattle.histories.proofs.Counted.{kept_in}

-- The history h tells of the run r what r itself holds.
pub record Agrees (h : Surviving) (r : Ideal) : Type 0 where
  pub lists : h.lists ≡ r.events
  pub sends : h.sends ≡ r.last
  pub receiver : h.receiver ≡ r.receiver
  pub underway : h.underway ≡ r.transit
  pub kept : (p k : ℕ) → p < r.n → h.kept p k ≡ keeps r p k
  pub block_counts : h.block_counts ≡ r.ledger.block_counts
  pub cause : h.cause ≡ r.ledger.cause
  pub written : h.written ≡ r.ledger.written
  -- what was written and is not kept was handed out
  pub deleted : h.deleted + kept_in r ≡ r.ledger.written

-- The checkpoints in the lists of the history are those that the run counts.
pub live_is : (h : Surviving) (r : Ideal) → Inv r → Agrees h r → (p : ℕ) → checkpoints (h.lists p) ≡ r.own p
live_is h r v g p = ap (λ (l : Lists). checkpoints (l p)) g.lists ∙ sym (v.counted p)

-- The history remembers the lists of the run when it last started or recovered, by which the pins of the run now stand.
pub record Restarted (h : Surviving) (r : Ideal) : Type 0 where
  pub earlier : Ideal
  pub inv : Inv earlier
  pub memory : Memory earlier
  pub events : h.restart ≡ earlier.events
  pub standing : Standing earlier r

-- The answer hands out exactly the checkpoints that were pinned and no longer are.
unfoldable pub HandsOut : Reply → Ideal → Ideal → Type 0
HandsOut a r r' = (p k : ℕ) → p < r.n → handed_out_of a p k ≡ (keeps r p k && not (keeps r' p k))

-- Being in the list now (a), pinned before (b), new (c), pinned now (d): what the history then says is d.
now_kept : (a b c d : Bool) → (d ≡ true → a ≡ true) → (d ≡ true → c ≡ false → b ≡ true) → (c ≡ true → a ≡ true → d ≡ true)
    → (a && (b || c) && not (b && not d)) ≡ d
now_kept a b true true h₁ h₂ h₃ = rw (h₁ refl) (shown b)
  where
    shown : (b : Bool) → (true && (b || true) && not (b && not true)) ≡ true
    shown true = refl
    shown false = refl
now_kept a b false true h₁ h₂ h₃ = rw (h₁ refl, h₂ refl refl)
now_kept a true c false h₁ h₂ h₃ = shown a c
  where
    shown : (a c : Bool) → (a && (true || c) && not (true && not false)) ≡ false
    shown true c = refl
    shown false c = refl
now_kept true false true false h₁ h₂ h₃ = sym (h₃ refl refl)
now_kept false false true false h₁ h₂ h₃ = refl
now_kept true false false false h₁ h₂ h₃ = refl
now_kept false false false false h₁ h₂ h₃ = refl

module _ (h : Surviving) (r r' : Ideal) (v : Inv r) (v' : Inv r') (g : Agrees h r) (c : Moved r r') (lists : Lists) (same : lists ≡ r'.events) (a : Reply) (out : HandsOut a r r') where
  -- A checkpoint kept by the pairs handed out is a pinned one, after the call too.
  pub kept_agrees : (p k : ℕ) → p < r.n → kept_after h lists a p k ≡ keeps r' p k
  unfolding kept_after HandsOut
  kept_agrees p k hp =
      let own-now : checkpoints (lists p) ≡ r'.own p = ap (λ (l : Lists). checkpoints (l p)) same ∙ sym (v'.counted p) in
      let own-before : checkpoints (h.lists p) ≡ r.own p = ap (λ (l : Lists). checkpoints (l p)) g.lists ∙ sym (v.counted p) in
      rw (own-now, own-before, g.kept p k hp, out p k hp)
      (now_kept (ltb k (r'.own p)) (keeps r p k) (leb (r.own p) k) (keeps r' p k)
      (λ e. lt-ltb k (r'.own p) (keeps_below r' v' p k e))
      (λ e n. c.back p k (leb-false (r.own p) k n) e)
      (λ e l. moved_new r r' c v' p k (leb-true (r.own p) k e) (ltb-true k (r'.own p) l)))
