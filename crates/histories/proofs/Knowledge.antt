-- The vectors say what messages alone say: entry f of a live state, of a checkpoint or of a message, is above a exactly if checkpoint a of f comes before it.
-- So a delivery forces a checkpoint exactly if the lists say so.
-- Assumes nothing.
use Rattle.std.specs.Prelude.{◌≡◌, ◌-◌, ◌≤◌, ◌<◌}
use Rattle.laws.specs.Basics.{true, List, ℕ, zero, suc, arith, ltb, ltb-true, ltb-false, by_bool, by_eq}
use mathlib.Core.List.{Memᴰ}
use Rattle.histories.specs.History.{HistoryEvent, sent, received, checkpoints, after_state, before_checkpoint, before, ComesBefore, within, message}
use Rattle.histories.proofs.{Places.Stands, Places.stands_le, Cuts.stands_member, Cuts.member_stands, Cuts.after_state_out, Cuts.after_state_in}
use Rattle.histories.proofs.{Run.Ideal, Run.forces, Invariant.Inv, Line.rising, Line.interval, Delivered.forces_in, Delivered.forces_out, Memory.Memory}
use Rattle.histories.proofs.{Before.before_stands, Before.before_out, Pasts.past_checkpoints, Pasts.past_out, Pasts.past_in}

-- A part of p's list up to a place: what stands in it stands in the list, in an interval up to the one where it ends.
pub record Place (r : Ideal) (p : ℕ) (past : List HistoryEvent) : Type 0 where
  pub stands : (e : HistoryEvent) → Memᴰ e past → (g : ℕ) × Stands e g (r.events p) × (g ≤ checkpoints past)
  pub reached : checkpoints past ≤ r.own p

module _ (r : Ideal) (v : Inv r) where
  live_place : (p : ℕ) → Place r p (r.events p)
  live_place p = record {
    stands = λ e s. let w = member_stands (r.events p) s in (w.0, w.1, stands_le (r.events p) w.1);
    reached = omega (arith, v.counted p);
  }

  sent_place : (q m : ℕ) → Memᴰ (sent m) (r.events q) → Place r q (before m (r.events q))
  sent_place q m s = record {
    stands = λ e t. before_out m (r.events q) t;
    reached = interval r v q (checkpoints (before m (r.events q))) (before_stands m (r.events q) s);
  }

  stored_place : (p k : ℕ) → k < r.own p → Place r p (before_checkpoint k (r.events p))
  stored_place p k lt =
      let many : checkpoints (before_checkpoint k (r.events p)) ≡ k = past_checkpoints k (r.events p) (omega (arith, v.counted p)) in
      record {
        stands = λ e s. let w = past_out k (r.events p) s in (w.0, w.1, omega (arith, w.2, many));
        reached = omega (arith, many);
      }

  -- A message carried the entry of its sender's state at the place where it was sent.
  carried_is : (q m f : ℕ) → Memᴰ (sent m) (r.events q) → f < r.n → r.carried m f ≡ r.vector q (checkpoints (before m (r.events q))) f
  carried_is q m f s hf = v.carries q (checkpoints (before m (r.events q))) m f (before_stands m (r.events q) s) hf

  module _ (f a : ℕ) (hf : f < r.n) where
    -- A state of f itself has its index at its own entry.
    own_entry : (p k : ℕ) → p ≡ f → k ≤ r.own p → r.vector p k f ≡ k
    own_entry p k e le = rw (← e) (v.self p k le)

    -- What comes before a place is in the vector there.
    before_less : (p : ℕ) (past : List HistoryEvent) → Place r p past → ComesBefore r.events f a p past → a < r.vector p (checkpoints past) f
    before_less p past at (within e lt) = omega (arith, own_entry p (checkpoints past) e at.reached)
    before_less p past at (message q m s t u) =
        let w = at.stands (received m) u in
        omega (
          arith,
          before_less q (before m (r.events q)) (sent_place q m s) t,
          carried_is q m f s hf,
          v.takes p w.0 m f w.1 hf,
          rising r v p f w.0 (checkpoints past) w.2 at.reached,
        )

    pub live_less : (p : ℕ) → ComesBefore r.events f a p (r.events p) → a < r.vector p (r.own p) f
    live_less p t = rw (v.counted p) (before_less p (r.events p) (live_place p) t)

    pub sent_less : (q m : ℕ) → Memᴰ (sent m) (r.events q) → ComesBefore r.events f a q (before m (r.events q)) → a < r.carried m f
    sent_less q m s t = rw (carried_is q m f s hf) (before_less q (before m (r.events q)) (sent_place q m s) t)

    pub stored_less : (p k : ℕ) → k < r.own p → ComesBefore r.events f a p (before_checkpoint k (r.events p)) → a < r.vector p k f
    stored_less p k lt t =
        let many : checkpoints (before_checkpoint k (r.events p)) ≡ k = past_checkpoints k (r.events p) (omega (arith, v.counted p)) in
        rw many at (before_less p (before_checkpoint k (r.events p)) (stored_place p k lt) t)

    module _ (memory : Memory r) where
      -- What a message carried comes before its sending.
      sent_known : (b q m : ℕ) → m < b → Memᴰ (sent m) (r.events q) → a < r.carried m f → ComesBefore r.events f a q (before m (r.events q))
      sent_known zero q m few s lt = absurd (omega arith)
      sent_known (suc b) q m few s lt = by_eq q f
          (λ e. within e (omega (arith, carried_is q m f s hf, own_entry q (checkpoints (before m (r.events q))) e (sent_place q m s).reached)))
          (λ ne.
          let w = memory.sources q m f s hf ne (omega arith) in
          let at = before_out m (r.events q) w.2 in
          let from = (v.arrived q at.0 w.0 at.1).1 in
          let here = stands_member (r.events (r.sender w.0)) from.1 in
          message (r.sender w.0) w.0 here (sent_known b (r.sender w.0) w.0 (omega (arith, w.1)) here (omega (arith, w.3))) w.2)

      pub sent_knows : (q m : ℕ) → Memᴰ (sent m) (r.events q) → a < r.carried m f → ComesBefore r.events f a q (before m (r.events q))
      sent_knows q m s lt = sent_known (suc m) q m (omega arith) s lt

      -- What a live state knows comes before it.
      pub live_knows : (p : ℕ) → a < r.vector p (r.own p) f → ComesBefore r.events f a p (r.events p)
      live_knows p lt = by_eq p f
          (λ e. within e (omega (arith, own_entry p (r.own p) e (omega arith), v.counted p)))
          (λ ne.
          let w = v.learnt p (r.own p) f (omega arith) hf ne (omega arith) in
          let from = (v.arrived p w.1 w.0 w.2).1 in
          let here = stands_member (r.events (r.sender w.0)) from.1 in
          message (r.sender w.0) w.0 here (sent_knows (r.sender w.0) w.0 here (omega (arith, w.5))) (stands_member (r.events p) w.2))

      -- What a checkpoint knows comes before it.
      pub stored_knows : (p k : ℕ) → k < r.own p → a < r.vector p k f → ComesBefore r.events f a p (before_checkpoint k (r.events p))
      stored_knows p k below lt = by_eq p f
          (λ e. within e (omega (arith, own_entry p k e (omega arith), past_checkpoints k (r.events p) (omega (arith, v.counted p)))))
          (λ ne.
          let w = v.learnt p k f (omega arith) hf ne (omega arith) in
          let from = (v.arrived p w.1 w.0 w.2).1 in
          let here = stands_member (r.events (r.sender w.0)) from.1 in
          message (r.sender w.0) w.0 here (sent_knows (r.sender w.0) w.0 here (omega (arith, w.5))) (past_in k (r.events p) w.2 w.3))

-- What forces a checkpoint, and what a message brings news of, of the lists alone.
abbrev pub Since : Ideal → ℕ → Type 0
Since r p = (m : ℕ) × Memᴰ (sent m) (after_state (checkpoints (r.events p) - 1) (r.events p))

abbrev pub NewsOf : Ideal → ℕ → ℕ → Type 0
NewsOf r m f = (a q : ℕ) × Memᴰ (sent m) (r.events q) × ComesBefore r.events f a q (before m (r.events q))
    × (ComesBefore r.events f a (r.receiver m) (r.events (r.receiver m)) → ⊥)

abbrev pub News : Ideal → ℕ → Type 0
News r m = (f : ℕ) × (f < r.n) × NewsOf r m f

module _ (r : Ideal) (v : Inv r) (memory : Memory r) (m : ℕ) (under : r.transit m ≡ true) where
  -- A carried entry is newer exactly if the message brings news of its process.
  module _ (f : ℕ) (hf : f < r.n) where
    pub newer_news : r.vector (r.receiver m) (r.own (r.receiver m)) f < r.carried m f → NewsOf r m f
    newer_news more =
        let i = r.receiver m in
        let a = r.vector i (r.own i) f in
        let q = r.sender m in
        let s = stands_member (r.events q) (v.underway m under).1 in
        (a, q, s, sent_knows r v f a hf memory q m s more, λ z. let known = live_less r v f a hf i z in omega arith)

    pub news_newer : NewsOf r m f → r.vector (r.receiver m) (r.own (r.receiver m)) f < r.carried m f
    news_newer d =
        let i = r.receiver m in
        let a = d.0 in
        let more : a < r.carried m f = sent_less r v f a hf d.1 m d.2 d.3 in
        by_bool (ltb (r.vector i (r.own i) f) (r.carried m f))
        (λ e. ltb-true _ _ e)
        (λ e.
        let old : r.carried m f ≤ r.vector i (r.own i) f = ltb-false _ _ e in
        absurd (d.4 (live_knows r v f a hf memory i (omega arith))))

  -- A delivery that forces a checkpoint: its receiver has sent since its last one, and the message brings news.
  pub forced_since : forces r m ≡ true → Since r (r.receiver m)
  forced_since e =
      let i = r.receiver m in
      let w = memory.marks i (forces_out r m e).0 in
      (w.0, after_state_in (checkpoints (r.events i) - 1) (r.events i) w.1 (omega (arith, v.counted i, v.positive i)))

  pub forced_news : forces r m ≡ true → News r m
  forced_news e = let w = forces_out r m e in (w.1, w.2, newer_news w.1 w.2 w.3)

  -- And the other way round.
  pub news_forces : Since r (r.receiver m) → News r m → forces r m ≡ true
  news_forces c d =
      let i = r.receiver m in
      let s = after_state_out (checkpoints (r.events i) - 1) (r.events i) c.1 in
      let live : s.0 ≡ r.own i = omega (arith, s.2, interval r v i s.0 s.1, v.counted i) in
      let mark : r.mark i ≡ true = v.marked i c.0 (rw live at s.1) in
      forces_in r m d.0 d.1 mark (news_newer d.0 d.1 d.2)
