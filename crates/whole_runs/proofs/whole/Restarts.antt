-- Each accepted call keeps what the history remembers of the run when it last started or recovered. By it and the run now it is known which pins name a
-- checkpoint, and so what is kept is what the history needs.
-- Assumes nothing.
use Rattle.std.specs.Prelude.{◌≡◌, ◌-◌, ◌<◌}
use Rattle.laws.specs.Basics.{refl, sym, ◌∙◌, ap, true, List, None, Some, inl, inr, ℕ, suc, arith}
use Rattle.laws.specs.Rows.{by_lt}
use Rattle.model.specs.Words.{basic, forced, failed}
use Rattle.histories.specs.History.{Lists, checkpoints, before_checkpoint, ComesBefore}
use Rattle.whole_runs.specs.Calls.{Call, checkpoint, send, deliver, lose, recover, line, earliest, call}
use Rattle.whole_runs.specs.Survival.{Surviving, beginning, after, accepted, lists_after, restart_after}
use Rattle.whole_runs.specs.Needed.{KnewLess, PinStands, PinNames, Needed}
use Rattle.histories.proofs.{Run.Ideal, Run.because, Run.begin, Run.begun, Run.keeps, Run.checkpointed, Run.delivered, Run.recovered, Invariant.Inv}
use Rattle.histories.proofs.{Ledger.ledger_inv, Rule.keeps_in, Rule.keeps_out, Line.rising, Messages.underway_proper, Memory.Memory, Memory.begin_memory}
use Rattle.histories.proofs.{Begin.begin_inv, Knowledge.live_less, Knowledge.live_knows, Knowledge.stored_less, Knowledge.stored_knows}
use Rattle.histories.proofs.Standing.{row, Learns, same_learns, sending_learns, lost_learns, checkpointed_learns, delivered_learns, Current, next_standing, begin_standing, recovered_standing}
use Rattle.model.proofs.{simulation.View.state_of, simulation.View.Limits, simulation.SoundCalls.deliver_run}
use Rattle.whole_runs.proofs.{whole.Agreement.Agrees, whole.Agreement.Restarted, whole.Accepted.Step, whole.Accepted.accepted_history}
use Rattle.whole_runs.proofs.{whole.Reached.exchange, whole.Reached.refusal, whole.Runs.stepped}

-- The start.
pub begin_restarted : (n : ℕ) (block_counts : List ℕ) → Restarted (beginning n block_counts) (begun n block_counts)
unfolding beginning begin
begin_restarted n block_counts =
    let s = begin_standing n in
    record { earlier = begin n; inv = begin_inv n; memory = begin_memory n; events = refl; standing = record { size = s.size; rows = s.rows; current = s.current; pinned = s.pinned } }

-- A call that is no recovery.
goes_on : (h h' : Surviving) (r r' : Ideal) → h'.restart ≡ h.restart → Learns r r' → Restarted h r → Restarted h' r'
goes_on h h' r r' same step t =
    record { earlier = t.earlier; inv = t.inv; memory = t.memory; events = same ∙ t.events; standing = next_standing t.earlier r r' t.standing step }

-- A step from the run with another reason for the next checkpoint is a step from the run.
because_learns : (why : ℕ) (r r' : Ideal) → Learns (because why r) r' → Learns r r'
because_learns why r r' l = record { size = l.size; each = l.each }

module _ (n : ℕ) (h : Surviving) (r : Ideal) (v : Inv r) (fit : Limits r) (t : Restarted h r) where
  accepted_restarted : (c : Call) → refusal (state_of r) c ≡ None → Step n h (state_of r) r (stepped r c) c → Restarted (accepted n h c (call (state_of r) c).reply) (stepped r c)
  unfolding accepted lists_after restart_after stepped refusal
  accepted_restarted (checkpoint i deleted) e step =
      goes_on h _ r _ refl (because_learns basic r (checkpointed (because basic r) i) (checkpointed_learns (because basic r) i (ledger_inv r _ v))) t
  accepted_restarted (send i j) e step = goes_on h _ r _ refl (sending_learns r i j) t
  accepted_restarted (deliver m deleted) e step =
      goes_on h _ r _ refl (because_learns forced r (delivered (because forced r) m)
      (delivered_learns (because forced r) m (ledger_inv r _ v) (underway_proper r v m (deliver_run r v fit m deleted e).0).to)) t
  accepted_restarted (lose m) e step = goes_on h _ r _ refl (lost_learns r m) t
  accepted_restarted (recover F deleted lent) e step =
      record { earlier = recovered r (failed F); inv = step.inv; memory = step.memory; events = step.lists; standing = recovered_standing r (failed F) v }
  accepted_restarted (line F lent) e step = goes_on h _ r _ refl (same_learns r) t
  accepted_restarted (earliest l lent) e step = goes_on h _ r _ refl (same_learns r) t

  pub step_restarted : (c : Call) → refusal (state_of r) c ≡ None → Step n h (state_of r) r (stepped r c) c → Restarted (after n h (exchange (state_of r) c)) (stepped r c)
  step_restarted c e step = rw (accepted_history n (state_of r) h c e) (accepted_restarted c e step)

-- What p knows of f, now, at a checkpoint, and when the run last started or recovered: by the lists of the history as by the vectors.
module _ (h : Surviving) (r : Ideal) (v : Inv r) (memory : Memory r) (g : Agrees h r) (t : Restarted h r) (p f : ℕ) (hf : f < r.n) where
  was : f < t.earlier.n
  was = omega (arith, t.standing.size)

  was_less : (a : ℕ) → ComesBefore h.restart f a p (h.restart p) → a < row t.earlier p f
  was_less a s = live_less t.earlier t.inv f a was p (rw t.events at s)

  was_before : (a : ℕ) → a < row t.earlier p f → ComesBefore h.restart f a p (h.restart p)
  was_before a lt = rw t.events (live_knows t.earlier t.inv f a was t.memory p lt)

  now_less : (a : ℕ) → ComesBefore h.lists f a p (h.lists p) → a < row r p f
  now_less a s = live_less r v f a hf p (rw g.lists at s)

  now_before : (a : ℕ) → a < row r p f → ComesBefore h.lists f a p (h.lists p)
  now_before a lt = rw g.lists (live_knows r v f a hf memory p lt)

  at_less : (k a : ℕ) → k < r.own p → ComesBefore h.lists f a p (before_checkpoint k (h.lists p)) → a < r.vector p k f
  at_less k a below s = stored_less r v f a hf p k below (rw g.lists at s)

  at_before : (k a : ℕ) → k < r.own p → a < r.vector p k f → ComesBefore h.lists f a p (before_checkpoint k (h.lists p))
  at_before k a below lt = rw g.lists (stored_knows r v f a hf memory p k below lt)

  many : checkpoints (h.lists p) ≡ r.own p
  many = ap (λ (l : Lists). checkpoints (l p)) g.lists ∙ sym (v.counted p)

  many_then : checkpoints (h.restart f) ≡ t.earlier.own f
  many_then = ap (λ (l : Lists). checkpoints (l f)) t.events ∙ sym (t.inv.counted f)

  -- The pin names a checkpoint exactly if the history says so.
  stands_in : Current t.earlier r p f → PinStands h p f
  unfolding PinStands
  stands_in c = elim c [
    | inl e ↦ inl (was_before (checkpoints (h.restart f) - 1) (omega (arith, e, many_then, t.inv.positive f)))
    | inr lt ↦ inr (row t.earlier p f, now_before (row t.earlier p f) lt, λ s. let z = was_less (row t.earlier p f) s in omega arith)
  ]

  stands_out : PinStands h p f → Current t.earlier r p f
  unfolding PinStands
  stands_out d = elim d [
    | inl s ↦ inl (omega (arith, was_less (checkpoints (h.restart f) - 1) s, many_then, t.inv.positive f, t.inv.present p (t.earlier.own p) f was (omega arith)))
    | inr w ↦ by_lt w.0 (row t.earlier p f)
        (λ lt. absurd (w.2 (was_before w.0 lt)))
        (λ le. inr (omega (arith, now_less w.0 w.1)))
  ]

  -- At a checkpoint p knew less of f exactly if the entry there is less.
  less_in : (k : ℕ) → k < r.own p → r.vector p k f < row r p f → KnewLess h.lists p f k
  unfolding KnewLess
  less_in k below lt = (r.vector p k f, now_before (r.vector p k f) lt, λ s. let z = at_less k (r.vector p k f) below s in omega arith)

  less_out : (k : ℕ) → k < r.own p → KnewLess h.lists p f k → r.vector p k f < row r p f
  unfolding KnewLess
  less_out k below w = by_lt w.0 (r.vector p k f)
      (λ lt. absurd (w.2 (at_before k w.0 below lt)))
      (λ le. omega (arith, now_less w.0 w.1))

  -- So the pin names the checkpoint that the history says.
  names_in : (k : ℕ) → r.pin p f ≡ Some k → PinNames h p f k
  unfolding PinNames
  names_in k e =
      let z = v.pins p f k hf e in (
        omega (arith, many, z.below),
        less_in k z.below z.less,
        λ j lt below w. let less = less_out j (omega (arith, many)) w in omega (arith, z.next, rising r v p f (suc k) j lt (omega (arith, many))),
      )

  names_out : (k j : ℕ) → r.pin p f ≡ Some j → PinNames h p f k → k ≡ j
  unfolding PinNames
  names_out k j e d =
      let z = v.pins p f j hf e in
      let below : k < r.own p = omega (arith, many, d.0) in
      let less : r.vector p k f < row r p f = less_out k below d.1 in
      by_lt k j
      (λ before. absurd (d.2 j before (omega (arith, many, z.below)) (less_in j z.below z.less)))
      (λ not_before. by_lt j k
      (λ rest_after. absurd (omega (arith, z.next, rising r v p f (suc j) k rest_after (omega arith))))
      (λ not_after. omega arith))

module _ (h : Surviving) (r : Ideal) (v : Inv r) (memory : Memory r) (g : Agrees h r) (t : Restarted h r) (p k : ℕ) where
  -- A checkpoint is kept exactly if the history needs it.
  pub needed_in : keeps r p k ≡ true → Needed r.n h p k
  unfolding Needed
  needed_in e =
      let w = keeps_out r p k e in
      let f = w.0 in
      (f, w.1, stands_in h r v memory g t p f w.1 (t.standing.current p f k (was h r v memory g t p f w.1) w.2), names_in h r v memory g t p f w.1 k w.2)

  pub needed_out : Needed r.n h p k → keeps r p k ≡ true
  unfolding Needed
  needed_out d =
      let f = d.0 in
      let w = t.standing.pinned p f (was h r v memory g t p f d.1) (stands_out h r v memory g t p f d.1 d.2) in
      keeps_in r p f k d.1 (rw (names_out h r v memory g t p f d.1 k w.0 w.1 d.3) w.1)
