-- No consistent line that gives up the live state of each failed process is later than the line of the rule, at any process. So the line follows from
-- the history.
use Rattle.std.specs.Prelude.{◌≡◌, ◌≤◌, ◌<◌}
use Rattle.laws.specs.Basics.{sym, ap, true, ℕ, zero, suc, arith, leb, leb-true, leb-false, by_bool, by_eq}
use native.Mathlib.Nat.{not-suc-le-zero}
use Rattle.histories.specs.History.{Lists, sent, received, checkpoints, Line, Consistent}
use Rattle.histories.proofs.{Places.Stands, Cuts.stands_member, Cuts.up_to_in, Cuts.after_state_in, Run.Ideal, Run.Failed, Run.line, Run.rolled}
use Rattle.histories.proofs.{Invariant.Inv, Line.rising, Line.line_back, Line.line_live, Line.line_le, Line.failed_back, Line.line_consistent}

module _ (r : Ideal) (v : Inv r) where
  -- A line M that is consistent, with a state of each process.
  module _ (M : Line) (inside : (p : ℕ) → p < r.n → M p ≤ r.own p) (c : Consistent r.n r.events M) where
    -- What was received up to M was sent up to M.
    in_time : (q g p h m : ℕ) → q < r.n → p < r.n → Stands (sent m) g (r.events q) → Stands (received m) h (r.events p) → h ≤ M p → g ≤ M q
    unfolding Consistent
    in_time q g p h m hq hp s t le = by_bool (leb g (M q))
        (λ e. leb-true _ _ e)
        (λ e. absurd (c q p m hq hp (after_state_in (M q) (r.events q) s (leb-false _ _ e)) (stands_member _ (up_to_in (M p) (r.events p) t le))))

    module _ (f : ℕ) (hf : f < r.n) where
      -- A message received up to M carried no interval of f past M: it was sent up to M, by f itself or by one that was told so before.
      chain : (b m p g : ℕ) → m < b → p < r.n → Stands (received m) g (r.events p) → g ≤ M p → r.carried m f ≤ M f
      chain zero m p g mb hp t le = absurd (not-suc-le-zero mb)
      chain (suc b) m p g mb hp t le =
          let w = v.arrived p g m t in
          let q : ℕ = r.sender m in
          let h : ℕ = w.1.0 in
          let s : Stands (sent m) h (r.events q) = w.1.1 in
          let hq : q < r.n = (v.proper q h m s).1.from in
          let time : h ≤ M q = in_time q h p g m hq hp s t le in
          by_eq q f
          (λ e. omega (arith, v.carries q h m f s hf, at_own q h e time hq))
          (λ ne. by_bool (leb 1 (r.carried m f))
          (λ e. let z = v.source q h m f s hf ne (leb-true _ _ e) in
          omega (arith, z.5, chain b z.0 q z.1 (omega (arith, z.4)) hq z.2 (omega (arith, z.3))))
          (λ e. omega (arith, leb-false)))
        where
          at_own : (q h : ℕ) → q ≡ f → h ≤ M q → q < r.n → r.vector q h f ≤ M f
          at_own q h e time hq = rw (← e) (omega (arith, v.self q h (omega (arith, inside q hq))))

      -- Along M no state knows an interval of f past M.
      pub consistent_knows : (p k : ℕ) → p < r.n → k ≤ M p → r.vector p k f ≤ M f
      consistent_knows p k hp le = by_eq p f
          (λ e. rw (← e) (omega (arith, v.self p k (omega (arith, inside p hp)))))
          (λ ne. by_bool (leb 1 (r.vector p k f))
          (λ e. let z = v.learnt p k f (omega (arith, inside p hp)) hf ne (leb-true _ _ e) in
          omega (arith, z.5, chain (suc z.0) z.0 p z.1 (omega arith) hp z.2 (omega (arith, z.3))))
          (λ e. omega (arith, leb-false)))

  -- The line is the latest of all consistent lines that give up the live states of the failed.
  pub line_maximal : (F : Failed) (M : Line) → ((p : ℕ) → p < r.n → M p ≤ checkpoints (r.events p)) → Consistent r.n r.events M
      → ((f : ℕ) → f < r.n → F f ≡ true → M f < checkpoints (r.events f)) → (p : ℕ) → p < r.n → M p ≤ line r F p
  line_maximal F M within c gives p hp = by_bool (rolled r F p)
      (λ e. by_bool (leb (M p) (line r F p))
      (λ d. leb-true _ _ d)
      (λ d.
      let w = (line_back r v F p e).next in
      absurd (omega (
        arith,
        w.3,
        rising r v p w.0 (suc (line r F p)) (M p) (leb-false _ _ d) (inside p hp),
        consistent_knows M inside c w.0 w.1 p (M p) hp (omega arith),
        gives w.0 w.1 w.2,
        v.counted w.0,
      ))))
      (λ e. rw (line_live r v F p e) (inside p hp))
    where
      inside : (p : ℕ) → p < r.n → M p ≤ r.own p
      inside p hp = omega (arith, within p hp, v.counted p)

-- The line follows from the history: two runs of as many processes with the same events have the same line.
same_history : (n m : ℕ) (a b : Lists) (M : Line) → n ≡ m → a ≡ b → Consistent n a M → Consistent m b M
same_history n m a b M size same c = rw (← size, ← same) c

one_history : (r s : Ideal) → Inv r → Inv s → r.n ≡ s.n → r.events ≡ s.events → (F : Failed) (p : ℕ) → p < s.n → line r F p ≤ line s F p
one_history r s v w size same F p hp = line_maximal s w F (line r F)
    (λ q hq. omega (arith, line_le r v F q, v.counted q, ap (λ (l : Lists). checkpoints (l q)) same))
    (same_history r.n s.n r.events s.events (line r F) size same (line_consistent r v F))
    (λ f hf e. omega (arith, failed_back r v F f (rw size hf) e, v.counted f, ap (λ (l : Lists). checkpoints (l f)) same))
    p hp

pub line_by_history : (r s : Ideal) → Inv r → Inv s → r.n ≡ s.n → r.events ≡ s.events → (F : Failed) (p : ℕ) → p < s.n → line r F p ≡ line s F p
line_by_history r s v w size same F p hp =
    omega (arith, one_history r s v w size same F p hp, one_history s r w v (sym size) (sym same) F p (rw size hp))
