-- Note 8 of a run as functions: the earliest line through some states none of which comes before another. At each process it has their greatest entry.
use Rattle.std.specs.Prelude.{◌≡◌, ◌≤◌, ◌<◌}
use Rattle.laws.specs.Basics.{ℕ, arith}
use Rattle.histories.specs.History.{sent, received, Line, Consistent}
use Rattle.histories.proofs.{Places.Stands, Cuts.member_stands, Cuts.up_to_out, Cuts.after_state_out, Run.Ideal, Invariant.Inv, Maximal.consistent_knows}
use Rattle.histories.proofs.Line.{rising, interval}

module _ (r : Ideal) (v : Inv r) where
  -- Some states, each a process and an index, and a line N of their greatest entries.
  pub record Topped (Chosen : ℕ → ℕ → Type 0) (N : Line) : Type 0 where
    pub there : (p k : ℕ) → Chosen p k → (p < r.n) × (k ≤ r.own p)
    -- no entry of a chosen state is greater than N, and at each process N has an entry of one
    pub above : (p k q : ℕ) → Chosen p k → q < r.n → r.vector p k q ≤ N q
    pub attained : (q : ℕ) → q < r.n → (p : ℕ) × (k : ℕ) × Chosen p k × (N q ≡ r.vector p k q)
    -- none comes before another
    pub unordered : (p k q j : ℕ) → Chosen p k → Chosen q j → r.vector q j p ≤ k

  module _ (Chosen : ℕ → ℕ → Type 0) (N : Line) (w : Topped Chosen N) where
    -- N names states that there are.
    pub earliest_within : (q : ℕ) → q < r.n → N q ≤ r.own q
    earliest_within q hq = let z = w.attained q hq in omega (arith, z.3, v.present z.0 z.1 q hq (w.there z.0 z.1 z.2).1)

    -- It passes through each chosen state.
    pub earliest_through : (p k : ℕ) → Chosen p k → N p ≡ k
    earliest_through p k c =
        let t = w.there p k c in
        let z = w.attained p t.0 in
        omega (arith, z.3, w.unordered p k z.0 z.1 c z.2, w.above p k p c t.0, v.self p k t.1)

    -- What was received up to N was sent up to N.
    sent_up_to : (q g b h m : ℕ) → q < r.n → b < r.n → Stands (sent m) g (r.events q) → Stands (received m) h (r.events b) → h ≤ N b → g ≤ N q
    sent_up_to q g b h m hq hb s t early =
        let z = w.attained b hb in
        let there = w.there z.0 z.1 z.2 in
        let known : r.vector b (N b) q ≤ r.vector z.0 z.1 q = rw z.3 (v.knows z.0 z.1 b q there.1 hb hq) in
        omega (
          arith,
          v.carries q g m q s hq,
          v.self q g (interval r v q g s),
          v.takes b h m q t hq,
          rising r v b q h (N b) early (earliest_within b hb),
          known,
          w.above z.0 z.1 q z.2 hq,
        )

    pub earliest_consistent : Consistent r.n r.events N
    unfolding Consistent
    earliest_consistent q p m hq hp s t =
        let a = after_state_out (N q) (r.events q) s in
        let b = member_stands _ t in
        let c = up_to_out (N p) (r.events p) b.1 in
        omega (arith, a.2, sent_up_to q a.0 p b.0 m hq hp a.1 c.0 c.1)

    -- No consistent line through all of them is earlier anywhere.
    pub earliest_least : (M : Line) → ((p : ℕ) → p < r.n → M p ≤ r.own p) → Consistent r.n r.events M → ((p k : ℕ) → Chosen p k → M p ≡ k)
        → (q : ℕ) → q < r.n → N q ≤ M q
    earliest_least M inside c through q hq =
        let z = w.attained q hq in
        let t = w.there z.0 z.1 z.2 in
        omega (arith, z.3, consistent_knows r v M inside c q hq z.0 z.1 t.0 (omega (arith, through z.0 z.1 z.2)))

  -- Of two states of a consistent line neither comes before the other.
  pub consistent_unordered : (M : Line) → ((p : ℕ) → p < r.n → M p ≤ r.own p) → Consistent r.n r.events M → (p q : ℕ) → p < r.n → q < r.n
      → r.vector q (M q) p ≤ M p
  consistent_unordered M inside c p q hp hq = consistent_knows r v M inside c p hp q (M q) hq (omega arith)
