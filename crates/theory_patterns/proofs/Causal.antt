-- Source document 001, equation 2: state α of a causally precedes state β of b exactly if α is less than entry a of that state's vector.
-- Assumes nothing.
use Rattle.std.specs.Prelude.{◌≡◌, ◌≤◌, ◌<◌}
use Rattle.laws.specs.Basics.{ap, Some, inl, inr, ℕ, zero, suc, arith, length, by_eq}
use Rattle.histories.specs.History.{sent, received, Lists, checkpoints}
use Rattle.theory_patterns.specs.Paths.{event_at, interval, place_of, Precedes, message, through, Before}
use Rattle.theory_patterns.proofs.Core.{Vectors, higher}
use Rattle.theory_patterns.proofs.Placing.{stands_at, interval_before, interval_after, place_before, place_le, place_rises, place_in, along}
use Rattle.theory_patterns.proofs.Reaching.{Knows, reached}

-- What the proof uses besides the vectors: receipts before a send are carried by it, and what is carried or known of another process was received before.
pub record Sources (lists : Lists) (v : Vectors lists) : Type 0 where
  pub ordered : (p i j m x f : ℕ) → event_at (lists p) j ≡ Some (received x) → event_at (lists p) i ≡ Some (sent m) → j < i → v.carried x f ≤ v.carried m f
  pub arrived : (q j m : ℕ) → event_at (lists q) j ≡ Some (received m) → (p : ℕ) × (i : ℕ) × (event_at (lists p) i ≡ Some (sent m))
  pub source : (p i m f : ℕ) → event_at (lists p) i ≡ Some (sent m) → (p ≡ f → ⊥) → 1 ≤ v.carried m f
      → (x : ℕ) × (j : ℕ) × (event_at (lists p) j ≡ Some (received x)) × (j < i) × (x < m) × (v.carried m f ≤ v.carried x f)
  pub heard : (p k f : ℕ) → k ≤ checkpoints (lists p) → (p ≡ f → ⊥) → 1 ≤ v.vector p k f
      → (x : ℕ) × (j : ℕ) × (event_at (lists p) j ≡ Some (received x)) × (j < place_of k (lists p)) × (v.vector p k f ≤ v.carried x f)

module _ (lists : Lists) (v : Vectors lists) (s : Sources lists v) (a α : ℕ) (near : α < checkpoints (lists a)) where
  -- What a place after the near end knows of it: a message that tells it carries the near end.
  abbrev Known : ℕ → ℕ → Type 0
  Known = Knows lists a α (λ m. α < v.carried m a)

  known : (q j : ℕ) → Precedes lists a (place_of α (lists a)) q j → Known q j
  known = reached lists a α (λ m. α < v.carried m a) near
      (λ j m here lt. omega (arith, lt, v.sends a (interval (lists a) j) m (stands_at (lists a) j (sent m) here)))
      (λ q i j x m r e lt c. omega (arith, c, s.ordered q j i m x a r e lt))

  -- What a state's place knows, its vector says.
  learnt : (b β : ℕ) → β ≤ checkpoints (lists b) → Known b (place_of β (lists b)) → α < v.vector b β a
  unfolding Knows
  learnt b β far (inl (e, lt)) =
      let same : v.vector b β a ≡ v.vector a β a = ap (λ (q : ℕ). v.vector q β a) e in
      let inside : β ≤ checkpoints (lists a) = rw e at far in
      let later : place_of α (lists a) < place_of β (lists a) = omega (arith, lt, ap (λ (q : ℕ). place_of β (lists q)) e) in
      omega (arith, same, v.self a β inside, interval_after (lists a) (place_of β (lists a)) α near later, interval_before (lists a) (place_of β (lists a)) β (omega arith))
  learnt b β far (inr (m, i, e, le, c)) =
      let g = interval (lists b) i in
      let low = interval_before (lists b) i β le in
      omega (arith, c, v.takes b g m a (stands_at (lists b) i (received m) e), higher lists v b g β a low far)

  pub entry_by : (b β : ℕ) → β ≤ checkpoints (lists b) → Before lists a α b β → α < v.vector b β a
  entry_by b β far w = learnt b β far (known b (place_of β (lists b)) w)

  -- A message that carries the near end was sent after it, or after the receipt of a message that does: so its receipt comes after the near end.
  from_carried : (bound m q j : ℕ) → m < bound → event_at (lists q) j ≡ Some (received m) → α < v.carried m a → Precedes lists a (place_of α (lists a)) q j
  from_carried zero m q j lt e c = absurd (omega arith)
  from_carried (suc bound) m q j lt e c =
      let w = s.arrived q j m e in
      let p = w.0 in
      let i = w.1 in
      by_eq p a
      (λ d.
      let here : event_at (lists a) i ≡ Some (sent m) = rw d at w.2 in
      let g : v.carried m a ≡ interval (lists a) i = v.sends a (interval (lists a) i) m (stands_at (lists a) i (sent m) here) in
      let before : place_of α (lists a) < i = place_before (lists a) i α (omega (arith, c, g)) in
      let inside : i < length (lists a) = place_in (lists a) i (sent m) here in
      through (along lists a (place_of α (lists a)) i before (omega (arith, inside))) (message here e))
      (λ ne.
      let x = s.source p i m a w.2 ne (omega (arith, c)) in
      let back = from_carried bound x.0 p x.1 (omega (arith, x.4)) x.2 (omega (arith, c, x.5)) in
      let inside : i < length (lists p) = place_in (lists p) i (sent m) w.2 in
      through back (through (along lists p x.1 i x.3 (omega (arith, inside))) (message w.2 e)))

  pub by_entry : (b β : ℕ) → β ≤ checkpoints (lists b) → α < v.vector b β a → Before lists a α b β
  by_entry b β far lt = by_eq b a
      (λ e.
      let inside : β ≤ checkpoints (lists a) = rw e at far in
      let own : v.vector b β a ≡ v.vector a β a = ap (λ (q : ℕ). v.vector q β a) e in
      rw e (along lists a (place_of α (lists a)) (place_of β (lists a)) (place_rises (lists a) α β (omega (arith, lt, own, v.self a β inside)) inside) (place_le (lists a) β)))
      (λ ne.
      let x = s.heard b β a far ne (omega (arith, lt)) in
      through (from_carried (suc x.0) x.0 b x.1 (omega arith) x.2 (omega (arith, lt, x.4)))
      (along lists b x.1 (place_of β (lists b)) x.3 (place_le (lists b) β)))
