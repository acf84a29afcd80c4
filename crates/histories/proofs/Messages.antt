-- What the invariant says of messages: each is sent and received at one place, and one under way carries what its sender knew.
use Rattle.std.specs.Prelude.{◌≡◌, ◌≤◌, ◌<◌}
use Rattle.laws.specs.Basics.{sym, ◌∙◌, true, ℕ, suc, arith}
use Rattle.histories.specs.History.{sent}
use Rattle.histories.proofs.{Apart.sent_stored, Places.Stands, Times.times, Times.one_place, Run.Ideal, Invariant.Inv, Invariant.Proper, Line.interval}

module _ (r : Ideal) (v : Inv r) where
  -- A message is sent at most once, by one process.
  pub sent_at_most_once : (p m : ℕ) → times (sent m) (r.events p) ≤ 1
  sent_at_most_once p m = v.single p (sent m) (sent_stored m)

  -- So its send stands at one place.
  pub sent_once : (p g q h m : ℕ) → Stands (sent m) g (r.events p) → Stands (sent m) h (r.events q) → (p ≡ q) × (g ≡ h)
  sent_once p g q h m s t =
      let e : p ≡ q = (v.proper p g m s).0 ∙ sym (v.proper q h m t).0 in
      (e, one_place (r.events q) (sent_at_most_once q m) (rw e at s) t)

  module _ (m : ℕ) (under : r.transit m ≡ true) where
    -- The interval in which a message under way was sent.
    unfoldable pub sent_in : ℕ
    sent_in = (v.underway m under).0

    -- Its send stands there.
    pub sent_in_stands : Stands (sent m) sent_in (r.events (r.sender m))
    unfolding sent_in
    sent_in_stands = (v.underway m under).1

    -- The sender has that interval.
    pub sent_in_le : sent_in ≤ r.own (r.sender m)
    sent_in_le = interval r v (r.sender m) sent_in sent_in_stands

    -- Its number is used, its sender and receiver are in the run and differ.
    pub underway_proper : Proper r m
    underway_proper = (v.proper (r.sender m) sent_in m sent_in_stands).1

    pub used_number : m < suc r.last
    used_number = omega (arith, underway_proper.used)

    -- It carries the vector of the sender in that interval.
    pub underway_carries : (f : ℕ) → f < r.n → r.carried m f ≡ r.vector (r.sender m) sent_in f
    underway_carries f hf = v.carries (r.sender m) sent_in m f sent_in_stands hf

    -- Of its sender it carries the number of that interval.
    pub underway_sent : r.carried m (r.sender m) ≡ sent_in
    underway_sent = underway_carries (r.sender m) underway_proper.from ∙ v.self (r.sender m) sent_in sent_in_le

    -- Nothing that it carries lies in the future.
    pub underway_present : (f : ℕ) → f < r.n → r.carried m f ≤ r.own f
    underway_present f hf = omega (arith, underway_carries f hf, v.present (r.sender m) sent_in f hf sent_in_le)

    -- Of its receiver it carries nothing newer than the receiver's own interval.
    pub underway_own : r.carried m (r.receiver m) ≤ r.vector (r.receiver m) (r.own (r.receiver m)) (r.receiver m)
    underway_own = omega (arith, underway_present (r.receiver m) underway_proper.to, v.self (r.receiver m) (r.own (r.receiver m)) (omega arith))
