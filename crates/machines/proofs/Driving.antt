-- The loop that obeys a machine: where it stands before each request.
-- Assumes nothing.
use Rattle.std.specs.Prelude.{◌≡◌, ◌<◌}
use Rattle.laws.specs.Basics.{sym, ◌∙◌, ap, subst, true, false, List, ℕ, arith}
use Rattle.machines.specs.Machines.{Stop, Answer, Machine, stepped, Reached, Ended, Ends}
use Rattle.machines.specs.Forms.{goes_on_of, request_of_def, Placed, GoesTo, Asks, Stands}
use Rattle.machines.proofs.{Runs.reached_first, Runs.reached_next, Places.going_is, Places.stopped_is}
use Rattle.machines.specs.declared.Request as requests
use Rattle.machines.specs.declared.Request.TheVariants as request

module _ {S : Type 0} (m : Machine S) where
  -- What is lent stands for a state, so it stands for what is the same state.
  pub stands_as : {lent s t : S} {place : ℕ} {input out : List ℕ} {r : requests.Request} → t ≡ s → Stands m lent place input out r s → Stands m lent place input out r t
  stands_as {lent} {s} {t} {place} {input} {out} {r} e h = subst (Stands m lent place input out r) (sym e) h

  pub steps_as : {lent : S} {place : ℕ} {input out : List ℕ} {r : requests.Request} (a : Answer) (s t : S) → t ≡ s → Stands m lent place input out r (stepped m s a)
      → Stands m lent place input out r (stepped m t a)
  steps_as a s t e h = stands_as (ap (λ (x : S). stepped m x a) e) h

  -- A machine that has stopped asks for nothing more, whatever is answered.
  pub stopped_stands : (lent s : S) (place : ℕ) (input out : List ℕ) → lent ≡ s → m.ask s ≡ Stop → Stands m lent place input out request.Stop s
  unfolding request_of_def Placed GoesTo
  stopped_stands lent s place input out e stop = record { state = e; asks = record { stands = sym stop; inside = tt; there = tt } }

  pub still_stands : (lent s : S) (place : ℕ) (input out : List ℕ) (a : Answer) → lent ≡ s → m.ask s ≡ Stop → stepped m s a ≡ s
      → Stands m lent place input out request.Stop (stepped m lent a)
  still_stands lent s place input out a e stop stays = stands_as (ap (λ (x : S). stepped m x a) e ∙ stays) (stopped_stands lent s place input out e stop)

  -- A state that some list of answers leads to, and the request is what the machine asks for there.
  pub record Driven (lent : S) (place : ℕ) (input out : List ℕ) (r : requests.Request) : Type 0 where
    pub reached : Reached m lent
    pub asks : Asks r place input out (m.ask lent)

  stands_driven : (lent s : S) (place : ℕ) (input out : List ℕ) (r : requests.Request) → Reached m s → Stands m lent place input out r s → Driven lent place input out r
  stands_driven lent s place input out r reached h = record {
    reached = subst (Reached m) (sym h.state) reached;
    asks = subst (λ (x : S). Asks r place input out (m.ask x)) (sym h.state) h.asks;
  }

  pub driven_first : {lent : S} {place : ℕ} {input out : List ℕ} {r : requests.Request} → Stands m lent place input out r m.first → Driven lent place input out r
  driven_first {lent} {place} {input} {out} {r} h = stands_driven lent m.first place input out r (reached_first m) h

  -- One request is obeyed, which leaves the state, and its answer is taken.
  module _ {before after : S} {place : ℕ} {input out : List ℕ} {r : requests.Request} (h : Driven before place input out r) (kept : after ≡ before)
      {lent : S} {place' : ℕ} {input' out' : List ℕ} {r' : requests.Request} (a : Answer) (stands : Stands m lent place' input' out' r' (stepped m after a)) where
    pub driven_next : Driven lent place' input' out' r'
    driven_next =
        stands_driven lent (stepped m after a) place' input' out' r'
        (subst (λ (s : S). Reached m (stepped m s a)) (sym kept) (reached_next m before a h.reached))
        stands

    pub driven_less : (ends : Ends m) → goes_on_of r ≡ true → ends.left lent < ends.left before
    driven_less ends going =
        let fell = ends.falls before a (λ e. going_is r out going (h.asks.stands ∙ e)) in
        let same = stands.state ∙ ap (λ (s : S). stepped m s a) kept in
        omega (arith, fell, ap ends.left same)

  pub driven_ends : {lent : S} {place : ℕ} {input out : List ℕ} {r : requests.Request} → Driven lent place input out r → goes_on_of r ≡ false → Ended m lent
  unfolding Ended
  driven_ends {lent} {place} {input} {out} {r} h e = (h.reached, sym h.asks.stands ∙ stopped_is r out e)
