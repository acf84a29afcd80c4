-- The line of the rule: it has a state at each process, which is the latest of all states that pass the rule, deleted or not;
-- it is consistent by messages.
use Rattle.std.specs.Prelude.{◌≡◌, ◌||◌, ◌≤◌, ◌<◌}
use Rattle.laws.specs.Basics.{refl, sym, ◌∙◌, ap, true, false, Some, ℕ, zero, suc, arith, eqb, ltb, leb, eq-eqb, ne_eqb, lt-ltb, le-ltb, leb-true, leb-false, by_bool, by_eq}
use Rattle.laws.specs.{Search.latest_is, Search.latest_out, Search.latest_of, Truth.and_both, Truth.and_no_right}
use Rattle.histories.specs.History.{HistoryEvent, sent, received, checkpoints, Consistent}
use Rattle.histories.proofs.{Places.Stands, Places.stands_le, Cuts.member_stands, Cuts.up_to_out, Cuts.after_state_out, Invariant.Inv}
use Rattle.histories.proofs.Run.{Ideal, Failed, safe, keeps, member, line, rolled}
use Rattle.histories.proofs.Rule.{safe_out, safe_in, unsafe_out, rolled_out, stays_out, keeps_in, keeps_out}

module _ (r : Ideal) (v : Inv r) where
  -- The live state's own entry is its index.
  pub live_self : (p : ℕ) → r.vector p (r.own p) p ≡ r.own p
  live_self p = v.self p (r.own p) (omega arith)

  -- States of one process know more and more.
  pub rising : (p f a b : ℕ) → a ≤ b → b ≤ r.own p → r.vector p a f ≤ r.vector p b f
  rising p f a zero ab bo = rw (zero_of a ab) (omega arith)
    where
      zero_of : (a : ℕ) → a ≤ 0 → a ≡ 0
      zero_of a h = omega arith
  rising p f a (suc b) ab bo = by_eq a (suc b)
      (λ e. rw e (omega arith))
      (λ ne. omega (arith, rising p f a b (omega arith) (omega arith), v.rises p b f (omega arith)))

  -- A kept checkpoint is one of the surviving history.
  pub keeps_below : (p k : ℕ) → keeps r p k ≡ true → k < r.own p
  keeps_below p k e = let w = keeps_out r p k e in (v.pins p w.0 k w.1 w.2).below

  -- The own pin names the last checkpoint.
  pub own_pin : (p : ℕ) → p < r.n → (k : ℕ) × (r.pin p p ≡ Some k) × (suc k ≡ r.own p)
  own_pin p hp =
      let w = v.pinned p p hp (live_self p) in
      let z = v.pins p p w.0 hp w.1 in
      (w.0, w.1, omega (arith, z.next, live_self p, v.self p (suc w.0) z.below))

  -- The same, for the checkpoint right below the live state.
  pub own_pin_is : (p k : ℕ) → p < r.n → suc k ≡ r.own p → r.pin p p ≡ Some k
  own_pin_is p k hp e =
      let w = own_pin p hp in
      let same : w.0 ≡ k = omega (arith, w.2) in
      w.1 ∙ ap Some same

  -- The last checkpoint is kept.
  pub last_kept : (p k : ℕ) → p < r.n → suc k ≡ r.own p → keeps r p k ≡ true
  last_kept p k hp e = keeps_in r p p k hp (own_pin_is p k hp e)

  -- The interval of an event is at most the current one.
  pub interval : {e : HistoryEvent} (p g : ℕ) → Stands e g (r.events p) → g ≤ r.own p
  interval p g s = omega (arith, stands_le (r.events p) s, v.counted p)

  module _ (F : Failed) where
    -- What state k of p is, where p goes back to it: a kept checkpoint that passes the rule, and the next state does not.
    pub record Back (p k : ℕ) : Type 0 where
      pub below : k < r.own p
      pub kept : keeps r p k ≡ true
      pub fine : (f : ℕ) → f < r.n → F f ≡ true → r.vector p k f < r.own f
      pub next : (f : ℕ) × (f < r.n) × (F f ≡ true) × (r.own f ≤ r.vector p (suc k) f)

    -- Entry f of p reaches a value in one step alone.
    one_rise : (p f j k e : ℕ) → k < r.own p → r.vector p k f < e → e ≤ r.vector p (suc k) f
        → j < r.own p → r.vector p j f < e → e ≤ r.vector p (suc j) f → j ≡ k
    one_rise p f j k e hk lk uk hj lj uj = by_eq j k (λ q. q) (λ ne. absurd (by_bool (leb j k)
        (λ d. let le : j ≤ k = leb-true j k d in omega (arith, rising p f (suc j) k (omega arith) (omega arith)))
        (λ d. let lt : k < j = leb-false j k d in omega (arith, rising p f (suc k) j (omega arith) (omega arith)))))

    -- The latest state that passes is kept: a pin names it.
    back_of : (p k : ℕ) → k < r.own p → safe r F p k ≡ true → safe r F p (suc k) ≡ false → Back p k
    back_of p k lt ok no_more =
        let w = unsafe_out r F p (suc k) no_more in
        let f : ℕ = w.0 in
        let hf : f < r.n = w.1 in
        let low : r.vector p k f < r.own f = safe_out r F p k ok f hf w.2 in
        let full : r.vector p (r.own p) f ≡ r.own f = omega (arith, w.3, rising p f (suc k) (r.own p) lt (omega arith), v.present p (r.own p) f hf (omega arith)) in
        let z = v.pinned p f hf full in
        let d = v.pins p f z.0 hf z.1 in
        let same : z.0 ≡ k = one_rise p f z.0 k (r.own f) lt low w.3 d.below (omega (arith, d.less)) (omega (arith, d.next)) in
        record { below = lt; kept = keeps_in r p f k hf (z.1 ∙ ap Some same); fine = safe_out r F p k ok; next = w }

    -- Checkpoint 0 passes.
    zero_safe : (p : ℕ) → safe r F p 0 ≡ true
    zero_safe p = safe_in r F p 0 (λ f hf q. omega (arith, v.blank p f, v.positive f))

    -- The member of a process that rolls back.
    member_back : (p : ℕ) → rolled r F p ≡ true → (k : ℕ) × (member r F p ≡ Some k) × Back p k
    unfolding member
    member_back p e =
        let dead : safe r F p (r.own p) ≡ false = rolled_out r F p e in
        let w = latest_of (r.own p) (safe r F p) 0 (v.positive p) (zero_safe p) in
        let k : ℕ = w.0 in
        let z = latest_out (r.own p) (safe r F p) k w.1 in
        let no_more : safe r F p (suc k) ≡ false = by_eq (suc k) (r.own p) (λ q. rw q dead) (λ ne. z.2 (suc k) (omega arith) (omega (arith, z.0))) in
        let b : Back p k = back_of p k z.0 z.1 no_more in (
          k,
          latest_is (suc (r.own p)) _ k (omega (arith, z.0))
              (and_both (eqb k (r.own p) || keeps r p k) (safe r F p k) (rw (ne_eqb k (r.own p) (omega (arith, z.0))) b.kept) z.1)
              (λ j a c. and_no_right (eqb j (r.own p) || keeps r p j) (safe r F p j) (by_eq j (r.own p) (λ q. rw q dead) (λ ne. z.2 j a (omega arith)))),
          b,
        )

    -- The member of a process that stays.
    member_live : (p : ℕ) → rolled r F p ≡ false → member r F p ≡ Some (r.own p)
    unfolding member
    member_live p e = latest_is (suc (r.own p)) _ (r.own p) (omega arith)
        (and_both (eqb (r.own p) (r.own p) || keeps r p (r.own p)) (safe r F p (r.own p)) (rw (eq-eqb (r.own p) (r.own p) refl)) (stays_out r F p e))
        (λ j a c. absurd (omega arith))

    -- What the line is at a process that rolls back.
    pub line_back : (p : ℕ) → rolled r F p ≡ true → Back p (line r F p)
    unfolding line
    line_back p e = let w = member_back p e in rw w.1 w.2

    -- The line at a process that stays is its live state.
    pub line_live : (p : ℕ) → rolled r F p ≡ false → line r F p ≡ r.own p
    unfolding line
    line_live p e = rw (member_live p e)

    -- The rule finds a state at each process.
    pub line_found : (p : ℕ) → member r F p ≡ Some (line r F p)
    unfolding line
    line_found p = by_bool (rolled r F p)
        (λ e. let w = member_back p e in rw w.1)
        (λ e. rw (member_live p e))

    -- The line names states that there are.
    pub line_le : (p : ℕ) → line r F p ≤ r.own p
    line_le p = by_bool (rolled r F p)
        (λ e. omega (arith, (line_back p e).below))
        (λ e. omega (arith, line_live p e))

    -- Every member passes the rule.
    pub line_fine : (p f : ℕ) → f < r.n → F f ≡ true → r.vector p (line r F p) f < r.own f
    line_fine p f hf q = by_bool (rolled r F p)
        (λ e. (line_back p e).fine f hf q)
        (λ e. rw (line_live p e) (safe_out r F p (r.own p) (stays_out r F p e) f hf q))

    -- A failed process rolls back.
    pub failed_rolls : (p : ℕ) → p < r.n → F p ≡ true → rolled r F p ≡ true
    failed_rolls p hp q = by_bool (rolled r F p) (λ e. e)
        (λ e. absurd (omega (arith, safe_out r F p (r.own p) (stays_out r F p e) p hp q, v.self p (r.own p) (omega arith))))

    -- So the line is below the live state of a failed process.
    pub failed_back : (p : ℕ) → p < r.n → F p ≡ true → line r F p < r.own p
    failed_back p hp q = (line_back p (failed_rolls p hp q)).below

    -- A member below the live state is a rolled back process's, and kept.
    pub below_rolled : (p : ℕ) → line r F p < r.own p → rolled r F p ≡ true
    below_rolled p lt = by_bool (rolled r F p) (λ e. e) (λ e. absurd (omega (arith, line_live p e)))

    -- So it is kept.
    pub below_kept : (p : ℕ) → line r F p < r.own p → keeps r p (line r F p) ≡ true
    below_kept p lt = (line_back p (below_rolled p lt)).kept

    -- Whether a process rolls back can be told from its list: its member is a checkpoint there.
    pub line_judged : (p : ℕ) → ltb (line r F p) (checkpoints (r.events p)) ≡ rolled r F p
    line_judged p = by_bool (rolled r F p)
        (λ e. lt-ltb (line r F p) (checkpoints (r.events p)) (omega (arith, (line_back p e).below, v.counted p)) ∙ sym e)
        (λ e. le-ltb (line r F p) (checkpoints (r.events p)) (omega (arith, line_live p e, v.counted p)) ∙ sym e)

    -- No member knows an interval of another process past that one's member.
    pub line_knows : (p q : ℕ) → q < r.n → r.vector p (line r F p) q ≤ line r F q
    line_knows p q hq = by_bool (rolled r F q)
        (λ e. by_bool (leb (r.vector p (line r F p) q) (line r F q))
        (λ d. leb-true _ _ d)
        (λ d.
        let w = (line_back q e).next in
        let past : line r F q < r.vector p (line r F p) q = leb-false _ _ d in
        absurd (omega (
          arith,
          w.3,
          rising q w.0 (suc (line r F q)) (r.vector p (line r F p) q) past (v.present p (line r F p) q hq (line_le p)),
          v.knows p (line r F p) q w.0 (line_le p) hq w.1,
          line_fine p w.0 w.1 w.2,
        ))))
        (λ e. rw (line_live q e) (v.present p (line r F p) q hq (line_le p)))

    -- A message received up to the line was sent up to the line.
    pub line_sent : (q g p h m : ℕ) → Stands (sent m) g (r.events q) → Stands (received m) h (r.events p) → h ≤ line r F p → g ≤ line r F q
    line_sent q g p h m s t early =
        let w = v.proper q g m s in
        let hq : q < r.n = rw w.0 w.1.from in
        omega (
          arith,
          v.carries q g m q s hq,
          v.self q g (interval q g s),
          v.takes p h m q t hq,
          rising p q h (line r F p) early (line_le p),
          line_knows p q hq,
        )

    -- The line is consistent by messages.
    pub line_consistent : Consistent r.n r.events (line r F)
    unfolding Consistent
    line_consistent q p m hq hp s t =
        let a = after_state_out (line r F q) (r.events q) s in
        let b = member_stands _ t in
        let c = up_to_out (line r F p) (r.events p) b.1 in
        omega (arith, a.2, line_sent q a.0 p b.0 m a.1 c.0 c.1)

    -- Where a single process f failed, the member at p is the checkpoint right after which p learnt f's current interval.
    pub line_at : (p f k : ℕ) → f < r.n → F f ≡ true → ((q : ℕ) → F q ≡ true → q ≡ f)
        → k < r.own p → r.vector p k f < r.own f → r.own f ≤ r.vector p (suc k) f → line r F p ≡ k
    line_at p f k hf failed alone lt low high =
        let e : rolled r F p ≡ true = by_bool (rolled r F p) (λ d. d)
        (λ d. absurd (omega (arith, safe_out r F p (r.own p) (stays_out r F p d) f hf failed, rising p f (suc k) (r.own p) lt (omega arith)))) in
        let b = line_back p e in
        let w = b.next in
        let same : w.0 ≡ f = alone w.0 w.2 in
        let up : r.own f ≤ r.vector p (suc (line r F p)) f = rw (← same) w.3 in
        one_rise p f (line r F p) k (r.own f) lt low high b.below (b.fine f hf failed) up
