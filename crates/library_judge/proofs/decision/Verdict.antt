-- The tables give the verdict: what the near end, the closure and the far end say of the tables is what the mathematics of `patterns` asks for.
-- Assumes nothing.
use Rattle.std.specs.Prelude.{◌≡◌, ◌&&◌, ◌⊎◌, ◌-◌, ◌≤◌, ◌<◌}
use Rattle.laws.specs.Basics.{refl, sym, ◌∙◌, ap, true, not, false≢true, List, Option, None, Some, inl, inr, ℕ, suc, arith, eqb, ltb, length, get_or, ne_eqb, eqb-false, lt-ltb, le-ltb, ltb-true, ltb-false, pick, by_bool, by_eq}
use Rattle.laws.specs.Loops.{either}
use Rattle.histories.specs.History.{sent, received, Lists, checkpoints}
use Rattle.theory_patterns.proofs.{Placing.stands_le, Core.Vectors, Core.Crossing, Core.higher, Core.crossing_path, Core.reached}
use Rattle.theory_patterns.specs.Paths.{StandsIn, Path, one, onward, Before, FirstBreaking}
use Rattle.theory_patterns.proofs.{Causal.Sources, Causal.by_entry, Causal.entry_by, First.trackable, First.first_breaking}
use Rattle.laws.specs.Options.{some_same, none≢some}
use Rattle.theory_patterns.specs.declared.End.{End}
use Rattle.library_judge.specs.declared.pattern.{State.State, Sent.Sent}
use Rattle.library_judge.specs.{decision.Far.FarEnd, decision.Represents.interval_of, decision.Represents.Represents}
use Rattle.library_judge.specs.decision.Rows.{owner_at, entry_at, from_at, to_at, row_number, reach_at}
use Rattle.library_judge.specs.decision.Crossings.{crosses_by, crosses_at, known_at, least_crossing_of, NearEnd}
use Rattle.library_judge.specs.decision.Reach.{sender_of, ReachedRow, begins, leads, Closure, FirstRow}
use Rattle.library_judge.proofs.decision.{Leasts.least_of, Passes.some_row}
use Rattle.theory_patterns.specs.Paths as paths

-- A test of two parts.
both : (t a b : ℕ) → (not (eqb t 0) && ltb a b) ≡ true → (t ≡ 0 → ⊥) × (a < b)
both t a b e = by_bool (eqb t 0)
    (λ d. absurd (false≢true (rw d at e)))
    (λ d. (eqb-false t 0 d, ltb-true a b (rw d at e)))

made : (t a b : ℕ) → (t ≡ 0 → ⊥) → a < b → (not (eqb t 0) && ltb a b) ≡ true
made t a b ne lt = rw (ne_eqb t 0 ne, lt-ltb a b lt)

-- A message that is received is received in one of the rows.
pub received_row : {n rows last : ℕ} {lists : Lists} {vector : ℕ → ℕ → ℕ → ℕ} {S : List State} {M : List Sent} → Represents n lists vector rows last S M
    → (m : ℕ) → m < last → (to_at M m ≡ 0 → ⊥) → to_at M m - 1 < rows
received_row h m lm ne = omega (arith, h.to_row m lm, ne)

module _ (n : ℕ) (lists : Lists) (v : Vectors lists) (s : Sources lists v) (present : (p k f : ℕ) → k ≤ checkpoints (lists p) → v.vector p k f ≤ checkpoints (lists f))
    (S : List State) (M : List Sent) (h : Represents n lists v.vector (length S) (length M) S M) where
  abbrev rows : ℕ
  rows = length S

  abbrev last : ℕ
  last = length M

  abbrev iv : ℕ → ℕ
  iv r = interval_of S r

  abbrev own : ℕ → ℕ
  own r = owner_at S r

  -- A row that is not later has an interval that is not later, and the other way round.
  up : (r x : ℕ) → r ≤ x → x < rows → own r ≡ own x → iv r ≤ iv x
  up r x le lt e = by_eq r x (λ d. rw d (omega arith)) (λ ne. omega (arith, h.ascends r x (omega arith) lt e))

  down : (r x : ℕ) → r < rows → x < rows → own r ≡ own x → iv r ≤ iv x → r ≤ x
  down r x lr lx e le = by_bool (ltb x r)
      (λ d. absurd (omega (arith, h.ascends x r (ltb-true x r d) lr (sym e))))
      (λ d. ltb-false x r d)

  -- The place in the tables of a message that is sent and received.
  record Place (m p g q k : ℕ) : Type 0 where
    pub x : ℕ
    pub within : x < last
    pub got : to_at M x ≡ 0 → ⊥
    pub sender : own (from_at M x) ≡ p
    pub sent_at : iv (from_at M x) ≡ g
    pub receiver : own (to_at M x - 1) ≡ q
    pub got_at : iv (to_at M x - 1) ≡ k

  place : (m p g q k : ℕ) → StandsIn (sent m) g (lists p) → StandsIn (received m) k (lists q) → Place m p g q k
  place m p g q k a b =
      let w = h.all_sent p g m a in
      let u = h.all_received q k m b in
      let e : w.0 ≡ u.0 = omega (arith, w.2, u.2) in
      record { x = u.0; within = u.1; got = u.3; sender = moved u.0 w.0 e w.3; sent_at = moved_iv u.0 w.0 e w.4; receiver = u.4; got_at = u.5 }
    where
      moved : (y x : ℕ) → x ≡ y → own (from_at M x) ≡ p → own (from_at M y) ≡ p
      moved y x e w = rw e at w

      moved_iv : (y x : ℕ) → x ≡ y → iv (from_at M x) ≡ g → iv (from_at M y) ≡ g
      moved_iv y x e w = rw e at w

  -- Entry f of the row of a state.
  known : (r p k f : ℕ) → r < rows → f < 16 → own r ≡ p → iv r ≡ k → entry_at S r f ≡ v.vector p k f
  known r p k f lr lf e d = h.vector_is r f lr lf ∙ ap (λ (q : ℕ). v.vector q (iv r) f) e ∙ ap (λ (j : ℕ). v.vector p j f) d

  -- A crossing message of the lists is one of the tables.
  crossing_at : (f : ℕ) → f < 16 → (c : Crossing lists v f) → (x : ℕ) × (x < last) × (crosses_at S M f x ≡ true) × (known_at S M f x ≡ v.vector c.q c.h f)
  unfolding crosses_by
  crossing_at f lf c =
      let w = place c.m c.p c.g c.q c.h c.sent_in_lem c.received_in in
      let x = w.x in
      let a = known (to_at M x - 1) c.q c.h f (received_row h x w.within w.got) lf w.receiver w.got_at in
      let b = known (from_at M x) c.p c.g f (h.from_row x w.within) lf w.sender w.sent_at in
      (x, w.within, made (to_at M x) (known_at S M f x) (entry_at S (from_at M x) f) w.got (omega (arith, a, b, c.crosses)), a)

  -- And the other way round.
  at_crossing : (f x : ℕ) → f < 16 → x < last → crosses_at S M f x ≡ true → (c : Crossing lists v f) × (v.vector c.q c.h f ≡ known_at S M f x)
  unfolding crosses_by
  at_crossing f x lf lx e =
      let w = both (to_at M x) (known_at S M f x) (entry_at S (from_at M x) f) e in
      let a = h.vector_is (to_at M x - 1) f (received_row h x lx w.0) lf in
      let b = h.vector_is (from_at M x) f (h.from_row x lx) lf in (
        record {
          p = own (from_at M x);
          g = iv (from_at M x);
          q = own (to_at M x - 1);
          h = iv (to_at M x - 1);
          m = suc x;
          sent_in_lem = h.sent_in_lem x lx;
          received_in = h.received_in x lx w.0;
          crosses = omega (arith, a, b, w.1);
        },
        sym a,
      )

  -- Nobody knows of a process that is none of the n: so nothing crosses for it.
  sender_in : (p g m : ℕ) → StandsIn (sent m) g (lists p) → p < n
  sender_in p g m a = let w = h.all_sent p g m a in omega (arith, w.3, h.owner (from_at M w.0) (h.from_row w.0 w.1))

  path_from : {a α b k : ℕ} → Path lists a α b k → a < n
  path_from {a = a} (one {g = g} {m = m} x lt r) = sender_in a g m x
  path_from (onward w x le r) = path_from w

  crossing_in : (f : ℕ) → Crossing lists v f → f < n
  crossing_in f c = path_from (crossing_path lists v f c)

  none_crosses : (f : ℕ) → least_crossing_of S M f last ≡ None → f < n → Crossing lists v f → ⊥
  none_crosses f e lf c =
      let w = crossing_at f (omega (arith, h.few)) c in
      none≢some (sym e ∙ ((least_of S M f last).all w.0 w.1 w.2).1)

  entry_near : (a α b β : ℕ) → α < checkpoints (lists a) → β ≤ checkpoints (lists b) → α < v.vector b β a → Before lists a α b β
  entry_near a α b β x y z = by_entry lists v s a α x b β y z

  near_entry : (a α b β : ℕ) → α < checkpoints (lists a) → β ≤ checkpoints (lists b) → Before lists a α b β → α < v.vector b β a
  near_entry a α b β x y z = entry_by lists v s a α x b β y z

  pub says_trackable : NearEnd S M n None → paths.Trackable n lists
  says_trackable w = trackable n lists v entry_near near_entry (λ f c. let lf = crossing_in f c in none_crosses f (w f lf) lf c)

  -- The near end is found.
  module _ (near : End) (w : NearEnd S M n (Some near)) where
    abbrev p : ℕ
    p = near.process

    abbrev k : ℕ
    k = near.index.0

    p_in : p < n
    p_in = w.0

    p16 : p < 16
    p16 = omega (arith, p_in, h.few)

    -- A message that crosses with k.
    here : (c : Crossing lists v p) × (v.vector c.q c.h p ≡ k)
    here =
        let o = (least_of S M p last).one k w.1 in
        let c = at_crossing p o.0 p16 o.1 o.2 in
        (c.0, c.1 ∙ o.3)

    none_before : (f : ℕ) → f < p → Crossing lists v f → ⊥
    none_before f lf c = none_crosses f (w.2 f lf) (omega (arith, p_in)) c

    none_below : (c : Crossing lists v p) → k ≤ v.vector c.q c.h p
    none_below c =
        let u = crossing_at p p16 c in
        let a = (least_of S M p last).all u.0 u.1 u.2 in
        let same : k ≡ a.0 = some_same (sym w.1 ∙ a.1) in
        omega (arith, a.2, u.3, same)

    pub near_stored : k < checkpoints (lists p)
    near_stored =
        let c = here.0 in
        omega (arith, here.1, c.crosses, present c.p c.g p (stands_le (lists c.p) c.sent_in_lem))

    -- There is a row after the near end: that of the next state of its process.
    next_row : (r : ℕ) × (r < rows) × (own r ≡ p) × (iv r ≡ suc k)
    next_row = h.there p (suc k) p_in (omega arith) (omega (arith, near_stored))

    pub first_there : FirstRow S p k None → ⊥
    first_there fr =
        let t = next_row in
        let at_p : entry_at S t.0 p ≡ iv t.0 = ap (λ (q : ℕ). entry_at S t.0 q) (sym t.2) in
        omega (arith, fr t.0 t.1 t.2, at_p, t.3)

    -- The first row after the near end.
    module _ (row : ℕ) (fr : FirstRow S p k (Some row)) where
      row_is : (row < rows) × (own row ≡ p) × (iv row ≡ suc k)
      row_is =
          let t = next_row in
          let r = t.0 in
          let at_p : entry_at S r p ≡ iv r = ap (λ (q : ℕ). entry_at S r q) (sym t.2) in
          let le : row ≤ r = not_later r t.2 (omega (arith, at_p, t.3)) in
          let at_row : entry_at S row p ≡ iv row = ap (λ (q : ℕ). entry_at S row q) (sym fr.1) in
          (fr.0, fr.1, omega (arith, fr.2, at_row, t.3, up row r le t.1 (fr.1 ∙ sym t.2)))
        where
          not_later : (r : ℕ) → own r ≡ p → k < entry_at S r p → row ≤ r
          not_later r e l = by_bool (ltb r row)
              (λ d. absurd (omega (arith, fr.3 r (ltb-true r row d) e)))
              (λ d. ltb-false r row d)

      module _ (start reach : List (Option ℕ)) (begin-p : get_or start p None ≡ Some row) (begin_other : (q : ℕ) → (q ≡ p → ⊥) → get_or start q None ≡ None)
          (cl : Closure last S M start reach) where
        -- A row that is reached is the first one, or a path ends in it.
        unfoldable Good : ℕ → ℕ → Type 0
        Good q r = (r < rows) × (own r ≡ q) × (((q ≡ p) × (iv r ≡ suc k)) ⊎ Path lists p k q (iv r))

        path_on : (q r m : ℕ) → m < last → (to_at M m ≡ 0 → ⊥) → own (from_at M m) ≡ q → r ≤ from_at M m → r < rows → own r ≡ q
            → ((q ≡ p) × (iv r ≡ suc k)) ⊎ Path lists p k q (iv r) → Path lists p k (own (to_at M m - 1)) (iv (to_at M m - 1))
        path_on q r m lm ne e le lr eq x =
            let rises = up r (from_at M m) le (h.from_row m lm) (eq ∙ sym e) in
            let sent-there = moved q e (h.sent_in_lem m lm) in
            either x
            (λ y. one {g = iv (from_at M m)} {m = suc m} (moved p (e ∙ y.0) (h.sent_in_lem m lm)) (omega (arith, rises, y.1)) (h.received_in m lm ne))
            (λ y. onward {m = suc m} y sent-there rises (h.received_in m lm ne))
          where
            moved : (q : ℕ) {o g : ℕ} → o ≡ q → StandsIn (sent (suc m)) g (lists o) → StandsIn (sent (suc m)) g (lists q)
            moved q e y = rw e at y

        good : {q r : ℕ} → ReachedRow last S M start q r → Good q r
        unfolding Good
        good (begins {q = q} {r = r} g) = by_eq q p
            (λ e. let d : r ≡ row = some_same (sym g ∙ ap (λ (x : ℕ). get_or start x None) e ∙ begin-p) in rw d (row_is.0, row_is.1 ∙ sym e, inl (e, row_is.2)))
            (λ ne. absurd (none≢some (sym (begin_other q ne) ∙ g)))
        good (leads {r = r} {m = m} lm ne x le) =
            let y = good x in
            (received_row h m lm ne, refl, inr (path_on (sender_of S M m) r m lm ne refl le y.0 y.1 y.2))

        reach_good : (q r : ℕ) → get_or reach q None ≡ Some r → Good q r
        reach_good q r e = good (cl.sound q r e)

        -- Every row that is reached is there.
        pub reach_rows : (q r : ℕ) → get_or reach q None ≡ Some r → r < rows
        unfolding Good
        reach_rows q r e = (reach_good q r e).0

        -- A row as a number.
        is_some_row : (q : ℕ) → reach_at reach q < rows → get_or reach q None ≡ Some (reach_at reach q)
        is_some_row q lr = some_row (get_or reach q None) (omega (arith, lr, h.most_rows_lem))

        -- The least interval of each process that is reached, or one above all.
        unfoldable R : ℕ → ℕ
        R b = pick (ltb b n && ltb (reach_at reach b) rows) (iv (reach_at reach b)) (suc (checkpoints (lists b)))

        R-in : (b : ℕ) → b < n → reach_at reach b < rows → R b ≡ iv (reach_at reach b)
        unfolding R
        R-in b lb lr = rw (lt-ltb b n lb, lt-ltb (reach_at reach b) rows lr)

        R-not : (b : ℕ) → b < n → rows ≤ reach_at reach b → R b ≡ suc (checkpoints (lists b))
        unfolding R
        R-not b lb lr = rw (lt-ltb b n lb, le-ltb (reach_at reach b) rows lr)

        -- A process with a least interval that it has has a row.
        row_there : (b : ℕ) → b < n → R b ≤ checkpoints (lists b) → reach_at reach b < rows
        row_there b lb le = by_bool (ltb (reach_at reach b) rows)
            (λ e. ltb-true (reach_at reach b) rows e)
            (λ e. absurd (omega (arith, R-not b lb (ltb-false (reach_at reach b) rows e))))

        owned : (b : ℕ) → reach_at reach b < rows → own (reach_at reach b) ≡ b
        unfolding Good
        owned b lr = (reach_good b (reach_at reach b) (is_some_row b lr)).1

        R-start : R p ≤ suc k
        R-start =
            let at_start : reach_at start p ≡ row = ap row_number begin-p in
            let lr : reach_at reach p < rows = omega (arith, cl.lower p, at_start, row_is.0) in
            omega (arith, R-in p p_in lr, up (reach_at reach p) row (omega (arith, cl.lower p, at_start)) row_is.0 (owned p lr ∙ sym row_is.1), row_is.2)

        R-closed : (q g b j m : ℕ) → StandsIn (sent m) g (lists q) → StandsIn (received m) j (lists b) → R q ≤ g → R b ≤ j
        R-closed q g b j m x y le =
            let u = place m q g b j x y in
            let i = u.x in
            let lq : q < n = sender_in q g m x in
            let lr = row_there q lq (omega (arith, stands_le (lists q) x)) in
            let to-there = received_row h i u.within u.got in
            let lb : b < n = omega (arith, u.receiver, h.owner (to_at M i - 1) to-there) in
            let before : reach_at reach q ≤ from_at M i =
            down (reach_at reach q) (from_at M i) lr (h.from_row i u.within) (owned q lr ∙ sym u.sender) (omega (arith, R-in q lq lr, u.sent_at)) in
            let back : reach_at reach b ≤ to_at M i - 1 = closed_at i u.within u.got q b u.sender u.receiver before in
            let lr2 : reach_at reach b < rows = omega arith in
            omega (arith, R-in b lb lr2, up (reach_at reach b) (to_at M i - 1) back to-there (owned b lr2 ∙ sym u.receiver), u.got_at)
          where
            closed_at : (i : ℕ) → i < last → (to_at M i ≡ 0 → ⊥) → (q b : ℕ) → own (from_at M i) ≡ q → own (to_at M i - 1) ≡ b
                → reach_at reach q ≤ from_at M i → reach_at reach b ≤ to_at M i - 1
            closed_at i li ne q b e d le =
                omega (arith, cl.closed i li ne (omega (arith, ap (λ (z : ℕ). reach_at reach z) e)), ap (λ (z : ℕ). reach_at reach z) d)

        known_at_lem : (b : ℕ) → b < n → reach_at reach b < rows → entry_at S (reach_at reach b) p ≡ v.vector b (R b) p
        known_at_lem b lb lr = known (reach_at reach b) b (R b) p lr p16 (owned b lr) (sym (R-in b lb lr))

        -- There is a far end: the message that crosses with k ends a path.
        pub far_there : FarEnd S reach n near None → ⊥
        far_there fe =
            let c = here.0 in
            let q = c.q in
            let low = reached lists p k R R-start R-closed (at_k (crossing_path lists v p c)) in
            let top = stands_le (lists q) c.received_in in
            let lq : q < n = receiver_in q c.h c.m c.received_in in
            let lr = row_there q lq (omega (arith, low, top)) in
            omega (arith, fe q (reach_at reach q) lq (is_some_row q lr), known_at_lem q lq lr, higher lists v q (R q) c.h p low top, here.1)
          where
            at_k : Path lists p (v.vector here.0.q here.0.h p) here.0.q here.0.h → Path lists p k here.0.q here.0.h
            at_k y = rw here.1 at y

            receiver_in : (q g m : ℕ) → StandsIn (received m) g (lists q) → q < n
            receiver_in q g m y = let u = h.all_received q g m y in omega (arith, u.4, h.owner (to_at M u.0 - 1) (received_row h u.0 u.1 u.3))

        pub says_breaks : (far : End) → FarEnd S reach n near (Some far) → FirstBreaking n lists p k far.process far.index.0
        says_breaks far ((row, e, low, i), lq, before) =
            let q = far.process in
            let lr = reach_rows q row e in
            let same : reach_at reach q ≡ row = ap row_number e in
            let lr' : reach_at reach q < rows = omega (arith, same) in
            let o : own row ≡ q = ap own (sym same) ∙ owned q lr' in
            let index : far.index.0 ≡ R q = i ∙ at_own q row o ∙ ap iv (sym same) ∙ sym (R-in q lq lr') in
            let known : entry_at S row p ≡ v.vector q (R q) p = ap (λ (r : ℕ). entry_at S r p) (sym same) ∙ known_at_lem q lq lr' in
            rw index (first_breaking n lists v entry_near near_entry p k q (R q) p_in lq near_stored none_before none_below R R-start R-closed refl
            (path_to q row lq e low) (omega (arith, low, known))
            (λ b lt le. let lb : b < n = omega (arith, lq) in let lr2 = row_there b lb le in omega (arith, before b (reach_at reach b) lt (is_some_row b lr2), known_at_lem b lb lr2)))
          where
            at_own : (q row : ℕ) → own row ≡ q → entry_at S row q ≡ iv row
            at_own q row e = ap (λ (z : ℕ). entry_at S row z) (sym e)

            path_to : (q row : ℕ) → q < n → get_or reach q None ≡ Some row → entry_at S row p ≤ k → Path lists p k q (R q)
            path_to q row lq e le = unfold Good in
                let y = reach_good q row e in
                let same : reach_at reach q ≡ row = ap row_number e in
                let lr : reach_at reach q < rows = omega (arith, same, y.0) in
                either y.2
                (λ z. absurd (omega (arith, z.1, ap (λ (x : ℕ). entry_at S row x) z.0, at_own q row y.1)))
                (λ z. rw (R-in q lq lr, same) z)
