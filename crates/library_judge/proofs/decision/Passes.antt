-- What a pass over the messages does to what is reached: entries only fall, each is the end of a way from the start, and a pass that changes nothing has
-- found what is closed.
-- Assumes nothing.
use Rattle.std.specs.Prelude.{◌≡◌, ◌∷◌, ◌⊎◌, ◌+◌, ◌-◌, ◌≤◌, ◌<◌}
use Rattle.laws.specs.Basics.{refl, sym, ◌∙◌, ap, Bool, true, false, false≢true, List, [], Option, None, Some, inl, inr, ℕ, zero, suc, arith, eqb, ltb, leb, length, get_or, set, length-set, get_or-set_same, get_or-set_other, eqb-true, eqb-false, ltb-true, ltb-false, leb-true, leb-false, by_bool, by_eq}
use Rattle.laws.specs.Loops.{either}
use Rattle.laws.specs.Options.{some_same}
use Rattle.library_judge.specs.declared.pattern.{State.State, Sent.Sent}
use Rattle.library_judge.specs.decision.Rows.{no_sent, from_at, to_at, row_number, reach_at}
use Rattle.library_judge.specs.decision.Reach.{Pass, Linked, sender_of, receiver_of, lowered_by, relaxed_by, passed, ReachedRow, begins, leads}

-- The rows that are reached, added up: none counts as one above every row.
unfoldable pub total : List (Option ℕ) → ℕ
total [] = 0
total (x ∷ l) = row_number x + total l

pub total_set : (l : List (Option ℕ)) (q b : ℕ) → q < length l → b < reach_at l q → total (set l q (Some b)) < total l
unfolding total
total_set [] q b h lt = absurd (omega arith)
total_set (x ∷ l) zero b h lt = omega arith
total_set (x ∷ l) (suc q) b h lt = omega (arith, total_set l q b (omega arith) lt)

-- A row that is reached is there.
pub some_row : (o : Option ℕ) → row_number o < 65535 → o ≡ Some (row_number o)
some_row None h = absurd (omega arith)
some_row (Some r) h = refl

reach_same : (l : List (Option ℕ)) (q b : ℕ) → q < length l → reach_at (set l q (Some b)) q ≡ b
reach_same l q b h = ap row_number (get_or-set_same l q (Some b) None h)

reach_other : (l : List (Option ℕ)) (q x b : ℕ) → (x ≡ q → ⊥) → reach_at (set l q (Some b)) x ≡ reach_at l x
reach_other l q x b ne = ap row_number (get_or-set_other l q x (Some b) None ne)

-- Message m lowers what its sender's reached row lets it lower.
abbrev pub relaxed_at : List State → List Sent → ℕ → Pass → Pass
relaxed_at S M m p = relaxed_by S (get_or M m no_sent) p

unfoldable pub mark : Bool → ℕ
mark true = 1
mark false = 0

-- A message lowers an entry, or all stays.
pub record Lowers (s q a b : ℕ) (p : Pass) : Type 0 where
  pub from : reach_at p.reach s ≤ a
  pub to : b < reach_at p.reach q
  pub is : lowered_by s q a b p ≡ record { reach = set p.reach q (Some b); changed = true }

pub lowered_cases : (s q a b : ℕ) (p : Pass) → Lowers s q a b p ⊎ ((lowered_by s q a b p ≡ p) × (reach_at p.reach s ≤ a → reach_at p.reach q ≤ b))
unfolding lowered_by
lowered_cases s q a b p = by_bool (leb (reach_at p.reach s) a)
    (λ e. by_bool (ltb b (reach_at p.reach q))
    (λ d. inl (record { from = leb-true _ _ e; to = ltb-true _ _ d; is = rw (e, d) }))
    (λ d. inr (rw (e, d), λ h. ltb-false _ _ d)))
    (λ e. inr (rw e, λ h. absurd (omega (arith, leb-false (reach_at p.reach s) a e))))

module _ (S : List State) (M : List Sent) where
  -- Message m lowers, or all stays and what m asks for holds.
  pub record Moves (m : ℕ) (p : Pass) : Type 0 where
    pub there : to_at M m ≡ 0 → ⊥
    pub lowers : Lowers (sender_of S M m) (receiver_of S M m) (from_at M m) (to_at M m - 1) p
    pub is : relaxed_at S M m p ≡ record { reach = set p.reach (receiver_of S M m) (Some (to_at M m - 1)); changed = true }

  abbrev pub Holds : ℕ → List (Option ℕ) → Type 0
  Holds m r = (to_at M m ≡ 0 → ⊥) → reach_at r (sender_of S M m) ≤ from_at M m → reach_at r (receiver_of S M m) ≤ to_at M m - 1

  pub record Lowered (start r : List (Option ℕ)) : Type 0 where
    pub size : length r ≡ 16
    pub lower : (q : ℕ) → reach_at r q ≤ reach_at start q
    pub sound : (q row : ℕ) → get_or r q None ≡ Some row → ReachedRow (length M) S M start q row

  abbrev pub Closed : List (Option ℕ) → Type 0
  Closed r = (x : ℕ) → x < length M → Holds x r

module _ (S : List State) (M : List Sent) (g : Linked S M) where
  abbrev last : ℕ
  last = length M

  receiver_in : (m : ℕ) → m < last → (to_at M m ≡ 0 → ⊥) → receiver_of S M m < 16
  receiver_in m h ne = (g m h).3 ne

  pub relaxed_cases : (m : ℕ) (p : Pass) → Moves S M m p ⊎ ((relaxed_at S M m p ≡ p) × Holds S M m p.reach)
  unfolding relaxed_by
  relaxed_cases m p = by_bool (eqb (to_at M m) 0)
      (λ e. inr (rw e, λ ne. absurd (ne (eqb-true (to_at M m) 0 e))))
      (λ e. either (lowered_cases (sender_of S M m) (receiver_of S M m) (from_at M m) (to_at M m - 1) p)
      (λ w. inl (record { there = eqb-false (to_at M m) 0 e; lowers = w; is = rw e w.is }))
      (λ w. inr (rw e w.0, λ ne. w.1)))

  pub lowered_none : (start : List (Option ℕ)) → length start ≡ 16 → Lowered S M start start
  lowered_none start e = record { size = e; lower = λ q. omega arith; sound = λ q row e. begins e }

  pub relaxed_lowered : (start : List (Option ℕ)) (m : ℕ) (p : Pass) → m < last → Lowered S M start p.reach → Lowered S M start (relaxed_at S M m p).reach
  relaxed_lowered start m p h w = either (relaxed_cases m p)
      (λ v.
      let b = to_at M m - 1 in
      let q = receiver_of S M m in
      let s = sender_of S M m in
      let inside : q < length p.reach = omega (arith, w.size, receiver_in m h v.there) in
      let there : get_or p.reach s None ≡ Some (reach_at p.reach s) = some_row (get_or p.reach s None) (omega (arith, v.lowers.from, (g m h).1.0)) in
      rw v.is (record {
        size = length-set p.reach q (Some b) ∙ w.size;
        lower = λ x. by_eq x q
            (λ e. rw e (omega (arith, reach_same p.reach q b inside, v.lowers.to, w.lower q)))
            (λ ne. omega (arith, reach_other p.reach q x b ne, w.lower x));
        sound = λ x row d. by_eq x q
            (λ e. let c : b ≡ row = some_same (sym (get_or-set_same p.reach q (Some b) None inside) ∙ ap (λ (y : ℕ). get_or (set p.reach q (Some b)) y None) (sym e) ∙ d) in
            rw (e, ← c) (leads h v.there (w.sound s (reach_at p.reach s) there) v.lowers.from))
            (λ ne. w.sound x row (sym (get_or-set_other p.reach q x (Some b) None ne) ∙ d));
      }))
      (λ v. rw v.0 w)

  pub passed_lowered : (start : List (Option ℕ)) (m : ℕ) (p : Pass) → m ≤ last → Lowered S M start p.reach → Lowered S M start (passed S M m p).reach
  unfolding passed
  passed_lowered start zero p h w = w
  passed_lowered start (suc m) p h w = passed_lowered start m (relaxed_at S M m p) (omega arith) (relaxed_lowered start m p (omega arith) w)

  reached_from : (start mid : List (Option ℕ)) → ((q row : ℕ) → get_or mid q None ≡ Some row → ReachedRow last S M start q row) → {q r : ℕ} → ReachedRow last S M mid q r → ReachedRow last S M start q r
  reached_from start mid w (begins e) = w _ _ e
  reached_from start mid w (leads h ne v le) = leads h ne (reached_from start mid w v) le

  pub lowered_then : (start mid r : List (Option ℕ)) → Lowered S M start mid → Lowered S M mid r → Lowered S M start r
  lowered_then start mid r w v = record {
    size = v.size;
    lower = λ q. omega (arith, w.lower q, v.lower q);
    sound = λ q row e. reached_from start mid w.sound (v.sound q row e);
  }

  -- A pass without a change leaves all as it was, and it is closed.
  still : (m : ℕ) (p : Pass) → (relaxed_at S M m p).changed ≡ false → (relaxed_at S M m p ≡ p) × Holds S M m p.reach
  still m p e = either (relaxed_cases m p)
      (λ v. absurd (false≢true (sym e ∙ ap (λ (x : Pass). x.changed) v.is)))
      (λ v. v)

  pub passed_still : (m : ℕ) (p : Pass) → (passed S M m p).changed ≡ false → (passed S M m p ≡ p) × ((x : ℕ) → x < m → Holds S M x p.reach)
  unfolding passed
  passed_still zero p e = (refl, λ x h. absurd (omega arith))
  passed_still (suc m) p e =
      let w = passed_still m (relaxed_at S M m p) e in
      let v = still m p (sym (ap (λ (x : Pass). x.changed) w.0) ∙ e) in (
        w.0 ∙ v.0,
        λ x h. by_eq x m
            (λ d. rw d v.1)
            (λ ne. rw v.0 at (w.1 x (omega arith))),
      )

  -- A pass with a change has lowered the total.
  relaxed_total : (m : ℕ) (p : Pass) → m < last → length p.reach ≡ 16 → total (relaxed_at S M m p).reach ≤ total p.reach
  relaxed_total m p h size = either (relaxed_cases m p)
      (λ v. rw v.is (omega (arith, total_set p.reach (receiver_of S M m) (to_at M m - 1) (omega (arith, receiver_in m h v.there)) v.lowers.to)))
      (λ v. rw v.0 (omega arith))

  relaxed_size : (m : ℕ) (p : Pass) → length p.reach ≡ 16 → length (relaxed_at S M m p).reach ≡ 16
  relaxed_size m p size = either (relaxed_cases m p)
      (λ v. rw v.is (length-set p.reach (receiver_of S M m) (Some (to_at M m - 1)) ∙ size))
      (λ v. rw v.0 size)

  pub passed_total : (m : ℕ) (p : Pass) → m ≤ last → length p.reach ≡ 16 → total (passed S M m p).reach ≤ total p.reach
  unfolding passed
  passed_total zero p h size = omega arith
  passed_total (suc m) p h size =
      omega (arith, passed_total m (relaxed_at S M m p) (omega arith) (relaxed_size m p size), relaxed_total m p (omega arith) size)

  carry : (m : ℕ) (p q : Pass) → q ≡ p → ((passed S M m p).changed ≡ true → total (passed S M m p).reach < total p.reach)
      → (passed S M m q).changed ≡ true → total (passed S M m q).reach < total p.reach
  carry m p q e = rw e (λ f. f)

  pub passed_falls : (m : ℕ) (p : Pass) → m ≤ last → length p.reach ≡ 16 → p.changed ≡ false → (passed S M m p).changed ≡ true
      → total (passed S M m p).reach < total p.reach
  unfolding passed
  passed_falls zero p h size e d = absurd (false≢true (sym e ∙ d))
  passed_falls (suc m) p h size e d = either (relaxed_cases m p)
      (λ v. omega (
        arith,
        passed_total m (relaxed_at S M m p) (omega arith) (relaxed_size m p size),
        ap (λ (x : Pass). total x.reach) v.is,
        total_set p.reach (receiver_of S M m) (to_at M m - 1) (omega (arith, receiver_in m (omega arith) v.there)) v.lowers.to,
      ))
      (λ v. carry m p (relaxed_at S M m p) v.0 (passed_falls m p (omega arith) size e) d)

  -- One pass from what is reached.
  pub record Passed (l : List (Option ℕ)) (r : Pass) : Type 0 where
    pub lowered : Lowered S M l r.reach
    pub closed : r.changed ≡ false → Closed S M r.reach
    pub less : total r.reach + mark r.changed ≤ total l

  pub one_pass : (l : List (Option ℕ)) (r : Pass) → length l ≡ 16 → r ≡ passed S M last (record { reach = l; changed = false }) → Passed l r
  unfolding mark
  one_pass l r size e =
      let p : Pass = record { reach = l; changed = false } in
      rw e (record {
        lowered = passed_lowered l last p (omega arith) (lowered_none l size);
        closed = λ d. let w = passed_still last p d in λ x h. kept w.0 x (w.1 x h);
        less = by_bool (passed S M last p).changed
            (λ d. rw d (omega (arith, passed_falls last p (omega arith) size refl d)))
            (λ d. rw d (omega (arith, passed_total last p (omega arith) size)));
      })
    where
      kept : {p q : Pass} → q ≡ p → (x : ℕ) → Holds S M x p.reach → Holds S M x q.reach
      kept e x w = rw e w
