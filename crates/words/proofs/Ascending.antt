-- Numbers that ascend along a list, and along the elements of a list that pass a test: by index.
-- Assumes nothing.
use Rattle.std.specs.Prelude.{◌≡◌, ◌∷◌, ◌≤◌, ◌<◌}
use Rattle.laws.specs.Basics.{refl, ◌∙◌, ap, Bool, true, List, [], map, ℕ, zero, suc, arith, leb, length, get_or, leb-true, pick, by_bool}
use Rattle.laws.specs.{Lists.select, Tests.every, Truth.and_left, Truth.and_right}
use Rattle.model.specs.Sound.{ascending}

module _ {A : Type 0} (number : A → ℕ) (d : A) where
  pub ascending_least : (low : ℕ) (l : List A) (k : ℕ) → ascending low (map number l) ≡ true → k < length l → low ≤ number (get_or l k d)
  unfolding ascending
  ascending_least low [] k e lt = absurd (omega arith)
  ascending_least low (x ∷ l) zero e lt = leb-true low (number x) (and_left _ _ e)
  ascending_least low (x ∷ l) (suc k) e lt =
      let first = leb-true low (number x) (and_left _ _ e) in
      let next = ascending_least (suc (number x)) l k (and_right (leb low (number x)) _ e) (omega arith) in
      omega arith

  pub ascending_less : (low : ℕ) (l : List A) (j k : ℕ) → ascending low (map number l) ≡ true → j < k → k < length l → number (get_or l j d) < number (get_or l k d)
  unfolding ascending
  ascending_less low [] j k e less lt = absurd (omega arith)
  ascending_less low (x ∷ l) j zero e less lt = absurd (omega arith)
  ascending_less low (x ∷ l) zero (suc k) e less lt = ascending_least (suc (number x)) l k (and_right (leb low (number x)) _ e) (omega arith)
  ascending_less low (x ∷ l) (suc j) (suc k) e less lt = ascending_less (suc (number x)) l j k (and_right (leb low (number x)) _ e) (omega arith) (omega arith)

  module _ (t : A → Bool) where
    pub selected_least : (low : ℕ) (l : List A) (k : ℕ) → ascending low (map number (select t l)) ≡ true → k < length l → t (get_or l k d) ≡ true → low ≤ number (get_or l k d)
    unfolding ascending select
    selected_least low [] k e lt used = absurd (omega arith)
    selected_least low (x ∷ l) zero e lt used = leb-true low (number x) (and_left _ _ (rw used at e))
    selected_least low (x ∷ l) (suc k) e lt used = by_bool (t x)
        (λ yes.
        let e' = rw yes at e in
        let first = leb-true low (number x) (and_left (leb low (number x)) _ e') in
        let next = selected_least (suc (number x)) l k (and_right (leb low (number x)) _ e') (omega arith) used in
        omega arith)
        (λ no. selected_least low l k (rw no at e) (omega arith) used)

    pub selected_less : (low : ℕ) (l : List A) (j k : ℕ) → ascending low (map number (select t l)) ≡ true → j < k → k < length l → t (get_or l j d) ≡ true → t (get_or l k d) ≡ true
        → number (get_or l j d) < number (get_or l k d)
    unfolding ascending select
    selected_less low [] j k e less lt a b = absurd (omega arith)
    selected_less low (x ∷ l) j zero e less lt a b = absurd (omega arith)
    selected_less low (x ∷ l) zero (suc k) e less lt a b = selected_least (suc (number x)) l k (and_right (leb low (number x)) _ (rw a at e)) (omega arith) b
    selected_less low (x ∷ l) (suc j) (suc k) e less lt a b = by_bool (t x)
        (λ yes. selected_less (suc (number x)) l j k (and_right (leb low (number x)) _ (rw yes at e)) (omega arith) (omega arith) a b)
        (λ no. selected_less low l j k (rw no at e) (omega arith) (omega arith) a b)

-- Every element that was selected passes a test.
pub every_selected : {A : Type 0} (t u : A → Bool) (l : List A) (k : ℕ) (d : A) → every u (select t l) ≡ true → k < length l → t (get_or l k d) ≡ true → u (get_or l k d) ≡ true
unfolding every select
every_selected t u [] k d e lt used = absurd (omega arith)
every_selected t u (x ∷ l) zero d e lt used = and_left (u x) _ (rw used at e)
every_selected t u (x ∷ l) (suc k) d e lt used = by_bool (t x)
    (λ yes. every_selected t u l k d (and_right (u x) _ (rw yes at e)) (omega arith) used)
    (λ no. every_selected t u l k d (rw no at e) (omega arith) used)

-- An element that was selected passes the test.
pub selected_passes : {A : Type 0} (t : A → Bool) (l : List A) → every t (select t l) ≡ true
unfolding every select
selected_passes t [] = refl
selected_passes t (x ∷ l) = by_bool (t x) (λ yes. rw (yes, yes) (selected_passes t l)) (λ no. rw no (selected_passes t l))

-- Where in the list an element that was selected stands.
pub selected_where : {A : Type 0} (t : A → Bool) (l : List A) (k : ℕ) (d : A) → k < length (select t l) → (j : ℕ) × (j < length l) × (get_or (select t l) k d ≡ get_or l j d)
unfolding select
selected_where t [] k d lt = absurd (omega arith)
selected_where t (x ∷ l) zero d lt = by_bool (t x)
    (λ e. (0, omega arith, rw e))
    (λ e. let r = selected_where t l zero d (rw e at lt) in (suc r.0, omega (arith, r.1), ap (λ b. get_or (pick b (x ∷ select t l) (select t l)) zero d) e ∙ r.2))
selected_where t (x ∷ l) (suc k) d lt = by_bool (t x)
    (λ e.
    let lt' : suc k < length (x ∷ select t l) = rw e at lt in
    let r = selected_where t l k d (omega arith) in
    (suc r.0, omega (arith, r.1), ap (λ b. get_or (pick b (x ∷ select t l) (select t l)) (suc k) d) e ∙ r.2))
    (λ e. let r = selected_where t l (suc k) d (rw e at lt) in (suc r.0, omega (arith, r.1), ap (λ b. get_or (pick b (x ∷ select t l) (select t l)) (suc k) d) e ∙ r.2))
