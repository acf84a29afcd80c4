-- Note 12: lists of records taken, newest first: the numbers of their messages, the part before a send, the records of one process.
use Rattle.std.specs.Prelude.{◌≡◌, ◌&&◌, ◌∷◌, ◌++◌, ◌≤◌}
use Rattle.laws.specs.Basics.{refl, sym, ◌∙◌, ap, Bool, true, false, not, List, [], append_assoc, inl, inr, ℕ, suc, arith, eqb, eq-eqb, ne_eqb, eqb-true, pick, by_bool}
use Rattle.laws.specs.{Lists.select, Select.select_append, Tests.every, Truth.never_both, Truth.and_left, Truth.and_right, Truth.and_no_right}
use Rattle.theory_merges.specs.Halves.{HalfEvent, checkpoint_at, send_to, deliver_of, lose_of, is_send, send_by, how_many, is_send_number, message_number, receives, receiver_of, newest_first, happens_at, KeepsBoth}

-- A message with a number was sent: its count is at most the number of its sender's sends, and its number at most that of all.
pub number_out : (l : List HalfEvent) (s c : ℕ) → 1 ≤ message_number l s c → (1 ≤ c) × (c ≤ how_many (send_by s) l)
unfolding message_number how_many is_send_number
number_out [] s c h = absurd (omega arith)
number_out (x ∷ l) s c h = by_bool (send_by s x)
    (λ e. by_bool (eqb c (suc (how_many (send_by s) l)))
    (λ d. let q : c ≡ suc (how_many (send_by s) l) = eqb-true c (suc (how_many (send_by s) l)) d in rw e (omega arith, omega arith))
    (λ d. let w = number_out l s c (rw (e, d) at h) in rw e (w.0, omega (arith, w.1))))
    (λ e. let w = number_out l s c (rw e at h) in rw e w)

pub number_used : (l : List HalfEvent) (s c : ℕ) → message_number l s c ≤ how_many is_send l
unfolding message_number how_many is_send_number is_send send_by
number_used [] s c = omega arith
number_used (checkpoint_at p ∷ l) s c = number_used l s c
number_used (send_to i j ∷ l) s c = by_bool (eqb i s && eqb c (suc (how_many (send_by s) l))) (λ e. rw e (omega arith)) (λ e. rw e (omega (arith, number_used l s c)))
number_used (deliver_of q k ∷ l) s c = number_used l s c
number_used (lose_of q k ∷ l) s c = number_used l s c

-- A send that was taken keeps its number.
pub number_still : (x : HalfEvent) (l : List HalfEvent) (s c : ℕ) → c ≤ how_many (send_by s) l → message_number (x ∷ l) s c ≡ message_number l s c
unfolding message_number is_send_number
number_still x l s c le = rw (and_no_right (send_by s x) (eqb c (suc (how_many (send_by s) l))) (ne_eqb c (suc (how_many (send_by s) l)) (omega arith)))

pub number_new : (i j : ℕ) (l : List HalfEvent) → message_number (send_to i j ∷ l) i (suc (how_many (send_by i) l)) ≡ suc (how_many is_send l)
unfolding message_number is_send_number send_by
number_new i j l = rw (eq-eqb i i refl, eq-eqb (suc (how_many (send_by i) l)) (suc (how_many (send_by i) l)) refl)

-- What was taken before send c of its process, in the records of that process.
unfoldable pub before : ℕ → List HalfEvent → List HalfEvent
before c [] = []
before c (x ∷ l) = pick (is_send x && eqb c (suc (how_many is_send l))) l (before c l)

how_many_append : (t : HalfEvent → Bool) (a b : List HalfEvent) → how_many t b ≤ how_many t (a ++ b)
unfolding how_many
how_many_append t [] b = omega arith
how_many_append t (x ∷ a) b = by_bool (t x) (λ e. rw e (omega (arith, how_many_append t a b))) (λ e. rw e (how_many_append t a b))

pub before_is : (more : List HalfEvent) (i j : ℕ) (l : List HalfEvent) → before (suc (how_many is_send l)) (more ++ (send_to i j ∷ l)) ≡ l
unfolding before is_send how_many
before_is [] i j l = rw (eq-eqb (suc (how_many is_send l)) (suc (how_many is_send l)) refl)
before_is (x ∷ more) i j l = rw (and_no_right (is_send x) _ (ne_eqb (suc (how_many is_send l)) (suc (how_many is_send (more ++ (send_to i j ∷ l)))) (omega (arith, longer)))) (before_is more i j l)
  where
    longer : suc (how_many is_send l) ≤ how_many is_send (more ++ (send_to i j ∷ l))
    longer = how_many_append is_send more (send_to i j ∷ l)

-- The records of process p.
unfoldable pub own : (ℕ → ℕ → ℕ) → ℕ → List HalfEvent → List HalfEvent
own to p = select (λ x. eqb (happens_at to x) p)

pub own_nil : (to : ℕ → ℕ → ℕ) (p : ℕ) → own to p [] ≡ []
unfolding own select
own_nil to p = refl

pub own_here : (to : ℕ → ℕ → ℕ) (p : ℕ) (x : HalfEvent) (l : List HalfEvent) → happens_at to x ≡ p → own to p (x ∷ l) ≡ x ∷ own to p l
unfolding own select
own_here to p x l e = rw (eq-eqb (happens_at to x) p e)

pub own_elsewhere : (to : ℕ → ℕ → ℕ) (p : ℕ) (x : HalfEvent) (l : List HalfEvent) → (happens_at to x ≡ p → ⊥) → own to p (x ∷ l) ≡ own to p l
unfolding own select
own_elsewhere to p x l ne = rw (ne_eqb (happens_at to x) p ne)

pub own_append : (to : ℕ → ℕ → ℕ) (p : ℕ) (a b : List HalfEvent) → own to p (a ++ b) ≡ own to p a ++ own to p b
unfolding own
own_append to p a b = select_append (λ x. eqb (happens_at to x) p) a b

-- Its sends are the sends in them.
pub own_sends : (to : ℕ → ℕ → ℕ) (p : ℕ) (l : List HalfEvent) → how_many is_send (own to p l) ≡ how_many (send_by p) l
unfolding own select how_many is_send send_by happens_at
own_sends to p [] = refl
own_sends to p (checkpoint_at q ∷ l) = by_bool (eqb q p) (λ e. rw e (own_sends to p l)) (λ e. rw e (own_sends to p l))
own_sends to p (send_to i j ∷ l) = by_bool (eqb i p) (λ e. rw e (ap suc (own_sends to p l))) (λ e. rw e (own_sends to p l))
own_sends to p (deliver_of s c ∷ l) = by_bool (eqb (to s c) p) (λ e. rw e (own_sends to p l)) (λ e. rw e (own_sends to p l))
own_sends to p (lose_of s c ∷ l) = by_bool (eqb (to s c) p) (λ e. rw e (own_sends to p l)) (λ e. rw e (own_sends to p l))

-- Turning round.
pub reversed_append : (taken l : List HalfEvent) → newest_first taken l ≡ newest_first [] l ++ taken
unfolding newest_first
reversed_append taken [] = refl
reversed_append taken (x ∷ l) = reversed_append (x ∷ taken) l ∙ sym (append_assoc (newest_first [] l) (x ∷ []) taken) ∙ ap (λ (a : List HalfEvent). a ++ taken) (sym (reversed_append (x ∷ []) l))

pub reversed_select : (t : HalfEvent → Bool) (taken l : List HalfEvent) → select t (newest_first taken l) ≡ newest_first (select t taken) (select t l)
unfolding newest_first select
reversed_select t taken [] = refl
reversed_select t taken (x ∷ l) = reversed_select t (x ∷ taken) l ∙ by_bool (t x) (λ e. rw e) (λ e. rw e)

-- A test that fails on all records of one half selects of an order what it selects of the other half.
pub keeps_first : (t : HalfEvent → Bool) (first second l : List HalfEvent) → KeepsBoth first second l → every (λ x. not (t x)) second ≡ true → select t l ≡ select t first
unfolding KeepsBoth select every
keeps_first t first second [] k e = rw k.0
keeps_first t first second (x ∷ l) (inl k) e = rw k.1 (by_bool (t x)
    (λ d. rw (d, keeps_first t k.0 second l k.2 e))
    (λ d. rw (d, keeps_first t k.0 second l k.2 e)))
keeps_first t first second (x ∷ l) (inr k) e =
    let z : (not (t x) && every (λ x. not (t x)) k.0) ≡ true = rw k.1 at e in
    by_bool (t x)
    (λ d. never_both false (rw d at (and_left (not (t x)) (every (λ x. not (t x)) k.0) z)) refl)
    (λ d. rw d (keeps_first t first k.0 l k.2 (and_right (not (t x)) (every (λ x. not (t x)) k.0) z)))

pub keeps_second : (t : HalfEvent → Bool) (first second l : List HalfEvent) → KeepsBoth first second l → every (λ x. not (t x)) first ≡ true → select t l ≡ select t second
unfolding KeepsBoth select every
keeps_second t first second [] k e = rw k.1
keeps_second t first second (x ∷ l) (inr k) e = rw k.1 (by_bool (t x)
    (λ d. rw (d, keeps_second t first k.0 l k.2 e))
    (λ d. rw (d, keeps_second t first k.0 l k.2 e)))
keeps_second t first second (x ∷ l) (inl k) e =
    let z : (not (t x) && every (λ x. not (t x)) k.0) ≡ true = rw k.1 at e in
    by_bool (t x)
    (λ d. never_both false (rw d at (and_left (not (t x)) (every (λ x. not (t x)) k.0) z)) refl)
    (λ d. rw d (keeps_second t k.0 second l k.2 (and_right (not (t x)) (every (λ x. not (t x)) k.0) z)))

-- The receiver of a send depends on the sends of its sender alone.
select_many : (t : HalfEvent → Bool) (l : List HalfEvent) → how_many t (select t l) ≡ how_many t l
unfolding how_many select
select_many t [] = refl
select_many t (x ∷ l) = by_bool (t x) (λ e. rw (e, e) (ap suc (select_many t l))) (λ e. rw e (select_many t l))

pub receiver_of_sends : (l : List HalfEvent) (s c : ℕ) → receiver_of l s c ≡ receiver_of (select (send_by s) l) s c
unfolding receiver_of select is_send_number
receiver_of_sends [] s c = refl
receiver_of_sends (x ∷ l) s c = by_bool (send_by s x)
    (λ e. rw (e, e, select_many (send_by s) l, receiver_of_sends l s c))
    (λ e. rw (e, receiver_of_sends l s c))

-- A send that was taken keeps its receiver.
pub receiver_still : (more l : List HalfEvent) (s c : ℕ) → c ≤ how_many (send_by s) l → receiver_of (more ++ l) s c ≡ receiver_of l s c
unfolding receiver_of is_send_number
receiver_still [] l s c le = refl
receiver_still (x ∷ more) l s c le =
    rw (and_no_right (send_by s x) (eqb c (suc (how_many (send_by s) (more ++ l)))) (ne_eqb c (suc (how_many (send_by s) (more ++ l))) (omega (arith, le, how_many_append (send_by s) more l)))) (receiver_still more l s c le)

pub receiver_new : (i j : ℕ) (l : List HalfEvent) → receiver_of (send_to i j ∷ l) i (suc (how_many (send_by i) l)) ≡ j
unfolding receiver_of is_send_number send_by receives
receiver_new i j l = rw (eq-eqb i i refl, eq-eqb (suc (how_many (send_by i) l)) (suc (how_many (send_by i) l)) refl)

-- A send is one send more of its process.
pub one_more : (i j : ℕ) (l : List HalfEvent) → how_many (send_by i) (send_to i j ∷ l) ≡ suc (how_many (send_by i) l)
unfolding how_many send_by
one_more i j l = rw (eq-eqb i i refl)

-- The halves one after the other are an order.
pub keeps_append : (first second : List HalfEvent) → KeepsBoth first second (first ++ second)
unfolding KeepsBoth
keeps_append [] [] = (refl, refl)
keeps_append [] (x ∷ second) = inr (second, refl, keeps_append [] second)
keeps_append (x ∷ first) second = inl (first, refl, keeps_append first second)
