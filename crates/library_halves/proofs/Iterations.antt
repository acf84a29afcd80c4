-- The loop of a merge: what is known of the records taken.
-- Assumes nothing.
use Prim.{tt}
use Rattle.std.specs.Prelude.{◌≡◌, ◌∷◌, ◌+◌, ◌*◌, ◌≤◌, ◌<◌, Ok, Err}
use Rattle.laws.specs.Basics.{refl, sym, ◌∙◌, ap, List, [], ℕ, zero, suc, arith, length, get_or, set, take, length-take-le, get_or-set_same, get_or-set_other}
use Rattle.std.proofs.lemmas.List.{get_or-take}
use Rattle.model.specs.declared.Refusal.{Refusal}
use Rattle.theory_merges.specs.{Halves.HalfEvent, Merge.stopped, Merge.take_from}
use Rattle.library_halves.specs.{Log.Logged, Taking.left, Taking.Steps, Taking.Takes}
use Rattle.library_halves.specs.declared.taking.Step.TheVariants.{First, Second}

-- A word after the log leaves it as it was.
logged_kept : (l : List HalfEvent) (log : List ℕ) (i w : ℕ) → length l ≤ i → Logged l log → Logged l (set log i w)
unfolding Logged
logged_kept [] log i w h g = omega arith
logged_kept (x ∷ l) log i w h (e, f, g) = (get_or-set_other log i (length l) w 0 (omega arith) ∙ e, f, logged_kept l log i w (omega arith) g)

-- Nor does a log that ends after it.
pub logged_front : (l : List HalfEvent) (log : List ℕ) (k : ℕ) → length l ≤ k → Logged l log → Logged l (take k log)
unfolding Logged
logged_front [] log k h g = omega arith
logged_front (x ∷ l) log k h (e, f, g) = (get_or-take k log (length l) 0 (omega arith) ∙ e, f, logged_front l log k (omega arith) g)

module _ (n F : ℕ) (first second : List ℕ) (total : ℕ) where
  abbrev pub Taking : List ℕ → ℕ → ℕ → Type 0
  Taking log a b = (l : List HalfEvent) × (k : ℕ) × (total ≡ a + b + k) × (a + b ≡ length l) × Logged l log
      × (take_from total n F [] (left first 0) (left second 0) ≡ take_from k n F l (left first a) (left second b))

  -- The front of the log is the log of the records taken.
  pub taking_front : (log : List ℕ) (a b k : ℕ) (t : Taking log a b) → a + b ≡ k → k ≤ length log → Logged t.0 (take k log) × (length (take k log) ≡ length t.0)
  taking_front log a b k t e h = (logged_front t.0 log k (omega (arith, t.3)) t.4, omega (arith, length-take-le k log h, t.3))

  pub taking_none : (log : List ℕ) → Taking log 0 0
  unfolding Logged
  taking_none log = ([], total, omega arith, refl, omega arith, refl)

  module _ (log : List ℕ) (a b : ℕ) where
    pub taking_stopped : (t : Taking log a b) → a + b < total → (q : Refusal) → Steps n F t.0 first second a b (Err q)
        → take_from total n F [] (left first 0) (left second 0) ≡ stopped q
    unfolding Steps
    taking_stopped (l, zero, e, z, g, m) h q f = absurd (omega arith)
    taking_stopped (l, suc k, e, z, g, m) h q f = m ∙ f k

    pub taking_first : (t : Taking log a b) (k : ℕ) → a + b ≡ k → k < total → k < length log → (w : ℕ) → Steps n F t.0 first second a b (Ok (First w))
        → Taking (set log k w) (a + 1) b × (1 + 4 * (a + 1) ≤ length first)
    unfolding Steps Logged
    taking_first (l, zero, e, z, g, m) i c h r w f = absurd (omega arith)
    taking_first (l, suc k, e, z, g, m) i c h r w (x, ew, fx, room, f) = (
      (x ∷ l, k, omega arith, omega arith, (ap (λ (j : ℕ). get_or (set log i w) j 0) (sym z ∙ c) ∙ get_or-set_same log i w 0 r ∙ ew, fx, logged_kept l log i w (omega arith) g), m ∙ f k),
      omega arith,
    )

    pub taking_second : (t : Taking log a b) (k : ℕ) → a + b ≡ k → k < total → k < length log → (w : ℕ) → Steps n F t.0 first second a b (Ok (Second w))
        → Taking (set log k w) a (b + 1) × (1 + 4 * (b + 1) ≤ length second)
    unfolding Steps Logged
    taking_second (l, zero, e, z, g, m) i c h r w f = absurd (omega arith)
    taking_second (l, suc k, e, z, g, m) i c h r w (x, ew, fx, room, f) = (
      (x ∷ l, k, omega arith, omega arith, (ap (λ (j : ℕ). get_or (set log i w) j 0) (sym z ∙ c) ∙ get_or-set_same log i w 0 r ∙ ew, fx, logged_kept l log i w (omega arith) g), m ∙ f k),
      omega arith,
    )

    pub taking_all : Taking log a b → total ≤ a + b → Takes n F first second total log (Ok tt)
    unfolding Takes take_from
    taking_all (l, zero, e, z, g, m) h = (l, m, g, omega arith)
    taking_all (l, suc k, e, z, g, m) h = absurd (omega arith)
