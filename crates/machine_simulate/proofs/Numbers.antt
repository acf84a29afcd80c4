-- A word by its first hyphen, and what a table that is not refused asks for.
-- Assumes nothing.
use Rattle.std.specs.Prelude.{◌≡◌, ◌||◌, ◌+◌, ◌≤◌, ◌<◌}
use Rattle.laws.specs.Basics.{true, false, List, ℕ, arith, ltb, length, take, drop, eq-eqb, ne_eqb}
use Rattle.laws.specs.Truth.{or_none}
use Rattle.machines.specs.programs.Numbers.{number_in}
use Rattle.theory_recording.specs.spacing.Spacing.{out_of_range}
use Rattle.theory_recording.proofs.spacing.Agreement.{in_range}
use Rattle.machine_simulate.specs.declared.{arguments.Spacings.Spacings, arguments.Numbers.Numbers}
use Rattle.machine_simulate.specs.Arguments.{hyphen_or, hyphen_in_of, spacings_in, is_refused, with_word}

-- A byte more: the first hyphen.
module _ (size i byte place : ℕ) where
  pub hyphen_known : place < size → place ≡ hyphen_or size i byte place
  unfolding hyphen_or
  hyphen_known a = rw (ne_eqb place size (λ e. omega arith))

  pub hyphen_here : place ≡ size → byte ≡ 45 → i ≡ hyphen_or size i byte place
  unfolding hyphen_or
  hyphen_here a b = rw (eq-eqb place size a, eq-eqb byte 45 b)

  pub no_hyphen : place ≡ size → (byte ≡ 45 → ⊥) → place ≡ hyphen_or size i byte place
  unfolding hyphen_or
  no_hyphen a b = rw (eq-eqb place size a, ne_eqb byte 45 b)

-- A word by its first hyphen.
pub one_spacing : (word : List ℕ) (place from : ℕ) → place ≡ hyphen_in_of word → place ≡ length word → from ≡ number_in (take place word)
    → record { many = false; from = from; to = from } ≡ spacings_in word
unfolding spacings_in
one_spacing word place from is all e = rw (← is, eq-eqb place (length word) all) (λ j. record { many = false; from = e j; to = e j })

pub two_spacings : (word : List ℕ) (place from to : ℕ) → place ≡ hyphen_in_of word → (place ≡ length word → ⊥) → from ≡ number_in (take place word) → to ≡ number_in (drop (place + 1) word)
    → record { many = true; from = from; to = to } ≡ spacings_in word
unfolding spacings_in
two_spacings word place from to is some e f = rw (← is, ne_eqb place (length word) some) (λ j. record { many = true; from = e j; to = f j })

-- The spacings of a table that is not refused.
pub in_table : (n from to steps : ℕ) → is_refused n from to steps ≡ false → (1 ≤ from) × (to ≤ 1000)
unfolding is_refused
in_table n from to steps e =
    let a = out_of_range 1 16 n in
    let b = out_of_range 1 1000 from in
    let c = out_of_range 1 1000 to in
    let d = out_of_range 1 30000 steps in
    let up_to_lem = (or_none (a || b || c) d (or_none (a || b || c || d) (ltb to from) e).0).0 in
    ((in_range 1 1000 from (or_none a b (or_none (a || b) c up_to_lem).0).1).0, (in_range 1 1000 to (or_none (a || b) c up_to_lem).1).1)

-- The numbers with one word more.
module _ (i : ℕ) (k : Numbers) (word : List ℕ) where
  pub word_first : (x : ℕ) → i ≡ 1 → x ≡ number_in word → record { n = x; spacings = k.spacings; steps = k.steps; seed = k.seed } ≡ with_word i k word
  unfolding with_word
  word_first x one e = rw (eq-eqb i 1 one) (λ j. record { n = e j; spacings = k.spacings; steps = k.steps; seed = k.seed })

  pub word_second : (s : Spacings) → i ≡ 2 → s ≡ spacings_in word → record { n = k.n; spacings = s; steps = k.steps; seed = k.seed } ≡ with_word i k word
  unfolding with_word
  word_second s two e = rw (ne_eqb i 1 (λ one. omega (arith, one, two)), eq-eqb i 2 two) (λ j. record { n = k.n; spacings = e j; steps = k.steps; seed = k.seed })

  pub word_third : (x : ℕ) → i ≡ 3 → x ≡ number_in word → record { n = k.n; spacings = k.spacings; steps = x; seed = k.seed } ≡ with_word i k word
  unfolding with_word
  word_third x three e =
      rw (ne_eqb i 1 (λ one. omega (arith, one, three)), ne_eqb i 2 (λ two. omega (arith, two, three)), eq-eqb i 3 three) (λ j. record { n = k.n; spacings = k.spacings; steps = e j; seed = k.seed })

  pub word_fourth : (x : ℕ) → (i ≡ 2 → ⊥) → (i ≡ 1 → ⊥) → (i ≡ 3 → ⊥) → x ≡ number_in word → record { n = k.n; spacings = k.spacings; steps = k.steps; seed = x } ≡ with_word i k word
  unfolding with_word
  word_fourth x two one three e = rw (ne_eqb i 1 one, ne_eqb i 2 two, ne_eqb i 3 three) (λ j. record { n = k.n; spacings = k.spacings; steps = k.steps; seed = e j })
