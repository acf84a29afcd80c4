-- Reading after puts: what was put, and what was not touched.
-- Assumes nothing.
use Rattle.std.specs.Prelude.{◌≡◌, ◌∷◌, ◌+◌, ◌-◌, ◌*◌, ◌/◌, ◌%◌, ◌≤◌, ◌<◌, Some}
use Rattle.laws.specs.Basics.{refl, sym, ◌∙◌, ap, true, List, [], ℕ, zero, suc, arith, eqb, length, get_or, drop, set, length-set, get_or-set_same, get_or-set_other, eq-eqb, ne_eqb, eqb-true, by_eq}
use native.Mathlib.Nat.{add-zero, div-add-mod}
use native.Mathlib.Numerals.{add-one}
use Rattle.model.specs.{Words.names, declared.CheckpointIndex.CheckpointIndex}
use Rattle.words.specs.{Layout.word, Layout.index_of_def, Layout.pin_of_def, Puts.Put, Puts.put_from, Puts.puts}

module _ (w : List ℕ) (at : ℕ) (f : ℕ → ℕ) where
  put_length : (n : ℕ) → length (put_from w at n f) ≡ length w
  unfolding put_from
  put_length zero = refl
  put_length (suc n) = length-set (put_from w at n f) (at + n) (f n) ∙ put_length n

  -- a word that was put
  put_in : (n k : ℕ) → k < n → at + n ≤ length w → word (put_from w at n f) (at + k) ≡ f k
  unfolding put_from
  put_in zero k lt fits = absurd (omega arith)
  put_in (suc n) k lt fits = by_eq k n
      (λ e. rw e (get_or-set_same (put_from w at n f) (at + n) (f n) 0 (omega (arith, put_length n))))
      (λ ne. get_or-set_other (put_from w at n f) (at + n) (at + k) (f n) 0 (λ e. ne (omega arith)) ∙ put_in n k (omega arith) (omega arith))

  -- a word outside of the section
  put_out : (n k : ℕ) → (at ≤ k → k < at + n → ⊥) → word (put_from w at n f) k ≡ word w k
  unfolding put_from
  put_out zero k out = refl
  put_out (suc n) k out =
      get_or-set_other (put_from w at n f) (at + n) k (f n) 0 (λ e. out (omega arith) (omega arith)) ∙ put_out n k (λ a b. out a (omega arith))

-- A place outside of the sections of a list of puts: `omega arith` proves it of places that are known well enough.
abbrev pub Clear : List Put → ℕ → Type 0
Clear [] k = Unit {0}
Clear (p ∷ l) k = (p.at ≤ k → k < p.at + p.size → ⊥) × Clear l k

pub puts_length : (w : List ℕ) (l : List Put) → length (puts w l) ≡ length w
puts_length w [] = refl
puts_length w (p ∷ l) = puts_length (put_from w p.at p.size p.fill) l ∙ put_length w p.at p.fill p.size

-- THE LAW: a word that no put touches,
pub untouched : (w : List ℕ) (l : List Put) (k : ℕ) → Clear l k → word (puts w l) k ≡ word w k
untouched w [] k clear = refl
untouched w (p ∷ l) k clear = untouched (put_from w p.at p.size p.fill) l k clear.1 ∙ put_out w p.at p.fill p.size k clear.0

-- and a word of the put at place n of the list, which no later one touches.
abbrev pub nth : List Put → ℕ → Put
nth l n = get_or l n (record { at = 0; size = 0; fill = λ f. 0 })

abbrev pub Hits : List ℕ → List Put → ℕ → ℕ → ℕ → Type 0
Hits w l n k q = ((nth l n).at + k ≡ q) × (k < (nth l n).size) × ((nth l n).at + (nth l n).size ≤ length w) × Clear (drop (suc n) l) q

hit : (w : List ℕ) (l : List Put) (n k q : ℕ) → (nth l n).at + k ≡ q → k < (nth l n).size → (nth l n).at + (nth l n).size ≤ length w → Clear (drop (suc n) l) q
    → word (puts w l) q ≡ (nth l n).fill k
hit w [] n k q e lt fits clear = absurd (omega arith)
hit w (p ∷ l) zero k q e lt fits clear =
    untouched (put_from w p.at p.size p.fill) l q clear ∙ rw (← e) (put_in w p.at p.fill p.size k lt fits)
hit w (p ∷ l) (suc n) k q e lt fits clear =
    hit (put_from w p.at p.size p.fill) l n k q e lt (rw (put_length w p.at p.fill p.size) fits) clear

pub touched : (w : List ℕ) (l : List Put) (n k q : ℕ) → Hits w l n k q → word (puts w l) q ≡ (nth l n).fill k
touched w l n k q h = hit w l n k q h.0 h.1 h.2 h.3

-- One iteration of a loop that puts.
pub put_step : (w : List ℕ) (at : ℕ) (f : ℕ → ℕ) (n : ℕ) (v : List ℕ) (x : ℕ) → v ≡ put_from w at n f → x ≡ f n → set v (at + n) x ≡ put_from w at (n + 1) f
unfolding put_from
put_step w at f n v x e g = rw (add-one, e, g)

pub put_none : (w : List ℕ) (at : ℕ) (f : ℕ → ℕ) → w ≡ put_from w at 0 f
unfolding put_from
put_none w at f = refl

-- A store of one word is a put.
pub set_is_put : (w : List ℕ) (at x : ℕ) → set w at x ≡ put_from w at 1 (λ f. x)
unfolding put_from
set_is_put w at x = rw add-zero

-- A number in two words and one in four read as they were put.
pub wide2_back : (x : ℕ) → x % 65_536 + 65_536 * (x / 65_536) ≡ x
wide2_back x = omega (arith, div-add-mod x 65_536)

pub wide4_back : (x : ℕ) → x % 65_536 + 65_536 * (x / 65_536 % 65_536) + 4_294_967_296 * (x / 4_294_967_296 % 65_536) + 281_474_976_710_656 * (x / 281_474_976_710_656) ≡ x
wide4_back x = omega arith

-- The pin of a word that is not 0.
pub pin_some : (x : ℕ) → 1 ≤ x → pin_of_def x ≡ Some (index_of_def x)
unfolding pin_of_def
pin_some zero h = absurd (omega arith)
pin_some (suc k) h = ap (λ (m : ℕ). Some (record { 0 = m })) (let e : k ≡ suc k - 1 = omega arith in e)

-- The word of a checkpoint's index.
pub index_back : (a : CheckpointIndex) → index_of_def (a.0 + 1) ≡ a
index_back a = ap (λ (m : ℕ). record { 0 = m }) (let e : a.0 + 1 - 1 ≡ a.0 = omega arith in e)

pub pin_back : (a : CheckpointIndex) → pin_of_def (a.0 + 1) ≡ Some a
pin_back a = pin_some (a.0 + 1) (omega arith) ∙ ap Some (index_back a)

-- A pin names a checkpoint exactly if the two words are the same.
pub names_word : (x y : ℕ) → 1 ≤ y → names (pin_of_def x) (index_of_def y) ≡ eqb x y
unfolding pin_of_def
names_word zero y h = sym (ne_eqb 0 y (λ e. omega arith))
names_word (suc x) y h = by_eq (suc x) y
    (λ e. eq-eqb x (y - 1) (omega arith) ∙ sym (eq-eqb (suc x) y e))
    (λ ne. ne_eqb x (y - 1) (λ e. ne (omega arith)) ∙ sym (ne_eqb (suc x) y ne))

pub pinned_word : (x y : ℕ) → 1 ≤ y → names (pin_of_def x) (index_of_def y) ≡ true → x ≡ y
pinned_word x y h e = eqb-true x y (sym (names_word x y h) ∙ e)
