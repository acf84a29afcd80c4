-- A message moved to the place where it stands leaves every word as it was.
-- Assumes nothing.
use Rattle.std.specs.Prelude.{◌≡◌, ◌∷◌, ◌+◌, ◌*◌, ◌/◌, ◌%◌, ◌<◌}
use Rattle.laws.specs.Basics.{refl, ◌∙◌, ap, List, [], ℕ, zero, suc, arith, set}
use lib.Seq.{set-get_or}
use Rattle.words.specs.Layout.{word, low_at, high_at, sender_at_of, receiver_at_of, carried_at, vector_in, message_in}
use Rattle.words.specs.{Puts.Put, Puts.put_from, Puts.puts, messages.Places.message_puts, messages.Places.moved_to}
use Rattle.words.proofs.Same.{vector_word}

put_back : (w : List ℕ) (at n : ℕ) (f : ℕ → ℕ) → ((k : ℕ) → k < n → f k ≡ word w (at + k)) → put_from w at n f ≡ w
unfolding put_from
put_back w at zero f same = refl
put_back w at (suc n) f same =
    ap (λ (v : List ℕ). set v (at + n) (f n)) (put_back w at n f (λ k lt. same k (omega arith)))
    ∙ ap (λ (x : ℕ). set w (at + n) x) (same n (omega arith))
    ∙ set-get_or w (at + n) 0

-- Each put has what stands in its section.
abbrev Stands : List ℕ → List Put → Type 0
Stands w [] = Unit {0}
Stands w (p ∷ l) = ((k : ℕ) → k < p.size → p.fill k ≡ word w (p.at + k)) × Stands w l

puts_back : (w : List ℕ) (l : List Put) → Stands w l → puts w l ≡ w
puts_back w [] h = refl
puts_back w (p ∷ l) h = ap (λ (v : List ℕ). puts v l) (put_back w p.at p.size p.fill h.0) ∙ puts_back w l h.1

-- One word.
stands : (w : List ℕ) (at x : ℕ) → x ≡ word w at → (f : ℕ) → f < 1 → x ≡ word w (at + f)
stands w at x e f lt = let z : at + f ≡ at = omega arith in rw z e

pub moved_nowhere : (w : List ℕ) (k : ℕ) → word w (low_at k) < 65536 → moved_to w k k ≡ w
unfolding moved_to message_in
moved_nowhere w k small = puts_back w (message_puts k (message_in w k)) (
  stands w (low_at k) _ (let e : (word w (low_at k) + 65536 * word w (high_at k)) % 65536 ≡ word w (low_at k) = omega arith in e),
  (
    stands w (high_at k) _ (let e : (word w (low_at k) + 65536 * word w (high_at k)) / 65536 ≡ word w (high_at k) = omega arith in e),
    (stands w (sender_at_of k) _ refl, (stands w (receiver_at_of k) _ refl, (λ f lt. ap (λ x. x.0) (vector_word w (carried_at k) f lt), tt))),
  ),
)
