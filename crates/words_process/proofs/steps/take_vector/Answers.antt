-- `words_process::steps::take_vector` meets its contract. Assumes nothing.
use Rattle.std.specs.Prelude.{◌≡◌, ◌∷◌, ◌<◌}
use Rattle.laws.specs.Basics.{◌∙◌, ap, Bool, true, false, List, [], ℕ, arith, length, length-set, rules}
use Rattle.laws.specs.Loops.{either}
use Rattle.model.specs.declared.Interval.{Interval}
use Rattle.model.specs.Steps.{advanced, taken_vector, risen}
use Rattle.words_process.specs.receipts.Receipt.{vector_first}
use Rattle.words.specs.{Layout.part_at, Layout.vector_in, Puts.puts, Puts.vector_put}
use Rattle.words.proofs.Same.{vector_back, vector_length}
use Rattle.words_process.proofs.{Stepping.put_again}
use Rattle.words_process.proofs.steps.take_vector.Goals as goal
use Rattle.words_process.proofs.steps.take_vector.Goals.{then-stores, else-stores}

-- Where a checkpoint is stored, and where none is.
module _ (w : List ℕ) where
  first : length w ≡ 6464 → (i : ℕ) → i < 16 → (stores : Bool) (vec carried : List Interval) → vec ≡ vector_in w (part_at i) → (u v : List ℕ) (rose : ℕ) → stores ≡ true
      → u ≡ puts w (vector_put (part_at i) (advanced i vec) ∷ []) → v ≡ puts u (vector_put (part_at i) (taken_vector (vector_in u (part_at i)) carried) ∷ []) → rose ≡ risen (vector_in u (part_at i)) carried
      → (v ≡ puts w (vector_put (part_at i) (taken_vector (vector_first stores i vec) carried) ∷ [])) × (rose ≡ risen (vector_first stores i vec) carried)
  unfolding vector_first advanced
  first size i room stores vec carried here u v rose taken a b d =
      let long : length (advanced i vec) ≡ 16 = length-set vec i _ ∙ ap length here ∙ vector_length w (part_at i) in
      let read : vector_in u (part_at i) ≡ advanced i vec = ap (λ (x : List ℕ). vector_in x (part_at i)) a ∙ vector_back w (part_at i) (advanced i vec) long (omega arith) in
      rw taken (
        b ∙ ap (λ (x : List Interval). puts u (vector_put (part_at i) (taken_vector x carried) ∷ [])) read
            ∙ ap (λ (x : List ℕ). puts x (vector_put (part_at i) (taken_vector (advanced i vec) carried) ∷ [])) a
            ∙ put_again w (part_at i) (advanced i vec) (taken_vector (advanced i vec) carried) (omega arith),
        d ∙ ap (λ (x : List Interval). risen x carried) read,
      )

  plain : (i : ℕ) (stores : Bool) (vec carried : List Interval) → vec ≡ vector_in w (part_at i) → (u v : List ℕ) (rose : ℕ) → stores ≡ false → u ≡ w
      → v ≡ puts u (vector_put (part_at i) (taken_vector (vector_in u (part_at i)) carried) ∷ []) → rose ≡ risen (vector_in u (part_at i)) carried
      → (v ≡ puts w (vector_put (part_at i) (taken_vector (vector_first stores i vec) carried) ∷ [])) × (rose ≡ risen (vector_first stores i vec) carried)
  unfolding vector_first
  plain i stores vec carried here u v rose left a b d = rw (left, here) (
    b ∙ ap (λ (x : List ℕ). puts x (vector_put (part_at i) (taken_vector (vector_in x (part_at i)) carried) ∷ [])) a,
    d ∙ ap (λ (x : List ℕ). risen (vector_in x (part_at i)) carried) a,
  )

pub advanced-requires : goal.advanced-requires
advanced-requires c =
    (c.requires.1, c.requires.3 c.if-stores.true)

pub take_in-requires : goal.take_in-requires
take_in-requires c =
    let long : length c.if-stores.w ≡ 6464 = elim c.if-stores.branch [ then-stores t ↦ ap length t.w-is ∙ t.put_vector.auto.w ∙ c.requires.0 | else-stores t ↦ ap length t.w-is ∙ c.requires.0 ] in
    omega (arith, c.requires.1)

pub shape_of-w : goal.shape_of-w
shape_of-w c =
    c.take_in.auto.w ∙ (elim c.if-stores.branch [ then-stores t ↦ ap length t.w-is ∙ t.put_vector.auto.w | else-stores t ↦ ap length t.w-is ])

pub returns : goal.returns
returns c =
    let a = c.args in
    elim c.if-stores.branch [
      | then-stores q ↦
          let z = first a.w.now c.requires.0 a.i c.requires.1 a.stores a.vector a.carried c.requires.2 c.if-stores.w _ _ q.if-stores.true (q.w-is ∙ q.put_vector.ensures ∙ ap (λ (x : List Interval). puts a.w.now (vector_put (part_at a.i) x ∷ [])) q.advanced.ensures) c.take_in.ensures.w_after c.take_in.ensures.value in
          record { w_after = z.0; value = z.1 }
      | else-stores q ↦
          let z = plain a.w.now a.i a.stores a.vector a.carried c.requires.2 c.if-stores.w _ _ q.if-stores.false q.w-is c.take_in.ensures.w_after c.take_in.ensures.value in
          record { w_after = z.0; value = z.1 }
    ]
