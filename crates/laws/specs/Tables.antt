-- A list by its index: its length, its entries, when two are equal, one entry changed; and a list laid into a table of fixed size.
use Rattle.std.specs.Prelude.{◌≡◌, refl, List, [], ◌∷◌, ℕ, zero, suc, ◌≤◌, ◌<◌, length, get_or, set, take, replicate}
use Rattle.std.proofs.Common.{sym, ◌∙◌, not-suc-le-zero, add-one, arith, length-append, length-set, get_or-set_same, get_or-set_other, ext_get_or}
use Rattle.std.proofs.lemmas.List.{length-replicate, get_or-replicate, get_or_at}
use Rattle.std.proofs.Math.ListN.{get_or-append, get_or-eq_default}
use Rattle.std.proofs.Math.Seq.{take-append_seam}
use Rattle.laws.specs.Choice.{by_eq}
use Rattle.laws.specs.Lists.{table, gather, placed}
use Rattle.laws.specs.Update.{upd, upd_same, upd_other}

pub length_table : {A : Type 0} (n : ℕ) (f : ℕ → A) → length (table n f) ≡ n
unfolding table
length_table zero f = refl
length_table (suc n) f = rw (length-append (table n f) (f n ∷ []), length_table n f) (add-one n)

-- The entry at an index of the table, and past its end.
pub get_d_table : {A : Type 0} (n : ℕ) (f : ℕ → A) (i : ℕ) (d : A) → i < n → get_or (table n f) i d ≡ f i
unfolding table
get_d_table zero f i d h = absurd (not-suc-le-zero h)
get_d_table (suc n) f i d h = by_eq i n
    (λ e. rw e (get_or_at (table n f) (f n) [] d n (length_table n f)))
    (λ ne. get_or-append (table n f) (f n ∷ []) d i (omega (arith, length_table n f)) ∙ get_d_table n f i d (omega arith))

pub get_d_table_past : {A : Type 0} (n : ℕ) (f : ℕ → A) (i : ℕ) (d : A) → n ≤ i → get_or (table n f) i d ≡ d
get_d_table_past n f i d h = get_or-eq_default (table n f) d (omega (arith, length_table n f))

-- Two tables agree if their functions agree below the bound.
pub table_same : {A : Type 0} (n : ℕ) (f g : ℕ → A) → ((k : ℕ) → k < n → f k ≡ g k) → table n f ≡ table n g
unfolding table
table_same zero f g h = refl
table_same (suc n) f g h = rw (h n (omega arith), table_same n f g (λ k lt. h k (omega arith)))

-- A list of n entries is the table of its entries.
pub table_is : {A : Type 0} (d : A) (l : List A) (n : ℕ) (f : ℕ → A) → length l ≡ n → ((i : ℕ) → i < n → get_or l i d ≡ f i) → l ≡ table n f
table_is d l n f e h = ext_get_or d l (table n f) (e ∙ sym (length_table n f))
    (λ i lt. let lt' : i < n = omega arith in h i lt' ∙ sym (get_d_table n f i d lt'))

-- A table with one entry changed.
pub table_set : {A : Type 0} (n : ℕ) (f : ℕ → A) (i : ℕ) (x : A) → set (table n f) i x ≡ table n (upd f i x)
table_set n f i x = table_is x (set (table n f) i x) n (upd f i x) (length-set (table n f) i x ∙ length_table n f)
    (λ k lt. by_eq k i
    (λ e. rw e (get_or-set_same (table n f) i x x (omega (arith, length_table n f)) ∙ sym (upd_same f i x)))
    (λ ne. get_or-set_other (table n f) i k x x ne ∙ get_d_table n f k x lt ∙ sym (upd_other f i x k ne)))

-- A table of one value.
pub table_replicate : {A : Type 0} (n : ℕ) (x : A) → replicate n x ≡ table n (λ k. x)
table_replicate n x = table_is x (replicate n x) n (λ k. x) (length-replicate n x) (λ i lt. get_or-replicate n i x x lt)

-- Lists put together agree if they agree below the bound.
pub gather_same : {A : Type 0} (n : ℕ) (f g : ℕ → List A) → ((k : ℕ) → k < n → f k ≡ g k) → gather n f ≡ gather n g
unfolding gather
gather_same zero f g h = refl
gather_same (suc n) f g h = rw (h n (omega arith), gather_same n f g (λ k lt. h k (omega arith)))

-- The front of a table of fixed size is the list that was laid into it.
pub take_placed : {A : Type 0} (size : ℕ) (unused : A) (l : List A) → take (length l) (placed size unused l) ≡ l
unfolding placed
take_placed size unused l = take-append_seam l _
