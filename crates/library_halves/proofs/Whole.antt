-- The whole merge: what its parts come to.
-- Assumes nothing.
use Prim.{tt}
use Rattle.std.specs.Prelude.{◌≡◌, ◌∷◌, ◌+◌, ◌*◌, ◌/◌, Err, Ok}
use Rattle.laws.specs.Basics.{refl, sym, ◌∙◌, ap, List, [], Option, None, Some, ℕ, length, set, sets}
use Rattle.model.specs.declared.Refusal.{Refusal}
use Rattle.theory_merges.specs.Merge.{take_from, count_of, after_first_byte, fields_in, merge_refusal, plain_bytes, MergeOutcome, finished, merge_outcome}
use Rattle.theory_merges.proofs.Replaying.{how_many_lem}
use Rattle.admissions.specs.Admissions.{Admission, refusal_of}
use Rattle.library_halves.specs.{Log.bytes_up_to, Taking.left, Taking.Takes}
use Rattle.library_halves.proofs.{Bytes.bytes_length, Bytes.logged_bytes}

-- All records of a half are left after none of them.
left_all : (l : List ℕ) → fields_in (after_first_byte l) ≡ left l 0
unfolding left after_first_byte
left_all [] = refl
left_all (n ∷ l) = refl

module _ (first second : List ℕ) (F : ℕ) (buffer : List ℕ) where
  abbrev total : ℕ
  total = length (after_first_byte first) / 4 + length (after_first_byte second) / 4

  abbrev whole : MergeOutcome
  whole = merge_outcome first second F buffer

  pub refused_early : (q : Refusal) → merge_refusal first second F buffer ≡ Some q → (Err q ≡ whole.answer) × (buffer ≡ whole.buffer)
  unfolding merge_outcome
  refused_early q e = rw e (refl, refl)

  module _ (e : merge_refusal first second F buffer ≡ None) where
    -- The outcome is that of the records.
    records_are : whole ≡ finished (count_of first) buffer (take_from total (count_of first) F [] (left first 0) (left second 0))
    unfolding merge_outcome
    records_are = rw (e, how_many_lem (after_first_byte first), how_many_lem (after_first_byte second), left_all first, left_all second)

    pub refused_late : (n : ℕ) → n ≡ count_of first → (log : List ℕ) (q : Refusal) → Takes n F first second total log (Err q)
        → (Err q ≡ whole.answer) × (buffer ≡ whole.buffer)
    unfolding Takes finished
    refused_late n c log q t = rw (records_are, ← c, t) (refl, refl)

    pub merged : (n : ℕ) → n ≡ count_of first → (log : List ℕ) → Takes n F first second total log (Ok tt)
        → (Ok (1 + 4 * total) ≡ whole.answer) × (sets (set buffer 0 n) 1 (bytes_up_to total log) ≡ whole.buffer)
    unfolding Takes finished
    merged n c log (l, t, g, k) =
        let same : bytes_up_to total log ≡ plain_bytes l = ap (λ (m : ℕ). bytes_up_to m log) (sym k) ∙ logged_bytes log l g in
        let long : 1 + 4 * total ≡ 1 + length (plain_bytes l) = ap (λ (m : ℕ). 1 + m) (sym (bytes_length total log) ∙ ap length same) in
        rw (records_are, ← c, t) (ap Ok long, ap (λ (xs : List ℕ). sets (set buffer 0 n) 1 xs) same)

-- A verdict, by its two cases.
pub accepted : (v : Admission) (o : Option Refusal) → v ≡ Ok tt → refusal_of v ≡ o → o ≡ None
unfolding refusal_of
accepted v o e m = sym m ∙ ap refusal_of e

pub refused : (v : Admission) (q : Refusal) (o : Option Refusal) → v ≡ Err q → refusal_of v ≡ o → o ≡ Some q
unfolding refusal_of
refused v q o e m = sym m ∙ ap refusal_of e
