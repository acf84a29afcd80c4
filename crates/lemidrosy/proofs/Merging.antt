-- The report of a merge fits the fields of its number, whatever the halves: at most 8,192 records are written, four bytes each.
-- Assumes nothing.
use Rattle.std.specs.Prelude.{◌≡◌, ◌∷◌, ◌+◌, ◌*◌, ◌≤◌, ◌<◌, Err, Ok}
use Rattle.laws.specs.Basics.{refl, sym, ◌∙◌, ap, List, [], map, None, Some, inl, inr, ℕ, arith, length}
use lib.ListN.{length-map}
use Rattle.model.specs.Shapes.{MergeAnswer}
use Rattle.model.specs.declared.Fields.{Fields}
use Rattle.model.specs.laws.Refusals.{by_refusal}
use Rattle.listing.specs.answers.Codes.{Fits}
use Rattle.listing.proofs.answers.Fit.{fits_refused, fits_value}
use Rattle.theory_merges.specs.Halves.{HalfEvent, KeepsBoth}
use Rattle.theory_merges.specs.Merge.{half_event_of, after_first_byte, fields_in, merge_refusal, merge_outcome, merge_report, MergePromise}
use Rattle.theory_merges.proofs.Replaying.{how_many_lem, fine, merge_promise}

-- An order of two halves has all their records.
keeps_length : (first second l : List HalfEvent) → KeepsBoth first second l → length l ≡ length first + length second
unfolding KeepsBoth
keeps_length first second [] k = rw (k.0, k.1)
keeps_length first second (x ∷ l) (inl k) = rw k.1 (omega (arith, keeps_length k.0 second l k.2))
keeps_length first second (x ∷ l) (inr k) = rw k.1 (omega (arith, keeps_length first k.0 l k.2))

same_length : (fields : List Fields) (events : List HalfEvent) → map half_event_of fields ≡ map Some events → length fields ≡ length events
same_length fields events e = sym (length-map fields half_event_of) ∙ ap length e ∙ length-map events Some

module _ (first second : List ℕ) (set : ℕ) (buffer : List ℕ) where
  few_bytes : merge_refusal first second set buffer ≡ None → (b : ℕ) → (merge_outcome first second set buffer).answer ≡ Ok b → b < 16_777_216
  unfolding MergePromise merge_report
  few_bytes e b merged =
      let f = fine first second set buffer e in
      let p = merge_promise first second set buffer (rw merged refl) in
      let many = keeps_length p.0 p.1 p.2 p.5 in
      let value : Some b ≡ Some (1 + 4 * length p.2) = sym (ap (λ (a : MergeAnswer). (merge_report a).value) merged) ∙ p.8 in
      let same : b ≡ 1 + 4 * length p.2 = cc in
      omega (arith, same, many, same_length (fields_in (after_first_byte first)) p.0 p.3, same_length (fields_in (after_first_byte second)) p.1 p.4, how_many_lem (after_first_byte first), how_many_lem (after_first_byte second), f.few_first, f.few_second)

  answer_fits : (a : MergeAnswer) → ((b : ℕ) → a ≡ Ok b → b < 16_777_216) → Fits (merge_report a)
  unfolding merge_report
  answer_fits (Err r) h = fits_refused r
  answer_fits (Ok b) h = fits_value b 0 (h b refl) (omega arith)

  pub merge_fits : Fits (merge_report (merge_outcome first second set buffer).answer)
  unfolding merge_outcome
  merge_fits = by_refusal (merge_refusal first second set buffer)
      (λ e. answer_fits (merge_outcome first second set buffer).answer (few_bytes e))
      (λ r e. rw e (answer_fits (Err r) (λ b q. absurd (let z : ◌≡◌ {A = ℕ} 0 1 = cc in omega arith))))
