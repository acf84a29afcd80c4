-- A summary that says what a reply says prints the same line; and what its number says of a refusal.
-- Assumes nothing.
use Rattle.std.specs.Prelude.{◌≡◌, is_none}
use Rattle.laws.specs.Basics.{refl, eqb, ne_eqb, sym, ◌∙◌, ap, List, Option, None, Some, ℕ, arith}
use Rattle.std.specs.declared.num.NonZeroU8.{NonZeroU8}
use Rattle.std.specs.Int.NonZero.{non_zero_u8_get}
use Rattle.model.specs.{declared.Refusal.Refusal, Refusals.number, laws.Refusals.by_refusal, laws.Refusals.number_range}
use Rattle.whole_runs.specs.{Outcomes.Report, Calls.Reply, Listing.deletions_text, Listing.accepted_text, Listing.line_text}
use Rattle.listing.specs.declared.Summary.{Summary}
use Rattle.listing.specs.{Lines.number_said, Lines.reply_of, Summarised.report_in, Summarised.Says}

-- The same line is printed of both.
pub says_line : (summary : Summary) (deleted : List ℕ) (reply : Reply) → Says summary deleted reply → (k : ℕ) → line_text k (reply_of summary deleted) ≡ line_text k reply
unfolding line_text accepted_text reply_of report_in
says_line summary deleted reply h k =
    let a : reply.report.refused ≡ number_said summary.refused = sym (ap (λ (r : Report). r.refused) h.report) in
    let b : reply.report.value ≡ summary.value = sym (ap (λ (r : Report). r.value) h.report) in
    let c : reply.report.deletions ≡ summary.deletions = sym (ap (λ (r : Report). r.deletions) h.report) in
    rw (a, b, c, h.listed)

-- Without deletions the list plays no part.
pub none_listed : (summary : Summary) (r : Report) (l m : List ℕ) → report_in summary ≡ r → r.deletions ≡ 0 → deletions_text summary.deletions l ≡ deletions_text summary.deletions m
unfolding report_in deletions_text
none_listed summary r l m same zero-deletions =
    let no_deletions : summary.deletions ≡ 0 = ap (λ (x : Report). x.deletions) same ∙ zero-deletions in
    rw no_deletions

-- The number 0 is said where there is none.
pub none_said : (o : Option NonZeroU8) → eqb (number_said o) 0 ≡ is_none o
none_said None = refl
none_said (Some refused) = let some : non_zero_u8_get refused ≡ 0 → ⊥ = λ z. omega (arith, refused.ok) in ne_eqb (non_zero_u8_get refused) 0 some

-- What the number of a summary x says of the refusal o of a call that has the report r: 0 that there is none, another that there is one.
module _ (o : Option Refusal) (x : Summary) (r : Report) (same : report_in x ≡ r) (zero-if : o ≡ None → r.refused ≡ 0) (number-if : (y : Refusal) → o ≡ Some y → r.refused ≡ number y) where
  number_is : number_said x.refused ≡ r.refused
  unfolding report_in
  number_is = ap (λ (q : Report). q.refused) same

  pub is_accepted : number_said x.refused ≡ 0 → o ≡ None
  is_accepted z = by_refusal o (λ h. h) (λ y h. absurd (omega (arith, number_is, number-if y h, (number_range y).0)))

  pub is_refused : (number_said x.refused ≡ 0 → ⊥) → (y : Refusal) × (o ≡ Some y)
  is_refused z = by_refusal o (λ h. absurd (z (number_is ∙ zero-if h))) (λ y h. (y, h))
