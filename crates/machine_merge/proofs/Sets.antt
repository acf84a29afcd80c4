-- The set, judged whole: one of 65,536 or more has a bit at 16 or above, and so at n or above in every run. Whichever it is, the same is printed for it.
-- Assumes nothing.
use Rattle.std.specs.Prelude.{◌≡◌, ◌||◌, ◌+◌, ◌^◌, ◌≤◌, ◌<◌}
use Rattle.laws.specs.Basics.{sym, ◌∙◌, ap, true, List, None, Some, ℕ, arith, leb, length, replicate, lt-ltb, le-ltb, le-leb, by_bool}
use lib.Pow.{pow_mono}
use Rattle.laws.specs.{Rows.by_lt, Truth.or_none, Truth.never_both}
use Rattle.model.specs.{Refusals.first_of, laws.Refusals.by_refusal, laws.Refusals.no_rule}
use Rattle.theory_merges.specs.Merge.{count_of, bad_count, merge_refusal}
use Rattle.theory_merges.proofs.Replaying.{good_count, fine}
use Rattle.machines.specs.programs.Numbers.{decimal_in, number_in, at_most}
use Rattle.machines.proofs.programs.Digits.{at_most_stands}
use Rattle.machine_merge.specs.Printed.{printed}
use Rattle.machine_merge.proofs.Standing.{refused_text_lem}

outside : (n F : ℕ) → n ≤ 16 → 65535 < F → leb (2 ^ n) F ≡ true
outside n F h f = le-leb (2 ^ n) F (omega (arith, pow_mono {i = n} {j = 16} h, f))

module _ (a b : List ℕ) where
  abbrev buffer : List ℕ
  buffer = replicate (length a + length b) 0

  module _ (F G : ℕ) (f : 65535 < F) (g : 65535 < G) where
    same_refusal : merge_refusal a b F buffer ≡ merge_refusal a b G buffer
    unfolding merge_refusal first_of
    same_refusal = by_bool (bad_count a || bad_count b)
        (λ e. rw e)
        (λ e. let n = good_count a (or_none (bad_count a) (bad_count b) e).0 in rw (outside (count_of a) F n f, outside (count_of a) G n g))

    holds : merge_refusal a b F buffer ≡ None → ⊥
    unfolding merge_refusal
    holds e = never_both (leb (2 ^ count_of a) F) (outside (count_of a) F (fine a b F buffer e).count f) (no_rule _ e 4)

    pub alike : printed a b F ≡ printed a b G
    alike = by_refusal (merge_refusal a b F buffer)
        (λ e. absurd (holds e))
        (λ x e. refused_text_lem a b F x e ∙ sym (refused_text_lem a b G x (sym same_refusal ∙ e)))

  -- For a set of any length what the program prints is what is printed for 32 bits of it.
  pub any_set : (F : ℕ) → printed a b (at_most F) ≡ printed a b F
  unfolding at_most
  any_set F = by_lt 4294967295 F
      (λ great. rw (lt-ltb 4294967295 F great) (alike 4294967295 F (omega arith) (omega (arith, great))))
      (λ small. rw (le-ltb 4294967295 F small))

  pub asked_set : (word : List ℕ) (F : ℕ) → decimal_in word ≡ Some F → printed a b (at_most (number_in word)) ≡ printed a b F
  asked_set word F e = ap (printed a b) (at_most_stands word F e) ∙ any_set F
