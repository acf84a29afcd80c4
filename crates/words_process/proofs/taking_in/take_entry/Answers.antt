-- `words_process::taking_in::take_entry` meets its contract. Assumes nothing.
use Rattle.std.specs.Prelude.{◌≡◌, ◌∷◌, ◌+◌, ◌^◌, ◌<◌}
use Rattle.laws.specs.Basics.{◌∙◌, ap, List, [], ℕ, set, rules, pick}
use Rattle.words.proofs.Reading.{set_is_put}
use Rattle.words_process.specs.TakingIn.{taken_word, risen_bit}
use Rattle.words_process.proofs.{TakingIn.or_risen, TakingIn.risen_less}
use lib.Bits.{bit_or}
use Rattle.model.specs.declared.Interval.{Interval}
use Rattle.model.specs.Words.{entry, below}
use Rattle.words.specs.{Layout.word, Layout.interval_of, Puts.puts, Puts.one}
use Rattle.words_process.proofs.taking_in.take_entry.Goals as goal

written : (w : List ℕ) (at : ℕ) (carried : List Interval) (f rose : ℕ) → rose < 2 ^ f → (own most : Interval) (b : ℕ) → own ≡ interval_of (word w (at + f))
    → most ≡ pick (below own (entry carried f)) (entry carried f) own → b ≡ pick (below own (entry carried f)) (2 ^ f) 0
    → (set w (at + f) most.0 ≡ puts w (one (at + f) (taken_word w at carried f) ∷ []))
    × (bit_or rose b ≡ rose + risen_bit w at carried f) × (bit_or rose b < 2 ^ (f + 1))
unfolding taken_word risen_bit
written w at carried f rose less own most b o m e =
    let here : most.0 ≡ taken_word w at carried f = ap (λ (x : Interval). x.0) m ∙ ap (λ (x : Interval). (pick (below x (entry carried f)) (entry carried f) x).0) o in
    let is : b ≡ risen_bit w at carried f = e ∙ ap (λ (x : Interval). pick (below x (entry carried f)) (2 ^ f) 0) o in
    let sum : bit_or rose b ≡ rose + risen_bit w at carried f = ap (bit_or rose) is ∙ or_risen w at carried f rose less in
    (set_is_put w (at + f) most.0 ∙ ap (λ (x : ℕ). puts w (one (at + f) x ∷ [])) here, sum, rw sum (risen_less w at carried f rose less))

pub returns : goal.returns
returns c =
    let a = c.args in let own = c.interval_of-own.ensures in let r = written a.w.now a.at a.carried a.f a.rose c.requires.2 _ _ _ own c.greater-most.ensures c.bit_if_risen.ensures in record { w_after = r.0; value = (r.1, r.2) }
