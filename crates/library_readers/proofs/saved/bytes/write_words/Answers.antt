-- `library_readers::saved::bytes::write_words` meets its contract. Assumes nothing.
use Rattle.std.specs.Prelude.{◌≡◌, ◌-◌, ◌≤◌, ◌<◌}
use Rattle.laws.specs.Basics.{refl, ◌∙◌, ap, List, ℕ, arith, length, take, sets, rules}
use lib.Seq.{take_all}
use Rattle.library_readers.specs.saved.Format.{word_bytes}
use Rattle.library_readers.proofs.{saved.Parts.none_written, saved.Parts.one_written}
use Rattle.library_readers.proofs.saved.bytes.write_words.Goals as goal

pub loop-k-init : goal.loop-k-init
loop-k-init c =
    (search rules, refl, none_written c.args.w.now _)

pub loop-k-preserved : goal.loop-k-preserved
loop-k-preserved c =
    let l = c.loop-k in let t = c.write_word in let less : l.k < length c.args.w.now = omega (arith, c.requires.0) in
    (search rules, t.auto.bytes ∙ l.invariant.1, t.ensures ∙ one_written c.args.w.now c.args.bytes.now l.bytes l.k less l.invariant.2)

pub returns : goal.returns
returns c =
    let l = c.loop-k in let e : l.k ≡ 6464 = omega arith in
    rw e at l.invariant.2 ∙ ap (λ (v : List ℕ). sets c.args.bytes.now 10 (word_bytes v)) (take_all 6464 c.args.w.now (omega (arith, c.requires.0)))
