-- `words_line::earliest::list::copy_out` meets its contract. Assumes nothing.
use Rattle.std.specs.Prelude.{◌≡◌, ◌+◌}
use Rattle.laws.specs.Basics.{refl, ◌∙◌, ap, List, ℕ, zero, suc, arith, rules, length, get_or}
use native.Mathlib.Numerals.{add-one}
use Rattle.model.specs.declared.Named.{Named}
use Rattle.words_line.specs.declared.earliest.list.Copied.{Copied}
use Rattle.words_line.specs.earliest.Copying.{no_named, nothing_copied_of, with_element_of, copy_to, copy_of}
use Rattle.words_line.proofs.earliest.list.copy_out.Goals as goal

none : (l : List Named) → nothing_copied_of ≡ copy_to 0 l
unfolding copy_to
none l = refl

one_more : (k : ℕ) (l : List Named) → with_element_of (copy_to k l) (get_or l k no_named) ≡ copy_to (k + 1) l
unfolding copy_to
one_more k l = rw (add-one k) refl

all : (l : List Named) (k : ℕ) → k ≡ length l → copy_to k l ≡ copy_of l
unfolding copy_of
all l k e = rw e refl

-- As many elements have been counted as were copied.
counted : (k : ℕ) (l : List Named) → (copy_to k l).length ≡ k
unfolding copy_to with_element_of nothing_copied_of
counted zero l = refl
counted (suc k) l = omega (arith, counted k l)

pub loop-k-init : goal.loop-k-init
loop-k-init c = (search rules, c.nothing_copied-copied.ensures ∙ none c.args.list.now)

pub with_element-copied-requires : goal.with_element-copied-requires
with_element-copied-requires c =
    let e : c.loop-k.copied.length ≡ c.loop-k.k = ap (λ (t : Copied). t.length) c.loop-k.invariant.1 ∙ counted c.loop-k.k c.args.list.now in
    omega arith

pub loop-k-preserved : goal.loop-k-preserved
loop-k-preserved c = (
  search rules,
  c.with_element-copied.ensures ∙ ap (λ (t : Copied). with_element_of t c.element.result) c.loop-k.invariant.1
      ∙ ap (with_element_of (copy_to c.loop-k.k c.args.list.now)) c.element.ensures ∙ one_more c.loop-k.k c.args.list.now,
)

pub returns : goal.returns
returns c =
    let e : c.loop-k.k ≡ length c.args.list.now = omega arith in
    c.loop-k.invariant.1 ∙ all c.args.list.now c.loop-k.k e
