-- `library_console::list::write_pair` meets its contract: two numbers, one after the other.
-- Assumes nothing.
use Rattle.std.specs.Prelude.{◌≡◌, ◌∷◌, ◌+◌}
use Rattle.laws.specs.Basics.{refl, ◌∙◌, ap, List, [], ℕ, arith, set, length-set, sets, rules}
use native.Mathlib.Numerals.{add-one}
use Rattle.model.specs.declared.CheckpointIndex.{CheckpointIndex}
use Rattle.words.specs.Layout.{word, index_at_of, index_of_def, checkpoint_in}
use Rattle.library_console.proofs.list.write_pair.Goals as goal

two : (w l : List ℕ) (at p k x : ℕ) → x ≡ (index_of_def (word w (index_at_of p k))).0 → set (set l at p) (at + 1) x ≡ sets l at (p ∷ (checkpoint_in w p k).index.0 ∷ [])
unfolding checkpoint_in
two w l at p k x e = rw (add-one at, e) refl

pub index_of-index-requires : goal.index_of-index-requires
index_of-index-requires c =
    rw c.index_at-index_at.ensures c.requires.3

pub bounds-deleted-at-2 : goal.bounds-deleted-at-2
bounds-deleted-at-2 c =
    rw (length-set {A = ℕ}) (omega (arith, c.requires.4))

pub returns : goal.returns
returns c =
    let a = c.args in two a.w.now a.deleted.now a.at a.p a.k _ (ap (λ (j : CheckpointIndex). j.0) (c.index_of-index.ensures ∙ ap (λ (q : ℕ). index_of_def (word a.w.now q)) c.index_at-index_at.ensures))
