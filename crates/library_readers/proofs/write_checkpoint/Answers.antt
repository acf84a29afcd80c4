-- `library_readers::write_checkpoint` meets its contract. Assumes nothing.
use Rattle.std.specs.Prelude.{◌≡◌, ◌∷◌, ◌*◌, ◌≤◌}
use Rattle.laws.specs.Basics.{◌∙◌, ap, List, [], ℕ, sets, rules}
use Rattle.model.specs.declared.CheckpointIndex.{CheckpointIndex}
use Rattle.words.specs.Layout.{word, index_at_of, cause_at_of, blocks_at_of, index_of_def, checkpoint_in}
use Rattle.library_readers.specs.Written.{three_stored}
use Rattle.library_readers.proofs.write_checkpoint.Goals as goal

three : (w l v : List ℕ) (p k x y z : ℕ) → x ≡ (index_of_def (word w (index_at_of p k))).0 → y ≡ word w (cause_at_of p k) → z ≡ word w (blocks_at_of p) → v ≡ sets l (3 * k) (x ∷ y ∷ z ∷ [])
    → v ≡ sets l (3 * k) (three_stored (checkpoint_in w p k))
unfolding checkpoint_in
three w l v p k x y z a b c e = rw (a, b, c) at e

pub index_of-index-requires : goal.index_of-index-requires
index_of-index-requires c =
    rw c.index_at-index_at.ensures c.requires.3

pub returns : goal.returns
returns c =
    let a = c.args in three a.w.now a.out.now _ a.p a.k _ _ _
    (c.wide-number.ensures ∙ ap (λ (i : CheckpointIndex). i.0) (c.index_of-index.ensures ∙ ap (λ (q : ℕ). index_of_def (word a.w.now q)) c.index_at-index_at.ensures))
    (c.wide-cause.ensures ∙ ap (word a.w.now) c.cause_at-cause_at.ensures)
    (c.wide-blocks.ensures ∙ ap (word a.w.now) c.blocks_at-blocks_at.ensures)
    c.put_three.ensures
