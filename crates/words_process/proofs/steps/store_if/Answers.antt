-- `words_process::steps::store_if` meets its contract. Assumes nothing.
use Rattle.laws.specs.Basics.{◌∙◌, ap, List, ℕ, arith, length-set, rules}
use Rattle.words.specs.{Layout.mark_at, Puts.put_from}
use Rattle.words.proofs.Reading.{set_is_put}
use Rattle.words_process.proofs.steps.store_if.Goals as goal

pub store-requires : goal.store-requires
store-requires c =
    let p = c.requires in let q = p.2 c.if-stores.true in (p.0, p.1, q.0, q.1)

pub bounds-w-i : goal.bounds-w-i
bounds-w-i c =
    omega (arith, c.store.auto.w, c.requires.0)

pub shape_of-w : goal.shape_of-w
shape_of-w c =
    simp length-set c.store.auto.w

pub returns-then-stores : goal.returns-then-stores
returns-then-stores c =
    rw c.if-stores.true (set_is_put _ _ _ ∙ ap (λ (u : List ℕ). put_from u (mark_at c.args.i) 1 (λ f. 0)) c.store.ensures)
