-- `words_process::kept::store` meets its contract. Assumes nothing.
use Rattle.std.specs.Prelude.{◌∷◌}
use Rattle.laws.specs.Basics.{◌∙◌, ap, [], ℕ, arith, set, length-set, rules}
use Rattle.words.specs.{Layout.index_at_of, Layout.cause_at_of, Layout.stored_at, Puts.puts, Puts.vector_put}
use Rattle.words.proofs.Reading.{set_is_put}
use Rattle.words_process.proofs.kept.store.Goals as goal

pub bounds-w-p-2 : goal.bounds-w-p-2
bounds-w-p-2 c =
    simp length-set (omega arith)

pub put_vector-requires : goal.put_vector-requires
put_vector-requires c =
    simp length-set (omega arith)

pub shape_of-w : goal.shape_of-w
shape_of-w c =
    c.put_vector.auto.w ∙ simp length-set

pub returns : goal.returns
returns c =
    c.put_vector.ensures ∙ ap (λ (x : ℕ). puts (set (set c.args.w.now (index_at_of c.args.p c.args.k) x) (cause_at_of c.args.p c.args.k) c.args.cause) (vector_put (stored_at c.args.p c.args.k) c.args.vector ∷ [])) c.pin_word.ensures.0 ∙ simp set_is_put
