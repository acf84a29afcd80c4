-- `words_line::restored::roll_back` meets its contract. Assumes nothing.
use Rattle.std.specs.Prelude.{◌≡◌, ◌∷◌}
use Rattle.laws.specs.Basics.{◌∙◌, ap, List, [], ℕ, arith, rules}
use Rattle.model.specs.declared.Interval.{Interval}
use Rattle.model.specs.{Words.entry, Steps.advanced}
use Rattle.words.specs.{Layout.mark_at, Layout.part_at, Layout.stored_at, Puts.put_from, Puts.puts, Puts.vector_put}
use Rattle.words.proofs.{Reading.set_is_put, Same.vector_word}
use Rattle.words_line.proofs.restored.roll_back.Goals as goal

pub advanced-back-requires : goal.advanced-back-requires
advanced-back-requires c =
    let a = c.args in (c.requires.1, omega (arith, c.requires.3, ap (λ (v : List Interval). (entry v a.p).0) c.vector_at-vector.ensures, ap (λ (x : Interval). x.0) (vector_word a.w.now (stored_at a.p a.place) a.p c.requires.1)))

pub returns : goal.returns
returns c =
    let a = c.args in set_is_put _ _ _
    ∙ ap (λ (u : List ℕ). put_from u (mark_at a.p) 1 (λ f. 0))
    (c.put_vector.ensures
    ∙ ap (λ (v : List Interval). puts a.w.now (vector_put (part_at a.p) v ∷ []))
    (c.advanced-back.ensures ∙ ap (advanced a.p) c.vector_at-vector.ensures))
