-- `in_place::through::line_through` meets its contract, by whether each named checkpoint is kept and whether two are ordered. Assumes nothing.
use Rattle.std.specs.Prelude.{◌≡◌}
use Rattle.laws.specs.Basics.{refl, sym, ◌∙◌, arith, rules, not-true, not-false}
use Rattle.words.proofs.ViewSound.{sound_words}
use Rattle.in_place.proofs.Reached.{refused, few_pairs, pairs_in, searched, all_in, missing_out, within, ordered_out, line_out}
use Rattle.in_place.proofs.through.line_through.Goals as goal

pub find_starts-found-requires : goal.find_starts-found-requires
find_starts-found-requires c =
    let a = c.args in let p = c.requires.w_value in let w = a.w.now in let l = a.named.now in let line = a.line.now in (
      (sound_words w p.0).size,
      pairs_in w p.0 l line a.m a.n p.3 p.1 p.2 c.requires.named_value.0 c.requires.named_value.1,
      few_pairs w p.0 l line a.m a.n p.3 p.1 p.2 c.requires.named_value.0 c.requires.named_value.1,
      searched w p.0 l line a.m a.n p.3 p.1 p.2 c.requires.named_value.0 c.requires.named_value.1,
    )

pub returns-then-not-all : goal.returns-then-not-all
unfolding refused
returns-then-not-all c =
    let a = c.args in let p = c.requires.w_value in rw (missing_out a.w.now p.0 a.named.now a.line.now a.m a.n p.3 p.1 p.2 c.requires.named_value.0 c.requires.named_value.1 _ c.find_starts-found.ensures (c.if-not-all.true)) (record { value = refl; line_after = refl })

pub is_ordered-ordered-requires : goal.is_ordered-ordered-requires
is_ordered-ordered-requires c =
    let a = c.args in let p = c.requires.w_value in let w = a.w.now in let l = a.named.now in let line = a.line.now in (
      (sound_words w p.0).size,
      pairs_in w p.0 l line a.m a.n p.3 p.1 p.2 c.requires.named_value.0 c.requires.named_value.1,
      few_pairs w p.0 l line a.m a.n p.3 p.1 p.2 c.requires.named_value.0 c.requires.named_value.1,
      all_in w p.0 l line a.m a.n p.3 p.1 p.2 c.requires.named_value.0 c.requires.named_value.1,
      within w p.0 l line a.m a.n p.3 p.1 p.2 c.requires.named_value.0 c.requires.named_value.1 _ c.find_starts-found.ensures (c.if-not-all.false),
    )

pub returns-then-ordered : goal.returns-then-ordered
unfolding refused
returns-then-ordered c =
    let a = c.args in let p = c.requires.w_value in rw (ordered_out a.w.now p.0 a.named.now a.line.now a.m a.n p.3 p.1 p.2 c.requires.named_value.0 c.requires.named_value.1 _ c.find_starts-found.ensures (c.if-not-all.false)
    (sym c.is_ordered-ordered.ensures ∙ c.if-ordered.true)) (record { value = refl; line_after = refl })

pub write_greatest-requires : goal.write_greatest-requires
write_greatest-requires c =
    let a = c.args in let p = c.requires.w_value in let w = a.w.now in let l = a.named.now in let line = a.line.now in (
      (sound_words w p.0).size,
      few_pairs w p.0 l line a.m a.n p.3 p.1 p.2 c.requires.named_value.0 c.requires.named_value.1,
      within w p.0 l line a.m a.n p.3 p.1 p.2 c.requires.named_value.0 c.requires.named_value.1 _ c.find_starts-found.ensures (c.if-not-all.false),
      omega (arith, (sound_words w p.0).few, p.1),
      p.2,
    )

pub returns : goal.returns
returns c =
    let a = c.args in let p = c.requires.w_value in rw (line_out a.w.now p.0 a.named.now a.line.now a.m a.n p.3 p.1 p.2 c.requires.named_value.0 c.requires.named_value.1 _ c.find_starts-found.ensures (c.if-not-all.false)
    (sym c.is_ordered-ordered.ensures ∙ c.if-ordered.false)) (record { value = refl; line_after = c.write_greatest.ensures })
