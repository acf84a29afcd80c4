-- `library_calls::run_words::fill::put_numbers` meets its contract. Assumes nothing.
use Rattle.std.specs.Prelude.{◌≡◌}
use Rattle.laws.specs.Basics.{sym, ◌∙◌, arith, length, length-set}
use Rattle.library_calls.proofs.{run_words.Steps.numbers_put}
use Rattle.library_calls.proofs.run_words.fill.put_numbers.Goals as goal

pub put2-requires : goal.put2-requires
put2-requires c =
    simp length-set (omega arith)

pub put4-requires : goal.put4-requires
put4-requires c =
    let sized_2 : length c.put2.new.w ≡ 6464 = c.put2.auto.w ∙ simp length-set c.requires.0 in
    let e = sized_2 in omega arith

pub put4-requires-2 : goal.put4-requires-2
put4-requires-2 c =
    let sized_2 : length c.put2.new.w ≡ 6464 = c.put2.auto.w ∙ simp length-set c.requires.0 in
    let sized_4 : length c.put4.new.w ≡ 6464 = c.put4.auto.w ∙ sized_2 in
    let e = sized_4 in omega arith

pub bounds-w-12 : goal.bounds-w-12
bounds-w-12 c =
    let sized_2 : length c.put2.new.w ≡ 6464 = c.put2.auto.w ∙ simp length-set c.requires.0 in
    let sized_4 : length c.put4.new.w ≡ 6464 = c.put4.auto.w ∙ sized_2 in
    let sized_8 : length c.put4-2.new.w ≡ 6464 = c.put4-2.auto.w ∙ sized_4 in
    let e = sized_8 in omega arith

pub shape_of-w : goal.shape_of-w
shape_of-w c =
    let sized_2 : length c.put2.new.w ≡ 6464 = c.put2.auto.w ∙ simp length-set c.requires.0 in
    let sized_4 : length c.put4.new.w ≡ 6464 = c.put4.auto.w ∙ sized_2 in
    let sized_8 : length c.put4-2.new.w ≡ 6464 = c.put4-2.auto.w ∙ sized_4 in
    simp length-set (sized_8 ∙ sym c.requires.0)

pub returns : goal.returns
returns c =
    let a = c.args in numbers_put a.w.now _ _ _ a.n a.many a.last a.disk c.put2.ensures c.put4.ensures c.put4-2.ensures
