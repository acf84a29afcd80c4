-- `words_sound::process::is_sound` meets its contract. Assumes nothing.
use Rattle.std.specs.Prelude.{◌≡◌, ◌-◌}
use Rattle.laws.specs.Basics.{not, ◌∙◌, ap, ℕ, arith, rules}
use Rattle.words.specs.Layout.{word, kept_count_at_of}
use Rattle.words_sound.proofs.Judging.{numbers_fail, process_whole, numbers_few, numbers_own}
use Rattle.words_sound.proofs.process.is_sound.Goals as goal

pub returns-then-not-numbers : goal.returns-then-not-numbers
returns-then-not-numbers c =
    let a = c.args in numbers_fail a.w.now a.p c.are_numbers_sound-numbers.result c.are_numbers_sound-numbers.ensures (ap not c.if-not-numbers.true)

pub rows_off-first-requires : goal.rows_off-first-requires
rows_off-first-requires c =
    (c.requires.0.sized, search rules, c.requires.0.limits, c.requires.2)

pub are_kept_sound-requires : goal.are_kept_sound-requires
are_kept_sound-requires c =
    let a = c.args in let keptCount : c.number_of-kept_count.result ≡ word a.w.now (kept_count_at_of a.p) = c.number_of-kept_count.ensures ∙ ap (λ (j : ℕ). word a.w.now j) c.kept_count_at-kept_count_at.ensures in (
      c.requires.0.sized,
      search rules,
      omega (arith, numbers_few a.w.now a.p a.n c.are_numbers_sound-numbers.result c.are_numbers_sound-numbers.ensures (ap not c.if-not-numbers.false) c.requires.0.counted c.requires.0.few),
      c.requires.0.limits,
      numbers_own a.w.now a.p c.are_numbers_sound-numbers.result c.are_numbers_sound-numbers.ensures (ap not c.if-not-numbers.false),
    )

pub returns : goal.returns
returns c =
    let a = c.args in process_whole a.w.now a.p c.are_numbers_sound-numbers.result c.are_numbers_sound-numbers.ensures (ap not c.if-not-numbers.false) c.rows_off-first.result c.rows_off-first.ensures c.number_of-kept_count.result
    (c.number_of-kept_count.ensures ∙ ap (λ (j : ℕ). word a.w.now j) c.kept_count_at-kept_count_at.ensures) c.are_kept_sound.result c.are_kept_sound.ensures
