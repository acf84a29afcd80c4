-- A copy of all words is the words.
-- Assumes nothing.
use Rattle.std.specs.Prelude.{◌≡◌, ◌++◌, ◌+◌, ◌≤◌, ◌<◌}
use Rattle.laws.specs.Basics.{sym, ◌∙◌, ap, List, append-nil, ℕ, arith, length, get_or, drop, sets}
use lib.Seq.{drop-length, ext_get_or}
use Rattle.laws.specs.{Front.written_front, Tables.length_table, Tables.get_d_table}
use Rattle.words.specs.Layout.{word}
use Rattle.library_readers.specs.Written.{words_from}

-- Words copied over as many.
pub copied_whole : (lent w v : List ℕ) → length lent ≡ 6464 → length w ≡ 6464 → v ≡ sets lent 0 (words_from w 0 6464) → v ≡ w
copied_whole lent w v room size e =
    let all : words_from w 0 6464 ≡ w = ext_get_or 0 _ w (length_table 6464 _ ∙ sym size)
    (λ k less. let few : k < 6464 = rw (length_table 6464 (λ f. word w (0 + f))) at less in
    let place : 0 + k ≡ k = omega arith in get_d_table 6464 (λ f. word w (0 + f)) k 0 few ∙ ap (λ (n : ℕ). get_or w n 0) place) in
    let fits : length w ≤ length lent = omega arith in
    let same : length w ≡ length lent = omega arith in
    e ∙ ap (sets lent 0) all ∙ written_front lent w fits ∙ ap (λ (n : ℕ). w ++ drop n lent) same ∙ ap (λ (l : List ℕ). w ++ l) (drop-length lent) ∙ append-nil w
