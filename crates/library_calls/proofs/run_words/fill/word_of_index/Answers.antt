-- `library_calls::run_words::fill::word_of_index` meets its contract. Assumes nothing.
use Rattle.laws.specs.Basics.{arith, eq-eqb, ne_eqb}
use Rattle.library_calls.specs.run_words.Fits.{index_fits}
use Rattle.library_calls.proofs.run_words.fill.word_of_index.Goals as goal

pub returns-then-index-ne-NO_WORD : goal.returns-then-index-ne-NO_WORD
unfolding index_fits
returns-then-index-ne-NO_WORD c =
    rw (ne_eqb c.args.index.0 65535 c.if-index-ne-NO_WORD.true)

pub returns-else-index-ne-NO_WORD : goal.returns-else-index-ne-NO_WORD
unfolding index_fits
returns-else-index-ne-NO_WORD c =
    rw (eq-eqb c.args.index.0 65535 (omega arith))
