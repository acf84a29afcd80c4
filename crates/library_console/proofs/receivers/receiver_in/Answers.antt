-- `library_console::receivers::receiver_in` meets its contract: number 0 where zeros are said to be under way, and what the search brought.
-- Assumes nothing.
use Rattle.laws.specs.Basics.{arith, rules}
use Rattle.words.proofs.View.{fits_size, fits_end, end_most}
use Rattle.library_console.proofs.{Receiving.zeros_said, Receiving.as_searched}
use Rattle.library_console.proofs.receivers.receiver_in.Goals as goal

pub bounds-w-1 : goal.bounds-w-1
bounds-w-1 c =
    let size = fits_size c.args.w.now c.requires in search rules

pub bounds-w-12 : goal.bounds-w-12
bounds-w-12 c =
    let size = fits_size c.args.w.now c.requires in search rules

pub search-searched-requires : goal.search-searched-requires
search-searched-requires c =
    let w = c.args.w.now in (fits_size w c.requires, omega (arith, c.number_of-end.ensures, end_most w (fits_end w c.requires)), c.number_of-many.ensures)

pub returns-then-m-used : goal.returns-then-m-used
returns-then-m-used c =
    let a = c.args in zeros_said a.w.now a.m _ (rw c.number_of-end.ensures at c.search-searched.ensures) (rw c.number_of-many.ensures at c.if-m-used.true)

pub returns : goal.returns
returns c =
    let a = c.args in as_searched a.w.now a.m _ (rw c.number_of-end.ensures at c.search-searched.ensures) (rw c.number_of-many.ensures at c.if-m-used.false)
