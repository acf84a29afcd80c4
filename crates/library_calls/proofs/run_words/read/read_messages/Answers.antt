-- `library_calls::run_words::read::read_messages` meets its contract. Assumes nothing.
use Rattle.std.specs.Prelude.{◌≡◌}
use Rattle.laws.specs.Basics.{arith, length}
use Rattle.words.proofs.View.{fits_size, fits_end, end_most}
use Rattle.library_calls.proofs.{run_words.ReadOut.count_same, run_words.ReadOut.messages_ends}
use Rattle.library_calls.proofs.run_words.read.read_messages.Goals as goal

pub marks_of-sent-requires : goal.marks_of-sent-requires
marks_of-sent-requires c =
    let sized : length c.args.w.now ≡ 6464 = fits_size c.args.w.now c.requires.0.fit in
    let n = count_same c.args.w.now c.args.s c.requires.0 c.requires.1 in (sized, n, omega (arith, n, c.requires.0.few))

pub bounds-w-12 : goal.bounds-w-12
bounds-w-12 c =
    let sized : length c.args.w.now ≡ 6464 = fits_size c.args.w.now c.requires.0.fit in
    let e = sized in omega arith

pub messages_of-messages-requires : goal.messages_of-messages-requires
messages_of-messages-requires c =
    let sized : length c.args.w.now ≡ 6464 = fits_size c.args.w.now c.requires.0.fit in
    (sized, c.number_of-end.ensures, omega (arith, c.number_of-end.ensures, end_most c.args.w.now (fits_end c.args.w.now c.requires.0.fit)))

pub wide2-last-requires : goal.wide2-last-requires
wide2-last-requires c =
    let sized : length c.args.w.now ≡ 6464 = fits_size c.args.w.now c.requires.0.fit in
    let e = sized in omega arith

pub bounds-w-1 : goal.bounds-w-1
bounds-w-1 c =
    let sized : length c.args.w.now ≡ 6464 = fits_size c.args.w.now c.requires.0.fit in
    let e = sized in omega arith

pub returns : goal.returns
returns c =
    messages_ends c.args.w.now c.args.s c.requires.0 c.requires.1 _ _ _ _ c.marks_of-sent.ensures c.messages_of-messages.ensures c.wide2-last.ensures c.number_of-underway.ensures
