-- `library_readers::lost::lost_within` meets its contract, by whether each process has a member. Assumes nothing.
use Rattle.std.specs.Prelude.{◌≡◌, ◌^◌}
use Rattle.laws.specs.Basics.{refl, sym, ◌∙◌, ap, false, ℕ, arith, leb, rules, not-true, not-false}
use Rattle.model.specs.Refusals.{no_member_of}
use Rattle.words.specs.Layout.{count_of, run_of}
use Rattle.words.proofs.ViewSound.{sound_words}
use Rattle.words_line.proofs.Lost.{senders_present}
use Rattle.library_readers.proofs.{Readings.answer_is, Losses.few_lost, Losses.indexes_are, Losses.lost_missing, Losses.lost_read}
use Rattle.library_readers.proofs.lost.lost_within.Goals as goal

pub returns-then-not-members : goal.returns-then-not-members
returns-then-not-members c =
    let inside : leb (2 ^ count_of c.args.w.now) c.args.failed ≡ false = ap (λ (k : ℕ). leb (2 ^ k) c.args.failed) (sym c.requires.1) ∙ c.requires.2 in
    let e = not-false _ (sym c.members_of-members.ensures.all_value ∙ not-true _ c.if-not-members.true) in let z = answer_is (lost_missing c.args.w.now c.requires.0 c.args.failed c.args.messages.now c.requires.3 inside e) c.refused.ensures refl in record { value = z.0; messages_after = z.1 }

pub write_lost-many-requires : goal.write_lost-many-requires
write_lost-many-requires c =
    let w = c.args.w.now in let k = sound_words w c.requires.0 in (k.size, omega (arith, k.end, c.end_in-end.ensures), c.requires.3, rw c.end_in-end.ensures (senders_present w c.requires.0))

pub counted-requires : goal.counted-requires
counted-requires c =
    let w = c.args.w.now in omega (arith, c.write_lost-many.ensures.value, few_lost c.members_of-members.result.indexes w c.end_in-end.result, (sound_words w c.requires.0).end, c.end_in-end.ensures)

pub returns : goal.returns
returns c =
    let there : no_member_of (run_of c.args.w.now) c.args.failed ≡ false = not-true _ (sym c.members_of-members.ensures.all_value ∙ not-false _ c.if-not-members.false) in
    let inside : leb (2 ^ count_of c.args.w.now) c.args.failed ≡ false = ap (λ (k : ℕ). leb (2 ^ k) c.args.failed) (sym c.requires.1) ∙ c.requires.2 in
    let line = indexes_are c.args.w.now c.args.n c.args.failed _ c.requires.1 (c.members_of-members.ensures.indexes_value there) in let z = answer_is (lost_read c.args.w.now c.requires.0 c.args.failed c.args.messages.now c.requires.3 inside there _ line) (rw (rw c.end_in-end.ensures at c.write_lost-many.ensures.value) at c.counted.ensures) (rw c.end_in-end.ensures at c.write_lost-many.ensures.out_after) in record { value = z.0; messages_after = z.1 }
