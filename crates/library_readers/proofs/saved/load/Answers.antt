-- `library_readers::saved::load` meets its contract. Assumes nothing.
use Rattle.laws.specs.Basics.{not, refl, sym, ◌∙◌, ap, true, false, List, ℕ, length, rules}
use Rattle.laws.specs.Below.{not_out}
use Rattle.model.specs.Sound.{sound}
use Rattle.words.specs.Layout.{run_of}
use Rattle.library_readers.proofs.{Copying.copied_whole, Readings.nothing_reported, saved.Back.whole_size, saved.Back.loaded_length}
use Rattle.library_readers.proofs.saved.Outcomes.{answer_is, load_room, load_broken, load_unsound, load_done}
use Rattle.library_readers.proofs.saved.load.Goals as goal

pub returns-then-w-ne-WORDS : goal.returns-then-w-ne-WORDS
returns-then-w-ne-WORDS c =
    let z = answer_is (load_room c.args.bytes.now c.args.w.now c.if-w-ne-WORDS.true) c.refused.ensures refl in record { value = z.0; w_after = z.1 }

pub returns-then-not-whole : goal.returns-then-not-whole
returns-then-not-whole c =
    let z = answer_is (load_broken c.args.bytes.now c.args.w.now (sym c.is_whole-whole.ensures ∙ not_out _ true (ap not c.if-not-whole.true))) c.refused-then-not-whole.ensures refl in record { value = z.0; w_after = z.1 }

pub words_in-loaded-requires : goal.words_in-loaded-requires
words_in-loaded-requires c =
    whole_size c.args.bytes.now (sym c.is_whole-whole.ensures ∙ not_out _ false (ap not c.if-not-whole.false))

pub returns-then-not-sound : goal.returns-then-not-sound
returns-then-not-sound c =
    let whole = sym c.is_whole-whole.ensures ∙ not_out _ false (ap not c.if-not-whole.false) in let off = sym (ap (λ (l : List ℕ). sound (run_of l)) c.words_in-loaded.ensures) ∙ sym c.is_sound-sound.ensures ∙ not_out _ true (ap not c.if-not-sound.true) in let z = answer_is (load_unsound c.args.bytes.now c.args.w.now whole off) c.refused-then-not-sound.ensures refl in record { value = z.0; w_after = z.1 }

pub returns : goal.returns
returns c =
    let whole = sym c.is_whole-whole.ensures ∙ not_out _ false (ap not c.if-not-whole.false) in let loaded = c.words_in-loaded.ensures in let sure = sym (ap (λ (l : List ℕ). sound (run_of l)) loaded) ∙ sym c.is_sound-sound.ensures ∙ not_out _ false (ap not c.if-not-sound.false) in let room = c.if-w-ne-WORDS.false in let z = answer_is (load_done c.args.bytes.now c.args.w.now room whole sure) nothing_reported
    (copied_whole c.args.w.now _ _ room (ap length loaded ∙ loaded_length c.args.bytes.now) c.copy_words.ensures ∙ loaded) in record { value = z.0; w_after = z.1 }
