-- `library_readers::carried_on` meets its contract. Assumes nothing.
use Rattle.laws.specs.Basics.{refl, sym, ◌∙◌, arith, rules}
use Rattle.words.proofs.ViewSound.{sound_words}
use Rattle.words.specs.messages.Places.{place_of}
use Rattle.in_place.proofs.Losing.{nothing, there, place_in}
use Rattle.library_readers.proofs.{Readings.answer_is, Readings.nothing_reported, Carried.carried_short, Carried.carried_missing, Carried.carried_read}
use Rattle.library_readers.proofs.carried_on.Goals as goal

pub returns-then-vector-n : goal.returns-then-vector-n
returns-then-vector-n c =
    let z = answer_is (carried_short c.args.w.now c.requires c.args.message c.args.vector.now (omega (arith, c.count_in-n.ensures, c.if-vector-n.true))) c.refused.ensures refl in record { value = z.0; vector_after = z.1 }

pub place_of-found-requires : goal.place_of-found-requires
place_of-found-requires c =
    let h = sound_words c.args.w.now c.requires in (h.size, h.end)

pub carried_at-at-requires : goal.carried_at-at-requires
carried_at-at-requires c =
    let e = there (place_of c.args.w.now c.args.message) _ (sym c.in-Some.is ∙ c.place_of-found.ensures) in omega (arith, place_in c.args.w.now c.requires c.args.message _ e, (sound_words c.args.w.now c.requires).end)

pub copy_words-requires : goal.copy_words-requires
copy_words-requires c =
    let h = sound_words c.args.w.now c.requires in let n = c.count_in-n.ensures in let e = there (place_of c.args.w.now c.args.message) _ (sym c.in-Some.is ∙ c.place_of-found.ensures) in (omega (arith, n, h.size, h.few, h.end, c.carried_at-at.ensures, place_in c.args.w.now c.requires c.args.message _ e), omega (arith, n, c.if-vector-n.false))

pub returns-in-None : goal.returns-in-None
returns-in-None c =
    let e = nothing (place_of c.args.w.now c.args.message) (sym c.in-None.is ∙ c.place_of-found.ensures) in let z = answer_is (carried_missing c.args.w.now c.requires c.args.message c.args.vector.now (omega (arith, c.count_in-n.ensures, c.if-vector-n.false)) e) c.refused-in-None.ensures refl in record { value = z.0; vector_after = z.1 }

pub returns-in-Some : goal.returns-in-Some
returns-in-Some c =
    let n = c.count_in-n.ensures in let e = there (place_of c.args.w.now c.args.message) _ (sym c.in-Some.is ∙ c.place_of-found.ensures) in let z = answer_is (carried_read c.args.w.now c.requires c.args.message c.args.vector.now (omega (arith, n, c.if-vector-n.false)) _ e) nothing_reported
    (rw (n, c.carried_at-at.ensures) at c.copy_words.ensures) in record { value = z.0; vector_after = z.1 }
