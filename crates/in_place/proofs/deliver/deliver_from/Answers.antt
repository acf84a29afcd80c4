-- `in_place::deliver::deliver_from` meets its contract, by whether the message brings something new. Assumes nothing.
use Rattle.std.specs.Prelude.{◌≡◌, ◌<◌}
use Rattle.laws.specs.Basics.{refl, sym, ◌∙◌, ap, arith, length, rules, not-true, not-false}
use Rattle.model.specs.{Words.process, Steps.newer, Steps.forces}
use Rattle.words.specs.Layout.{word, part_at, receiver_at_of, vector_in, message_in, run_of}
use Rattle.words.proofs.ViewSound.{sound_words}
use Rattle.in_place.proofs.{Losing.one_there, Receiving.place_there, Receiving.still_out, Receiving.forces_marked, Receiving.not_taken}
use Rattle.in_place.proofs.deliver.deliver_from.Goals as goal

pub overflow_add-i : goal.overflow_add-i
overflow_add-i c =
    let known : let w = c.args.w.now in (length w ≡ 6464) × (c.args.k < 64) × (word w (receiver_at_of c.args.k) < 16) = let h = sound_words c.args.w.now c.requires.0 in let p = place_there c.args.w.now c.requires.0 c.args.deleted.now c.args.k c.requires.1 c.requires.2 in (h.size, p.0, omega (arith, h.few, p.1)) in
    let k = known in search rules

pub offset_bounds-w-k : goal.offset_bounds-w-k
offset_bounds-w-k c =
    let known : let w = c.args.w.now in (length w ≡ 6464) × (c.args.k < 64) × (word w (receiver_at_of c.args.k) < 16) = let h = sound_words c.args.w.now c.requires.0 in let p = place_there c.args.w.now c.requires.0 c.args.deleted.now c.args.k c.requires.1 c.requires.2 in (h.size, p.0, omega (arith, h.few, p.1)) in
    let k = known in search rules

pub bounds-w-k : goal.bounds-w-k
bounds-w-k c =
    let known : let w = c.args.w.now in (length w ≡ 6464) × (c.args.k < 64) × (word w (receiver_at_of c.args.k) < 16) = let h = sound_words c.args.w.now c.requires.0 in let p = place_there c.args.w.now c.requires.0 c.args.deleted.now c.args.k c.requires.1 c.requires.2 in (h.size, p.0, omega (arith, h.few, p.1)) in
    let k = known in omega (arith, k.0, k.1)

pub overflow_cast-i : goal.overflow_cast-i
overflow_cast-i c =
    let known : let w = c.args.w.now in (length w ≡ 6464) × (c.args.k < 64) × (word w (receiver_at_of c.args.k) < 16) = let h = sound_words c.args.w.now c.requires.0 in let p = place_there c.args.w.now c.requires.0 c.args.deleted.now c.args.k c.requires.1 c.requires.2 in (h.size, p.0, omega (arith, h.few, p.1)) in
    record { fits = omega (arith, known.2) }

pub overflow_mul-i : goal.overflow_mul-i
overflow_mul-i c =
    let known : let w = c.args.w.now in (length w ≡ 6464) × (c.args.k < 64) × (word w (receiver_at_of c.args.k) < 16) = let h = sound_words c.args.w.now c.requires.0 in let p = place_there c.args.w.now c.requires.0 c.args.deleted.now c.args.k c.requires.1 c.requires.2 in (h.size, p.0, omega (arith, h.few, p.1)) in
    let k = known in search rules

pub overflow_add-i-2 : goal.overflow_add-i-2
overflow_add-i-2 c =
    let known : let w = c.args.w.now in (length w ≡ 6464) × (c.args.k < 64) × (word w (receiver_at_of c.args.k) < 16) = let h = sound_words c.args.w.now c.requires.0 in let p = place_there c.args.w.now c.requires.0 c.args.deleted.now c.args.k c.requires.1 c.requires.2 in (h.size, p.0, omega (arith, h.few, p.1)) in
    let k = known in search rules

pub vector_at-vector-requires : goal.vector_at-vector-requires
vector_at-vector-requires c =
    let known : let w = c.args.w.now in (length w ≡ 6464) × (c.args.k < 64) × (word w (receiver_at_of c.args.k) < 16) = let h = sound_words c.args.w.now c.requires.0 in let p = place_there c.args.w.now c.requires.0 c.args.deleted.now c.args.k c.requires.1 c.requires.2 in (h.size, p.0, omega (arith, h.few, p.1)) in
    let k = known in omega (arith, k.0, k.1, k.2)

pub overflow_mul-k : goal.overflow_mul-k
overflow_mul-k c =
    let known : let w = c.args.w.now in (length w ≡ 6464) × (c.args.k < 64) × (word w (receiver_at_of c.args.k) < 16) = let h = sound_words c.args.w.now c.requires.0 in let p = place_there c.args.w.now c.requires.0 c.args.deleted.now c.args.k c.requires.1 c.requires.2 in (h.size, p.0, omega (arith, h.few, p.1)) in
    let k = known in search rules

pub overflow_add-k : goal.overflow_add-k
overflow_add-k c =
    let known : let w = c.args.w.now in (length w ≡ 6464) × (c.args.k < 64) × (word w (receiver_at_of c.args.k) < 16) = let h = sound_words c.args.w.now c.requires.0 in let p = place_there c.args.w.now c.requires.0 c.args.deleted.now c.args.k c.requires.1 c.requires.2 in (h.size, p.0, omega (arith, h.few, p.1)) in
    let k = known in search rules

pub vector_at-carried-requires : goal.vector_at-carried-requires
vector_at-carried-requires c =
    let known : let w = c.args.w.now in (length w ≡ 6464) × (c.args.k < 64) × (word w (receiver_at_of c.args.k) < 16) = let h = sound_words c.args.w.now c.requires.0 in let p = place_there c.args.w.now c.requires.0 c.args.deleted.now c.args.k c.requires.1 c.requires.2 in (h.size, p.0, omega (arith, h.few, p.1)) in
    let k = known in omega (arith, k.0, k.1, k.2)

pub take_out-requires : goal.take_out-requires
take_out-requires c =
    let known : let w = c.args.w.now in (length w ≡ 6464) × (c.args.k < 64) × (word w (receiver_at_of c.args.k) < 16) = let h = sound_words c.args.w.now c.requires.0 in let p = place_there c.args.w.now c.requires.0 c.args.deleted.now c.args.k c.requires.1 c.requires.2 in (h.size, p.0, omega (arith, h.few, p.1)) in
    let a = c.args in let k = known in (k.0, (sound_words a.w.now c.requires.0).end, k.1, one_there a.w.now c.requires.0 (message_in a.w.now a.k).number a.k c.requires.1)

pub returns-then-not-newer : goal.returns-then-not-newer
unfolding message_in
returns-then-not-newer c =
    let newer_is : let w = c.args.w.now in newer (vector_in w (part_at (word w (receiver_at_of c.args.k)))) (message_in w c.args.k).vector ≡ c.is_newer-newer.result = unfold message_in in sym (c.is_newer-newer.ensures ∙ (λ j. newer (c.vector_at-vector.ensures j) (c.vector_at-carried.ensures j))) in
    let a = c.args in let z = still_out a.w.now c.requires.0 a.deleted.now a.k c.requires.1 c.requires.2 (newer_is ∙ c.if-not-newer.true) _ c.take_out.ensures in record { w_after = z.0; answer_value = z.1.0; rose_value = z.1.1.0; deleted_after = z.1.1.1.0; w_unchanged = z.1.1.1.1.0; leaves = z.1.1.1.1.1 }

pub has_sent-forced-requires : goal.has_sent-forced-requires
has_sent-forced-requires c =
    let known : let w = c.args.w.now in (length w ≡ 6464) × (c.args.k < 64) × (word w (receiver_at_of c.args.k) < 16) = let h = sound_words c.args.w.now c.requires.0 in let p = place_there c.args.w.now c.requires.0 c.args.deleted.now c.args.k c.requires.1 c.requires.2 in (h.size, p.0, omega (arith, h.few, p.1)) in
    let k = known in (k.0, k.2)

pub forced_admission-admission-requires : goal.forced_admission-admission-requires
forced_admission-admission-requires c =
    let a = c.args in (c.requires.0, (place_there a.w.now c.requires.0 a.deleted.now a.k c.requires.1 c.requires.2).1)

pub take_from-requires : goal.take_from-requires
unfolding message_in
take_from-requires c =
    let newer_is : let w = c.args.w.now in newer (vector_in w (part_at (word w (receiver_at_of c.args.k)))) (message_in w c.args.k).vector ≡ c.is_newer-newer.result = unfold message_in in sym (c.is_newer-newer.ensures ∙ (λ j. newer (c.vector_at-vector.ensures j) (c.vector_at-carried.ensures j))) in
    let forces_is : let w = c.args.w.now in forces (process (run_of w) (word w (receiver_at_of c.args.k))) (message_in w c.args.k).vector ≡ c.has_sent-forced.result = unfold message_in in let a = c.args in forces_marked a.w.now c.requires.0 a.deleted.now a.k c.requires.1 c.requires.2 (newer_is ∙ c.if-not-newer.false)
    ∙ sym c.has_sent-forced.ensures in
    let a = c.args in let carried = c.vector_at-carried.ensures in record {
      w_value = c.requires;
      i_value = (
        refl,
        carried,
        ap (forces (process (run_of a.w.now) (word a.w.now (receiver_at_of a.k)))) carried ∙ forces_is,
        sym c.in-Ok.is ∙ c.forced_admission-admission.ensures,
      );
    }

pub returns-in-Err : goal.returns-in-Err
unfolding message_in
returns-in-Err c =
    let newer_is : let w = c.args.w.now in newer (vector_in w (part_at (word w (receiver_at_of c.args.k)))) (message_in w c.args.k).vector ≡ c.is_newer-newer.result = unfold message_in in sym (c.is_newer-newer.ensures ∙ (λ j. newer (c.vector_at-vector.ensures j) (c.vector_at-carried.ensures j))) in
    let forces_is : let w = c.args.w.now in forces (process (run_of w) (word w (receiver_at_of c.args.k))) (message_in w c.args.k).vector ≡ c.has_sent-forced.result = unfold message_in in let a = c.args in forces_marked a.w.now c.requires.0 a.deleted.now a.k c.requires.1 c.requires.2 (newer_is ∙ c.if-not-newer.false)
    ∙ sym c.has_sent-forced.ensures in
    let a = c.args in rw c.refuse.ensures (let z = (not_taken a.w.now c.requires.0 a.deleted.now a.k c.requires.1 c.requires.2 c.has_sent-forced.result forces_is _ (sym c.in-Err.is ∙ c.forced_admission-admission.ensures)) in record { w_after = z.0; answer_value = z.1.0; rose_value = z.1.1.0; deleted_after = z.1.1.1.0; w_unchanged = z.1.1.1.1.0; leaves = z.1.1.1.1.1 })

pub returns-in-Ok : goal.returns-in-Ok
returns-in-Ok c =
    record { w_after = c.take_from.ensures.w_after; answer_value = c.take_from.ensures.answer_value; rose_value = c.take_from.ensures.rose_value; deleted_after = c.take_from.ensures.deleted_after; w_unchanged = c.take_from.ensures.w_unchanged; leaves = c.take_from.ensures.leaves }
