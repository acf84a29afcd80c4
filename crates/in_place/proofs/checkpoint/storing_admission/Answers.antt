-- `in_place::checkpoint::storing_admission` meets its contract. Assumes nothing.
use Rattle.std.specs.Prelude.{◌≡◌, ◌<◌}
use Rattle.laws.specs.Basics.{sym, ◌∙◌, ap, true, false, ℕ, arith, leb, length, rules}
use Rattle.model.specs.declared.Interval.{Interval}
use Rattle.admissions.specs.Admissions.{past_most}
use Rattle.words.specs.Layout.{word, blocks_at_of}
use Rattle.words.proofs.ViewSound.{sound_words}
use Rattle.in_place.proofs.{Checkpointing.admission_last, Checkpointing.admission_past}
use Rattle.in_place.proofs.checkpoint.storing_admission.Goals as goal

pub own_of-own-requires : goal.own_of-own-requires
own_of-own-requires c =
    let known : (length c.args.w.now ≡ 6464) × (c.args.i < 16) = let h = sound_words c.args.w.now c.requires.0 in (h.size, omega (arith, h.few, c.requires.1)) in
    known

pub returns-then-full : goal.returns-then-full
returns-then-full c =
    admission_last c.args.w.now c.requires.0 c.args.i c.requires.1 (sym (c.is_last_interval-full.ensures ∙ ap (λ (x : Interval). leb 65535 x.0) c.own_of-own.ensures) ∙ c.if-full.true)

pub wide4-written-requires : goal.wide4-written-requires
wide4-written-requires c =
    let known : (length c.args.w.now ≡ 6464) × (c.args.i < 16) = let h = sound_words c.args.w.now c.requires.0 in (h.size, omega (arith, h.few, c.requires.1)) in
    omega (arith, known.0)

pub overflow_add-i : goal.overflow_add-i
overflow_add-i c =
    let known : (length c.args.w.now ≡ 6464) × (c.args.i < 16) = let h = sound_words c.args.w.now c.requires.0 in (h.size, omega (arith, h.few, c.requires.1)) in
    let k = known in search rules

pub offset_bounds-w-i : goal.offset_bounds-w-i
offset_bounds-w-i c =
    let known : (length c.args.w.now ≡ 6464) × (c.args.i < 16) = let h = sound_words c.args.w.now c.requires.0 in (h.size, omega (arith, h.few, c.requires.1)) in
    let k = known in search rules

pub bounds-w-i : goal.bounds-w-i
bounds-w-i c =
    let known : (length c.args.w.now ≡ 6464) × (c.args.i < 16) = let h = sound_words c.args.w.now c.requires.0 in (h.size, omega (arith, h.few, c.requires.1)) in
    let k = known in omega (arith, k.0, k.1)

pub returns-then-past : goal.returns-then-past
returns-then-past c =
    admission_past c.args.w.now c.requires.0 c.args.i c.requires.1 (sym (c.is_last_interval-full.ensures ∙ ap (λ (x : Interval). leb 65535 x.0) c.own_of-own.ensures) ∙ c.if-full.false) true (sym (c.is_past_bound-past.ensures ∙ ap (λ (x : ℕ). past_most x (word c.args.w.now (blocks_at_of c.args.i))) c.wide4-written.ensures) ∙ c.if-past.true)

pub returns : goal.returns
returns c =
    admission_past c.args.w.now c.requires.0 c.args.i c.requires.1 (sym (c.is_last_interval-full.ensures ∙ ap (λ (x : Interval). leb 65535 x.0) c.own_of-own.ensures) ∙ c.if-full.false) false (sym (c.is_past_bound-past.ensures ∙ ap (λ (x : ℕ). past_most x (word c.args.w.now (blocks_at_of c.args.i))) c.wide4-written.ensures) ∙ c.if-past.false)
