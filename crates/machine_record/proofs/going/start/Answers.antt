-- `machine_record::going::start` meets its contract. Assumes nothing.
use Rattle.std.specs.Prelude.{◌≡◌}
use Rattle.laws.specs.Basics.{refl, sym, ◌∙◌, true, List, ℕ, min, arith, eqb, length, take, drop, length-take-le, rules}
use Rattle.machine_record.specs.Recorded.{start_number}
use Rattle.machine_record.proofs.{Leading.led}
use Rattle.machine_record.proofs.Starting.{accepted, number_is, start_refused, start_fine, long_enough, arrives_started}
use Rattle.machine_record.proofs.going.start.Goals as goal

pub slice_bounds-start-end-2 : goal.slice_bounds-start-end-2
slice_bounds-start-end-2 c =
    omega (arith, c.least-room.ensures, c.requires.1)

pub slice_bounds-start-end-3 : goal.slice_bounds-start-end-3
slice_bounds-start-end-3 c =
    sym (length-take-le _ c.args.out.now (omega (arith, c.least-room.ensures, c.requires.1)))

pub end_refused-requires : goal.end_refused-requires
end_refused-requires c =
    let started = c.start-started in long_enough started.new.buffer c.args.out.now c.least-room.result started.auto.buffer (omega (arith, c.least-room.ensures, c.requires.1)) c.requires.1

pub returns-then-refused-ne0 : goal.returns-then-refused-ne0
returns-then-refused-ne0 c =
    let buffer_length : length (take c.least-room.result c.args.out.now) ≡ min c.args.left 1 = let e = c.least-room.ensures in length-take-le c.least-room.result c.args.out.now (omega (arith, e, c.requires.1)) ∙ e in
    let numbered : c.number-refused.result ≡ start_number c.args.left c.args.n = c.number-refused.ensures ∙ number_is _ c.args.n c.args.left (take c.least-room.result c.args.out.now) c.from-summary.result _ c.requires.0 buffer_length c.start-started.ensures.answer_value c.from-summary.ensures in
    λ input lines.
    led (start_refused c.args.n c.args.left _ numbered c.if-refused-ne0.true) (c.end_refused.ensures _ input lines)

pub overflow_sub-result : goal.overflow_sub-result
overflow_sub-result c =
    let buffer_length : length (take c.least-room.result c.args.out.now) ≡ min c.args.left 1 = let e = c.least-room.ensures in length-take-le c.least-room.result c.args.out.now (omega (arith, e, c.requires.1)) ∙ e in
    let numbered : c.number-refused.result ≡ start_number c.args.left c.args.n = c.number-refused.ensures ∙ number_is _ c.args.n c.args.left (take c.least-room.result c.args.out.now) c.from-summary.result _ c.requires.0 buffer_length c.start-started.ensures.answer_value c.from-summary.ensures in
    let fine : c.number-refused.result ≡ 0 → eqb (start_number c.args.left c.args.n) 0 ≡ true = λ e. start_fine c.args.n c.args.left _ numbered e in
    (accepted c.args.n c.args.left (fine c.if-refused-ne0.false)).some_left

pub returns : goal.returns
returns c =
    let buffer_length : length (take c.least-room.result c.args.out.now) ≡ min c.args.left 1 = let e = c.least-room.ensures in length-take-le c.least-room.result c.args.out.now (omega (arith, e, c.requires.1)) ∙ e in
    let numbered : c.number-refused.result ≡ start_number c.args.left c.args.n = c.number-refused.ensures ∙ number_is _ c.args.n c.args.left (take c.least-room.result c.args.out.now) c.from-summary.result _ c.requires.0 buffer_length c.start-started.ensures.answer_value c.from-summary.ensures in
    let fine : c.number-refused.result ≡ 0 → eqb (start_number c.args.left c.args.n) 0 ≡ true = λ e. start_fine c.args.n c.args.left _ numbered e in
    λ input lines.
    let started = c.start-started.ensures in arrives_started _ c.args.n c.args.left _ input _ lines (take c.least-room.result c.args.out.now) _ (drop c.least-room.result c.args.out.now) c.requires.0 (fine c.if-refused-ne0.false) c.requires.2 buffer_length started.w_after started.buffer_after refl
