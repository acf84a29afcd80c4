-- `machines::replay_input::buffer::keep` meets its contract: so far the first k bytes are moved.
-- Assumes nothing.
use Rattle.std.specs.Prelude.{◌≡◌, ◌-◌}
use Rattle.laws.specs.Basics.{refl, ◌∙◌, ap, arith, length, take, drop}
use lib.Seq.{length-sets}
use Rattle.machines.proofs.{replay_input.Moves.one_moved}
use Rattle.machines.proofs.replay_input.buffer.keep.Goals as goal

pub loop-k-init : goal.loop-k-init
loop-k-init c =
    (omega arith, refl, refl)

pub bounds-buffer-from : goal.bounds-buffer-from
bounds-buffer-from c =
    let same : length c.loop-k.buffer ≡ length c.args.buffer.now = let start = c.args in ap length c.loop-k.invariant.2 ∙ length-sets start.buffer.now start.to (take c.loop-k.k (drop start.from start.buffer.now)) in
    omega (arith, same)

pub bounds-buffer-to : goal.bounds-buffer-to
bounds-buffer-to c =
    let same : length c.loop-k.buffer ≡ length c.args.buffer.now = let start = c.args in ap length c.loop-k.invariant.2 ∙ length-sets start.buffer.now start.to (take c.loop-k.k (drop start.from start.buffer.now)) in
    omega (arith, same)

pub loop-k-smaller : goal.loop-k-smaller
loop-k-smaller c =
    omega arith

pub loop-k-preserved : goal.loop-k-preserved
loop-k-preserved c =
    let l = c.loop-k in (omega arith, l.invariant.1, one_moved c.args.buffer.now l.buffer c.args.to c.args.from l.k l.invariant.2 (omega arith) (omega arith))

pub shape_of-buffer : goal.shape_of-buffer
shape_of-buffer c =
    let same : length c.loop-k.buffer ≡ length c.args.buffer.now = let start = c.args in ap length c.loop-k.invariant.2 ∙ length-sets start.buffer.now start.to (take c.loop-k.k (drop start.from start.buffer.now)) in
    same

pub returns : goal.returns
returns c =
    let l = c.loop-k in let all : l.k ≡ c.args.end - c.args.from = omega arith in
    rw all at l.invariant.2
