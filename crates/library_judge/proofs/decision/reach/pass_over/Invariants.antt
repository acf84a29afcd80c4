-- `library_judge::decision::reach::pass_over` meets its contract. The loop's invariant: what is left of the pass.
-- Assumes nothing.
use Rattle.std.specs.Prelude.{◌≡◌, ◌-◌}
use Rattle.laws.specs.Basics.{false, length}
use Rattle.library_judge.specs.decision.Reach.{passed}
use Rattle.library_judge.proofs.decision.reach.pass_over.Given as goal

abbrev pub invariant-loop-message : goal.invariant-loop-message
invariant-loop-message l =
    passed l.states l.messages (length l.messages - length l.yielded) (record { reach = l.reach; changed = l.changed })
    ≡ passed l.states l.messages (length l.messages) (record { reach = l.initial.reach; changed = false })
