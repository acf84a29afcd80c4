-- `machine_merge::going::after_open` meets its contract.
-- Assumes nothing.
use Rattle.laws.specs.Basics.{sym, ◌∙◌, ap, List, ℕ, rules}
use Rattle.machine_merge.specs.{Merging.Reading, Words.stage_of, Words.name_of}
use Rattle.machine_merge.proofs.{Leading.open_done, Leading.open_failed, Leading.none_kept, Arriving.led}
use Rattle.machine_merge.proofs.going.after_open.Goals as goal

pub returns-then-is_done : goal.returns-then-is_done
returns-then-is_done c =
    λ at.
    let m = c.args.m in let input = c.args.input.now in let stage = stage_of m input in let name = name_of m input in led
    (open_done _ _ (c.is_done.ensures at input) stage name c.if-is_done.true ∙ ap (λ (k : List ℕ). Reading stage name k 0) (sym (none_kept m.half input)))
    (c.read_more.ensures input _ c.requires.1)

pub returns : goal.returns
returns c =
    λ at.
    let m = c.args.m in let input = c.args.input.now in led
    (open_failed _ _ (c.is_done.ensures at input) (stage_of m input) (name_of m input) c.if-is_done.false)
    c.fail_file.ensures
