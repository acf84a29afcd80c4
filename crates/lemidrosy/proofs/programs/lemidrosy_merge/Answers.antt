-- `lemidrosy::programs::lemidrosy_merge` meets its contract. Assumes nothing.
use Rattle.std.specs.Prelude.{◌≡◌}
use Rattle.laws.specs.Basics.{◌∙◌, ap, rules}
use Rattle.lemidrosy.specs.Programs.{merge_code}
use Rattle.lemidrosy.proofs.{Merging.merge_fits}
use Rattle.lemidrosy.proofs.programs.lemidrosy_merge.Goals as goal

pub merge_code-requires : goal.merge_code-requires
merge_code-requires c =
    let a = c.args in rw c.merge-answer.ensures.value (merge_fits a.first.now a.second.now a.set a.trace.now)

pub returns : goal.returns
returns c =
    let g = c.merge-answer.ensures in record { value = c.merge_code.ensures ∙ ap merge_code g.value; trace_after = g.res_after; merge_promise = g.merge_promise }
