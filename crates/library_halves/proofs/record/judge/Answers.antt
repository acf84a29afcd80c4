-- `library_halves::record::judge` meets its contract, by the kind of the record.
-- Assumes nothing.
use Rattle.laws.specs.Basics.{◌∙◌, rules}
use Rattle.theory_merges.specs.Merge.{on_record}
use Rattle.library_halves.specs.Taking.{Judges}
use Rattle.library_halves.proofs.Ready.{read_is, half_zero, half_one, half_message, half_none}
use Rattle.library_halves.proofs.record.judge.Goals as goal

pub returns-in-0 : goal.returns-in-0
returns-in-0 c =
    let x = c.read_fields-r in let f = x.ensures ∙ read_is _ c.requires.1 in λ l h e. rw (← f, half_zero x.result c.in-0.is) (c.judge_checkpoint.ensures l)

pub returns-in-1 : goal.returns-in-1
returns-in-1 c =
    let x = c.read_fields-r in let f = x.ensures ∙ read_is _ c.requires.1 in λ l h e. rw (← f, half_one x.result c.in-1.is) (c.judge_send.ensures l)

pub returns-in-2 : goal.returns-in-2
returns-in-2 c =
    let x = c.read_fields-r in let f = x.ensures ∙ read_is _ c.requires.1 in λ l h e. rw (← f, half_message x.result (search rules)) (c.judge_message.ensures (search rules) l h e)

pub returns-in_default : goal.returns-in_default
unfolding Judges on_record
returns-in_default c =
    let x = c.read_fields-r in let f = x.ensures ∙ read_is _ c.requires.1 in λ l h e next. rw (← f, half_none x.result (search rules) (search rules) (search rules) (search rules))
