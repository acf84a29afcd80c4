-- `lemidrosy::calls::lemidrosy_checkpoint` meets its contract. Assumes nothing.
use Rattle.laws.specs.Basics.{◌∙◌, ap, rules}
use Rattle.listing.specs.answers.Codes.{checkpoint_code}
use Rattle.listing.proofs.answers.Fit.{checkpoint_fits}
use Rattle.lemidrosy.proofs.Changing.{changed}
use Rattle.lemidrosy.proofs.calls.lemidrosy_checkpoint.Goals as goal

pub of-requires : goal.of-requires
of-requires c =
    rw c.checkpoint-answer.ensures.value (checkpoint_fits _ _ _)

pub shape_of-words : goal.shape_of-words
shape_of-words c =
    c.checkpoint-answer.auto.w

pub shape_of-deleted : goal.shape_of-deleted
shape_of-deleted c =
    c.checkpoint-answer.auto.deleted

pub returns : goal.returns
returns c =
    let g = c.checkpoint-answer.ensures in record { fact = (c.of.ensures ∙ ap checkpoint_code g.value, c.checkpoint-answer.ensures.deleted_after, changed _ _ _ _ _ g.value g.w_after c.checkpoint-answer.ensures.w_unchanged c.checkpoint-answer.ensures.leaves); state_promise = c.checkpoint-answer.ensures.state_promise }
