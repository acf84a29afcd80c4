-- `lemidrosy::calls::lemidrosy_send` meets its contract. Assumes nothing.
use Rattle.laws.specs.Basics.{◌∙◌, ap, rules}
use Rattle.listing.specs.answers.Codes.{send_code}
use Rattle.listing.proofs.answers.Fit.{send_fits}
use Rattle.lemidrosy.proofs.Changing.{changed}
use Rattle.lemidrosy.proofs.calls.lemidrosy_send.Goals as goal

pub of-requires : goal.of-requires
of-requires c =
    rw c.send-answer.ensures.value (send_fits _ _ _)

pub shape_of-words : goal.shape_of-words
shape_of-words c =
    c.send-answer.auto.w

pub returns : goal.returns
returns c =
    let g = c.send-answer.ensures in record { fact = (c.of.ensures ∙ ap send_code g.value, changed _ _ _ _ _ g.value g.w_after g.w_unchanged g.leaves); state_promise = g.state_promise }
