-- `lemidrosy::calls::lemidrosy_start` meets its contract. Assumes nothing.
use Rattle.laws.specs.Basics.{◌∙◌, ap, rules}
use Rattle.listing.specs.answers.Codes.{start_code}
use Rattle.lemidrosy.proofs.{Starting.start_fits}
use Rattle.lemidrosy.proofs.calls.lemidrosy_start.Goals as goal

pub of-requires : goal.of-requires
of-requires c =
    rw c.start-answer.ensures.value (start_fits _ _ _)

pub shape_of-words : goal.shape_of-words
shape_of-words c =
    c.start-answer.auto.w

pub returns : goal.returns
returns c =
    let g = c.start-answer.ensures in record { fact = (c.of.ensures ∙ ap start_code g.value, g.w_after, λ e. g.start_promise (g.value ∙ e)); words_after = g.w_after_2; clean = g.clean }
