-- `library_readers::lost::lost_on` meets its contract: the list's length, the failed set, then the messages. Assumes nothing.
use Rattle.std.specs.Prelude.{◌≡◌, ◌^◌}
use Rattle.laws.specs.Basics.{refl, sym, ◌∙◌, ap, ℕ, leb, rules}
use Rattle.library_readers.proofs.{Readings.answer_is, Losses.lost_short, Losses.lost_outside}
use Rattle.library_readers.proofs.lost.lost_on.Goals as goal

pub returns-then-messages : goal.returns-then-messages
returns-then-messages c =
    let z = answer_is (lost_short c.args.w.now c.requires c.args.failed c.args.messages.now c.if-messages.true) c.refused.ensures refl in record { value = z.0; messages_after = z.1 }

pub returns-then-outside : goal.returns-then-outside
returns-then-outside c =
    let z = answer_is (lost_outside c.args.w.now c.requires c.args.failed c.args.messages.now c.if-messages.false
    (sym (ap (λ (k : ℕ). leb (2 ^ k) c.args.failed) c.count_in-n.ensures) ∙ sym c.is_outside-outside.ensures ∙ c.if-outside.true)) c.refused-then-outside.ensures refl in record { value = z.0; messages_after = z.1 }

pub lost_within-requires : goal.lost_within-requires
lost_within-requires c =
    (c.requires, c.count_in-n.ensures, sym c.is_outside-outside.ensures ∙ c.if-outside.false, c.if-messages.false)

pub returns : goal.returns
returns c =
    record { value = c.lost_within.ensures.value; messages_after = c.lost_within.ensures.messages_after }
