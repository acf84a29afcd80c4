-- `library_halves::taking::is_sent` meets its contract: a message was sent where its number is not 0.
-- Assumes nothing.
use Rattle.std.specs.Prelude.{◌/◌, ◌%◌}
use Rattle.std.specs.Option.{is_some}
use Rattle.laws.specs.Basics.{◌∙◌, ap, ℕ}
use Rattle.library_halves.specs.{declared.log.Tally.Tally, Log.tally_of}
use Rattle.library_halves.proofs.Tallies.{logged_tally, heard_sent}
use Rattle.library_halves.proofs.taking.is_sent.Goals as goal

pub returns : goal.returns
returns c =
    let a = c.args in let s = a.argument / 2097152 in let k = a.argument % 2097152 in λ l h e.
    c.is_some.ensures ∙ ap (λ (t : Tally). is_some t.sent) (c.tally_all-t.ensures ∙ ap (λ (m : ℕ). tally_of a.log.now m s k) e ∙ logged_tally s k a.log.now l h) ∙ heard_sent s k l
