-- `words_process::pins::taken_pins` meets its contract. Assumes nothing.
use Rattle.std.specs.Prelude.{◌≡◌, ◌^◌}
use Rattle.laws.specs.Basics.{◌∙◌, ap, Bool, List, ℕ, get_or, rules, pick}
use lib.Bits.{bit_or}
use Rattle.laws.specs.Tables.{table_same}
use Rattle.model.specs.Words.{in_set}
use Rattle.words_process.specs.Pins.{moved_row, risen_or_own}
use Rattle.words_process.proofs.{Sets.with_one}
use Rattle.words_process.proofs.pins.taken_pins.Goals as goal

moved_same : (rose i : ℕ) (pins : List ℕ) (own : ℕ) → moved_row (in_set (bit_or rose (2 ^ i))) pins own ≡ moved_row (risen_or_own rose i) pins own
unfolding moved_row risen_or_own
moved_same rose i pins own = table_same 16 _ _ (λ f lt. ap (λ (b : Bool). pick b own (get_or pins f 0)) (with_one rose i f))

pub returns : goal.returns
returns c =
    c.move_pins.ensures ∙ ap (λ (x : ℕ). moved_row (in_set (bit_or c.args.rose x)) c.args.pins c.args.own) c.bit.ensures ∙ moved_same c.args.rose c.args.i c.args.pins c.args.own
