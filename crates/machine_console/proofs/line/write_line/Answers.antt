-- `machine_console::line::write_line` meets its contract. Assumes nothing.
use Rattle.std.specs.Prelude.{◌≡◌}
use Rattle.listing.specs.Lines.{number_said}
use Rattle.laws.specs.Basics.{◌∙◌, ap, ℕ, arith, rules, sym}
use Rattle.listing.proofs.Texts.{then}
use Rattle.machine_console.specs.{Text.answer_text, Text.line_text, Replied.reply_of}
use Rattle.machine_console.proofs.{Parts.accepted_line, Parts.refused_any, Parts.printed_as}
use Rattle.machine_console.proofs.line.write_line.Goals as goal

pub returns-then-refused-ne0 : goal.returns-then-refused-ne0
returns-then-refused-ne0 c =
    let write-refused = c.write_refused in let a = c.args in rw (sym c.number-refused.ensures) (printed_as (refused_any a.number _ (answer_text a.c.operation a.c.caller a.n (reply_of a.r a.pairs.now a.line.now)) c.if-refused-ne0.true) write-refused.ensures.0, write-refused.ensures.1)

pub returns : goal.returns
returns c =
    let write-numbers = c.write_numbers-after_code in let write-answer = c.write_answer-whole in let write_byte = c.write_byte in let a = c.args in let answer = answer_text a.c.operation a.c.caller a.n (reply_of a.r a.pairs.now a.line.now) in let none : (number_said a.r.summary.refused) ≡ 0 = omega (arith, c.if-refused-ne0.false, c.number-refused.ensures) in
    (printed_as (ap (λ (x : ℕ). line_text a.number x answer) none ∙ accepted_line a.number answer) (then (then write-numbers.ensures.0 write-answer.ensures.0) write_byte.ensures), omega (arith, write-numbers.ensures.1, write-answer.ensures.1, write_byte.ensures.next_place))
