-- `machine_console::line::write_answer` meets its contract. Assumes nothing.
use Rattle.std.specs.Prelude.{◌≡◌}
use Rattle.laws.specs.Basics.{ap, List, ℕ, arith, rules}
use Rattle.theory_roles.specs.declared.Operation.{Operation}
use Rattle.listing.specs.{Summarised.report_in, Printed.Printed}
use Rattle.listing.proofs.Texts.{nothing}
use Rattle.machine_console.specs.{Text.answer_text, Replied.reply_of}
use Rattle.machine_console.proofs.{Parts.printed_as}
use Rattle.machine_console.proofs.line.write_answer.Goals as goal

pub returns-in-Checkpoint : goal.returns-in-Checkpoint
unfolding answer_text report_in
returns-in-Checkpoint c =
    let w = c.write_valued.ensures in (printed_as (ap (λ (o : Operation). answer_text o c.args.c.caller c.args.n (reply_of c.args.r c.args.pairs.now c.args.line.now)) c.in-Checkpoint.is) w.0, omega (arith, w.1, c.requires.0, c.requires.1))

pub returns-in-Send : goal.returns-in-Send
unfolding answer_text report_in
returns-in-Send c =
    let w = c.write_value.ensures in (printed_as (ap (λ (o : Operation). answer_text o c.args.c.caller c.args.n (reply_of c.args.r c.args.pairs.now c.args.line.now)) c.in-Send.is) w.0, omega (arith, w.1, c.requires.0, c.requires.1))

pub returns-in-Deliver : goal.returns-in-Deliver
unfolding answer_text report_in
returns-in-Deliver c =
    let w = c.write_delivered.ensures in (printed_as (ap (λ (o : Operation). answer_text o c.args.c.caller c.args.n (reply_of c.args.r c.args.pairs.now c.args.line.now)) c.in-Deliver.is) w.0, omega (arith, w.1, c.requires.0, c.requires.1))

pub returns-in-Lose : goal.returns-in-Lose
unfolding answer_text report_in
returns-in-Lose c =
    (printed_as (ap (λ (o : Operation). answer_text o c.args.c.caller c.args.n (reply_of c.args.r c.args.pairs.now c.args.line.now)) c.in-Lose.is) (nothing c.args.out.now c.args.at), omega arith)

pub returns-in-Recover : goal.returns-in-Recover
unfolding answer_text report_in
returns-in-Recover c =
    let w = c.write_recovered.ensures in (printed_as (ap (λ (o : Operation). answer_text o c.args.c.caller c.args.n (reply_of c.args.r c.args.pairs.now c.args.line.now)) c.in-Recover.is) w.0, omega (arith, w.1, c.requires.0, c.requires.1))

pub returns-in-Line : goal.returns-in-Line
unfolding answer_text report_in
returns-in-Line c =
    let w = c.write_members.ensures in (printed_as (ap (λ (o : Operation). answer_text o c.args.c.caller c.args.n (reply_of c.args.r c.args.pairs.now c.args.line.now)) c.in-Line.is) w.0, omega (arith, w.1, c.requires.0, c.requires.1))

pub returns-in-Earliest : goal.returns-in-Earliest
unfolding answer_text report_in
returns-in-Earliest c =
    let w = c.write_entries.ensures in (printed_as (ap (λ (o : Operation). answer_text o c.args.c.caller c.args.n (reply_of c.args.r c.args.pairs.now c.args.line.now)) c.in-Earliest.is) w.0, omega (arith, w.1, c.requires.0, c.requires.1))

pub returns-in-List : goal.returns-in-List
unfolding answer_text report_in
returns-in-List c =
    let w = c.write_list.ensures in (printed_as (ap (λ (o : Operation). answer_text o c.args.c.caller c.args.n (reply_of c.args.r c.args.pairs.now c.args.line.now)) c.in-List.is) w.0, omega (arith, w.1, c.requires.0, c.requires.1))

pub returns-in-Counts : goal.returns-in-Counts
unfolding answer_text report_in
returns-in-Counts c =
    let w = c.write_entries-in-Counts.ensures in (printed_as (ap (λ (o : Operation). answer_text o c.args.c.caller c.args.n (reply_of c.args.r c.args.pairs.now c.args.line.now)) c.in-Counts.is) w.0, omega (arith, w.1, c.requires.0, c.requires.1))

pub returns-in-Start : goal.returns-in-Start
unfolding answer_text report_in
returns-in-Start c =
    (printed_as (ap (λ (o : Operation). answer_text o c.args.c.caller c.args.n (reply_of c.args.r c.args.pairs.now c.args.line.now)) c.in-Start.is) (nothing c.args.out.now c.args.at), omega arith)
