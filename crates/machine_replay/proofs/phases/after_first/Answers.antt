-- `machine_replay::phases::after_first` meets its contract.
-- Assumes nothing.
use Rattle.std.specs.Prelude.{◌≡◌}
use Rattle.laws.specs.Basics.{◌∙◌, ap, true, arith, rules}
use Rattle.whole_runs.specs.Listing.{listing}
use Rattle.machines.specs.{Machines.heard_read, Forms.answer_of, Forms.taken_of, Forms.Between}
use Rattle.machine_replay.specs.Replaying.{opened}
use Rattle.machine_replay.proofs.{Places.enough_input, Places.enough_out, Places.printed_ending, Starts.first_byte}
use Rattle.machines.specs.declared.heard.Taken as takens
use Rattle.machine_replay.proofs.phases.after_first.Goals as goal

pub bounds-input-at : goal.bounds-input-at
bounds-input-at c =
    omega (arith, enough_input _ _ _ c.requires.0, c.requires.1)

pub empty-size-requires : goal.empty-size-requires
empty-size-requires c =
    enough_out _ _ _ c.requires.0

pub returns-in-Brought : goal.returns-in-Brought
unfolding opened taken_of Between
returns-in-Brought c =
    let heard_as : (form : takens.Taken) → c.read-taken.result ≡ form
    → heard_read 1 (answer_of c.args.answer c.args.p.buffered c.args.input.now) ≡ taken_of form c.args.p.buffered c.args.input.now = λ form e. c.read-taken.ensures.0 c.args.p.buffered c.args.input.now (omega (arith, enough_input _ _ _ c.requires.0, c.requires.1))
    ∙ ap (λ (x : takens.Taken). taken_of x c.args.p.buffered c.args.input.now) e in
    let some = (rw c.in-Brought.is at c.read-taken.ensures.1).0 in c.begin_run.ensures ∙ rw (
      heard_as _ c.in-Brought.is,
      first_byte _ c.args.p.buffered c.args.input.now some,
    )

pub returns-in-Ended : goal.returns-in-Ended
unfolding opened taken_of listing
returns-in-Ended c =
    let heard_as : (form : takens.Taken) → c.read-taken.result ≡ form
    → heard_read 1 (answer_of c.args.answer c.args.p.buffered c.args.input.now) ≡ taken_of form c.args.p.buffered c.args.input.now = λ form e. c.read-taken.ensures.0 c.args.p.buffered c.args.input.now (omega (arith, enough_input _ _ _ c.requires.0, c.requires.1))
    ∙ ap (λ (x : takens.Taken). taken_of x c.args.p.buffered c.args.input.now) e in
    let printed = c.empty-size in rw (
      c.with_text.ensures,
      heard_as _ c.in-Ended.is,
    ) (printed_ending c.args.words.now c.args.input.now c.args.out.now _ printed.new.out printed.result c.requires.0
    (printed.ensures.0 true) printed.ensures.1 printed.auto.out)

pub returns-in-Failed : goal.returns-in-Failed
unfolding opened taken_of
returns-in-Failed c =
    let heard_as : (form : takens.Taken) → c.read-taken.result ≡ form
    → heard_read 1 (answer_of c.args.answer c.args.p.buffered c.args.input.now) ≡ taken_of form c.args.p.buffered c.args.input.now = λ form e. c.read-taken.ensures.0 c.args.p.buffered c.args.input.now (omega (arith, enough_input _ _ _ c.requires.0, c.requires.1))
    ∙ ap (λ (x : takens.Taken). taken_of x c.args.p.buffered c.args.input.now) e in
    c.fail_input.ensures ∙ rw (heard_as _ c.in-Failed.is)
