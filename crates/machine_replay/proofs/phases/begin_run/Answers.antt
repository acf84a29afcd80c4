-- `machine_replay::phases::begin_run` meets its contract.
-- Assumes nothing.
use Rattle.laws.specs.Basics.{◌∙◌, arith, rules}
use Rattle.words.specs.Layout.{run_of}
use Rattle.machine_replay.specs.{Replaying.begun, Standing.between_in, Standing.plain_place}
use Rattle.machine_replay.proofs.{Places.enough_words, Places.enough_out, Places.printed_ending, Places.plain_reading}
use Rattle.machine_replay.proofs.{Starts.start_refuses, Starts.start_none, Starts.start_run}
use Rattle.machine_replay.proofs.phases.begin_run.Goals as goal

pub refuse-size-requires : goal.refuse-size-requires
refuse-size-requires c =
    (omega arith, (enough_out _ _ _ c.requires))

pub returns-in-Err : goal.returns-in-Err
unfolding begun
returns-in-Err c =
    let started = c.start-answer in let printed = c.refuse-size in let refused = start_refuses _ c.args.n (enough_words _ _ _ c.requires) started.result started.ensures.value c.in-Err.why c.in-Err.is in rw (c.with_text.ensures, refused) (printed_ending started.new.w c.args.input.now c.args.out.now _ printed.new.out printed.result (rw started.auto.w c.requires)
    printed.ensures.0 printed.ensures.1 printed.auto.out)

pub returns-in-Ok : goal.returns-in-Ok
unfolding begun between_in plain_place
returns-in-Ok c =
    let started = c.start-answer in let told = c.in-Ok.is in let none = start_none _ c.args.n (enough_words _ _ _ c.requires) started.result started.ensures.value told in let run = start_run _ c.args.n (enough_words _ _ _ c.requires) started.result started.ensures.value (run_of started.new.w) started.ensures.w_after told in rw c.plain.ensures (plain_reading c.args.all started.new.w c.args.input.now c.args.out.now (rw started.auto.w c.requires) ∙ rw (none, run))
