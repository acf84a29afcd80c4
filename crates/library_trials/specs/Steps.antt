-- What the parts of a step leave behind, by the events that they are.
-- Assumes nothing.
use Rattle.std.specs.Prelude.{◌≡◌, ◌∷◌, ◌≤◌, ◌<◌}
use Rattle.laws.specs.Basics.{List, [], Option, None, Some, ℕ, length, pick}
use Rattle.model.specs.Shapes.{DeliverAnswer}
use Rattle.model.specs.{declared.Run.Run, declared.Event.Event, declared.Message.Message, Words.most_processes}
use Rattle.theory_recording.specs.{Replay.state_after_events, Replay.performed, spacing.Trial.Trial}
use Rattle.whole_runs.specs.Outcomes.{deliver_report}
use Rattle.words.specs.Layout.{run_of}
use Rattle.theory_recording.specs.spacing.Spacing.{deliveries_in, forced_in, has_value, trial_after, most_steps}
use Rattle.library_trials.specs.declared.{Simulation.Simulation, Action.Action}

-- The trial that a simulation is: its words stand for the state.
unfoldable pub trial_of : Simulation → Trial
trial_of z = record { run = run_of z.words; value = z.value; acted = z.acted; deliveries = z.deliveries; forced = z.forced; most = z.most }

-- The events of an action: a step has one or none.
unfoldable pub events_in : Option Event → List Event
events_in None = []
events_in (Some e) = e ∷ []

-- What an action leaves: the state,
unfoldable pub after : Run → Option Event → Run
after s o = state_after_events s (events_in o)

-- and how many sends and deliveries, deliveries and forced checkpoints it is.
unfoldable pub action_of : Run → Option Event → Action
action_of s o = record {
  acted = length (events_in o);
  deliveries = deliveries_in (performed s (events_in o));
  forced = forced_in (performed s (events_in o));
}

-- How many forced checkpoints an answer to a delivery names: its report has the index of one as its value.
unfoldable pub forced_by_of : DeliverAnswer → ℕ
forced_by_of a = pick (has_value (deliver_report a).value) 1 0

-- The number of a message, if there is one.
unfoldable pub number_of : Option Message → Option ℕ
number_of None = None
number_of (Some x) = Some x.number

-- A trial after fewer than 30,000 steps.
unfoldable pub Underway : ℕ → ℕ → Trial → Type 0
Underway n k z = (1 ≤ n) × (n ≤ most_processes) × (1 ≤ k) × (i : ℕ) × (seed : ℕ) × (i < most_steps) × (z ≡ trial_after n k i seed)
