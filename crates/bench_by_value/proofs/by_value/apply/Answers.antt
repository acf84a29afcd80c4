-- `bench_by_value::by_value::apply` meets its contract. Assumes nothing.
use Rattle.laws.specs.Basics.{refl}
use Rattle.model.specs.Refusals.{number}
use Rattle.whole_runs.specs.Listing.{perform}
use Rattle.bench_by_value.proofs.by_value.apply.Goals as goal

pub returns-in-None : goal.returns-in-None
unfolding perform number
returns-in-None c =
    rw c.in-None.is (record { run_value = refl; accepted_value = refl })

pub returns-in-Some : goal.returns-in-Some
returns-in-Some c =
    rw c.in-Some.is (record { run_value = c.event.ensures.run_value; accepted_value = c.event.ensures.accepted_value })
