-- `library_trials::Simulation::begin` meets its contract.
-- Assumes nothing.
use Rattle.laws.specs.Basics.{rules}
use Rattle.library_trials.proofs.{Trials.begun_words}
use Rattle.library_trials.proofs.Simulation.begin.Goals as goal

pub returns : goal.returns
returns c =
    begun_words c.args.n c.args.seed c.requires.0 c.requires.1 c.args.self.now.words c.start-answer.new.w (search rules) c.start-answer.ensures.w_after
