-- `runner::run` meets its contract, as the call that it is made of does.
use Rattle.runner.proofs.run.Goals as goal

pub returns : goal.returns
returns c = c.run_to_obstacle.ensures.ran
