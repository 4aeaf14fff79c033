-- `forward::finishes` meets its contract.
use mathlib.Core.Path.{sym, ap}
use Rattle.claims.specs.TwoBooks.{finished}
use Rattle.forward.proofs.finishes.Goals as goal

pub returns-in-Refused : goal.returns-in-Refused
unfolding finished
returns-in-Refused c = sym (ap finished c.in-Refused.is)

pub returns-in-Stopped : goal.returns-in-Stopped
unfolding finished
returns-in-Stopped c = sym (ap finished c.in-Stopped.is)

pub returns-in-Finished : goal.returns-in-Finished
unfolding finished
returns-in-Finished c = sym (ap finished c.in-Finished.is)
