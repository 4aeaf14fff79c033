-- `forward::write` meets its contract: the writer's answer, or 0.
use Rattle.forward.proofs.Calls.{told}
use Rattle.forward.proofs.write.Goals as goal

pub returns : goal.returns
returns c = told _ _ _ c.write.ensures c.unwrap_or.ensures
