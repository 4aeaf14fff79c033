-- `undo::end` meets its contract.
use Rattle.undo.proofs.Back.{ends_done, ends_stopped}
use Rattle.undo.proofs.end.Goals as goal

pub returns-in-Ok : goal.returns-in-Ok
returns-in-Ok c = rw c.in-Ok.is (ends_done c.args.amounts.now c.args.sets.now)

pub returns-in-Err : goal.returns-in-Err
returns-in-Err c = rw c.in-Err.is (ends_stopped c.args.amounts.now c.args.sets.now c.take_back.ensures)
