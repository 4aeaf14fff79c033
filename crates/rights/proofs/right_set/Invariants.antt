-- `rights::right_set` meets its contract: the records from `right` on are gathered.
use Rattle.machine.specs.Script.{script_of}
use Rattle.rights.proofs.Rights.{Gathering}
use Rattle.rights.proofs.right_set.Given as goal

abbrev pub invariant-loop-right : goal.invariant-loop-right
invariant-loop-right l = Gathering (script_of l.script.bytes.now) l.kind l.user l.set l.right
