-- `programs::programs` meets its contract. The loop's invariant: what the programs from `i` on do from here, all of them do from the start.
use Rattle.machine.specs.Store.{store_of}
use Rattle.programs.proofs.Sequence.{Reached}
use Rattle.programs.proofs.programs.Given as goal

abbrev pub invariant-loop-i : goal.invariant-loop-i
invariant-loop-i l = Reached l.script.bytes.now (store_of l.initial.store) (store_of l.store) l.i
