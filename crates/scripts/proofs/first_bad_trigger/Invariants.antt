-- `scripts::first_bad_trigger` meets its contract: no trigger before the one that is tested is bad.
use Prim.Native.Nat.{◌≤◌}
use Rattle.book.specs.Layout.{decode}
use Rattle.book.specs.Refusals.{bad_trigger}
use Rattle.book.proofs.First.{NoneBelow}
use Rattle.scripts.proofs.first_bad_trigger.Given as goal

abbrev pub invariant-loop-trigger : goal.invariant-loop-trigger
invariant-loop-trigger l = (l.trigger ≤ l.triggers.count) × NoneBelow (bad_trigger (decode l.file)) l.trigger
