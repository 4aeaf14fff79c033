-- `start::set_prices` meets its contract: the prices of the kinds passed are stored.
use Prim.Native.Nat.{◌≤◌}
use Rattle.book.specs.Bytes.{le32}
use Rattle.book.specs.Kinds.{cost_of}
use Rattle.machine.specs.Script.{prices_start}
use Rattle.start.proofs.Copies.{Numbers}
use Rattle.start.proofs.set_prices.Given as goal

abbrev pub invariant-loop-kind : goal.invariant-loop-kind
invariant-loop-kind l = (l.kind ≤ 27) × Numbers le32 prices_start 4 cost_of l.initial.code l.code l.kind
