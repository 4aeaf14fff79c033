-- `runner::store_cells` meets its contract: the labels of the cells passed are stored.
use mathlib.Core.Path.{◌≡◌}
use Prim.Native.Nat.{◌*◌}
use lib.ListN.{length, take}
use Rattle.monitor.specs.Call.{labels_in}
use Rattle.machine.specs.Store.{cells_held}
use Rattle.runner.proofs.store_cells.Given as goal

abbrev pub invariant-loop-place : goal.invariant-loop-place
invariant-loop-place l =
    (length l.labels ≡ 4096) × (take (8 * l.place) l.labels ≡ labels_in (cells_held l.store.amounts l.store.sets) l.place)
