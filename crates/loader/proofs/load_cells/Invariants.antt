-- `loader::load_cells` meets its contract: the records from `cell` on are loaded.
use Rattle.loader.proofs.Loads.{Loading}
use Rattle.loader.proofs.load_cells.Given as goal

abbrev pub invariant-loop-cell : goal.invariant-loop-cell
invariant-loop-cell l = Loading l.file l.start l.amounts l.set l.cell
