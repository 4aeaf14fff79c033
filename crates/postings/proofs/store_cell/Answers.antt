-- `postings::store_cell` meets its contract.
use mathlib.Core.Path.{ap, ◌∙◌}
use native.Mathlib.Omega.{arith}
use Prim.Native.Nat.{ℕ}
use mir.Facts.{to_z-of_z}
use Rattle.monitor.specs.Labelled.{Lab}
use Rattle.monitor.specs.Run.{Cell, update}
use Rattle.machine.specs.Store.{cell}
use Rattle.machine.specs.declared.lent.Sets.{Sets}
use Rattle.machine.proofs.Stores.{cell_stored}
use Rattle.undo.proofs.Undo.{undo_written}
use Rattle.postings.proofs.store_cell.Goals as goal

pub returns : goal.returns
returns c =
    let a = c.args in
    let sets : Sets = c.keep.new.sets in
    let keeps = c.keep.ensures in
    let event : ℕ = a.event in
    rw (to_z-of_z c.ranges.amount, c.marked.ensures, c.single-one.ensures) record {
      sets_after = cell_stored sets a.place event a.label.now c.requires (omega arith) (omega arith) a.amounts.now a.amount c.told-amounts
          ∙ ap (λ (cells : ℕ → Lab Cell). update cells a.place (record { val = cell event a.amount; lab = a.label.now })) keeps.same.cells_same;
      sets_unchanged = (
        keeps.same.rights_same,
        keeps.same.public_same,
        undo_written sets a.place event a.label.now c.requires (omega arith) (omega arith) a.amounts.now a.amount keeps.touched ∙ keeps.undo_same,
      );
    }
