-- `kinds::costs` meets its contract: the costs of the kinds passed are stored.
use mathlib.Core.Path.{refl, sym, ap, ◌∙◌}
use mathlib.Core.List.{List, []}
use Prim.Native.Nat.{ℕ}
use lib.ListN.{get_or}
use borrow.Author.Rules.{rules}
use Rattle.places.proofs.Loops.{filled_turn, filled_end}
use Rattle.book.specs.Kinds.{cost_of, row_of}
use Rattle.book.proofs.Tabulate.{length_tabulate, tabulate_at, table_at}
use Rattle.kinds.specs.Table.{columns, kinds_table}
use Rattle.kinds.proofs.costs.Goals as goal

pub loop-kind-init : goal.loop-kind-init
loop-kind-init c = record { at = search rules; words = refl }

pub loop-kind-preserved : goal.loop-kind-preserved
unfolding row_of kinds_table
loop-kind-preserved c =
    let lt = c.loop-kind-test.true in
    let row = table_at (λ (kind : ℕ). columns (row_of kind)) 27 _ c.table-table.ensures c.loop-kind.kind [] lt in
    let cost = ap (λ (l : List ℕ). get_or l 0 0) row ∙ sym (tabulate_at cost_of 27 c.loop-kind.kind 0 lt) in
    filled_turn (length_tabulate cost_of 27) refl c.loop-kind-test.true cost c.loop-kind.invariant

pub returns : goal.returns
returns c = filled_end (length_tabulate cost_of 27) refl c.loop-kind-test.false c.loop-kind.invariant
