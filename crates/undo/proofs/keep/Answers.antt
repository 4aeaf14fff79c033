-- `undo::keep` meets its contract.
use mathlib.Core.Path.{refl, sym, ◌∙◌}
use borrow.Author.Rules.{rules}
use native.Mathlib.Omega.{arith}
use Rattle.undo.proofs.Keeping.{keeps}
use Rattle.undo.proofs.keep.Goals as goal

pub returns-then-contains : goal.returns-then-contains
returns-then-contains c = record {
  same = record { cells_same = refl; rights_same = refl; public_same = refl };
  undo_same = refl;
  touched = sym c.contains.ensures ∙ c.if-contains.true;
  eight = c.eight.ensures;
}

pub returns : goal.returns
returns c =
    let a = c.args in
    rw (c.single-one.ensures)
    (keeps a.amounts.now a.sets.now a.place _ c.requires c.eight.ensures (sym c.contains.ensures ∙ c.if-contains.false) (omega arith) (omega arith) (search rules))
