-- `triggers::set_variables` meets its contract: three variables stored one after another.
use mathlib.Core.Path.{◌≡◌}
use native.Mathlib.Omega.{arith}
use lib.IntN.{ℤ}
use lib.ListN.{length, set, length-set}
use mir.Syntax.{w32}
use mir.Val.{to_z, of_z}
use borrow.Author.Rules.{rules}
use Rattle.monitor.specs.Labelled.{Label}
use Rattle.monitor.specs.Run.{update}
use Rattle.machine.specs.Store.{row_at, vars_of}
use Rattle.machine.specs.declared.lent.Variables.{Variables}
use Rattle.machine.proofs.Stores.{value_stored, vars_stored}
use Rattle.triggers.proofs.set_variables.Goals as goal

three : (vars : Variables) (a b z : ℤ) (label : Label) → length vars.values ≡ 16 → length vars.labels ≡ 16
    → vars_of (record { values = set (set (set vars.values 0 a) 1 b) 2 z; labels = set vars.labels 2 label })
    ≡ update (update (update (vars_of vars) 0 (record { val = a; lab = row_at vars.labels 0 })) 1 (record { val = b; lab = row_at vars.labels 1 })) 2 (record { val = z; lab = label })
three vars a b z label values labels =
    let one : Variables = record { values = set vars.values 0 a; labels = vars.labels } in
    let two : Variables = record { values = set one.values 1 b; labels = vars.labels } in
    rw (← value_stored vars 0 a (omega arith), ← value_stored one 1 b (simp length-set (omega arith)))
    (vars_stored two 2 z label (simp length-set (omega arith)) (omega arith))

pub returns : goal.returns
returns c =
    let entry = c.args.entry in
    let owner : to_z w32 (of_z w32 entry.owner) ≡ entry.owner = search rules in
    let line : to_z w32 (of_z w32 entry.line) ≡ entry.line = search rules in
    let amount : to_z w32 (of_z w32 entry.amount) ≡ entry.amount = search rules in
    rw (owner, line, amount) (three c.args.vars.now entry.owner entry.line entry.amount c.args.label.now (omega arith) (omega arith))
