-- `rights::right_sets` meets its contract: the sets of the users passed are stored.
use mathlib.Core.Path.{◌≡◌, refl, sym, ◌∙◌}
use mathlib.Core.List.{List, []}
use Prim.Native.Nat.{ℕ, ◌<◌}
use lib.ListN.{length}
use Rattle.book.specs.Start.{right_set}
use Rattle.book.proofs.Tabulate.{length_tabulate, tabulate_at}
use Rattle.machine.specs.Script.{script_of}
use Rattle.places.proofs.Loops.{fill_turn, fill_end}
use native.Mathlib.Omega.{arith}
use Rattle.rights.proofs.right_sets.Goals as goal
use Rattle.rights.proofs.right_sets.Invariants.{whole}

pub loop-user-init : goal.loop-user-init
loop-user-init c = refl

pub loop-user-preserved : goal.loop-user-preserved
loop-user-preserved c =
    let f : ℕ → List ℕ = right_set (script_of c.args.script.bytes.now) c.args.kind in
    let all : List (List ℕ) = whole c.args.script.bytes.now c.args.kind in
    let n : length all ≡ 8 = length_tabulate f 8 in
    let lt : c.loop-user.user < 8 = omega arith in
    fill_turn all _ c.loop-user.user c.loop-user.sets _ [] (omega arith) (omega arith) (c.right_set-set.ensures ∙ sym (tabulate_at f 8 c.loop-user.user [] lt)) c.loop-user.invariant

pub returns : goal.returns
returns c =
    let all : List (List ℕ) = whole c.args.script.bytes.now c.args.kind in
    let n : length all ≡ 8 = length_tabulate _ 8 in
    fill_end all _ c.loop-user.user c.loop-user.sets (omega arith) (omega arith) c.loop-user.invariant
