-- The new amount of a put and of a clear. Assumes nothing.
use mathlib.Core.Path.{◌≡◌, refl, sym}
use mathlib.Core.List.{List}
use Prim.Native.Nat.{ℕ}
use native.Mathlib.Nat.{le_refl}
use lib.IntN.{ℤ, pos}
use lib.ListN.{length}
use Rattle.std.specs.Prelude.{Ok}
use Rattle.places.proofs.Sets.{union_empty}
use Rattle.book.specs.Refusals.{node_at}
use Rattle.monitor.specs.Labelled.{Label, bottom, Lab, lit}
use Rattle.monitor.specs.Run.{Cell}
use Rattle.machine.specs.Script.{script_of}
use Rattle.machine.specs.Promises.{Value, given, Gives, Evaluates}
use Rattle.machine.specs.declared.lent.Run.{Run}
use Rattle.machine.specs.declared.lent.Event.TheVariants.{Put, Clear}
use Rattle.puts.specs.Writing.{NewAmount}

module _ (code : List ℕ) (n : ℕ) {cells : ℕ → Lab Cell} {vars : ℕ → Lab ℤ} {run : Run} {before : Label} where
  pub put_amount : {a : ℕ} {r : Value} {run' : Run} {after : Label} → a ≡ (node_at (script_of code) n).c
      → Gives (Evaluates code a) cells vars run before r run' after → Gives (NewAmount code n Put) cells vars run before r run' after
  unfolding NewAmount
  put_amount e d = rw e at d

  pub clear_amount : length before ≡ 8 → Gives (NewAmount code n Clear) cells vars run before (Ok (pos 0)) run before
  unfolding NewAmount given lit
  clear_amount l = record {
    label = bottom;
    is = λ fuel h rights room sets. refl;
    within = le_refl run.left;
    used_same = refl;
    joined = λ _. sym (union_empty before l);
  }
