-- A command of a script that is run, as the code that executes it meets it. Assumes nothing.
use mathlib.Core.Path.{◌≡◌, sym, ◌∙◌}
use mathlib.Core.List.{List}
use mathlib.Core.Bool.{false, and-false}
use Prim.Native.Nat.{ℕ, ◌+◌, ◌*◌, ◌≤◌, ◌<◌}
use native.Mathlib.Decide.{dec_lt}
use native.Mathlib.Omega.{arith}
use lib.Dec.{eqb, leb}
use lib.IntN.{ℤ}
use lib.ListN.{length}
use borrow.Author.Tests.{lt-leb, eq-eqb, ne_eqb}
use Rattle.std.specs.Prelude.{Ok, Err, Some}
use Rattle.book.specs.Bytes.{byte, le16}
use Rattle.book.specs.Kinds.{command, between, cost_of}
use Rattle.book.specs.Refusals.{node_at}
use Rattle.monitor.specs.Labelled.{Label, Lab}
use Rattle.monitor.specs.Run.{◌>>◌}
use Rattle.monitor.specs.Rules.{cost_at}
use Rattle.machine.specs.Script.{script_of, Runnable, Node}
use Rattle.machine.specs.Store.{cells_held, Store}
use Rattle.machine.specs.Promises.{Outcome, stopped, Paid, Short, Pays, Enters, Commands}
use Rattle.machine.specs.declared.Who.{Who}
use Rattle.machine.specs.declared.lent.Run.{Run}
use Rattle.machine.proofs.Nodes.{read}
use Rattle.machine.proofs.Runs.{with_run}
use Rattle.commands.specs.Parts.{Next, Decides}
use Rattle.commands.proofs.Chains.{Head, head_list, head_single}
use Rattle.commands.proofs.Steps.{Rest, rest_both, priced}
use Rattle.commands.proofs.Tests.{while_goes}

-- a kind that is none of 18 to 22
past : {n k : ℕ} → n ≤ k → (k ≡ n → ⊥) → n + 1 ≤ k
past h d = omega arith

pub outside_kinds : {j k : ℕ} → k ≡ j → (k ≡ 18 → ⊥) → (k ≡ 19 → ⊥) → (k ≡ 20 → ⊥) → (k ≡ 21 → ⊥) → (k ≡ 22 → ⊥) → between 18 22 j ≡ false
outside_kinds {j} {k} e not18 not19 not20 not21 not22 = rw (← e) (go (dec_lt k 18))
  where
    go : Dec (k < 18) → between 18 22 k ≡ false
    go (yes h) = rw (lt-leb 18 k h)
    go (no h) = rw (lt-leb k 22 (past (past (past (past (past (omega arith) not18) not19) not20) not21) not22)) (and-false (leb 18 k))

-- the cost of a command
module _ {code : List ℕ} {n : ℕ} (runs : Runnable code) (node : Node command (script_of code) n) where
  -- its cost, which the code looks up by the kind, is paid
  pub cost_paid : {run run' : Run} {r : Outcome} → Pays run (cost_of (byte code (16 * n))) n r run' → r ≡ Ok tt → Paid run (cost_at (script_of code) n) run'
  cost_paid p done = (priced code n (read runs node).kind p).paid done

  -- or it would pass the budget
  pub cost_short : {run run' : Run} {r : Outcome} → Pays run (cost_of (byte code (16 * n))) n r run' → r ≡ Err stopped → Short run (cost_at (script_of code) n) n run'
  cost_short p e = (priced code n (read runs node).kind p).short e

-- a turn of a list of commands enters the first half of a sequence, whose cost is paid, or else the command itself
module _ {code : List ℕ} {ctx : Label} {who : Who} {n : ℕ} (runs : Runnable code) (node : Node command (script_of code) n)
    {vars : ℕ → Lab ℤ} {x : Store} (u : x.run.used ≤ length x.trace) {next : ℕ} {y : Store} where
  pub list_turns : byte code (16 * n) ≡ 18 → {paid : Run} {r : Outcome} → Pays x.run (cost_of 18) n r paid → r ≡ Ok tt → y ≡ with_run x paid
      → {a : ℕ} → a ≡ le16 code (16 * n + 2) → next ≡ a → Head code ctx who n vars x (eqb (byte code (16 * n)) 18) next y
  list_turns more p done y_is is_a is_next =
      let r = read runs node in
      let kind = sym r.kind ∙ more in
      rw y_is (head_list code ctx who n u (eq-eqb _ 18 more) runs node.inside kind (is_next ∙ is_a ∙ r.a) ((priced code n (sym kind) p).paid done))

  pub single_turns : (byte code (16 * n) ≡ 18 → ⊥) → y ≡ x → next ≡ n
      → Head code ctx who n vars x (eqb (byte code (16 * n)) 18) next y
  single_turns single y_is is_next =
      rw y_is (head_single code ctx who n u (ne_eqb _ 18 single) node (λ e. single ((read runs node).kind ∙ e)) is_next)

-- a turn of a while: its test leads to the body, and then the while is entered anew
pub while_turns : (code : List ℕ) (ctx l : Label) (who : Who) (n : ℕ) → Runnable code → Node command (script_of code) n → (node_at (script_of code) n).kind ≡ 20
    → {vars vars' : ℕ → Lab ℤ} {x x' : Store} → Rest (Commands code ctx who n) vars x (Commands code l who n) vars' x'
    → {r : Next} {run : Run} {inner : Label} → Decides code n (cells_held x'.amounts x'.sets) vars' x'.run l r run inner → {way : ℕ} → r ≡ Ok (Some way)
    → Node command (script_of code) way
    × Rest (Commands code ctx who n) vars x (λ fuel. Enters code inner who way fuel >> Enters code inner who n fuel) vars' (with_run x' run)
while_turns code ctx l who n runs node kind rest d e =
    let goes = while_goes code l who n d rest.keeps.fits runs.sound node.inside e kind in
    (goes.0, rest_both rest goes.1)
