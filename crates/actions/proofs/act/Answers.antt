-- `actions::act` meets its contract.
use mathlib.Core.Path.{◌≡◌, sym, ap, ◌∙◌}
use mathlib.Core.List.{List, []}
use Prim.Native.Nat.{ℕ, ◌*◌}
use native.Mathlib.Omega.{arith}
use Rattle.book.specs.Bytes.{byte}
use Rattle.book.specs.Kinds.{command, between}
use Rattle.book.specs.Refusals.{node_at}
use Rattle.machine.specs.Script.{script_of, Runnable, Node}
use Rattle.machine.proofs.Nodes.{read_at}
use Rattle.actions.proofs.Skips.{change_kind, skip_kind, skips}
use Rattle.actions.proofs.act.Goals as goal

-- the kind that the node's record has
kind_is : {code : List ℕ} {n : ℕ} → Runnable code → Node command (script_of code) n → byte code (16 * n) ≡ (node_at (script_of code) n).kind
kind_is {code} {n} runs node = (read_at code runs n node.inside).kind

pub assign-requires : goal.assign-requires
assign-requires c = (c.requires.node.0, sym (kind_is c.args.script.runnable c.requires.node.0) ∙ c.in-17.is)

pub out-requires-clause-node : goal.out-requires-clause-node
out-requires-clause-node c = (c.requires.node.0, sym (kind_is c.args.script.runnable c.requires.node.0) ∙ c.in-23.is)

pub raise-requires : goal.raise-requires
raise-requires c = (c.requires.node.0, sym (kind_is c.args.script.runnable c.requires.node.0) ∙ c.in-26.is)

pub change-requires-clause-node : goal.change-requires-clause-node
change-requires-clause-node c =
    (c.requires.node.0, ap (between 24 25) (sym (kind_is c.args.script.runnable c.requires.node.0)) ∙ change_kind (byte c.args.script.bytes.now (16 * c.args.n)) (omega arith) (omega arith))

-- no more of the trace is used after an assignment or a raise than before
pub invariant_of-store-clause-room : goal.invariant_of-store-clause-room
invariant_of-store-clause-room c = (c.assign.ensures c.args.env.now.who c.args.store.now.trace.now 0 c.args.store.now.room).leaves.fits

pub invariant_of-store-in-26-clause-room : goal.invariant_of-store-in-26-clause-room
invariant_of-store-in-26-clause-room c = (c.raise.ensures c.args.env.now.who [] [] c.args.store.now.trace.now 0 c.args.store.now.room).leaves.fits

-- a kind below 23
pub returns-in_default-clause-acts : goal.returns-in_default-clause-acts
returns-in_default-clause-acts c =
    let same = kind_is c.args.script.runnable c.requires.node.0 in
    skips _ _ _ _ (skip_kind (ap (between 18 22) same ∙ c.requires.node.1) (omega arith) (omega arith) (omega arith) (omega arith) (omega arith) _ same) c.args.store.now.room

-- a kind above 26
pub returns-in_default-2-clause-acts : goal.returns-in_default-2-clause-acts
returns-in_default-2-clause-acts c =
    let same = kind_is c.args.script.runnable c.requires.node.0 in
    skips _ _ _ _ (skip_kind (ap (between 18 22) same ∙ c.requires.node.1) (omega arith) (omega arith) (omega arith) (omega arith) (omega arith) _ same) c.args.store.now.room
