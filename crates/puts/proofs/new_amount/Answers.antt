-- `puts::new_amount` meets its contract.
use mathlib.Core.Path.{ap, ◌∙◌}
use Prim.Native.Nat.{◌+◌}
use native.Mathlib.Omega.{arith}
use mir.Syntax.{w32}
use mir.Facts.{to_z-of_z}
use Rattle.machine.specs.Script.{script_of}
use Rattle.machine.specs.Writes.{event_number}
use Rattle.machine.proofs.Nodes.{read, put_c}
use Rattle.puts.proofs.Amounts.{put_amount, clear_amount}
use Rattle.puts.proofs.new_amount.Goals as goal

pub eval-requires : goal.eval-requires
unfolding event_number
eval-requires c =
    let script = c.args.scene.now.script in
    let node = c.requires.0 in
    let kind = c.requires.1 ∙ ap (λ e. 20 + event_number e) c.in-Put.is in
    rw (c.u16_at-c.ensures.0, (read script.runnable node).c) (put_c (script_of script.bytes.now) script.runnable.sound c.args.n node.inside kind).node

-- the amount has no value
pub returns-in_default : goal.returns-in_default
returns-in_default c =
    let script = c.args.scene.now.script in
    rw (c.in-Put.is, ← c.in_default.is) (put_amount script.bytes.now c.args.n (c.u16_at-c.ensures.0 ∙ (read script.runnable c.requires.0).c) c.eval.ensures)

-- the amount is what c gives
pub returns-in-Ok : goal.returns-in-Ok
returns-in-Ok c =
    let script = c.args.scene.now.script in
    rw (c.in-Put.is, to_z-of_z {w = w32} {z = c.in-Ok.amount} (record { sfits = omega arith }), ← c.in-Ok.is) (put_amount script.bytes.now c.args.n (c.u16_at-c.ensures.0 ∙ (read script.runnable c.requires.0).c) c.eval.ensures)

pub returns-in-Clear : goal.returns-in-Clear
returns-in-Clear c = rw c.in-Clear.is (clear_amount c.args.scene.now.script.bytes.now c.args.n c.told-label)
