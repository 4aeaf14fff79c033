-- `puts::post` meets its contract.
use mathlib.Core.Path.{◌≡◌, ◌∙◌}
use native.Mathlib.Omega.{arith}
use mir.Syntax.{w32}
use mir.Val.{to_z, of_z}
use borrow.Author.Rules.{rules}
use Rattle.std.proofs.lemmas.Result.{err_from_is_err_and}
use Rattle.machine.specs.Script.{script_of}
use Rattle.machine.specs.Writes.{key_of}
use Rattle.machine.proofs.Events.{numbered}
use Rattle.machine.proofs.Nodes.{read}
use Rattle.postings.proofs.Traces.{full, full_fits}
use Rattle.puts.proofs.Steps.{post_fields, named, owner_stops, line_stops, amount_stops, write_stops, write_goes}
use Rattle.puts.proofs.post.Goals as goal

pub eval-requires : goal.eval-requires
eval-requires c =
    let script = c.args.script in
    let node = c.requires.0 in
    rw (c.u16_at-a.ensures.0, (read script.runnable node).a) (post_fields (script_of script.bytes.now) script.runnable.sound c.args.n node.inside c.args.event c.requires.1).a.node

pub returns-in_default-clause-writes : goal.returns-in_default-clause-writes
returns-in_default-clause-writes c =
    let a = c.args in
    let script = a.script in
    let r = read script.runnable c.requires.0 in
    owner_stops script.bytes.now a.env.now.ctx a.env.now.who a.n a.event c.requires.1 _ a.amounts.now a.sets.now a.run.now
    (named script.bytes.now (c.u16_at-a.ensures.0 ∙ r.a) c.eval.ensures) c.in_default.is

pub eval-requires-2 : goal.eval-requires-2
eval-requires-2 c =
    let script = c.args.script in
    let node = c.requires.0 in
    rw (c.u16_at-b.ensures.0, (read script.runnable node).b) (post_fields (script_of script.bytes.now) script.runnable.sound c.args.n node.inside c.args.event c.requires.1).b.node

pub returns-in_default-eval-clause-writes : goal.returns-in_default-eval-clause-writes
returns-in_default-eval-clause-writes c =
    let a = c.args in
    let script = a.script in
    let r = read script.runnable c.requires.0 in
    line_stops script.bytes.now a.env.now.ctx a.env.now.who a.n a.event c.requires.1 _ a.amounts.now a.sets.now a.run.now
    (named script.bytes.now (c.u16_at-a.ensures.0 ∙ r.a) c.eval.ensures) c.in-Ok.is
    (named script.bytes.now (c.u16_at-b.ensures.0 ∙ r.b) c.eval-2.ensures) c.in_default-eval.is

pub returns-in_default-new_amount-clause-writes : goal.returns-in_default-new_amount-clause-writes
returns-in_default-new_amount-clause-writes c =
    let a = c.args in
    let script = a.script in
    let r = read script.runnable c.requires.0 in
    amount_stops script.bytes.now a.env.now.ctx a.env.now.who a.n a.event c.requires.1 _ a.amounts.now a.sets.now a.run.now
    (named script.bytes.now (c.u16_at-a.ensures.0 ∙ r.a) c.eval.ensures) c.in-Ok.is
    (named script.bytes.now (c.u16_at-b.ensures.0 ∙ r.b) c.eval-2.ensures) c.in-Ok-eval.is c.new_amount.ensures c.in_default-new_amount.is

pub post-requires : goal.post-requires
post-requires c =
    let script = c.args.script in
    let node = c.requires.0 in
    (c.requires.2, omega (arith, c.byte_at-table.ensures.0, (read script.runnable node).p, (post_fields (script_of script.bytes.now) script.runnable.sound c.args.n node.inside c.args.event c.requires.1).p))

pub returns-in_err-place-clause-writes : goal.returns-in_err-place-clause-writes
returns-in_err-place-clause-writes c =
    let a = c.args in
    let script = a.script in
    let r = read script.runnable c.requires.0 in
    let owner : to_z w32 (of_z w32 c.in-Ok.owner) ≡ c.in-Ok.owner = search rules in
    let line : to_z w32 (of_z w32 c.in-Ok-eval.line) ≡ c.in-Ok-eval.line = search rules in
    let amount : to_z w32 (of_z w32 c.in-Ok-new_amount.amount) ≡ c.in-Ok-new_amount.amount = search rules in
    rw (err_from_is_err_and c.from_residual.result c.from_residual.ensures.1).1
    (write_stops script.bytes.now a.env.now.ctx a.env.now.who a.n a.event c.requires.1 _ a.amounts.now a.sets.now a.run.now
    (named script.bytes.now (c.u16_at-a.ensures.0 ∙ r.a) c.eval.ensures) c.in-Ok.is
    (named script.bytes.now (c.u16_at-b.ensures.0 ∙ r.b) c.eval-2.ensures) c.in-Ok-eval.is c.new_amount.ensures c.in-Ok-new_amount.is (c.byte_at-table.ensures.0 ∙ r.p) _
    (λ i. key_of (owner i) (line i)) amount (numbered a.event)
    (λ own o. c.post.ensures.posts own o (full _) 0 (full_fits _)) c.in_err-place.was)

pub returns-clause-writes : goal.returns-clause-writes
returns-clause-writes c =
    let a = c.args in
    let script = a.script in
    let r = read script.runnable c.requires.0 in
    let owner : to_z w32 (of_z w32 c.in-Ok.owner) ≡ c.in-Ok.owner = search rules in
    let line : to_z w32 (of_z w32 c.in-Ok-eval.line) ≡ c.in-Ok-eval.line = search rules in
    let amount : to_z w32 (of_z w32 c.in-Ok-new_amount.amount) ≡ c.in-Ok-new_amount.amount = search rules in
    write_goes script.bytes.now a.env.now.ctx a.env.now.who a.n a.event c.requires.1 _ a.amounts.now a.sets.now a.run.now
    (named script.bytes.now (c.u16_at-a.ensures.0 ∙ r.a) c.eval.ensures) c.in-Ok.is
    (named script.bytes.now (c.u16_at-b.ensures.0 ∙ r.b) c.eval-2.ensures) c.in-Ok-eval.is c.new_amount.ensures c.in-Ok-new_amount.is (c.byte_at-table.ensures.0 ∙ r.p) _
    (λ i. key_of (owner i) (line i)) amount (numbered a.event)
    (λ own o. c.post.ensures.posts own o (full _) 0 (full_fits _)) c.in_ok-place.was
