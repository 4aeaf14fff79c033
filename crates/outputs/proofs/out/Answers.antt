-- `outputs::out` meets its contract.
use mathlib.Core.Path.{sym, ap, ◌∙◌}
use native.Mathlib.Omega.{arith}
use mir.Syntax.{w32}
use mir.Facts.{to_z-of_z}
use borrow.Author.Tests.{not-true, not-false}
use Rattle.places.specs.Sets.{within}
use Rattle.book.specs.Bytes.{bits32}
use Rattle.machine.proofs.Nodes.{read_at, out_p}
use Rattle.outputs.proofs.Outs.{told_value, out_fails, out_hidden, out_full, out_tells}
use Rattle.outputs.proofs.out.Goals as goal

pub eval-requires : goal.eval-requires
eval-requires c = told_value _ _ c.args.script.runnable c.requires.node c.u16_at-a.ensures.0

-- the expression stops
pub returns-in_default-clause-tells : goal.returns-in_default-clause-tells
returns-in_default-clause-tells c =
    λ who. out_fails _ _ _ who _ _ c.args.script.runnable c.args.store.now.room c.requires.public_set c.requires.node c.u16_at-a.ensures.0 c.eval.ensures c.in_default.is

pub bounds-store-user : goal.bounds-store-user
bounds-store-user c =
    let runs = c.args.script.runnable in
    rw (c.byte_at-user.ensures.0 ∙ (read_at _ runs _ c.requires.node.0.inside).p) (out_p _ runs.sound _ c.requires.node.0.inside c.requires.node.1)

-- 27: the user may not read the value
pub returns-then-not-compared-clause-tells : goal.returns-then-not-compared-clause-tells
returns-then-not-compared-clause-tells c =
    λ who. out_hidden _ _ _ who _ _ c.args.script.runnable c.args.store.now.room c.requires.public_set c.requires.node c.u16_at-a.ensures.0 c.eval.ensures c.in-Ok.is c.byte_at-user.ensures.0
    (sym (c.within-compared.ensures.0 ∙ ap (within _) c.union-readable.ensures) ∙ not-true _ c.if-not-compared.true) c.stop_outside.ensures.stops
    (rw (← c.union-readable.ensures) c.stop_outside.ensures.compares)

-- 30: the trace is full
pub returns-then-store-used-clause-tells : goal.returns-then-store-used-clause-tells
returns-then-store-used-clause-tells c =
    λ who. out_full _ _ _ who _ _ c.args.script.runnable c.args.store.now.room c.requires.public_set c.requires.node c.u16_at-a.ensures.0 c.eval.ensures c.in-Ok.is c.byte_at-user.ensures.0
    (sym (c.within-compared.ensures.0 ∙ ap (within _) c.union-readable.ensures) ∙ not-false _ c.if-not-compared.false) c.if-store-used.true c.stop.ensures

-- the record is written
pub returns-clause-tells : goal.returns-clause-tells
returns-clause-tells c =
    λ who. out_tells _ _ _ who _ _ c.args.script.runnable c.args.store.now.room c.requires.public_set c.requires.node c.u16_at-a.ensures.0 c.eval.ensures c.in-Ok.is c.byte_at-user.ensures.0
    (sym (c.within-compared.ensures.0 ∙ ap (within _) c.union-readable.ensures) ∙ not-false _ c.if-not-compared.false) c.if-store-used.false c.put_record.ensures
    (c.bits_of-bits.ensures ∙ ap bits32 (to_z-of_z {w = w32} {z = c.in-Ok.amount} (record { sfits = omega arith })))
