-- `assignments::assign` meets its contract.
use mathlib.Core.Path.{sym, ◌∙◌}
use native.Mathlib.Omega.{arith}
use borrow.Author.Tests.{not-true, not-false}
use mir.Syntax.{w32}
use mir.Facts.{to_z-of_z}
use Rattle.assignments.proofs.Variables.{assigned, assigned_value, assign_fails, assign_keeps, assign_sets}
use Rattle.assignments.proofs.assign.Goals as goal

pub eval-requires : goal.eval-requires
eval-requires c = assigned_value c.args.script.runnable c.requires c.u16_at-a.ensures.0

-- the expression stops
pub returns-in_default : goal.returns-in_default
returns-in_default c =
    λ who trace loan u. assign_fails _ _ _ who _ _ c.args.script.runnable u c.requires c.u16_at-a.ensures.0 c.eval.ensures c.in_default.is

-- its variable is one of sixteen
pub bounds-vars-p : goal.bounds-vars-p
bounds-vars-p c = assigned c.args.script.runnable c.requires c.byte_at-p.ensures.0

-- 25: the context is not within the old label
pub returns-then-not-compared : goal.returns-then-not-compared
returns-then-not-compared c =
    λ who trace loan u. assign_keeps _ _ _ who _ _ c.args.script.runnable u c.requires c.u16_at-a.ensures.0 c.eval.ensures c.in-Ok.is c.byte_at-p.ensures.0
    (sym c.within-compared.ensures.0 ∙ not-true _ c.if-not-compared.true) c.stop_outside.ensures.stops c.stop_outside.ensures.compares

pub bounds-vars-p-2 : goal.bounds-vars-p-2
bounds-vars-p-2 c = assigned c.args.script.runnable c.requires c.byte_at-p.ensures.0

pub bounds-vars-p-3 : goal.bounds-vars-p-3
bounds-vars-p-3 c = assigned c.args.script.runnable c.requires c.byte_at-p.ensures.0

-- the variable is set
pub returns : goal.returns
returns c =
    λ who trace loan u. rw (to_z-of_z {w = w32} {z = c.in-Ok.amount} (record { sfits = omega arith }))
    (assign_sets _ _ _ who _ _ c.args.script.runnable u c.requires c.u16_at-a.ensures.0 c.eval.ensures c.in-Ok.is c.byte_at-p.ensures.0
    (omega arith) (omega arith) (sym c.within-compared.ensures.0 ∙ not-false _ c.if-not-compared.false))
