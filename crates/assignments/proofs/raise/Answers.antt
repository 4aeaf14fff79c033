-- `assignments::raise` meets its contract.
use mathlib.Core.Path.{sym, ◌∙◌}
use native.Mathlib.Omega.{arith}
use borrow.Author.Tests.{not-true, not-false}
use Rattle.assignments.proofs.Variables.{raised, raised_region, raise_keeps, raise_sets}
use Rattle.assignments.proofs.raise.Goals as goal

-- its variable is one of sixteen
pub bounds-labels-p : goal.bounds-labels-p
bounds-labels-p c = raised c.args.script.runnable c.requires c.byte_at-p.ensures.0

-- 25: the context is not within the old label
pub returns-then-not-compared : goal.returns-then-not-compared
returns-then-not-compared c =
    λ who values amounts trace loan u. raise_keeps _ _ _ who _ _ c.args.script.runnable u c.requires c.byte_at-p.ensures.0
    (sym c.within-compared.ensures.0 ∙ not-true _ c.if-not-compared.true) c.stop_outside.ensures.stops c.stop_outside.ensures.compares

pub region_places-region-requires : goal.region_places-region-requires
region_places-region-requires c = raised_region c.args.script.runnable c.requires c.u16_at.ensures.0

pub bounds-labels-p-2 : goal.bounds-labels-p-2
bounds-labels-p-2 c = raised c.args.script.runnable c.requires c.byte_at-p.ensures.0

-- the region is added
pub returns : goal.returns
returns c =
    λ who values amounts trace loan u. raise_sets _ _ _ who _ _ c.args.script.runnable u c.requires c.byte_at-p.ensures.0
    (omega arith) (sym c.within-compared.ensures.0 ∙ not-false _ c.if-not-compared.false)
    (rw (← c.u16_at.ensures.0, ← c.region_places-region.ensures) c.join.ensures)
