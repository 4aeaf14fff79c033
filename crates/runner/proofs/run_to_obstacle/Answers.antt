-- `runner::run_to_obstacle` meets its contract: refused by the budget, by lent memory or by the file, or the run of its book.
use mathlib.Core.Path.{sym, ◌∙◌}
use native.Mathlib.Omega.{arith}
use Rattle.runner.proofs.Calls.{refuses, runs, budget_over, trace_over, lengths_other, lengths_are, file_decides}
use Rattle.runner.proofs.run_to_obstacle.Goals as goal

pub returns-then-budget-gt1000000 : goal.returns-then-budget-gt1000000
returns-then-budget-gt1000000 c =
    let left = refuses c.args.file.now c.args.budget c.args.amounts.now c.args.presence.now c.args.labels.now c.args.trace.now c.args.obstacle.now (budget_over c.args.file.now c.args.budget c.args.amounts.now c.args.presence.now c.args.labels.now c.args.trace.now (omega (arith, c.if-budget-gt1000000.true))) in
    record { ran = left.0; in_the_way = left.1 }

pub returns-then-trace-gt65536 : goal.returns-then-trace-gt65536
returns-then-trace-gt65536 c =
    let left = refuses c.args.file.now c.args.budget c.args.amounts.now c.args.presence.now c.args.labels.now c.args.trace.now c.args.obstacle.now (trace_over c.args.file.now c.args.budget c.args.amounts.now c.args.presence.now c.args.labels.now c.args.trace.now (omega (arith, c.if-trace-gt65536.true))) in
    record { ran = left.0; in_the_way = left.1 }

pub returns-then-not-lent_fits : goal.returns-then-not-lent_fits
returns-then-not-lent_fits c =
    let left = refuses c.args.file.now c.args.budget c.args.amounts.now c.args.presence.now c.args.labels.now c.args.trace.now c.args.obstacle.now (lengths_other c.args.file.now c.args.budget c.args.amounts.now c.args.presence.now c.args.labels.now c.args.trace.now (sym c.lent_fits.ensures ∙ c.if-not-lent_fits.true)) in
    record { ran = left.0; in_the_way = left.1 }

-- past the tests: budget, trace and lent memory are as they should be
pub started-requires : goal.started-requires
started-requires c = (
  sym c.inspect.ensures ∙ c.in-Ok.is,
  lengths_are c.args.file.now c.args.budget c.args.amounts.now c.args.presence.now c.args.labels.now c.args.trace.now (sym c.lent_fits.ensures ∙ c.if-not-lent_fits.false),
  omega (arith, c.if-trace-gt65536.false),
)

-- and the file decides
pub returns-in-Err : goal.returns-in-Err
returns-in-Err c =
    let decides = file_decides c.args.file.now c.args.budget c.args.amounts.now c.args.presence.now c.args.labels.now c.args.trace.now (omega (arith, c.if-budget-gt1000000.false)) (omega (arith, c.if-trace-gt65536.false)) (sym c.lent_fits.ensures ∙ c.if-not-lent_fits.false) in
    let left = refuses c.args.file.now c.args.budget c.args.amounts.now c.args.presence.now c.args.labels.now c.args.trace.now c.args.obstacle.now (decides ∙ sym c.inspect.ensures ∙ c.in-Err.is) in
    record { ran = left.0; in_the_way = left.1 }

pub returns-in-Ok : goal.returns-in-Ok
returns-in-Ok c =
    let decides = file_decides c.args.file.now c.args.budget c.args.amounts.now c.args.presence.now c.args.labels.now c.args.trace.now (omega (arith, c.if-budget-gt1000000.false)) (omega (arith, c.if-trace-gt65536.false)) (sym c.lent_fits.ensures ∙ c.if-not-lent_fits.false) in
    let left = runs c.args.file.now c.args.budget c.args.amounts.now c.args.presence.now c.args.labels.now c.args.trace.now c.args.obstacle.now (decides ∙ sym c.inspect.ensures ∙ c.in-Ok.is) (c.started.ensures.ran, c.started.ensures.in_the_way) in
    record { ran = left.0; in_the_way = left.1 }
