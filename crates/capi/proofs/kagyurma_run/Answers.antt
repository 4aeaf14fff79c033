-- `capi::kagyurma_run` meets its contract: the values of the runner's answer.
use native.Mathlib.Omega.{arith}
use Rattle.monitor.specs.Call.{Memory}
use Rattle.capi.proofs.Runs.{Small, run_told, run_small}
use Rattle.capi.proofs.kagyurma_run.Goals as goal
use Rattle.capi.proofs.kagyurma_run.Tie as tie
use Rattle.capi.proofs.kagyurma_run.Lts as lts
use Rattle.capi.proofs.kagyurma_run.Reads as reads

-- memory as it is lent
abbrev lent : lts.Start tie.the-claims reads.Pre reads.Post → Memory
lent s = record { amounts = s.args.amounts.now; presence = s.args.presence.now; labels = s.args.labels.now; trace = s.args.trace.now }

small : (c : lts.After-values_of tie.the-claims reads.Pre reads.Post) → Small c.values_of-values.result
small c =
    let s = c.before.before.before.before.before.before.before.before.before.before.before.before.before.before.before.before.before in
    run_small s.args.file.now s.args.budget (lent s) _ _ c.run-answer.ensures _ c.values_of-values.ensures

pub overflow_cast-result : goal.overflow_cast-result
overflow_cast-result c =
    let fits = small c.before.before in
    omega arith

pub overflow_cast-result-2 : goal.overflow_cast-result-2
overflow_cast-result-2 c =
    let fits = small c.before.before.before in
    omega arith

pub returns : goal.returns
returns c =
    let s = c.before.before.before.before.before.before.before.before.before.before.before.before.before.before.before.before.before.before.before.before in
    run_told s.args.file.now s.args.budget (lent s) _ _ c.run-answer.ensures _ c.values_of-values.ensures
