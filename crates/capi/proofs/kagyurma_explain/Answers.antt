-- `capi::kagyurma_explain` meets its contract: the values of the tool's answer.
use native.Mathlib.Omega.{arith}
use Rattle.monitor.specs.Call.{Memory}
use Rattle.capi.proofs.Runs.{Small, explain_told, explain_small, explain_place}
use Rattle.capi.proofs.kagyurma_explain.Goals as goal
use Rattle.capi.proofs.kagyurma_explain.Tie as tie
use Rattle.capi.proofs.kagyurma_explain.Lts as lts
use Rattle.capi.proofs.kagyurma_explain.Reads as reads

-- memory as it is lent
abbrev lent : lts.Start tie.the-claims reads.Pre reads.Post → Memory
lent s = record { amounts = s.args.amounts.now; presence = s.args.presence.now; labels = s.args.labels.now; trace = s.args.trace.now }

small : (c : lts.After-values_of tie.the-claims reads.Pre reads.Post) → Small c.values_of-numbers.result
small c =
    let s = c.before.before.before.before.before.before.before.before.before.before.before.before.before.before.before.before.before in
    explain_small s.args.file.now s.args.budget (lent s) c.explain-explained.result _ c.explain-explained.ensures _ c.values_of-numbers.ensures

pub place_number-place-requires : goal.place_number-place-requires
place_number-place-requires c =
    let s = c.before.before.before.before.before.before.before.before.before.before.before.before.before.before.before.before.before.before in
    explain_place s.args.file.now s.args.budget (lent s) c.explain-explained.result _ c.explain-explained.ensures _ c.values_of-numbers.ensures

pub overflow_cast-result : goal.overflow_cast-result
overflow_cast-result c =
    let fits = small c.before.before.before in
    omega arith

pub overflow_cast-result-2 : goal.overflow_cast-result-2
overflow_cast-result-2 c =
    let fits = small c.before.before.before.before in
    omega arith

pub returns : goal.returns
returns c =
    let s = c.before.before.before.before.before.before.before.before.before.before.before.before.before.before.before.before.before.before.before.before.before in
    explain_told s.args.file.now s.args.budget (lent s) c.explain-explained.result _ c.explain-explained.ensures _ c.values_of-numbers.ensures c.place_number-place.ensures
