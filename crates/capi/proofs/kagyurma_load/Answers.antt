-- `capi::kagyurma_load` meets its contract: the loader's verdict in numbers.
use native.Mathlib.Omega.{arith}
use Rattle.capi.proofs.Loads.{load_accepted, load_refused, load_index}
use Rattle.capi.proofs.kagyurma_load.Goals as goal

pub told-requires-in-Err : goal.told-requires-in-Err
told-requires-in-Err c =
    let low = load_index c.args.file.now c.args.amounts.now c.args.presence.now c.args.labels.now _ _ _ _ c.load.ensures _ c.in-Err.is in
    (omega arith, omega arith)

pub returns-in-Ok : goal.returns-in-Ok
returns-in-Ok c =
    load_accepted c.args.file.now c.args.amounts.now c.args.presence.now c.args.labels.now _ _ _ _ c.load.ensures c.in-Ok.is _ c.told.ensures

pub returns-in-Err : goal.returns-in-Err
returns-in-Err c =
    load_refused c.args.file.now c.args.amounts.now c.args.presence.now c.args.labels.now _ _ _ _ c.load.ensures _ c.in-Err.is _ (rw c.number.ensures at c.told-in-Err.ensures)
