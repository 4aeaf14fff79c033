-- `capi::kagyurma_write` meets its contract: the writer's answer in numbers.
use native.Mathlib.Omega.{arith}
use Rattle.capi.proofs.Writes.{write_refused, write_index, write_wrote, write_bytes}
use Rattle.capi.proofs.kagyurma_write.Goals as goal

pub told-requires : goal.told-requires
told-requires c =
    let short = write_bytes c.args.file.now c.args.amounts.now c.args.presence.now c.args.labels.now c.args.out.now _ _ c.write.ensures _ c.in-Ok.is in
    (omega arith, omega arith)

pub told-requires-in-Err : goal.told-requires-in-Err
told-requires-in-Err c =
    let low = write_index c.args.file.now c.args.amounts.now c.args.presence.now c.args.labels.now c.args.out.now _ _ c.write.ensures _ c.in-Err.is in
    (omega arith, omega arith)

pub returns-in-Ok : goal.returns-in-Ok
returns-in-Ok c =
    write_wrote c.args.file.now c.args.amounts.now c.args.presence.now c.args.labels.now c.args.out.now _ _ c.write.ensures _ c.in-Ok.is _ c.told.ensures

pub returns-in-Err : goal.returns-in-Err
returns-in-Err c =
    write_refused c.args.file.now c.args.amounts.now c.args.presence.now c.args.labels.now c.args.out.now _ _ c.write.ensures _ c.in-Err.is _ (rw c.number.ensures at c.told-in-Err.ensures)
