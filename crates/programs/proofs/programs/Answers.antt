-- `programs::programs` meets its contract. The loop's invariant: what the programs from `i` on do from here, all of them do from the start.
use native.Mathlib.Omega.{arith}
use Rattle.std.proofs.lemmas.Result.{err_from_is_err_and}
use Rattle.machine.proofs.Scripts.{programs_count}
use Rattle.programs.proofs.Sequence.{none_left, first_stops, first_goes}
use Rattle.programs.proofs.programs.Goals as goal

pub program-requires : goal.program-requires
program-requires c =
    let reached = c.loop-i.invariant in
    (reached.public_is, omega (arith, programs_count c.args.script.bytes.now, c.u16_at-i-end.ensures.0), reached.idles)

-- a program stops
pub returns-in_err-program : goal.returns-in_err-program
returns-in_err-program c =
    rw (err_from_is_err_and c.from_residual.result c.from_residual.ensures.1).1
    (first_stops c.loop-i.invariant (omega (arith, programs_count c.args.script.bytes.now, c.u16_at-i-end.ensures.0)) c.program.ensures c.in_err-program.was)

-- a program is done
pub loop-i-preserved : goal.loop-i-preserved
loop-i-preserved c =
    first_goes c.loop-i.invariant (omega (arith, programs_count c.args.script.bytes.now, c.u16_at-i-end.ensures.0)) c.program.ensures c.in_ok-program.was

pub returns : goal.returns
returns c = none_left c.loop-i.invariant (omega (arith, programs_count c.args.script.bytes.now, c.u16_at-i-end.ensures.0))
