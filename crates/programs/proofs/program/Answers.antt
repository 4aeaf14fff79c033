-- `programs::program` meets its contract: what stands at the program's record is run as the rules run the program.
use mathlib.Core.Path.{◌∙◌}
use native.Mathlib.Omega.{arith}
use Rattle.machine.proofs.Scripts.{program_read_at}
use Rattle.programs.proofs.Sequence.{program_does}
use Rattle.programs.proofs.program.Goals as goal

pub byte_at-user-requires : goal.byte_at-user-requires
byte_at-user-requires c = omega (arith, (program_read_at c.args.script.bytes.now c.args.script.runnable c.args.i c.requires.1).end)

pub u16_at-root-requires : goal.u16_at-root-requires
u16_at-root-requires c = omega (arith, (program_read_at c.args.script.bytes.now c.args.script.runnable c.args.i c.requires.1).end)

pub exec-requires : goal.exec-requires
exec-requires c =
    let here = program_read_at c.args.script.bytes.now c.args.script.runnable c.args.i c.requires.1 in
    record {
      public_is = c.requires.0;
      node = rw (c.u16_at-root.ensures.0, here.root) here.root_command;
      user_below = rw (c.byte_at-user.ensures.0, here.user) here.user_below;
      own_is = c.requires.2;
    }

pub returns : goal.returns
returns c =
    let here = program_read_at c.args.script.bytes.now c.args.script.runnable c.args.i c.requires.1 in
    program_does c.args.script.bytes.now c.args.i (c.byte_at-user.ensures.0 ∙ here.user) (c.u16_at-root.ensures.0 ∙ here.root) c.exec.ensures
