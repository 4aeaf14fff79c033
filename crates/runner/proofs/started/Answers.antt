-- `runner::started` meets its contract: the programs run on the store, and the answer is that of their end.
use mathlib.Core.Path.{sym, ◌∙◌}
use lib.IntN.{pos}
use Rattle.monitor.specs.Labelled.{lit}
use Rattle.monitor.specs.Run.{sixteen}
use Rattle.runner.proofs.Results.{run_gives, run_obstacle}
use Rattle.runner.proofs.started.Goals as goal

pub programs-outcome-requires : goal.programs-outcome-requires
programs-outcome-requires c = (c.start_sets.ensures.public_is, c.start_sets.ensures.idles)

pub answer_of-requires : goal.answer_of-requires
answer_of-requires c = (c.programs-outcome.ensures (sixteen (lit (pos 0)))).leaves.within

pub returns : goal.returns
returns c = record {
  ran = rw (c.answer_of.ensures, c.trace-1.given.1.1 (sym (c.programs-outcome.ensures (sixteen (lit (pos 0)))).leaves.loan_same))
      (run_gives c.args.file.now _ c.copy_script.ensures.1 c.load_cells-present.ensures c.start_sets.ensures _ c.programs-outcome.ensures c.store_cells.ensures);
  in_the_way = c.obstacle_of.ensures
      ∙ run_obstacle c.args.file.now _ c.copy_script.ensures.1 c.load_cells-present.ensures c.start_sets.ensures _ c.programs-outcome.ensures _;
}
