-- `labels::set_label` meets its contract: the label's words before the offset are stored in their place.
use Rattle.std.proofs.Common.{length-set, ◌*◌, arith}
use Rattle.places.proofs.Loops.{store_turn}
use Rattle.labels.proofs.set_label.Goals as goal

pub loop-offset-preserved : goal.loop-offset-preserved
loop-offset-preserved c = (
  store_turn c.args.labels.now c.args.label _ (8 * c.args.place) c.loop-offset.offset (omega arith) (omega arith) c.loop-offset.invariant.0,
  simp length-set c.loop-offset.invariant.1,
)
