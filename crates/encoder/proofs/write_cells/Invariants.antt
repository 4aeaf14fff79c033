-- `encoder::write_cells` meets its contract: the present cells below `place` are written.
use Rattle.places.specs.Sets.{has}
use Rattle.encoder.proofs.Codec.{cells_codec}
use Rattle.encoder.proofs.Writes.{here, Writing}
use Rattle.encoder.proofs.write_cells.Given as goal

abbrev pub invariant-loop-place : goal.invariant-loop-place
invariant-loop-place l = Writing cells_codec (has l.presence) (here l.amounts) l.initial.out 0 l.out l.end l.place
