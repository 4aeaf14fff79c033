-- `encoder::put_pairs` meets its contract: the pairs of the sections from `section` on are written.
use Rattle.encoder.proofs.Steps.{Paired}
use Rattle.encoder.proofs.put_pairs.Given as goal

abbrev pub invariant-loop-section : goal.invariant-loop-section
invariant-loop-section l = Paired l.file l.cells l.behind l.initial.out l.at l.out l.distance l.section
