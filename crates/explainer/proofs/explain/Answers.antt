-- `explainer::explain` meets its contract: the run is that of the rules, and the places that it leaves are counted.
use Rattle.entry.specs.declared.Explained.{Explained}
use Rattle.entry.proofs.Explain.{explains}
use Rattle.explainer.proofs.explain.Goals as goal

pub returns : goal.returns
returns c =
    let r : Explained = record { answer = c.run_to_obstacle-answer.result; place = c.lowest-place.result; count = c.size-count.result } in
    explains _ _ _ _ r c.run_to_obstacle-answer.ensures.ran c.run_to_obstacle-answer.ensures.in_the_way c.eight.ensures c.lowest-place.ensures.is c.size-count.ensures
