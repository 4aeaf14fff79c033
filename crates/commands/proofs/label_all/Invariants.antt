-- `commands::label_all` meets its contract: the labels passed are stored.
use mathlib.Core.Path.{◌≡◌}
use mathlib.Core.List.{◌++◌}
use lib.ListN.{take, drop, replicate}
use Rattle.commands.proofs.label_all.Given as goal

abbrev pub invariant-loop-p : goal.invariant-loop-p
invariant-loop-p l = l.labels ≡ take l.p (replicate 16 l.label) ++ drop l.p l.initial.labels
