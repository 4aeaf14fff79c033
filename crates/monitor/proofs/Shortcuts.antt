-- The books that would leak by a shortcut show what they should, by computation. Assumes nothing.
use mathlib.Core.Path.{refl}
use mathlib.Core.Bool.{true}
use Rattle.monitor.specs.Shortcuts.{shortcuts, Shortcuts}
use Rattle.monitor.proofs.Tables.{ran_quick, by_running}

pub no_shortcuts : Shortcuts
unfolding ran_quick shortcuts
no_shortcuts = by_running true shortcuts (λ z n. refl)
