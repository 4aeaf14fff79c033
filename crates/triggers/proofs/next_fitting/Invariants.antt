-- `triggers::next_fitting` meets its contract. The loop's invariant: the search from `number` on finds what the whole search finds.
use mathlib.Core.Path.{◌≡◌}
use Prim.Native.Nat.{◌-◌}
use lib.ListN.{length}
use Rattle.machine.specs.Script.{script_of}
use Rattle.triggers.specs.Search.{first_fitting}
use Rattle.triggers.proofs.next_fitting.Given as goal

abbrev pub invariant-loop-number : goal.invariant-loop-number
invariant-loop-number l =
    first_fitting l.script.bytes.now l.event l.place (length (script_of l.script.bytes.now).triggers - l.t) l.t ≡ first_fitting l.script.bytes.now l.event l.place (length (script_of l.script.bytes.now).triggers - l.number) l.number
