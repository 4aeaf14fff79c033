-- The number of an event. Assumes nothing.
use mathlib.Core.Path.{◌≡◌, refl}
use Prim.Native.Nat.{◌+◌}
use denote.Enum.Declared.{tag_of}
use Rattle.machine.specs.Writes.{event_number}
use Rattle.machine.specs.contracts.lent.Event.{the_type}
use Rattle.machine.specs.declared.lent.Event.{Event}
use Rattle.machine.specs.declared.lent.Event.TheVariants.{Put, Clear}

-- `event as u8` is the event's number in a book
pub numbered : (event : Event) → tag_of the_type event + 1 ≡ event_number event
unfolding event_number
numbered Put = refl
numbered Clear = refl
