-- What a stop about labels is measured by, in the state in which the run stopped, before anything is taken back.
use Rattle.std.specs.Prelude.{◌≡◌, true}
use Rattle.places.specs.Sets.{union}
use Rattle.book.specs.Records.{Book}
use Rattle.book.specs.Refusals.{node_at}
use Rattle.book.specs.Start.{public_set}
use Rattle.monitor.specs.Run.{State, Halt}
use Rattle.monitor.specs.Rules.{Key, key_place, in_table}

-- The set that the tested one has to lie within is one of the state s: by 26 the label of a cell in the table that the stop's node names, by 27
-- the public set with the read set of the user that it names, by 29 the public set. Of 25 nothing is said: its bound is the label of a variable,
-- which is gone once its program or trigger has ended.
pub data Bound (b : Book) (s : State) (h : Halt) : Type 0 where
  variable : h.number ≡ 25 → Bound b s h
  cell : h.number ≡ 26 → (k : Key) → in_table k ≡ true → h.compared.bound ≡ (s.cells (key_place (node_at b h.node).p k)).lab → Bound b s h
  reader : h.number ≡ 27 → h.compared.bound ≡ union (public_set b) (s.rights.read (node_at b h.node).p) → Bound b s h
  everyone : h.number ≡ 29 → h.compared.bound ≡ public_set b → Bound b s h
