-- What is promised of the steps by which a posting can be taken back.
use Rattle.std.specs.Prelude.{◌≡◌, List, true, false, ℕ, ℤ, length, Ok, Err}
use Rattle.places.specs.Sets.{has}
use Rattle.machine.specs.Store.{cells_held, idle, began, undo_of, rights_in, SameState}
use Rattle.machine.specs.Promises.{Outcome, stopped}
use Rattle.machine.specs.declared.lent.Sets.{Sets}

-- a posting is under way, and a stop would take the cells back to what they are
pub record Begins (sets sets' : Sets) : Type 0 where
  pub same : (amounts : List ℤ) → SameState amounts sets sets'
  pub under_way : idle sets' ≡ false
  pub began_is : (amounts : List ℤ) → began amounts sets' ≡ cells_held amounts sets

-- the cell at this place counts as touched, and neither the cells nor what a stop would take them back to is another
pub record Keeps (amounts : List ℤ) (sets : Sets) (place : ℕ) (sets' : Sets) : Type 0 where
  pub same : SameState amounts sets sets'
  pub undo_same : undo_of amounts sets' ≡ undo_of amounts sets
  pub touched : has sets'.posting.touched place ≡ true
  pub eight : length sets'.posting.touched ≡ 8

-- what stays when a posting ends: the rights, the public set and the sets of a stop
pub record Stays (sets sets' : Sets) : Type 0 where
  pub rights_same : rights_in sets' ≡ rights_in sets
  pub public_same : sets'.public ≡ sets.public
  pub tested_same : sets'.tested ≡ sets.tested
  pub bound_same : sets'.bound ≡ sets.bound

-- the cells are what they were when the posting began; whether one is under way stays
pub record TakesBack (amounts : List ℤ) (sets : Sets) (amounts' : List ℤ) (sets' : Sets) : Type 0 where
  pub cells_are : cells_held amounts' sets' ≡ began amounts sets
  pub stays : Stays sets sets'
  pub idle_same : idle sets' ≡ idle sets

-- no posting is under way; if it is done the cells stay, and if it stopped they are what they were when it began
pub record Ends (outcome : Outcome) (amounts : List ℤ) (sets : Sets) (amounts' : List ℤ) (sets' : Sets) : Type 0 where
  pub done : outcome ≡ Ok tt → cells_held amounts' sets' ≡ cells_held amounts sets
  pub stopped : outcome ≡ Err stopped → cells_held amounts' sets' ≡ began amounts sets
  pub stays : Stays sets sets'
  pub over : idle sets' ≡ true
