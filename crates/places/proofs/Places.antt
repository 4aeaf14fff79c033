-- A place and its key determine each other.
use mathlib.Core.Path.{◌≡◌}
use Prim.Native.Nat.{ℕ, ◌<◌}
use native.Mathlib.Omega.{arith}
use Rattle.places.specs.Places.{place, table_of, owner_of, line_of}

module _ (table owner line : ℕ) (o : owner < 8) (l : line < 8) where
  pub table_of_place : table_of (place table owner line) ≡ table
  table_of_place = omega arith

  pub owner_of_place : owner_of (place table owner line) ≡ owner
  owner_of_place = omega arith

  pub line_of_place : line_of (place table owner line) ≡ line
  line_of_place = omega arith

pub place_of_key : (p : ℕ) → place (table_of p) (owner_of p) (line_of p) ≡ p
place_of_key p = omega arith
