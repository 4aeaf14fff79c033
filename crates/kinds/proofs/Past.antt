-- A kind past the table is none that there is. Assumes nothing.
use mathlib.Core.Path.{◌≡◌}
use mathlib.Core.Bool.{false, and-false}
use Prim.Native.Nat.{ℕ, ◌<◌}
use native.Mathlib.Omega.{arith}
use lib.Dec.{T, eqb, leb, leb→le}
use borrow.Author.Tests.{ne_eqb, lt-leb}
use Rattle.book.specs.Kinds.{between, cost_of, sort_of, fields_of, row_of}

-- it is none of the table's kinds, nor between two of them
module _ (kind : ℕ) (h : 26 < kind) where
  other : (n : ℕ) → T (leb n 26) → eqb kind n ≡ false
  other n t = ne_eqb kind n (λ e. omega (arith, leb→le n 26 t))

  outside : (low high : ℕ) → T (leb high 26) → between low high kind ≡ false
  outside low high t = rw (lt-leb kind high (omega (arith, leb→le high 26 t))) (and-false (leb low kind))

  pub past : row_of kind ≡ row_of 0
  unfolding row_of cost_of sort_of fields_of
  past =
      rw
      (outside 8 11 tt, outside 1 6 tt, outside 16 26 tt, outside 3 6 tt, outside 24 25 tt, other 1 tt, other 2 tt, other 17 tt, other 18 tt, other 19 tt, other 20 tt, other 21 tt, other 22 tt, other 23 tt, other 26 tt)
