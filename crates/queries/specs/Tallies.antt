-- What a query works out of the present cells, and the numbers of a box that lie in a table.
use Rattle.std.specs.Prelude.{List, [], ◌∷◌, Bool, false, cond, ℕ, ◌+◌, min, eqb, ℤ, pos, negsuc, ◌+ℤ◌, Option, Some, None}
use Rattle.std.specs.Int.Signed.{lt_z}

-- the tally of no amounts: 0, or for 10 smallest and 11 largest a number past every amount of 32 bits
unfoldable pub start_of : ℕ → ℤ
start_of kind = cond (eqb kind 8) (pos 0) (cond (eqb kind 9) (pos 0) (cond (eqb kind 10) (pos 2147483648) (negsuc 2147483648)))

-- a tally with one more amount: 8 counts it, 9 adds it, 10 keeps the smaller, 11 the larger
unfoldable pub with_amount : ℕ → ℤ → ℤ → ℤ
with_amount kind t z =
    cond (eqb kind 8)
    (t +ℤ pos 1)
    (cond (eqb kind 9) (t +ℤ z) (cond (eqb kind 10) (cond (lt_z z t) z t) (cond (lt_z t z) z t)))

-- a tally with the amounts of a list
unfoldable pub with_amounts : ℕ → ℤ → List ℤ → ℤ
with_amounts kind t [] = t
with_amounts kind t (z ∷ zs) = with_amounts kind (with_amount kind t z) zs

-- the tally of a list of amounts
abbrev pub tally_of : ℕ → List ℤ → ℤ
tally_of kind zs = with_amounts kind (start_of kind) zs

-- whether a tally has no amount: a smallest or largest that is still past every amount; count and sum always have one
unfoldable pub no_amount : ℕ → ℤ → Bool
no_amount kind t =
    cond (eqb kind 8) false (cond (eqb kind 9) false (cond (eqb kind 10) (lt_z (pos 2147483647) t) (lt_z t (negsuc 2147483647))))

-- what a query of this kind finds, from the tally of the amounts
unfoldable pub amount_of : ℕ → ℤ → Option ℤ
amount_of kind t = cond (no_amount kind t) None (Some t)

-- the first of the numbers 0 to 7 that is not below a bound, or 8
unfoldable pub first_from : ℤ → ℕ
first_from (pos n) = min n 8
first_from (negsuc n) = 0

-- the first of the numbers 0 to 7 that is above a bound, or 8
unfoldable pub first_above : ℤ → ℕ
first_above (pos n) = min (n + 1) 8
first_above (negsuc n) = 0
