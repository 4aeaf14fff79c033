-- `case_lines::amount_of` meets its contract: a number of 31 bits, or its negative, fits 32 bits with a sign.
use mathlib.Core.Path.{◌≡◌}
use Prim.Native.Nat.{ℕ, zero, suc, ◌<◌}
use native.Mathlib.Omega.{arith}
use lib.IntN.{pos, ◌-ℤ◌}
use mir.Syntax.{w32}
use mir.Val.{SFits, to_z}
use borrow.Author.Tests.{lt-ltb}
use Rattle.case_lines.proofs.amount_of.Goals as goal

not_negative : (n : ℕ) → n < 2147483648 → to_z w32 n ≡ pos n
not_negative n h = simp (lt-ltb n 2147483648 h)

negative_fits : (n : ℕ) → n < 2147483648 → SFits w32 (pos 0 -ℤ to_z w32 n)
negative_fits zero h = record { sfits = omega arith }
negative_fits (suc n) h =
    rw (not_negative (suc n) h, lt-ltb 0 (suc n) (omega arith)) (record { sfits = omega (arith, h) })

pub overflow_sub-result : goal.overflow_sub-result
overflow_sub-result c = negative_fits c.before.args.number c.before.requires
