-- The values of expressions in the code.
use Rattle.std.specs.Prelude.{cond, ℕ, eqb, ℤ, ◌+ℤ◌, ◌-ℤ◌}
use Rattle.monitor.specs.Rules.{equals, less_than}

-- 3 a+b, 4 a−b, 5 a equals b, 6 a less than b
unfoldable pub combine : ℕ → ℤ → ℤ → ℤ
combine kind a b = cond (eqb kind 3) (a +ℤ b) (cond (eqb kind 4) (a -ℤ b) (cond (eqb kind 5) (equals a b) (less_than a b)))
