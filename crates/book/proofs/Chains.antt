-- Chains of tests, `a && (b && ..)`. For a function that returns false at the first that fails: at the return after the third,
-- `sym (pass h₁ (pass h₂ (fail _ h₃)))`. Assumes nothing.
use mathlib.Core.Path.{◌≡◌, refl, ap, ◌∙◌}
use mathlib.Core.Bool.{Bool, true, false, ◌&&◌, ◌||◌, false≢true}

pub pass : {a b r : Bool} → a ≡ true → b ≡ r → a && b ≡ r
pass {a} {b} h q = ap (λ (t : Bool). t && b) h ∙ q

pub fail : {a : Bool} (b : Bool) → a ≡ false → a && b ≡ false
fail {a} b h = ap (λ (t : Bool). t && b) h

-- a || (b || ..): a test that fails is passed, one that holds decides
pub or_pass : {a b r : Bool} → a ≡ false → b ≡ r → a || b ≡ r
or_pass {a} {b} h e = ap (λ (t : Bool). t || b) h ∙ e

pub or_hold : {a : Bool} (b : Bool) → a ≡ true → a || b ≡ true
or_hold b h = ap (λ (t : Bool). t || b) h

-- where a chain holds, each test does
pub both : (a b : Bool) → a && b ≡ true → (a ≡ true) × (b ≡ true)
both true b e = (refl, e)
both false b e = absurd (false≢true e)
