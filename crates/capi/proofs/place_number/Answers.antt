-- `capi::place_number` meets its contract.
use Rattle.std.proofs.Common.{◌≡◌, refl, ◌∙◌, ℕ, Option, Some, None, unwrap_or}
use Rattle.capi.specs.Calls.{place_number}
use Rattle.capi.proofs.place_number.Goals as goal

number : (place : Option ℕ) → unwrap_or place 512 ≡ place_number place
unfolding place_number
number None = refl
number (Some p) = refl

pub returns : goal.returns
returns c = c.unwrap_or.ensures ∙ number c.args.place
