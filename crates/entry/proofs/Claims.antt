-- The claims about the entry, from those about the rules: what the entry ensures is that its calls are the rules' calls. Assumes nothing.
use mathlib.Core.Path.{◌≡◌, sym, ap, ◌∙◌}
use mathlib.Core.List.{List}
use mathlib.Core.Bool.{true}
use Prim.Native.Nat.{ℕ}
use Rattle.places.specs.Sets.{Within}
use Rattle.places.proofs.Sets.{within_refl}
use Rattle.monitor.specs.Labelled.{Label}
use Rattle.monitor.specs.Call.{Memory, Result, call}
use Rattle.claims.specs.TwoBooks.{Group, accepted, finished, reach, DifferOutside}
use Rattle.claims.specs.Claims.{LearnsNothing}
use Rattle.claims.proofs.NoLabels as rules
use Rattle.claims.proofs.Demand3 as two_calls
use Rattle.entry.specs.Entry.{result}
use Rattle.entry.specs.Claims.{NoLabelsSame, Demand3, Demand3Within}

pub no_labels_same : NoLabelsSame
no_labels_same file budget before after r e h = rules.no_labels_same file budget before (sym (ap (λ (x : Result). finished x.answer) e) ∙ h) ∙ sym e

-- two results that are those of the rules' calls
learns : (g : Group) (R : Label) (file file' : List ℕ) (budget budget' : ℕ) (m m' : Memory) {x y : Result}
    → x ≡ call true file budget m → y ≡ call true file' budget' m'
    → accepted x.answer ≡ true → accepted y.answer ≡ true → Within (reach g file x) R → DifferOutside R file file'
    → LearnsNothing g R x y
learns g R file file' budget budget' m m' e e' a a' h d =
    rw (e, e') (two_calls.demand3_within g R file file' budget budget' m m' (rw e at a) (rw e' at a') (rw e at h) d)

pub demand3_within : Demand3Within
demand3_within g R file file' budget budget' before before' after after' r r' e e' a a' h d =
    learns g R file file' budget budget' before before' e e' a a' h d

pub demand3 : Demand3
demand3 g file file' budget budget' before before' after after' r r' e e' a a' d =
    let R = reach g file (result r after) in
    demand3_within g R file file' budget budget' before before' after after' r r' e e' a a' (within_refl R) d
