-- What a group sees of a run's records, and what their grants give it, over records as the rules write them. Assumes nothing.
use mathlib.Core.Path.{◌≡◌}
use mathlib.Core.List.{List, [], ◌∷◌, ◌++◌}
use mathlib.Core.Bool.{Bool, true, false, ◌&&◌, cond}
use lib.Dec.{eqb}
use Rattle.places.specs.Sets.{union}
use Rattle.book.specs.Records.{Book}
use Rattle.monitor.specs.Labelled.{Label, bottom}
use Rattle.monitor.specs.Run.{State, Rec, said, changed, Out, done, stop}
use Rattle.monitor.specs.Rules.{region_places}
use Rattle.claims.specs.TwoBooks.{Group}

-- the end of a run
unfoldable pub records : {A : Type 0} → Out A → List Rec
records (done t a s) = t
records (stop t h s) = t

unfoldable pub end : {A : Type 0} → Out A → State
end (done t a s) = s
end (stop t h s) = s

unfoldable pub is_done : {A : Type 0} → Out A → Bool
is_done (done t a s) = true
is_done (stop t h s) = false

-- what the group sees
unfoldable pub sees : Group → Rec → Bool
sees g (said u z) = g u
sees g (changed k u n) = true

unfoldable pub keep : Bool → Rec → List Rec → List Rec
keep true r t = r ∷ t
keep false r t = t

unfoldable pub seen_of : Group → List Rec → List Rec
seen_of g [] = []
seen_of g (r ∷ t) = keep (sees g r) r (seen_of g t)

-- what a record gives the group to read
unfoldable pub gift : Book → Group → Rec → Label
gift b g (said u z) = bottom
gift b g (changed k u n) = cond (eqb k 2 && g u) (region_places b n) bottom

unfoldable pub gifts : (Rec → Label) → List Rec → Label
gifts f [] = bottom
gifts f (r ∷ t) = union (f r) (gifts f t)

-- one list of records begins another
pub record Begun (x y : List Rec) : Type 0 where
  pub rest : List Rec
  pub is : x ++ rest ≡ y
