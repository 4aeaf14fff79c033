-- The claims about the rules, as statements. Their proofs are in proofs/.
use Rattle.std.specs.Prelude.{◌≡◌, List, ◌⊎◌, true, false, ℕ, ◌≤◌}
use Rattle.places.specs.Sets.{Within}
use Rattle.book.specs.Records.{Book}
use Rattle.monitor.specs.Labelled.{Label}
use Rattle.monitor.specs.Run.{State}
use Rattle.monitor.specs.Rules.{Mode, run}
use Rattle.monitor.specs.Call.{Memory, Result, call}
use Rattle.claims.specs.TwoBooks.{Group, accepted, finished, group_trace, Begins, reach, SameInside, DifferOutside, cells_in}

-- Fuel is enough: any two fuels that are at least what is left of the budget give the same run.
abbrev pub FuelEnough : Type 0
FuelEnough = (b : Book) (mode : Mode) (fuel fuel' : ℕ) (s : State) → s.left ≤ fuel → s.left ≤ fuel' → run b mode fuel s ≡ run b mode fuel' s

-- Demand 2, the run with no labels: where the labelled run finishes, the other gives the same answer (it finishes, with the same cost)
-- and leaves the same lent memory (cells and trace).
abbrev pub NoLabelsSame : Type 0
NoLabelsSame = (file : List ℕ) (budget : ℕ) (m : Memory) → finished (call true file budget m).answer ≡ true → call false file budget m ≡ call true file budget m

-- What the group learns from two runs: nothing but where one stopped, and where both finish, nothing.
-- Of the two traces one begins the other; a run that finishes shows the group all that the other shows; and where both finish, the
-- traces are the same, and so are the cells inside the reach.
pub record LearnsNothing (g : Group) (reach : List ℕ) (first second : Result) : Type 0 where
  pub begins : Begins (group_trace g first) (group_trace g second) ⊎ Begins (group_trace g second) (group_trace g first)
  pub first_whole : finished first.answer ≡ true → Begins (group_trace g second) (group_trace g first)
  pub second_whole : finished second.answer ≡ true → Begins (group_trace g first) (group_trace g second)
  pub traces : finished first.answer ≡ true → finished second.answer ≡ true → group_trace g first ≡ group_trace g second
  pub cells : finished first.answer ≡ true → finished second.answer ≡ true → SameInside reach (cells_in first.memory) (cells_in second.memory)

-- Demand 3 of the rules' calls: for every group, every two accepted books that differ only outside its reach, any budgets, any trace
-- lengths and any earlier contents of lent memory. The customer's demand 3 is the `Demand3` over what the entry ensures
-- (crates/entry/specs/Claims.antt); it is proved from this one.
abbrev pub Demand3 : Type 0
Demand3 = (g : Group) (file file' : List ℕ) (budget budget' : ℕ) (m m' : Memory) →
    accepted (call true file budget m).answer ≡ true → accepted (call true file' budget' m').answer ≡ true →
    DifferOutside (reach g file (call true file budget m)) file file' →
    LearnsNothing g (reach g file (call true file budget m)) (call true file budget m) (call true file' budget' m')

-- The same for any set that holds the reach: books that differ only outside the set tell the group nothing of what is outside it. Chains of
-- days need it, since the reach of a chain gathers that of many days and so holds more than the reach of any one. With the reach itself it is Demand3.
abbrev pub Demand3Within : Type 0
Demand3Within = (g : Group) (R : Label) (file file' : List ℕ) (budget budget' : ℕ) (m m' : Memory) →
    accepted (call true file budget m).answer ≡ true → accepted (call true file' budget' m').answer ≡ true →
    Within (reach g file (call true file budget m)) R → DifferOutside R file file' →
    LearnsNothing g R (call true file budget m) (call true file' budget' m')
