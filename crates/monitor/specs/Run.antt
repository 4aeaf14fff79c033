-- Runs: from a state to its end or to a stop, each with the trace records written meanwhile.
-- All stops come from `guard` and `halt`; only `tell` writes records, and only `pay` looks at the budget.
use Rattle.std.specs.Prelude.{List, [], ◌∷◌, ◌++◌, Bool, true, false, not, ◌||◌, cond, ℕ, ◌-◌, leb, ltb, eqb, ℤ, pos}
use Rattle.places.specs.Sets.{within}
use Rattle.book.specs.Kinds.{between}
use Rattle.monitor.specs.Labelled.{Label, bottom, Lab}

-- a cell: whether it is present, and its amount, 0 where it is absent
pub record Cell : Type 0 where
  pub present : Bool
  pub amount : ℤ

abbrev pub held : ℤ → Cell
held z = record { present = true; amount = z }

abbrev pub absent : Cell
absent = record { present = false; amount = pos 0 }

-- each user's read set and write set
pub record Rights : Type 0 where
  pub read : ℕ → Label
  pub write : ℕ → Label

pub record State : Type 0 where
  pub cells : ℕ → Lab Cell
  pub vars : ℕ → Lab ℤ
  pub rights : Rights
  pub left : ℕ  -- what is left of the budget
  pub room : ℕ  -- records for which the trace has room

-- a trace record
pub data Rec : Type 0 where
  said : ℕ → ℤ → Rec  -- out: user, amount
  changed : ℕ → ℕ → ℕ → Rec  -- kind 2 to 5, user, region

-- the set that a test of labels is about, and the set that it has to lie within
pub record Compared : Type 0 where
  pub tested : Label
  pub bound : Label

-- a test that is not about labels compares empty sets
abbrev pub no_sets : Compared
no_sets = record { tested = bottom; bound = bottom }

-- a stop: its number, its node, and the sets of its test
pub record Halt : Type 0 where
  pub number : ℕ
  pub node : ℕ
  pub compared : Compared

-- the numbers of the tests that are about labels: 25, 26, 27 and 29
abbrev pub about_labels : ℕ → Bool
about_labels number = between 25 27 number || eqb number 29

pub data Out (A : Type 0) : Type 0 where
  done : List Rec → A → State → Out A
  stop : List Rec → Halt → State → Out A

abbrev pub M : Type 0 → Type 0
M A = State → Out A

-- ---- one run after another

unfoldable pub after : {A : Type 0} → List Rec → Out A → Out A
after t (done u a s) = done (t ++ u) a s
after t (stop u h s) = stop (t ++ u) h s

unfoldable pub next : {A B : Type 0} → Out A → (A → M B) → Out B
next (done t a s) k = after t (k a s)
next (stop t h s) k = stop t h s

infixl 20 ◌>>=◌
infixl 20 ◌>>◌
abbrev pub ◌>>=◌ : {A B : Type 0} → M A → (A → M B) → M B
◌>>=◌ m k = λ s. next (m s) k

abbrev pub ◌>>◌ : {A B : Type 0} → M A → M B → M B
◌>>◌ m k = λ s. next (m s) (λ a. k)

abbrev pub ret : {A : Type 0} → A → M A
ret a = λ s. done [] a s

abbrev pub look : {A : Type 0} → (State → A) → M A
look f = λ s. done [] (f s) s

unfoldable pub each : {A : Type 0} → List A → (A → M (Unit {0})) → M (Unit {0})
each [] f = ret tt
each (x ∷ xs) f = f x >> each xs f

-- where the test holds
unfoldable pub when : Bool → M (Unit {0}) → M (Unit {0})
when x m = λ s. elim x [ true ↦ m s | false ↦ done [] tt s ]

-- stops with number n on node i; not about labels
abbrev pub halt : {A : Type 0} → ℕ → ℕ → M A
halt n i = λ s. stop [] (record { number = n; node = i; compared = no_sets }) s

-- ---- tests

-- a test, and the sets that it compares
pub record Test : Type 0 where
  pub passes : Bool
  pub compared : Compared

-- a test that is not about labels
abbrev pub plainly : Bool → Test
plainly x = record { passes = x; compared = no_sets }

-- a label within a bound; the run with no labels omits such tests
abbrev pub inside : Bool → Label → Label → Test
inside labels tested bound = record { passes = not labels || within tested bound; compared = record { tested = tested; bound = bound } }

-- stops with number n on node i unless the test passes, and else goes on from the state that was tested
unfoldable pub guard : {A : Type 0} → (State → Test) → ℕ → ℕ → M A → M A
guard x n i m = λ s. elim (x s).passes [ true ↦ m s | false ↦ stop [] (record { number = n; node = i; compared = (x s).compared }) s ]

unfoldable pub need : Test → ℕ → ℕ → M (Unit {0})
need x n i = guard (λ s. x) n i (ret tt)

-- ---- changes of the state

-- writes the records t and changes the state by f
abbrev pub commit : List Rec → (State → State) → M (Unit {0})
commit t f = λ s. done t tt (f s)

unfoldable pub update : {A : Type 0} → (ℕ → A) → ℕ → A → ℕ → A
update f q a r = cond (eqb r q) a (f r)

abbrev pub spend : ℕ → State → State
spend c s = record { cells = s.cells; vars = s.vars; rights = s.rights; left = s.left - c; room = s.room }

abbrev pub with_vars : (ℕ → Lab ℤ) → State → State
with_vars v s = record { cells = s.cells; vars = v; rights = s.rights; left = s.left; room = s.room }

abbrev pub with_cells : (ℕ → Lab Cell) → State → State
with_cells c s = record { cells = c; vars = s.vars; rights = s.rights; left = s.left; room = s.room }

-- after a trace record: its room is used up, and the rights change by f
abbrev pub recorded : (Rights → Rights) → State → State
recorded f s = record { cells = s.cells; vars = s.vars; rights = f s.rights; left = s.left; room = s.room - 1 }

-- 21: the cost c would pass the budget; tested on entry to node i, and then not added
unfoldable pub pay : ℕ → ℕ → M (Unit {0})
pay c i = guard (λ s. plainly (leb c s.left)) 21 i (commit [] (spend c))

-- 25: the context c is within variable p's old label; the variable's new value is f of the old
unfoldable pub set_var : Bool → ℕ → Label → ℕ → (Lab ℤ → Lab ℤ) → M (Unit {0})
set_var labels i c p f = guard (λ s. inside labels c (s.vars p).lab) 25 i (commit [] λ s. with_vars (update s.vars p (f (s.vars p))) s)

-- 26: context and key label, c, are within cell q's old label; tested before the write
unfoldable pub set_cell : Bool → ℕ → Label → ℕ → Lab Cell → M (Unit {0})
set_cell labels i c q x = guard (λ s. inside labels c (s.cells q).lab) 26 i (commit [] λ s. with_cells (update s.cells q x) s)

-- 30: the trace has room for a record; the record r, and what it does to the rights
unfoldable pub tell : ℕ → Rec → (Rights → Rights) → M (Unit {0})
tell i r f = guard (λ s. plainly (leb 1 s.room)) 30 i (commit (r ∷ []) (recorded f))

-- ---- variables

-- sixteen variables, each x; there are no others
unfoldable pub sixteen : Lab ℤ → ℕ → Lab ℤ
sixteen x p = cond (ltb p 16) x (record { val = pos 0; lab = [] })

-- a run with variables of its own: those that were there come back
unfoldable pub restore : (ℕ → Lab ℤ) → Out (Unit {0}) → Out (Unit {0})
restore v (done t a s) = done t tt (with_vars v s)
restore v (stop t h s) = stop t h (with_vars v s)

unfoldable pub own : (ℕ → Lab ℤ) → M (Unit {0}) → M (Unit {0})
own v m = λ s. restore s.vars (m (with_vars v s))

-- ---- what a stop takes back

-- the end of a run whose cells come back if it stopped; the trace, the cost and all else that the stop leaves stay
unfoldable pub taken_back : (ℕ → Lab Cell) → Out (Unit {0}) → Out (Unit {0})
taken_back c (done t a s) = done t a s
taken_back c (stop t h s) = stop t h (with_cells c s)

-- where x holds, a run whose cells come back if it stops: each cell, present or absent, with its label, as the run found it
unfoldable pub undoing : Bool → M (Unit {0}) → M (Unit {0})
undoing x m = λ s. elim x [ true ↦ taken_back s.cells (m s) | false ↦ m s ]
