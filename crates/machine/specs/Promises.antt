-- What a function that runs a part of a book has done when it answers: the part, as the rules define it, goes from the state at the
-- call to the state at the return, with that answer.
use Rattle.std.specs.Prelude.{◌≡◌, List, [], Bool, cond, ℕ, ◌+◌, ◌-◌, ◌*◌, ◌≤◌, ◌<◌, eqb, ℤ, length, Result, Ok, Err}
use Rattle.places.specs.Sets.{union}
use Rattle.book.specs.Refusals.{node_at}
use Rattle.monitor.specs.Labelled.{Label, Lab}
use Rattle.monitor.specs.Run.{Cell, Rights, State, Rec, Compared, no_sets, Halt, about_labels, Out, done, stop, M}
use Rattle.monitor.specs.Syntax.{exp_of, cmd_of}
use Rattle.monitor.specs.Rules.{monitored, standing, Env, expr, eval, command, exec}
use Rattle.machine.specs.Script.{script_of}
use Rattle.machine.specs.Store.{undo_of, Store, state, with_records}
use Rattle.machine.specs.declared.Stopped.{Stopped}
use Rattle.machine.specs.declared.Who.{Who}
use Rattle.machine.specs.declared.lent.Sets.{Sets}
use Rattle.machine.specs.declared.lent.Run.{Run}

-- ---- what the functions answer

-- a stop has nothing to tell beside what it left in the numbers of the run and the sets
abbrev pub stopped : Stopped
stopped = record {}

-- an expression: its value, or that the run stopped on the way to it
abbrev pub Value : Type 0
Value = Result ℤ Stopped

-- a command: that it is done, or that the run stopped
abbrev pub Outcome : Type 0
Outcome = Result (Unit {0}) Stopped

-- ---- the numbers of a run

-- the run's numbers with a stop in them
pub record Stops (run : Run) (number node : ℕ) (run' : Run) : Type 0 where
  pub left_same : run'.left ≡ run.left
  pub used_same : run'.used ≡ run.used
  pub number_is : run'.number ≡ number
  pub node_is : run'.node ≡ node

-- a cost is paid
pub record Paid (run : Run) (cost : ℕ) (run' : Run) : Type 0 where
  pub enough : cost ≤ run.left
  pub left_is : run'.left ≡ run.left - cost
  pub used_same : run'.used ≡ run.used

-- or there is not enough left for it: 21
pub record Short (run : Run) (cost node : ℕ) (run' : Run) : Type 0 where
  pub lacks : run.left < cost
  pub stops : Stops run 21 node run'

pub record Pays (run : Run) (cost node : ℕ) (r : Outcome) (run' : Run) : Type 0 where
  pub paid : r ≡ Ok tt → Paid run cost run'
  pub short : r ≡ Err stopped → Short run cost node run'

-- the sets of a stop with this number: those that its test compared where it is about labels, and else none
abbrev pub compared_in : ℕ → Sets → Compared
compared_in number sets = cond (about_labels number) (record { tested = sets.tested; bound = sets.bound }) no_sets

-- the stop that the numbers and the sets hold
abbrev pub halted : Run → Sets → Halt
halted run sets = record { number = run.number; node = run.node; compared = compared_in run.number sets }

-- ---- expressions

-- an expression's answer as the rules' end; it writes no record
unfoldable pub given : Value → Label → Run → Sets → State → Out (Lab ℤ)
given (Ok z) label run sets s = done [] (record { val = z; lab = label }) s
given (Err e) label run sets s = stop [] (halted run sets) s

-- With any fuel that is at least what is left of the budget, m gives this answer with some label. Rights and room do not bear on it, nor does
-- what a test of labels compared: its stops, 21, 22 and 31, are not about labels. Where the value is known, the lent label became its union
-- with that label; after a stop nobody looks at it, so nothing is said.
pub record Gives (m : ℕ → M (Lab ℤ)) (cells : ℕ → Lab Cell) (vars : ℕ → Lab ℤ) (run : Run) (before : Label) (r : Value) (run' : Run) (after : Label) : Type 0 where
  pub label : Label
  pub is : (fuel : ℕ) → run.left ≤ fuel → (rights : Rights) (room : ℕ) (sets : Sets)
      → m fuel (record { cells = cells; vars = vars; rights = rights; left = run.left; room = room })
      ≡ given r label run' sets (record { cells = cells; vars = vars; rights = rights; left = run'.left; room = room })
  pub within : run'.left ≤ run.left
  pub used_same : run'.used ≡ run.used
  pub joined : {z : ℤ} → r ≡ Ok z → after ≡ union before label

-- expression n, and what it gives once its own cost is paid
abbrev pub Evaluates : List ℕ → ℕ → ℕ → M (Lab ℤ)
Evaluates code n fuel = eval (script_of code) fuel n

abbrev pub Expresses : List ℕ → ℕ → ℕ → M (Lab ℤ)
Expresses code n fuel = expr (eval (script_of code) fuel) n (exp_of (node_at (script_of code) n))

-- ---- commands

-- the end of a command as the rules' end
unfoldable pub ended : Outcome → Run → Sets → List Rec → State → Out (Unit {0})
ended (Ok u) run sets records s = done records tt s
ended (Err e) run sets records s = stop records (halted run sets) s

-- what a run leaves of a store beside the state of the rules: the records that it writes are the new bytes of the trace, no more is left of the
-- budget than there was, the public set stays, and so does what a stop would take the cells back to; the trace is the one that was lent
pub record Leaves (x : Store) (records : List Rec) (x' : Store) : Type 0 where
  pub trace_is : x'.trace ≡ with_records x.trace x.run.used records
  pub used_is : x'.run.used ≡ x.run.used + 8 * length records
  pub fits : x'.run.used ≤ length x.trace
  pub within : x'.run.left ≤ x.run.left
  pub public_same : x'.sets.public ≡ x.sets.public
  pub undo_same : undo_of x'.amounts x'.sets ≡ undo_of x.amounts x.sets
  pub loan_same : x'.loan ≡ x.loan

-- With any fuel that is at least what is left of the budget, m goes from these variables and this store to those, with the answer r. Of a stop,
-- all that the rules give stands in the store.
pub record Does (m : ℕ → M (Unit {0})) (vars : ℕ → Lab ℤ) (x : Store) (r : Outcome) (vars' : ℕ → Lab ℤ) (x' : Store) : Type 0 where
  pub records : List Rec
  pub is : (fuel : ℕ) → x.run.left ≤ fuel → m fuel (state vars x) ≡ ended r x'.run x'.sets records (state vars' x')
  pub leaves : Leaves x records x'

-- whether it is the program's own: a command of a trigger fires only triggers above some other
abbrev pub is_own : Who → Bool
is_own who = eqb who.above 0

abbrev pub env : Label → Who → Env
env ctx who = record { ctx = ctx; user = who.user; above = who.above }

-- command n, and what it does once its own cost is paid
abbrev pub Enters : List ℕ → Label → Who → ℕ → ℕ → M (Unit {0})
Enters code ctx who n fuel = exec (script_of code) monitored fuel (env ctx who) n

abbrev pub Commands : List ℕ → Label → Who → ℕ → ℕ → M (Unit {0})
Commands code ctx who n fuel =
    command (script_of code) monitored (eval (script_of code) fuel) (exec (script_of code) monitored fuel) (env ctx who) n (cmd_of (node_at (script_of code) n))

-- what it does if it is not taken back
abbrev pub Stands : List ℕ → Label → Who → ℕ → ℕ → M (Unit {0})
Stands code ctx who n fuel =
    command (script_of code) standing (eval (script_of code) fuel) (exec (script_of code) monitored fuel) (env ctx who) n (cmd_of (node_at (script_of code) n))
