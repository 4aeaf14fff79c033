-- The parts of commands that the code takes apart.
use Rattle.std.specs.Prelude.{◌≡◌, List, cond, ℕ, ◌<◌, eqb, ℤ, Option, Some, None, Result, Ok, Err}
use Rattle.book.specs.Records.{NodeRecord}
use Rattle.book.specs.Kinds.{command}
use Rattle.book.specs.Refusals.{node_at, is_zero}
use Rattle.monitor.specs.Labelled.{Label, Lab}
use Rattle.monitor.specs.Run.{Cell}
use Rattle.machine.specs.Script.{script_of, Node}
use Rattle.machine.specs.Store.{idle, Public}
use Rattle.machine.specs.Promises.{Value, Gives, Evaluates, is_own}
use Rattle.machine.specs.declared.Stopped.{Stopped}
use Rattle.machine.specs.declared.Who.{Who}
use Rattle.machine.specs.declared.lent.Run.{Run}
use Rattle.machine.specs.declared.lent.Sets.{Sets}

-- what a command that is entered asks: the public set is that of the script, its node is a command, its user is one of the eight, and a posting is
-- under way unless it is the program's own
pub record Ready (code : List ℕ) (who : Who) (n : ℕ) (sets : Sets) : Type 0 where
  pub public_is : Public code sets
  pub node : Node command (script_of code) n
  pub user_below : who.user < 8
  pub own_is : idle sets ≡ is_own who

-- where a test leads: a command to enter, the end of the command whose test it is, or a stop on the way
abbrev pub Next : Type 0
Next = Result (Option ℕ) Stopped

-- where the value of its test leads an if (19) or a while (20)
unfoldable pub leads : NodeRecord → Value → Next
leads x (Ok z) = cond (is_zero z) (cond (eqb x.kind 20) (Ok None) (Ok (Some x.c))) (Ok (Some x.b))
leads x (Err e) = Err e

-- the test of an if or a while is evaluated, and its label joined to the context that is lent
pub record Decides (code : List ℕ) (n : ℕ) (cells : ℕ → Lab Cell) (vars : ℕ → Lab ℤ) (run : Run) (before : Label) (r : Next) (run' : Run) (after : Label) : Type 0 where
  pub answer : Value
  pub gives : Gives (Evaluates code (node_at (script_of code) n).a) cells vars run before answer run' after
  pub is : r ≡ leads (node_at (script_of code) n) answer
