-- Programs one after another, each with variables of its own. Assumes nothing.
use mathlib.Core.Path.{◌≡◌, sym, ◌∙◌}
use mathlib.Core.List.{List, []}
use mathlib.Core.Bool.{true}
use Prim.Native.Nat.{ℕ, ◌+◌, ◌≤◌, ◌<◌}
use native.Mathlib.Numerals.{add-one}
use lib.IntN.{ℤ, pos}
use lib.ListN.{length, get_or, drop, replicate, drop_of_length-le}
use lib.Seq.{drop-cons}
use Rattle.std.specs.Prelude.{Ok, Err}
use Rattle.book.specs.Refusals.{no_program}
use Rattle.monitor.specs.Labelled.{bottom, Lab, lit}
use Rattle.monitor.specs.Run.{◌>>◌, each, own}
use Rattle.monitor.specs.Rules.{program}
use Rattle.machine.specs.Script.{script_of}
use Rattle.machine.specs.Store.{idle, vars_of, Store, Public}
use Rattle.machine.specs.Promises.{Outcome, stopped, Does, Enters}
use Rattle.machine.proofs.Runs.{does_as, sets_vars, then_stops, then_goes, own_does}
use Rattle.commands.proofs.Steps.{does_keeps, idle_on}
use Rattle.commands.proofs.Firing.{sixteen_are}
use Rattle.programs.specs.Programs.{Program, Programs}

-- ---- one program

-- the command at the root of program i, with the program's user, is the program
pub program_does : (code : List ℕ) (i : ℕ) {user root : ℕ} {vars' : ℕ → Lab ℤ} {x x' : Store} {r : Outcome}
    → user ≡ (get_or (script_of code).programs i no_program).user → root ≡ (get_or (script_of code).programs i no_program).root
    → Does (Enters code bottom (record { user = user; above = 0 }) root) (vars_of (record { values = replicate 16 (pos 0); labels = replicate 16 bottom })) x r vars' x'
    → (vars : ℕ → Lab ℤ) → Does (Program code i) vars x r vars x'
unfolding program lit
program_does code i u e d vars =
    does_as (λ fuel j. own (sym (sixteen_are bottom) j) (Enters code bottom (record { user = sym u j; above = 0 }) (sym e j) fuel)) (own_does d)

-- ---- the programs from number i on

-- What a run of the programs has come to before program i: what those from i on do from here, all of them do from the start.
pub record Reached (code : List ℕ) (start now : Store) (i : ℕ) : Type 0 where
  pub public_is : Public code now.sets
  pub idles : idle now.sets ≡ true
  pub room : now.run.used ≤ length now.trace
  pub rest : (vars : ℕ → Lab ℤ) {r : Outcome} {x : Store} → Does (Programs code i) vars now r vars x → Does (Programs code 0) vars start r vars x

module _ {code : List ℕ} {start now : Store} {i : ℕ} (reached : Reached code start now i) where
  pub none_left : length (script_of code).programs ≤ i → (vars : ℕ → Lab ℤ) → Does (Programs code 0) vars start (Ok tt) vars now
  unfolding each
  none_left h vars =
      let none : drop i (script_of code).programs ≡ [] = drop_of_length-le (script_of code).programs h in
      reached.rest vars (sets_vars reached.room (λ fuel _. rw none))

  module _ (h : i < length (script_of code).programs) {r : Outcome} {x : Store} (d : (vars : ℕ → Lab ℤ) → Does (Program code i) vars now r vars x) where
    -- program i, and then those from i + 1 on
    first : (fuel : ℕ) → Programs code i fuel ≡ (Program code i fuel >> Programs code (i + 1) fuel)
    unfolding each
    first fuel = rw (drop-cons (script_of code).programs i no_program h, add-one i)

    pub first_stops : r ≡ Err stopped → (vars : ℕ → Lab ℤ) → Does (Programs code 0) vars start (Err stopped) vars x
    first_stops e vars = rw e at (reached.rest vars (does_as first (then_stops (Programs code (i + 1)) (d vars) e)))

    pub first_goes : r ≡ Ok tt → Reached code start x (i + 1)
    first_goes e =
        let kept = does_keeps (d (λ p. lit (pos 0))) in
        record { public_is = kept.public_same ∙ reached.public_is; idles = idle_on reached.idles kept; room = kept.fits; rest = λ vars w. reached.rest vars (does_as first (then_goes (d vars) e w)) }
