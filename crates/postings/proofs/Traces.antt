-- The write of a cell looks at no room and writes no record, so that what it does on one trace it does on any that has room for what is used
-- of it. Assumes nothing.
use mathlib.Core.Path.{◌≡◌, refl, sym, ap, ◌∙◌}
use mathlib.Core.List.{List, []}
use mathlib.Core.Bool.{Bool, true, false}
use Prim.Native.Nat.{ℕ, ◌≤◌}
use native.Mathlib.Nat.{le_refl}
use native.Mathlib.Omega.{arith}
use lib.IntN.{ℤ}
use lib.ListN.{length, replicate, length-replicate}
use Rattle.std.specs.Prelude.{Ok, Err}
use Rattle.places.specs.Sets.{has, within}
use Rattle.monitor.specs.Labelled.{Label, Lab, under}
use Rattle.monitor.specs.Run.{Cell, State, Rec, Out, done, stop, M, ◌>>◌, Test, plainly, inside, need, set_cell}
use Rattle.monitor.specs.Rules.{Key, key_place, in_table, posting}
use Rattle.machine.specs.Store.{Store, store, state, room_in}
use Rattle.machine.specs.Promises.{Outcome, ended, Does}
use Rattle.machine.specs.Writes.{Posted, posted_end, Posts}
use Rattle.machine.specs.declared.lent.Run.{Run}
use Rattle.machine.specs.declared.lent.Sets.{Sets}
use Rattle.machine.proofs.Runs.{guard_true, guard_false, need_holds, need_fails, quietly}
use Rattle.postings.proofs.Postings.{keyed}

-- a state with this room
with_room : ℕ → State → State
with_room room s = record { cells = s.cells; vars = s.vars; rights = s.rights; left = s.left; room = room }

-- an end with this room, before which no record was written
unrecorded : ℕ → Out (Unit {0}) → Out (Unit {0})
unrecorded room (done records a s) = done [] a (with_room room s)
unrecorded room (stop records h s) = stop [] h (with_room room s)

unrecorded_ended : (room : ℕ) (o : Outcome) (run : Run) (sets : Sets) (records : List Rec) (s : State)
    → unrecorded room (ended o run sets records s) ≡ ended o run sets [] (with_room room s)
unfolding unrecorded ended
unrecorded_ended room (Ok a) run sets records s = refl
unrecorded_ended room (Err e) run sets records s = refl

records_of : Out (Unit {0}) → List Rec
records_of (done records a s) = records
records_of (stop records h s) = records

records_ended : (o : Outcome) (run : Run) (sets : Sets) (records : List Rec) (s : State) → records_of (ended o run sets records s) ≡ records
unfolding records_of ended
records_ended (Ok a) run sets records s = refl
records_ended (Err e) run sets records s = refl

-- a run that with this room goes the same way, and writes no record
abbrev Unrecorded : M (Unit {0}) → ℕ → State → Type 0
Unrecorded m room s = m (with_room room s) ≡ unrecorded room (m s)

-- a test, and then such a run
need_unrecorded : (x : Test) (number n : ℕ) (m : M (Unit {0})) (room : ℕ) (s : State) → Unrecorded m room s → Unrecorded (need x number n >> m) room s
unfolding unrecorded with_room
need_unrecorded x number n m room s w = go x.passes refl
  where
    go : (b : Bool) → x.passes ≡ b → Unrecorded (need x number n >> m) room s
    go true e = need_holds x number n (λ _. m) (with_room room s) e ∙ w ∙ sym (ap (unrecorded room) (need_holds x number n (λ _. m) s e))
    go false e = need_fails x number n (λ _. m) (with_room room s) e ∙ sym (ap (unrecorded room) (need_fails x number n (λ _. m) s e))

-- a trace that is full: since a write needs no room, it is long enough for one
abbrev pub full : ℕ → List ℕ
full used = replicate used 0

pub full_fits : (used : ℕ) → used ≤ length (full used)
full_fits used = omega (arith, length-replicate {A = ℕ} used 0)

module _ (n : ℕ) (ctx : Label) (user table : ℕ) (k : Key) (z : Lab Cell) where
  abbrev place : ℕ
  place = key_place table k

  abbrev writing : M (Unit {0})
  writing = posting true n ctx user table k z

  -- test 26 and the write
  abbrev written : M (Unit {0})
  written = set_cell true n ctx place (under ctx z)

  abbrev within_old : State → Test
  within_old s = inside true ctx (s.cells place).lab

  written_unrecorded : (room : ℕ) (s : State) → Unrecorded written room s
  unfolding set_cell unrecorded with_room
  written_unrecorded room s = go (within ctx (s.cells place).lab) refl
    where
      go : (b : Bool) → within ctx (s.cells place).lab ≡ b → Unrecorded written room s
      go true e = guard_true within_old 26 n _ (with_room room s) e ∙ sym (ap (unrecorded room) (guard_true within_old 26 n _ s e))
      go false e = guard_false within_old 26 n _ (with_room room s) e ∙ sym (ap (unrecorded room) (guard_false within_old 26 n _ s e))

  writing_unrecorded : (room : ℕ) (s : State) → Unrecorded writing room s
  unfolding posting unrecorded with_room
  writing_unrecorded room s = go (in_table k) refl
    where
      may : Test
      may = plainly (has (s.rights.write user) place)

      go : (b : Bool) → in_table k ≡ b → Unrecorded writing room s
      go true e = keyed n ctx user table k z e (with_room room s) ∙ need_unrecorded may 24 n written room s (written_unrecorded room s)
          ∙ sym (ap (unrecorded room) (keyed n ctx user table k z e s))
      go false e = need_fails (plainly (in_table k)) 23 n _ (with_room room s) e ∙ sym (ap (unrecorded room) (need_fails (plainly (in_table k)) 23 n _ s e))

  module _ {x x' : Store} {r : Posted} (p : Posts n ctx user table k z x r x') where
    module _ (vars : ℕ → Lab ℤ) where
      abbrev d : Does (λ fuel. writing) vars x (posted_end r) vars x'
      d = p.does vars

      -- what the write ends with, whatever the room
      ends : (room : ℕ) → writing (with_room room (state vars x)) ≡ ended (posted_end r) x'.run x'.sets [] (with_room room (state vars x'))
      ends room =
          writing_unrecorded room (state vars x) ∙ ap (unrecorded room) (d.is x.run.left (le_refl x.run.left))
          ∙ unrecorded_ended room (posted_end r) x'.run x'.sets d.records (state vars x')

      none_recorded : d.records ≡ []
      unfolding with_room
      none_recorded =
          sym (records_ended (posted_end r) x'.run x'.sets d.records (state vars x'))
          ∙ ap records_of (sym (d.is x.run.left (le_refl x.run.left)) ∙ ends (room_in x.trace x.run.used))
          ∙ records_ended (posted_end r) x'.run x'.sets [] (with_room (room_in x.trace x.run.used) (state vars x'))

      -- a write uses none of the trace, whatever the variables
      pub write_uses_none : x'.run.used ≡ x.run.used
      write_uses_none = omega (arith, d.leaves.used_is, ap length none_recorded)

    -- what the write does on any trace that has room for what is used of it
    pub on_any : (trace : List ℕ) (loan : ℕ) → x.run.used ≤ length trace
        → Posts n ctx user table k z (store x.amounts x.sets x.run trace loan) r (store x'.amounts x'.sets x'.run trace loan)
    unfolding with_room
    on_any trace loan u = record {
      does = λ vars. quietly u (d vars).leaves.within (write_uses_none vars) (d vars).leaves.public_same (d vars).leaves.undo_same
          (λ fuel _. ends vars (room_in trace x.run.used) ∙ rw (write_uses_none vars));
      place_is = p.place_is;
      place_inside = p.place_inside;
    }
