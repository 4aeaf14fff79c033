-- The ways through the write of a cell: key outside, no right, context not within the old label, written. Assumes nothing.
use mathlib.Core.Path.{◌≡◌, refl, ◌∙◌}
use mathlib.Core.List.{List}
use mathlib.Core.Bool.{true, false}
use Prim.Native.Nat.{ℕ, ◌≤◌, ◌<◌}
use native.Mathlib.Nat.{le_refl}
use native.Mathlib.Omega.{arith}
use lib.IntN.{ℤ}
use lib.ListN.{length}
use Rattle.std.specs.Prelude.{Ok, Err}
use Rattle.places.specs.Sets.{has, within}
use Rattle.monitor.specs.Labelled.{Label, Lab, under}
use Rattle.monitor.specs.Run.{Cell, State, ◌>>◌, plainly, inside, need, update, set_cell}
use Rattle.monitor.specs.Call.{rows}
use Rattle.monitor.specs.Rules.{Key, key_place, in_table, posting}
use Rattle.machine.specs.Store.{row_at, with_compared, cells_held, undo_of, rights_in, Store, store, state}
use Rattle.machine.specs.Promises.{stopped, Stops, ended, Does}
use Rattle.machine.specs.Writes.{Posted, posted_end, Posts}
use Rattle.machine.specs.declared.lent.Run.{Run}
use Rattle.machine.specs.declared.lent.Sets.{Sets}
use Rattle.machine.proofs.Runs.{with_run, next_look, guard_true, guard_false, need_holds, need_fails, quietly, stops_on, stops_outside}

module _ (n : ℕ) (ctx : Label) (user table : ℕ) (k : Key) (z : Lab Cell) where
  abbrev place : ℕ
  place = key_place table k

  -- past test 23
  pub keyed : in_table k ≡ true → (s : State) → posting true n ctx user table k z s
      ≡ (need (plainly (has (s.rights.write user) place)) 24 n >> set_cell true n ctx place (under ctx z)) s
  unfolding posting
  keyed e s = need_holds (plainly (in_table k)) 23 n _ s e ∙ next_look (λ s. s.rights) _ s

  module _ (x : Store) (u : x.run.used ≤ length x.trace) where
    abbrev Posting : Posted → Store → Type 0
    Posting r x' = Posts n ctx user table k z x r x'

    abbrev before : (ℕ → Lab ℤ) → State
    before vars = state vars x

    -- nothing was written, so that the answer has no place
    unwritten : {x' : Store} → ((vars : ℕ → Lab ℤ) → Does (λ fuel. posting true n ctx user table k z) vars x (Err stopped) vars x')
        → Posting (Err stopped) x'
    unfolding posted_end
    unwritten does = record {
      does = does;
      place_is = λ p q. cc;
      place_inside = λ p q. let none : ◌≡◌ {A = ℕ} 0 1 = cc in omega arith;
    }

    pub stops_23 : {run' : Run} → in_table k ≡ false → Stops x.run 23 n run' → Posting (Err stopped) (with_run x run')
    unfolding posting
    stops_23 e s = unwritten (λ vars. stops_on u refl s (λ fuel _. need_fails (plainly (in_table k)) 23 n _ (before vars) e))

    module _ (e : in_table k ≡ true) where
      pub stops_24 : {run' : Run} → has (row_at x.sets.write user) place ≡ false → Stops x.run 24 n run' → Posting (Err stopped) (with_run x run')
      unfolding rows
      stops_24 h s = unwritten (λ vars. stops_on u refl s (λ fuel _. keyed e (before vars) ∙ need_fails _ 24 n _ (before vars) h))

      module _ (h : has (row_at x.sets.write user) place ≡ true) where
        -- past test 24
        allowed : (vars : ℕ → Lab ℤ) → posting true n ctx user table k z (before vars) ≡ set_cell true n ctx place (under ctx z) (before vars)
        unfolding rows
        allowed vars = keyed e (before vars) ∙ need_holds _ 24 n _ (before vars) h

        pub stops_26 : {sets' : Sets} {run' : Run} → within ctx (row_at x.sets.labels place) ≡ false → Stops x.run 26 n run'
            → sets' ≡ with_compared x.sets (record { tested = ctx; bound = row_at x.sets.labels place }) → Posting (Err stopped) (store x.amounts sets' run' x.trace x.loan)
        unfolding set_cell cells_held
        stops_26 f s l = unwritten (λ vars. stops_outside u refl s l
            (λ fuel _. allowed vars ∙ guard_false (λ s. inside true ctx (s.cells place).lab) 26 n _ (before vars) f))

        pub posts : {q : ℕ} {amounts' : List ℤ} {sets' : Sets} → within ctx (row_at x.sets.labels place) ≡ true → q ≡ place → q < 512
            → cells_held amounts' sets' ≡ update (cells_held x.amounts x.sets) place (under ctx z) → rights_in sets' ≡ rights_in x.sets
            → sets'.public ≡ x.sets.public → undo_of amounts' sets' ≡ undo_of x.amounts x.sets → Posting (Ok q) (store amounts' sets' x.run x.trace x.loan)
        unfolding posted_end ended set_cell cells_held
        posts {q} {amounts'} {sets'} f at below stored rights public undo = record {
          does = λ vars. quietly u (le_refl x.run.left) refl public undo (λ fuel _. allowed vars
              ∙ guard_true (λ s. inside true ctx (s.cells place).lab) 26 n _ (before vars) f ∙ rw (stored, rights));
          place_is = λ p e. cc;
          place_inside = λ p e. let same : p ≡ q = cc in omega arith;
        }
