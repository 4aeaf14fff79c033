-- The record at the end of an out, a grant or a revoke: stop 30 where the trace is full, and else its bytes. Assumes nothing.
use mathlib.Core.Path.{◌≡◌, refl, ◌∙◌}
use mathlib.Core.List.{List, [], ◌∷◌, ◌++◌}
use Prim.Native.Nat.{ℕ, ◌+◌, ◌-◌, ◌≤◌, ◌<◌}
use native.Mathlib.Nat.{le_refl}
use Rattle.std.specs.Prelude.{Ok, Err}
use lib.Dec.{leb}
use lib.IntN.{ℤ}
use lib.ListN.{length, take, drop}
use Rattle.book.specs.Bytes.{four, bits32}
use Rattle.monitor.specs.Labelled.{Lab}
use Rattle.monitor.specs.Run.{Rights, Rec, said, changed, done, plainly, commit, recorded, tell}
use Rattle.monitor.specs.Call.{record_bytes}
use Rattle.machine.specs.Store.{cells_held, undo_of, rights_in, Store, store, state, room_in, with_records}
use Rattle.machine.specs.Promises.{stopped, Stops, ended, Does}
use Rattle.machine.specs.declared.lent.Run.{Run}
use Rattle.machine.specs.declared.lent.Sets.{Sets}
use Rattle.machine.proofs.Runs.{guard_true, guard_false, with_run, stops_on}
use Rattle.machine.proofs.Traces.{record_added, no_room, some_room, room_after}

-- the numbers of a run after one more record
abbrev pub recorded_run : Run → Run
recorded_run run = record { left = run.left; used = run.used + 8; number = run.number; node = run.node }

module _ (n : ℕ) (r : Rec) (f : Rights → Rights) {vars : ℕ → Lab ℤ} {x : Store} where
  pub tell_full : {run : Run} → x.run.used ≤ length x.trace → length x.trace < x.run.used + 8 → Stops x.run 30 n run
      → Does (λ fuel. tell n r f) vars x (Err stopped) vars (with_run x run)
  unfolding tell
  tell_full u h s =
      stops_on u refl s
      (λ fuel _. guard_false (λ s. plainly (leb 1 s.room)) 30 n (commit (r ∷ []) (recorded f)) (state vars x) (no_room x.trace x.run.used h))

  -- the sets after it have the same cells, the same public set and the same to take back, and the rights that f gives
  pub tell_writes : {sets : Sets} {trace : List ℕ} → x.run.used + 8 ≤ length x.trace
      → trace ≡ with_records x.trace x.run.used (r ∷ []) → cells_held x.amounts x.sets ≡ cells_held x.amounts sets
      → f (rights_in x.sets) ≡ rights_in sets → sets.public ≡ x.sets.public → undo_of x.amounts sets ≡ undo_of x.amounts x.sets
      → Does (λ fuel. tell n r f) vars x (Ok tt) vars (store x.amounts sets (recorded_run x.run) trace x.loan)
  unfolding tell ended
  tell_writes {sets = sets} {trace = trace} h et ec ef ep eu =
      let used : ℕ = x.run.used in
      let room : room_in x.trace used - 1 ≡ room_in trace (used + 8) = rw et (room_after x.trace used h r) in
      record {
        records = r ∷ [];
        is = λ fuel _. guard_true (λ s. plainly (leb 1 s.room)) 30 n (commit (r ∷ []) (recorded f)) (state vars x) (some_room x.trace used h)
            ∙ (λ i. done (r ∷ []) tt (record { cells = ec i; vars = vars; rights = ef i; left = x.run.left; room = room i }));
        leaves = record { trace_is = et; used_is = refl; fits = h; within = le_refl x.run.left; public_same = ep; undo_same = eu; loan_same = refl };
      }

-- ---- the bytes, as they stand in the part that is lent on

module _ (trace : List ℕ) (used : ℕ) (h : used + 8 ≤ length trace) where
  abbrev rest : List ℕ
  rest = drop 8 (take (length trace - used) (drop used trace))

  -- the trace, once the part is back
  abbrev returned : List ℕ → List ℕ
  returned part = take used trace ++ (part ++ drop (length trace - used) (drop used trace))

  pub said_recorded : {part : List ℕ} {p p' bits : ℕ} (z : ℤ) → part ≡ 1 ∷ p' ∷ 0 ∷ 0 ∷ four bits ++ rest → p' ≡ p → bits ≡ bits32 z
      → returned part ≡ with_records trace used (said p z ∷ [])
  unfolding record_bytes
  said_recorded {p = p} z e ep eb = record_added trace used (said p z) h (e ∙ (λ i. 1 ∷ ep i ∷ 0 ∷ 0 ∷ four (eb i) ++ rest))

  pub changed_recorded : {part : List ℕ} {k k' p p' a a' : ℕ} → part ≡ k' ∷ p' ∷ a' ∷ 0 ∷ four 0 ++ rest → k' ≡ k → p' ≡ p → a' ≡ a
      → returned part ≡ with_records trace used (changed k p a ∷ [])
  unfolding record_bytes
  changed_recorded {k = k} {p = p} {a = a} e ek ep ea = record_added trace used (changed k p a) h (e ∙ (λ i. ek i ∷ ep i ∷ ea i ∷ 0 ∷ four 0 ++ rest))
