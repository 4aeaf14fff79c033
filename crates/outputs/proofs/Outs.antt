-- The ways through an out: its expression stops, the user may not read the value, the trace is full, the record is written.
-- Assumes nothing.
use mathlib.Core.Path.{◌≡◌, refl, ap, ◌∙◌}
use mathlib.Core.List.{List, [], ◌∷◌, ◌++◌}
use mathlib.Core.Bool.{Bool, true, false}
use Prim.Native.Nat.{ℕ, ◌+◌, ◌-◌, ◌*◌, ◌≤◌, ◌<◌}
use native.Mathlib.Omega.{arith}
use lib.IntN.{ℤ}
use lib.ListN.{length, take, drop}
use Rattle.std.specs.Prelude.{Ok, Err}
use Rattle.places.specs.Sets.{union, within}
use Rattle.book.specs.Bytes.{byte, le16, four, bits32}
use Rattle.book.specs.Records.{NodeRecord}
use Rattle.book.specs.Kinds as sorts
use Rattle.book.specs.Refusals.{node_at}
use Rattle.book.specs.Start.{public_set}
use Rattle.monitor.specs.Labelled.{Label, Lab}
use Rattle.monitor.specs.Run.{Rights, State, said, Compared, stop, M, ◌>>=◌, ◌>>◌, look, Test, inside, need, tell}
use Rattle.monitor.specs.Call.{rows}
use Rattle.monitor.specs.Syntax.{out, cmd_of}
use Rattle.monitor.specs.Rules.{command}
use Rattle.machine.specs.Script.{script_of, Runnable, Node}
use Rattle.machine.specs.Store.{row_at, with_compared, cells_held, undo_of, rights_in, Store, store, state, Public}
use Rattle.machine.specs.Promises.{stopped, Value, Outcome, Stops, Gives, Evaluates, Does, Commands}
use Rattle.machine.specs.declared.Who.{Who}
use Rattle.machine.specs.declared.lent.Run.{Run}
use Rattle.machine.specs.declared.lent.Sets.{Sets}
use Rattle.machine.proofs.Nodes.{command_is, Read, read_at, out_a}
use Rattle.machine.proofs.Runs.{next_look, need_holds, need_fails, with_run, comes_to, does_as, stops_outside, value_stops, value_goes}
use Rattle.traces.proofs.Records.{recorded_run, tell_full, tell_writes, said_recorded}

-- the node of its value, as the code reads it
pub told_value : (code : List ℕ) (n : ℕ) → Runnable code → Node sorts.command (script_of code) n × ((node_at (script_of code) n).kind ≡ 23) → {a : ℕ} → a ≡ le16 code (16 * n + 2)
    → Node sorts.expression (script_of code) a
told_value code n v g e = rw (e, (read_at code v n g.0.inside).a) (out_a (script_of code) v.sound n g.0.inside g.1).node

module _ (code : List ℕ) (ctx : Label) (n : ℕ) where
  abbrev node : NodeRecord
  node = node_at (script_of code) n

  -- once the value is known
  abbrev reader : Lab ℤ → Rights → Test
  reader y r = inside true (union ctx y.lab) (union (public_set (script_of code)) (r.read node.p))

  abbrev says : Lab ℤ → M (Unit {0})
  says y = do
    r ← look (λ s. s.rights)
    need (reader y r) 27 n
    tell n (said node.p y.val) (λ r. r)

  -- the node a of the expression, and what it gives
  module _ (who : Who) (vars : ℕ → Lab ℤ) (x : Store) (runs : Runnable code) (room : x.run.used ≤ length x.trace)
      (public_is : Public code x.sets) (g : Node sorts.command (script_of code) n × (node.kind ≡ 23)) {a : ℕ} (ea : a ≡ le16 code (16 * n + 2))
      {v : Value} {run : Run} {label : Label} (d : Gives (Evaluates code a) (cells_held x.amounts x.sets) vars x.run ctx v run label) where
    abbrev Ends : Outcome → Store → Type 0
    Ends r x' = Does (Commands code ctx who n) vars x r vars x'

    read : Read code (16 * n) node
    read = read_at code runs n g.0.inside

    as_out : (fuel : ℕ) → Commands code ctx who n fuel ≡ (Evaluates code a fuel >>= says)
    unfolding command cmd_of
    as_out fuel = command_is code ctx who n {y = out node.p node.a} (rw g.1) fuel ∙ rw (ea, read.a)

    pub out_fails : v ≡ Err stopped → Ends (Err stopped) (with_run x run)
    out_fails e = does_as as_out (value_stops d (λ _. says) e room)

    -- its value, and the user p
    module _ {z : ℤ} (e : v ≡ Ok z) {p : ℕ} (ep : p ≡ byte code (16 * n + 1)) where
      -- what the code tests
      abbrev readable : Label
      readable = union x.sets.public (row_at x.sets.read p)

      abbrev fine : Bool
      fine = within label readable

      abbrev test : Test
      test = reader (record { val = z; lab = d.label }) (rights_in x.sets)

      -- is what the rule tests
      same_sets : test.compared ≡ record { tested = label; bound = readable }
      unfolding rows
      same_sets =
          let user : p ≡ node.p = ep ∙ read.p in
          rw (← d.joined e, ← public_is, ← user)

      same_test : {b : Bool} → fine ≡ b → test.passes ≡ b
      same_test h = ap (λ (c : Compared). within c.tested c.bound) same_sets ∙ h

      u : run.used ≤ length x.trace
      u = omega (arith, d.used_same, room)

      abbrev now : State
      now = state vars (with_run x run)

      pub out_hidden : {sets : Sets} {run' : Run} → fine ≡ false → Stops run 27 n run' → sets ≡ with_compared x.sets (record { tested = label; bound = readable })
          → Ends (Err stopped) (store x.amounts sets run' x.trace x.loan)
      out_hidden h s c = does_as as_out (value_goes d (λ _. says) z e (stops_outside u refl s c
          (λ fuel _. next_look (λ s. s.rights) _ now ∙ need_fails test 27 n _ now (same_test h)
          ∙ ap (λ c. stop [] (record { number = 27; node = n; compared = c }) now) same_sets)))

      module _ (h : fine ≡ true) where
        -- what is left is to tell
        heard : {r : Outcome} {x' : Store} → Does (λ fuel. tell n (said node.p z) (λ r. r)) vars (with_run x run) r vars x' → Ends r x'
        heard t = does_as as_out (value_goes d (λ _. says) z e (comes_to
            (λ fuel _. next_look (λ s. s.rights) _ now ∙ need_holds test 27 n _ now (same_test h)) t))

        pub out_full : {run' : Run} → length x.trace < run.used + 8 → Stops run 30 n run' → Ends (Err stopped) (with_run x run')
        out_full f s = heard (tell_full n (said node.p z) (λ r. r) u f s)

        -- the part of the trace that the code has lent on
        pub out_tells : {part : List ℕ} {bits : ℕ} → run.used + 8 ≤ length x.trace
            → part ≡ 1 ∷ p ∷ 0 ∷ 0 ∷ four bits ++ drop 8 (take (length x.trace - run.used) (drop run.used x.trace)) → bits ≡ bits32 z
            → Ends (Ok tt) (store x.amounts x.sets (recorded_run run)
            (take run.used x.trace ++ (part ++ drop (length x.trace - run.used) (drop run.used x.trace))) x.loan)
        out_tells f put eb = heard (tell_writes n (said node.p z) (λ r. r) f (said_recorded x.trace run.used f z put (ep ∙ read.p) eb)
            (λ i. cells_held x.amounts x.sets) (λ i. rights_in x.sets) (λ i. x.sets.public) (λ i. undo_of x.amounts x.sets))
