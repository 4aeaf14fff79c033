-- The ways through a grant or a revoke: the tests in their order, and what it does to the rights and the trace. Assumes nothing.
use mathlib.Core.Path.{◌≡◌, refl, sym, ap, ◌∙◌}
use mathlib.Core.List.{List, [], ◌∷◌, ◌++◌}
use mathlib.Core.Bool.{Bool, true, false, cond}
use Prim.Native.Nat.{ℕ, ◌+◌, ◌-◌, ◌*◌, ◌≤◌, ◌<◌}
use native.Mathlib.Decide.{ℕ_discrete}
use native.Mathlib.Omega.{arith}
use borrow.Author.Tests.{leb-true, eq-eqb, ne_eqb}
use lib.Dec.{eqb, leb}
use lib.IntN.{ℤ}
use lib.ListN.{length, take, drop}
use Rattle.std.specs.Prelude.{Ok, Err}
use Rattle.places.specs.Sets.{within}
use Rattle.book.specs.Bytes.{byte, le16, four}
use Rattle.book.specs.Records.{NodeRecord}
use Rattle.book.specs.Kinds.{between}
use Rattle.book.specs.Kinds as sorts
use Rattle.book.specs.Refusals.{node_at}
use Rattle.book.specs.Start.{public_set}
use Rattle.book.proofs.Chains.{both}
use Rattle.monitor.specs.Labelled.{Label, Lab}
use Rattle.monitor.specs.Run.{Rights, Rec, changed, stop, M, ◌>>◌, Test, plainly, inside, need, update, tell}
use Rattle.monitor.specs.Call.{rows}
use Rattle.monitor.specs.Syntax.{cmd_of}
use Rattle.monitor.specs.Rules.{region_places, granted, revoked, command}
use Rattle.machine.specs.Script.{script_of, Runnable, Node}
use Rattle.machine.specs.Store.{users_of, with_users, with_compared, cells_held, began, undo_of, rights_in, Store, store, state, Public}
use Rattle.machine.specs.Promises.{stopped, Outcome, Stops, Does, Commands}
use Rattle.machine.specs.declared.Who.{Who}
use Rattle.machine.specs.declared.lent.Right.{Right}
use Rattle.machine.specs.declared.lent.Right.TheVariants.{Read, Write}
use Rattle.machine.specs.declared.lent.Run.{Run}
use Rattle.machine.specs.declared.lent.Sets.{Sets}
use Rattle.machine.proofs.Nodes as nodes
use Rattle.machine.proofs.Nodes.{read_at, change_p, change_a, change_b}
use Rattle.machine.proofs.Stores.{users_same}
use Rattle.machine.proofs.Runs.{need_holds, need_fails, with_run, comes_to, does_as, stops_on, stops_outside}
use Rattle.grants.specs.Rights.{altered, right_of, kind_of, Alters}
use Rattle.traces.proofs.Records.{recorded_run, tell_full, tell_writes, changed_recorded}

-- ---- what the code reads

-- a node that grants or revokes
abbrev Of : List ℕ → ℕ → Type 0
Of code n = Node sorts.command (script_of code) n × (between 24 25 (node_at (script_of code) n).kind ≡ true)

module _ (code : List ℕ) (n : ℕ) (v : Runnable code) (g : Of code n) where
  read : nodes.Read code (16 * n) (node_at (script_of code) n)
  read = read_at code v n g.0.inside

  user_below : (node_at (script_of code) n).p < 8
  user_below = change_p (script_of code) v.sound n g.0.inside g.1

  -- what it asks of the node's fields
  pub asks : (16 * n + 16 ≤ length code) × (byte code (16 * n + 1) < 8) × (le16 code (16 * n + 2) < length (script_of code).regions)
  asks = (read.end, rw read.p user_below, rw read.a (change_a (script_of code) v.sound n g.0.inside g.1))

  -- the first byte tells which right it is
  right_named : right_of (byte code (16 * n + 4)) ≡ right_of (node_at (script_of code) n).b
  right_named =
      let b : ℕ = (node_at (script_of code) n).b in
      let same : byte code (16 * n + 4) ≡ b = omega (arith, read.b, leb-true b 2 (both (leb 1 b) _ (change_b (script_of code) v.sound n g.0.inside g.1)).1) in
      ap right_of same

-- ---- the sets

-- sets with other users' sets for a right, of which one is altered
pub alters : {sets sets' : Sets} {right : Right} {user : ℕ} {grants : Bool} {region : Label} (users : List (List ℕ)) → sets' ≡ with_users sets right users
    → rows users ≡ update (rows (users_of sets right)) user (altered grants (rows (users_of sets right) user) region) → Alters sets right user grants region sets'
alters {sets} {right = right} users e u = rw e (record {
  others_same = ap (with_users sets right) (sym (users_same sets right users));
  users_are = rw (users_same sets right users) u;
})

-- the users' sets for a right are neither the public set nor of the cells, nor of what a posting keeps
module _ (amounts : List ℤ) (sets : Sets) (users : List (List ℕ)) where
  cells_stay : (right : Right) → cells_held amounts (with_users sets right users) ≡ cells_held amounts sets
  unfolding with_users cells_held
  cells_stay Read = refl
  cells_stay Write = refl

  undo_stays : (right : Right) → undo_of amounts (with_users sets right users) ≡ undo_of amounts sets
  unfolding with_users undo_of began
  undo_stays Read = refl
  undo_stays Write = refl

  public_stays : (right : Right) → (with_users sets right users).public ≡ sets.public
  unfolding with_users
  public_stays Read = refl
  public_stays Write = refl

-- the rights after it are those of the rule
module _ (code : List ℕ) (p a b : ℕ) where
  abbrev by_rule : Bool → Rights → Rights
  by_rule grants = cond grants (granted (script_of code) p a b) (revoked (script_of code) p a b)

  rights_become : (sets sets' : Sets) (grants : Bool) → Alters sets (right_of b) p grants (region_places (script_of code) a) sets' → by_rule grants (rights_in sets) ≡ rights_in sets'
  unfolding users_of with_users granted revoked
  rights_become sets sets' grants = go grants (eqb b 1) refl
    where
      go : (grants reads : Bool) → eqb b 1 ≡ reads → Alters sets (cond reads Read Write) p grants (region_places (script_of code) a) sets'
          → by_rule grants (rights_in sets) ≡ rights_in sets'
      go true true e r = rw e (λ i. record { read = sym r.users_are i; write = rows (sym r.others_same i).write })
      go false true e r = rw e (λ i. record { read = sym r.users_are i; write = rows (sym r.others_same i).write })
      go true false e r = rw e (λ i. record { read = rows (sym r.others_same i).read; write = sym r.users_are i })
      go false false e r = rw e (λ i. record { read = rows (sym r.others_same i).read; write = sym r.users_are i })

-- ---- the rule, for a grant and a revoke alike

-- the kind of the record
rule_kind : (grants : Bool) (b : ℕ) → kind_of grants (right_of b) ≡ cond grants (cond (eqb b 1) 2 3) (cond (eqb b 1) 4 5)
rule_kind grants b = go (eqb b 1)
  where
    go : (reads : Bool) → kind_of grants (cond reads Read Write) ≡ cond grants (cond reads 2 3) (cond reads 4 5)
    go true = refl
    go false = refl

module _ (code : List ℕ) (ctx : Label) (n : ℕ) where
  abbrev node : NodeRecord
  node = node_at (script_of code) n

  abbrev grants : Bool
  grants = eqb node.kind 24

  abbrev change_record : Rec
  change_record = changed (kind_of grants (right_of node.b)) node.p node.a

  abbrev rights_after : Rights → Rights
  rights_after = by_rule code node.p node.a node.b grants

  abbrev test : Test
  test = inside true ctx (public_set (script_of code))

  abbrev alteration : ℕ → M (Unit {0})
  alteration user = do
    need (plainly (eqb user 0)) 28 n
    need test 29 n
    tell n change_record rights_after

  as_change : between 24 25 node.kind ≡ true → (who : Who) (fuel : ℕ) → Commands code ctx who n fuel ≡ alteration who.user
  unfolding command cmd_of
  as_change e who fuel = rw (rule_kind grants node.b) (go (ℕ_discrete node.kind 24))
    where
      go : Dec (node.kind ≡ 24) → Commands code ctx who n fuel ≡ (do
        need (plainly (eqb who.user 0)) 28 n
        need test 29 n
        tell n (changed (cond grants (cond (eqb node.b 1) 2 3) (cond (eqb node.b 1) 4 5)) node.p node.a) rights_after)
      go (yes k) = rw k
      go (no d) =
          let low : 24 ≤ node.kind = leb-true 24 node.kind (both (leb 24 node.kind) _ e).0 in
          let high : node.kind ≤ 25 = leb-true node.kind 25 (both (leb 24 node.kind) _ e).1 in
          let k : node.kind ≡ 25 = omega arith in
          rw k

  -- ---- the ways

  module _ (who : Who) (vars : ℕ → Lab ℤ) (x : Store) (runs : Runnable code) (room : x.run.used ≤ length x.trace) (public_is : Public code x.sets) (g : Of code n) where
    abbrev Ends : Outcome → Store → Type 0
    Ends r x' = Does (Commands code ctx who n) vars x r vars x'

    pub change_refused : {run : Run} → (who.user ≡ 0 → ⊥) → Stops x.run 28 n run → Ends (Err stopped) (with_run x run)
    change_refused h s = does_as (as_change g.1 who) (stops_on room refl s
        (λ fuel _. need_fails (plainly (eqb who.user 0)) 28 n _ (state vars x) (ne_eqb who.user 0 h)))

    module _ (eu : who.user ≡ 0) where
      pub change_hidden : {sets : Sets} {run : Run} → within ctx x.sets.public ≡ false
          → Stops x.run 29 n run → sets ≡ with_compared x.sets (record { tested = ctx; bound = x.sets.public })
          → Ends (Err stopped) (store x.amounts sets run x.trace x.loan)
      change_hidden h s c = does_as (as_change g.1 who) (stops_outside room refl s c
          (λ fuel _. need_holds (plainly (eqb who.user 0)) 28 n _ (state vars x) (eq-eqb who.user 0 eu)
          ∙ need_fails test 29 n _ (state vars x) (rw (← public_is) h)
          ∙ ap (λ (set : Label). stop [] (record { number = 29; node = n; compared = record { tested = ctx; bound = set } }) (state vars x)) (sym public_is)))

      module _ (h : within ctx x.sets.public ≡ true) where
        -- what is left is to tell
        allowed : {r : Outcome} {x' : Store} → Does (λ fuel. tell n change_record rights_after) vars x r vars x' → Ends r x'
        allowed t = does_as (as_change g.1 who) (comes_to
            (λ fuel _. need_holds (plainly (eqb who.user 0)) 28 n _ (state vars x) (eq-eqb who.user 0 eu)
            ∙ need_holds test 29 n _ (state vars x) (rw (← public_is) h)) t)

        pub change_full : {run : Run} → length x.trace < x.run.used + 8 → Stops x.run 30 n run → Ends (Err stopped) (with_run x run)
        change_full f s = allowed (tell_full n change_record rights_after room f s)

        -- what the code has done to the sets, and to the part of the trace that it is lent
        pub change_made : x.run.used + 8 ≤ length x.trace → {sets : Sets} {part : List ℕ}
            → Alters x.sets (right_of (byte code (16 * n + 4))) (byte code (16 * n + 1)) (eqb (byte code (16 * n)) 24) (region_places (script_of code) (le16 code (16 * n + 2))) sets
            → part ≡ kind_of (eqb (byte code (16 * n)) 24) (right_of (byte code (16 * n + 4))) ∷ byte code (16 * n + 1) ∷ le16 code (16 * n + 2) ∷ 0
            ∷ four 0 ++ drop 8 (take (length x.trace - x.run.used) (drop x.run.used x.trace))
            → Ends (Ok tt) (store x.amounts sets (recorded_run x.run)
            (take x.run.used x.trace ++ (part ++ drop (length x.trace - x.run.used) (drop x.run.used x.trace))) x.loan)
        change_made f {sets} new put =
            let r = read code n runs g in
            let named = right_named code n runs g in
            let made = rw (r.kind, r.p, r.a, named) at new in
            let users = users_of sets (right_of node.b) in
            let kind : kind_of (eqb (byte code (16 * n)) 24) (right_of (byte code (16 * n + 4))) ≡ kind_of grants (right_of node.b) = rw (r.kind, named) in
            allowed (tell_writes n change_record rights_after f
            (changed_recorded x.trace x.run.used f put kind r.p r.a)
            (sym (ap (cells_held x.amounts) made.others_same ∙ cells_stay x.amounts x.sets users (right_of node.b)))
            (rights_become code node.p node.a node.b x.sets sets grants made)
            (ap (λ (s : Sets). s.public) made.others_same ∙ public_stays x.amounts x.sets users (right_of node.b))
            (ap (undo_of x.amounts) made.others_same ∙ undo_stays x.amounts x.sets users (right_of node.b)))
