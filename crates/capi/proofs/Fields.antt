-- The numbers of nodes that an accepted book names are below 1,024. Assumes nothing.
use mathlib.Core.Path.{◌≡◌, sym, subst}
use mathlib.Core.List.{List}
use mathlib.Core.Bool.{Bool, true, false, not, ◌&&◌, cond}
use Prim.Native.Nat.{ℕ, ◌≤◌, ◌<◌}
use native.Mathlib.Decide.{dec_lt}
use native.Mathlib.Omega.{arith}
use lib.Dec.{eqb, leb, ltb, lit<}
use lib.ListN.{length, get_or, get_or-eq_default}
use borrow.Author.Tests.{ltb-true, leb-true, eqb-true, not-false}
use Rattle.book.specs.Records.{Book, NodeRecord, TriggerRecord}
use Rattle.book.specs.Kinds.{expression, command, variable, table, user, region, right, no_kind, between, sort_of, fields_of}
use Rattle.book.specs.Layout.{count, decode}
use Rattle.book.specs.Refusals.{node_at, sorted, no_node, field_fits, node_fits, is_command, no_program, program_fits, bad_program, no_trigger, trigger_fits, bad_trigger, verdict}
use Rattle.std.specs.Prelude.{Ok}
use Rattle.book.proofs.Accepted.{accepted, placed}
use Rattle.book.proofs.Chains.{both}
use Rattle.book.proofs.Decoded.{count_regions, count_nodes, count_programs, count_triggers}
use Rattle.monitor.specs.Rules.{trigger_at}
use Rattle.monitor.specs.Call.{script}

-- the fields that may name children
pub record Fields (x : NodeRecord) : Type 0 where
  pub a : x.a < 1024
  pub b : x.b < 1024
  pub c : x.c < 1024
  pub d : x.d < 1024

pub record Named (b : Book) : Type 0 where
  pub nodes : (i : ℕ) → Fields (node_at b i)
  pub programs : (i : ℕ) → i < length b.programs → (get_or b.programs i no_program).root < 1024
  pub triggers : (n : ℕ) → (trigger_at b n).body < 1024

-- in whatever role
low_field : (b : Book) (n role v : ℕ) → n ≤ 1024 → length b.regions ≤ 1024 → field_fits b n role v ≡ true → v < 1024
unfolding field_fits
low_field b n role v few regions = go (between expression command role) (eqb role variable) (between table user role) (eqb role region) (eqb role right)
  where
    go : (child var small area kind : Bool)
        → cond child (ltb v n && sorted b role v) (cond var (ltb v 16) (cond small (ltb v 8) (cond area (ltb v (length b.regions)) (cond kind (between 1 2 v) (eqb v 0))))) ≡ true
        → v < 1024
    go true var small area kind e = omega (arith, ltb-true v n (both (ltb v n) (sorted b role v) e).0)
    go false true small area kind e = omega (arith, ltb-true v 16 e)
    go false false true area kind e = omega (arith, ltb-true v 8 e)
    go false false false true kind e = omega (arith, ltb-true v (length b.regions) e)
    go false false false false true e = omega (arith, leb-true v 2 (both (leb 1 v) (leb v 2) e).1)
    go false false false false false e = omega (arith, eqb-true v 0 e)

low_fields : (b : Book) (n : ℕ) → n ≤ 1024 → length b.regions ≤ 1024 → node_fits b n ≡ true → Fields (node_at b n)
unfolding node_fits
low_fields b n few regions e =
    let x = node_at b n in
    let u = fields_of x.kind in
    let kind = both (not (eqb (sort_of x.kind) no_kind)) _ e in
    let p = both (field_fits b n u.p x.p) _ kind.1 in
    let a = both (field_fits b n u.a x.a) _ p.1 in
    let b' = both (field_fits b n u.b x.b) _ a.1 in
    let c = both (field_fits b n u.c x.c) _ b'.1 in
    let d = both (field_fits b n u.d x.d) _ c.1 in
    record {
      a = low_field b n u.a x.a few regions a.0;
      b = low_field b n u.b x.b few regions b'.0;
      c = low_field b n u.c x.c few regions c.0;
      d = low_field b n u.d x.d few regions d.0;
    }

low_command : (b : Book) (i : ℕ) → length b.nodes ≤ 1024 → is_command b i ≡ true → i < 1024
unfolding is_command
low_command b i few e = omega (arith, ltb-true i (length b.nodes) (both (ltb i (length b.nodes)) _ e).0)

module _ (s : List ℕ) (v : verdict s ≡ Ok tt) where
  few_nodes : length (decode s).nodes ≤ 1024
  few_nodes = omega (arith, count_nodes s, (placed s v).few_nodes)

  few_regions : length (decode s).regions ≤ 1024
  few_regions = omega (arith, count_regions s, (placed s v).few_regions)

  -- there is no other node
  named_nodes : (i : ℕ) → Dec (i < count s 3) → Fields (node_at (decode s) i)
  named_nodes i (yes h) =
      low_fields (decode s) i (omega (arith, (placed s v).few_nodes)) few_regions (not-false _ ((accepted s v).nodes_ok i h))
  named_nodes i (no g) =
      let beyond : length (decode s).nodes ≤ i = omega (arith, count_nodes s) in
      subst Fields (sym (get_or-eq_default (decode s).nodes no_node beyond)) (record { a = lit< tt; b = lit< tt; c = lit< tt; d = lit< tt })

  named_program : (i : ℕ) → i < length (decode s).programs → (get_or (decode s).programs i no_program).root < 1024
  unfolding bad_program program_fits
  named_program i h =
      let p = get_or (decode s).programs i no_program in
      let e = not-false _ ((accepted s v).programs_ok i (omega (arith, count_programs s))) in
      let user = both (leb p.user 7) _ e in
      low_command (decode s) p.root few_nodes (both (eqb p.zero 0) _ user.1).1

  -- there is no other trigger
  named_trigger : (n : ℕ) → Dec (n < count s 5) → (trigger_at (decode s) n).body < 1024
  unfolding bad_trigger trigger_fits
  named_trigger n (yes h) =
      let t = trigger_at (decode s) n in
      let e = not-false _ ((accepted s v).triggers_ok n h) in
      let region = both (ltb t.region (length (decode s).regions)) _ e in
      let event = both (between 1 2 t.event) _ region.1 in
      let user = both (leb t.user 7) _ event.1 in
      let zero = both (eqb t.zero 0) _ user.1 in
      low_command (decode s) t.body few_nodes (both (is_command (decode s) t.body) _ zero.1).0
  named_trigger n (no g) =
      let beyond : length (decode s).triggers ≤ n = omega (arith, count_triggers s) in
      subst (λ (t : TriggerRecord). t.body < 1024) (sym (get_or-eq_default (decode s).triggers no_trigger beyond)) (lit< tt)

  pub named : Named (script (decode s))
  unfolding script
  named = record {
    nodes = λ i. named_nodes i (dec_lt i (count s 3));
    programs = named_program;
    triggers = λ n. named_trigger n (dec_lt n (count s 5));
  }
