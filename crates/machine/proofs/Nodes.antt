-- What is known of a node that is being run: its record in the script, its cost, and for each kind what its fields name.
-- Assumes nothing.
use mathlib.Core.Path.{◌≡◌, sym, ap, ◌∙◌}
use mathlib.Core.List.{List}
use mathlib.Core.Bool.{true, false, not, ◌&&◌, false≢true, and-false}
use Prim.Native.Nat.{ℕ, ◌+◌, ◌*◌, ◌≤◌, ◌<◌}
use native.Mathlib.Decide.{dec_lt, ℕ_discrete}
use native.Mathlib.Omega.{arith}
use lib.Dec.{eqb, leb, ltb, lit<}
use lib.ListN.{length}
use borrow.Author.Tests.{eqb-true, leb-true, ltb-true, lt-leb, ne_eqb, not-false}
use Rattle.book.specs.Bytes.{byte, le16, le32, signed32}
use Rattle.book.specs.Records.{NodeRecord, Book, nodes_format}
use Rattle.book.specs.Kinds.{no_kind, expression, command, unused, table, user, region, right, between, sort_of, Fields, fields, fields_of}
use Rattle.book.specs.Refusals.{node_at, sorted, field_fits, node_fits, no_node}
use Rattle.book.proofs.Chains.{both}
use Rattle.book.proofs.Records.{length_records, record_at}
use Rattle.monitor.specs.Labelled.{Label}
use Rattle.monitor.specs.Run.{M}
use Rattle.monitor.specs.Syntax.{Cmd, cmd_of}
use Rattle.monitor.specs.Rules.{Mode, monitored, standing, eval, exec}
use Rattle.monitor.specs.Rules as rules
use Rattle.machine.specs.Script.{prices_start, held_count, script_of, Sound, Runnable, Node}
use Rattle.machine.specs.declared.Who.{Who}
use Rattle.machine.specs.Promises.{env, Commands, Stands}

-- what a node does, once it is known which command it is: taken back where it stops, or not
module _ (code : List ℕ) (ctx : Label) (who : Who) (n : ℕ) {y : Cmd} (e : cmd_of (node_at (script_of code) n) ≡ y) (fuel : ℕ) where
  abbrev in_mode : Mode → Cmd → M (Unit {0})
  in_mode mode c = rules.command (script_of code) mode (eval (script_of code) fuel) (exec (script_of code) monitored fuel) (env ctx who) n c

  pub command_is : Commands code ctx who n fuel ≡ in_mode monitored y
  command_is = ap (in_mode monitored) e

  pub stands_is : Stands code ctx who n fuel ≡ in_mode standing y
  stands_is = ap (in_mode standing) e

-- the node's record stands at this byte of the script
pub record Read (code : List ℕ) (at : ℕ) (x : NodeRecord) : Type 0 where
  pub kind : byte code at ≡ x.kind
  pub p : byte code (at + 1) ≡ x.p
  pub a : le16 code (at + 2) ≡ x.a
  pub b : le16 code (at + 4) ≡ x.b
  pub c : le16 code (at + 6) ≡ x.c
  pub d : le16 code (at + 8) ≡ x.d
  pub k : signed32 (le32 code (at + 10)) ≡ x.k
  pub end : at + 16 ≤ length code
  pub short : at + 16 ≤ prices_start

-- a field that names a child: a lower number, and a node of that sort
pub record Child (sort : ℕ) (s : Book) (n v : ℕ) : Type 0 where
  pub lower : v < n
  pub node : Node sort s v

-- the checks of the six fields
pub record Checked (s : Book) (n : ℕ) (u : Fields) : Type 0 where
  pub sort_is : sort_of (node_at s n).kind ≡ no_kind → ⊥
  pub p : field_fits s n u.p (node_at s n).p ≡ true
  pub a : field_fits s n u.a (node_at s n).a ≡ true
  pub b : field_fits s n u.b (node_at s n).b ≡ true
  pub c : field_fits s n u.c (node_at s n).c ≡ true
  pub d : field_fits s n u.d (node_at s n).d ≡ true

no_sort : (k : ℕ) → sort_of k ≡ no_kind → not (eqb (sort_of k) no_kind) ≡ true → ⊥
no_sort k e t = false≢true (sym (ap (λ (m : ℕ). not (eqb m no_kind)) e) ∙ t)

-- a kind beyond the table is none
beyond : (k : ℕ) → 27 ≤ k → sort_of k ≡ no_kind
unfolding sort_of
beyond k g =
    let past : (m : ℕ) → m < 27 → leb k m ≡ false = λ m l. lt-leb k m (omega arith) in
    rw (past 6 (lit< tt), past 11 (lit< tt), past 26 (lit< tt), and-false (leb 1 k), and-false (leb 8 k), and-false (leb 16 k))

-- the fields of a pair, of a query, and of a grant or revoke
pair_fields_of : (k : ℕ) → between 3 6 k ≡ true → fields_of k ≡ fields unused expression expression unused unused unused
unfolding fields_of
pair_fields_of k e =
    let low : 3 ≤ k = leb-true 3 k (both (leb 3 k) _ e).0 in
    rw (ne_eqb k 1 (omega arith), ne_eqb k 2 (omega arith), e)

query_fields_of : (k : ℕ) → between 8 11 k ≡ true → fields_of k ≡ fields table expression expression expression expression unused
unfolding fields_of
query_fields_of k e =
    let low : 8 ≤ k = leb-true 8 k (both (leb 8 k) _ e).0 in
    rw (ne_eqb k 1 (omega arith), ne_eqb k 2 (omega arith), lt-leb k 6 (omega arith), and-false (leb 3 k), e)

change_fields_of : (k : ℕ) → between 24 25 k ≡ true → fields_of k ≡ fields user region right unused unused unused
unfolding fields_of
change_fields_of k e = go (ℕ_discrete k 24)
  where
    go : Dec (k ≡ 24) → fields_of k ≡ fields user region right unused unused unused
    go (yes q) = rw q
    go (no d) =
        let low : 24 ≤ k = leb-true 24 k (both (leb 24 k) _ e).0 in
        let high : k ≤ 25 = leb-true k 25 (both (leb 24 k) _ e).1 in
        let q : k ≡ 25 = omega arith in
        rw q

-- ---- the record

module _ (code : List ℕ) (v : Runnable code) (n : ℕ) (h : n < length (script_of code).nodes) where
  few : n < 1024
  few = omega (arith, v.sound.few_nodes)

  pub read_at : Read code (16 * n) (node_at (script_of code) n)
  unfolding script_of nodes_format
  read_at =
      let count : length (script_of code).nodes ≡ held_count code 2 = length_records nodes_format _ _ code in
      let at : 0 + n * 16 ≡ 16 * n = omega arith in
      let is : node_at (script_of code) n ≡ nodes_format.read code (16 * n) =
      record_at nodes_format _ 0 code n no_node (omega (arith, h, count)) ∙ ap (nodes_format.read code) at in
      record {
        kind = ap (λ (y : NodeRecord). y.kind) (sym is);
        p = ap (λ (y : NodeRecord). y.p) (sym is);
        a = ap (λ (y : NodeRecord). y.a) (sym is);
        b = ap (λ (y : NodeRecord). y.b) (sym is);
        c = ap (λ (y : NodeRecord). y.c) (sym is);
        d = ap (λ (y : NodeRecord). y.d) (sym is);
        k = ap (λ (y : NodeRecord). y.k) (sym is);
        end = omega (arith, few, v.long);
        short = omega (arith, few);
      }

-- ---- the checks

module _ (s : Book) (v : Sound s) (n : ℕ) (h : n < length s.nodes) where
  abbrev x : NodeRecord
  x = node_at s n

  -- its number is one of a node's
  pub node_below : n < 1024
  node_below = omega (arith, v.few_nodes)

  checked : Checked s n (fields_of x.kind)
  unfolding node_fits
  checked =
      let fits = not-false (node_fits s n) (v.nodes_ok n h) in
      let u : Fields = fields_of x.kind in
      let sort = both _ _ fits in
      let p = both (field_fits s n u.p x.p) _ sort.1 in
      let a = both (field_fits s n u.a x.a) _ p.1 in
      let b = both (field_fits s n u.b x.b) _ a.1 in
      let c = both (field_fits s n u.c x.c) _ b.1 in
      let d = both (field_fits s n u.d x.d) _ c.1 in
      record {
        sort_is = λ e. no_sort _ e sort.0;
        p = p.0;
        a = a.0;
        b = b.0;
        c = c.0;
        d = d.0;
      }

  -- the checks for a known kind
  checked_as : (k : ℕ) → x.kind ≡ k → Checked s n (fields_of k)
  checked_as k e = rw e at checked

  pub kind_below : x.kind < 27
  kind_below = go (dec_lt x.kind 27)
    where
      go : Dec (x.kind < 27) → x.kind < 27
      go (yes l) = l
      go (no g) = absurd (checked.sort_is (beyond x.kind (omega arith)))

  as_child : (sort w : ℕ) → (ltb w n && sorted s sort w) ≡ true → Child sort s n w
  as_child sort w e =
      let q = both (ltb w n) _ e in
      let lower : w < n = ltb-true w n q.0 in
      record { lower = lower; node = record { inside = omega arith; sort_is = eqb-true _ _ q.1 } }

  as_region : (w : ℕ) → ltb w (length s.regions) ≡ true → w < length s.regions
  as_region w e = ltb-true w (length s.regions) e

  -- ---- each kind's fields

  -- 2 variable p
  pub variable_p : x.kind ≡ 2 → x.p < 16
  unfolding fields_of field_fits
  variable_p e = ltb-true x.p 16 (checked_as 2 e).p

  -- 3 to 6
  module _ (e : between 3 6 x.kind ≡ true) where
    pair_checked : Checked s n (fields unused expression expression unused unused unused)
    pair_checked = rw (pair_fields_of x.kind e) at checked

    pub pair_a : Child expression s n x.a
    unfolding field_fits
    pair_a = as_child expression x.a pair_checked.a

    pub pair_b : Child expression s n x.b
    unfolding field_fits
    pair_b = as_child expression x.b pair_checked.b

  -- 8 to 11
  module _ (e : between 8 11 x.kind ≡ true) where
    query_checked : Checked s n (fields table expression expression expression expression unused)
    query_checked = rw (query_fields_of x.kind e) at checked

    pub query_p : x.p < 8
    unfolding field_fits
    query_p = ltb-true x.p 8 query_checked.p

    pub query_a : Child expression s n x.a
    unfolding field_fits
    query_a = as_child expression x.a query_checked.a

    pub query_b : Child expression s n x.b
    unfolding field_fits
    query_b = as_child expression x.b query_checked.b

    pub query_c : Child expression s n x.c
    unfolding field_fits
    query_c = as_child expression x.c query_checked.c

    pub query_d : Child expression s n x.d
    unfolding field_fits
    query_d = as_child expression x.d query_checked.d

  -- 17 variable p becomes a
  module _ (e : x.kind ≡ 17) where
    pub assign_p : x.p < 16
    unfolding fields_of field_fits
    assign_p = ltb-true x.p 16 (checked_as 17 e).p

    pub assign_a : Child expression s n x.a
    unfolding fields_of field_fits
    assign_a = as_child expression x.a (checked_as 17 e).a

  -- 18 a then b
  module _ (e : x.kind ≡ 18) where
    pub then_a : Child command s n x.a
    unfolding fields_of field_fits
    then_a = as_child command x.a (checked_as 18 e).a

    pub then_b : Child command s n x.b
    unfolding fields_of field_fits
    then_b = as_child command x.b (checked_as 18 e).b

  -- 19 if a nonzero then b else c
  module _ (e : x.kind ≡ 19) where
    pub if_a : Child expression s n x.a
    unfolding fields_of field_fits
    if_a = as_child expression x.a (checked_as 19 e).a

    pub if_b : Child command s n x.b
    unfolding fields_of field_fits
    if_b = as_child command x.b (checked_as 19 e).b

    pub if_c : Child command s n x.c
    unfolding fields_of field_fits
    if_c = as_child command x.c (checked_as 19 e).c

  -- 20 while a nonzero do b
  module _ (e : x.kind ≡ 20) where
    pub while_a : Child expression s n x.a
    unfolding fields_of field_fits
    while_a = as_child expression x.a (checked_as 20 e).a

    pub while_b : Child command s n x.b
    unfolding fields_of field_fits
    while_b = as_child command x.b (checked_as 20 e).b

  -- 21 put amount c at table p, owner a, line b
  module _ (e : x.kind ≡ 21) where
    pub put_p : x.p < 8
    unfolding fields_of field_fits
    put_p = ltb-true x.p 8 (checked_as 21 e).p

    pub put_a : Child expression s n x.a
    unfolding fields_of field_fits
    put_a = as_child expression x.a (checked_as 21 e).a

    pub put_b : Child expression s n x.b
    unfolding fields_of field_fits
    put_b = as_child expression x.b (checked_as 21 e).b

    pub put_c : Child expression s n x.c
    unfolding fields_of field_fits
    put_c = as_child expression x.c (checked_as 21 e).c

  -- 22 clear that cell
  module _ (e : x.kind ≡ 22) where
    pub clear_p : x.p < 8
    unfolding fields_of field_fits
    clear_p = ltb-true x.p 8 (checked_as 22 e).p

    pub clear_a : Child expression s n x.a
    unfolding fields_of field_fits
    clear_a = as_child expression x.a (checked_as 22 e).a

    pub clear_b : Child expression s n x.b
    unfolding fields_of field_fits
    clear_b = as_child expression x.b (checked_as 22 e).b

  -- 23 out a to user p
  module _ (e : x.kind ≡ 23) where
    pub out_p : x.p < 8
    unfolding fields_of field_fits
    out_p = ltb-true x.p 8 (checked_as 23 e).p

    pub out_a : Child expression s n x.a
    unfolding fields_of field_fits
    out_a = as_child expression x.a (checked_as 23 e).a

  -- 24 grant, 25 revoke region a for user p
  module _ (e : between 24 25 x.kind ≡ true) where
    change_checked : Checked s n (fields user region right unused unused unused)
    change_checked = rw (change_fields_of x.kind e) at checked

    pub change_p : x.p < 8
    unfolding field_fits
    change_p = ltb-true x.p 8 change_checked.p

    pub change_a : x.a < length s.regions
    unfolding field_fits
    change_a = as_region x.a change_checked.a

    pub change_b : between 1 2 x.b ≡ true
    unfolding field_fits
    change_b = change_checked.b

  -- 26 raise variable p by region a
  module _ (e : x.kind ≡ 26) where
    pub raise_p : x.p < 16
    unfolding fields_of field_fits
    raise_p = ltb-true x.p 16 (checked_as 26 e).p

    pub raise_a : x.a < length s.regions
    unfolding fields_of field_fits
    raise_a = as_region x.a (checked_as 26 e).a

-- a node of a sort: its record in the script, and its kind as it is read
module _ {code : List ℕ} {sort n : ℕ} (runs : Runnable code) (node : Node sort (script_of code) n) where
  pub read : Read code (16 * n) (node_at (script_of code) n)
  read = read_at code runs n node.inside

  pub kind_inside : byte code (16 * n) < 27
  kind_inside = rw read.kind (kind_below (script_of code) runs.sound n node.inside)
