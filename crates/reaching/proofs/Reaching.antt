-- What a node reaches. In a book whose nodes are good, children have lower numbers. So the definition of `reaches` is about what is
-- reached from parent to child (`reaches_means`), and one pass over the nodes finds it for each of them (`flag_right`), where
-- expressions are passed by (`expression_safe`). Assumes nothing.
use mathlib.Core.Path.{◌≡◌, refl, sym, ap, ◌∙◌}
use mathlib.Core.Bool.{Bool, true, false, ◌&&◌, ◌||◌, not, or-true, or-false, cond, false≢true}
use mathlib.Core.List.{List}
use Prim.Native.Nat.{ℕ, zero, suc, ◌≤◌, ◌<◌}
use native.Mathlib.Nat.{not-suc-le-zero, lt_of_not-le}
use native.Mathlib.Omega.{arith}
use lib.ListN.{length, replicate, get_or-replicate}
use lib.Dec.{eqb, ltb}
use borrow.Author.Tests.{eq-eqb, ne_eqb, eqb-true, ltb-true, not-false}
use Rattle.book.specs.Records.{NodeRecord, Book}
use Rattle.book.specs.Layout.{count, decode}
use Rattle.book.specs.Start.{tabulate}
use Rattle.book.specs.Kinds.{no_kind, expression, constant, sort_of, Fields, fields_of, row_of}
use Rattle.book.specs.declared.Row.{Row}
use Rattle.book.specs.Refusals.{first, node_at, sorted, field_fits, is_zero, node_fits, bad_node, forbidden, child, reaches}
use Rattle.book.proofs.First.{below_first}
use Rattle.book.proofs.Decoded.{count_nodes}
use Rattle.book.proofs.Chains.{or_pass, or_hold, both}
use Rattle.book.proofs.Tabulate.{table_at}
use Rattle.kinds.proofs.Past.{past}
use Rattle.reaching.specs.Reaching.{names_child, roles, Child, in_a, in_b, in_c, in_d, Reaches, own, down, ReachesForbidden, GoodNodes, ReachesMeans}

-- ---- the children of a good node have lower numbers

-- the four tests of the fields that may name a child, among all that a good node passes
four_of : (kind p a b c d rest : Bool) → kind && (p && (a && (b && (c && (d && rest))))) ≡ true
    → (a ≡ true) × (b ≡ true) × (c ≡ true) × (d ≡ true)
four_of true true true true true true rest e = (refl, refl, refl, refl)
four_of true true true true true false rest e = absurd (false≢true e)
four_of true true true true false d rest e = absurd (false≢true e)
four_of true true true false c d rest e = absurd (false≢true e)
four_of true true false b c d rest e = absurd (false≢true e)
four_of true false a b c d rest e = absurd (false≢true e)
four_of false p a b c d rest e = absurd (false≢true e)

module _ (b : Book) (i : ℕ) where
  abbrev fits : (Fields → ℕ) → (NodeRecord → ℕ) → Bool
  fits role field = field_fits b i (role (roles b i)) (field (node_at b i))

  good_fields : node_fits b i ≡ true
      → (fits (λ u. u.a) (λ x. x.a) ≡ true) × (fits (λ u. u.b) (λ x. x.b) ≡ true) × (fits (λ u. u.c) (λ x. x.c) ≡ true) × (fits (λ u. u.d) (λ x. x.d) ≡ true)
  unfolding node_fits
  good_fields e =
      four_of
      (not (eqb (sort_of (node_at b i).kind) no_kind))
      (fits (λ u. u.p) (λ x. x.p))
      (fits (λ u. u.a) (λ x. x.a))
      (fits (λ u. u.b) (λ x. x.b))
      (fits (λ u. u.c) (λ x. x.c))
      (fits (λ u. u.d) (λ x. x.d))
      ((eqb (roles b i).k constant || is_zero (node_at b i).k) && eqb (node_at b i).zeros 0)
      e

  lower : (role v : ℕ) → names_child role ≡ true → field_fits b i role v ≡ true → v < i
  unfolding field_fits
  lower role v e h =
      let t : ltb v i && sorted b role v ≡ true = rw e at h in
      ltb-true v i (both (ltb v i) (sorted b role v) t).0

  pub child_lower : node_fits b i ≡ true → {v : ℕ} → Child b i v → v < i
  child_lower g (in_a e) = lower _ _ e (good_fields g).0
  child_lower g (in_b e) = lower _ _ e (good_fields g).1
  child_lower g (in_c e) = lower _ _ e (good_fields g).2
  child_lower g (in_d e) = lower _ _ e (good_fields g).3

-- ---- one step down

module _ (b : Book) where
  -- whether node i is of a forbidden kind or has a child that f picks
  abbrev pub step : (ℕ → Bool) → ℕ → Bool
  step f i =
      forbidden (node_at b i).kind
      || (child f (roles b i).a (node_at b i).a
      || (child f (roles b i).b (node_at b i).b || (child f (roles b i).c (node_at b i).c || child f (roles b i).d (node_at b i).d)))

  module _ (f g : ℕ → Bool) (i : ℕ) (same : (j : ℕ) → j < i → f j ≡ g j) where
    child_same : (role v : ℕ) → field_fits b i role v ≡ true → child f role v ≡ child g role v
    child_same role v h = go (names_child role) refl
      where
        go : (t : Bool) → names_child role ≡ t → child f role v ≡ child g role v
        go true e = rw e (same v (lower b i role v e h))
        go false e = rw e

    -- it looks at the nodes below i alone
    pub step_same : node_fits b i ≡ true → step f i ≡ step g i
    step_same e =
        let good = good_fields b i e in
        rw (child_same _ _ good.0, child_same _ _ good.1, child_same _ _ good.2, child_same _ _ good.3)

  module _ (nodes : GoodNodes b) where
    -- any depth above the node's number gives the same
    pub deep_enough : (m n i : ℕ) → i < m → i < n → i < length b.nodes → reaches b m i ≡ reaches b n i
    unfolding reaches
    deep_enough zero n i h l k = absurd (not-suc-le-zero h)
    deep_enough (suc m) zero i h l k = absurd (not-suc-le-zero l)
    deep_enough (suc m) (suc n) i h l k =
        step_same (reaches b m) (reaches b n) i (λ j q. deep_enough m n j (omega arith) (omega arith) (omega arith)) (nodes.good i k)

    -- the flag of node i, from flags that are right below it
    pub flag_right : (f : ℕ → Bool) (i : ℕ) → i < length b.nodes → ((j : ℕ) → j < i → f j ≡ reaches b (length b.nodes) j)
        → step f i ≡ reaches b (length b.nodes) i
    unfolding reaches
    flag_right f i h e =
        let n : ℕ = length b.nodes in
        step_same f (reaches b n) i e (nodes.good i h) ∙ deep_enough (suc n) n i (omega arith) h h

-- ---- of the kinds that are not forbidden only a sequence and a choice have commands as children, and no expression leads to a forbidden kind

-- a field in this role names no child, or an expression
abbrev mild : ℕ → Bool
mild role = not (names_child role) || eqb role expression

-- a forbidden kind, a sequence or a choice
abbrev leads : ℕ → Bool
leads kind = forbidden kind || (eqb kind 18 || eqb kind 19)

-- these are no expressions, and the other kinds have no commands as children
harmless : ℕ → Bool
harmless kind =
    cond (leads kind) (not (eqb (sort_of kind) expression))
    (mild (fields_of kind).a && (mild (fields_of kind).b && (mild (fields_of kind).c && mild (fields_of kind).d)))

-- tested once, over the whole table
tested : (kind : ℕ) → kind < 27 → harmless kind ≡ true
unfolding harmless tabulate sort_of fields_of forbidden
tested kind h = sym (table_at harmless 27 (replicate 27 true) refl kind true h) ∙ get_or-replicate 27 kind true true h

-- a kind that there is is in the table
in_table : (kind : ℕ) → (sort_of kind ≡ no_kind → ⊥) → kind < 27
unfolding row_of sort_of
in_table kind n = lt_of_not-le (λ (h : 27 ≤ kind). n (ap (λ (r : Row). r.sort) (past kind h)))

plain : (kind : ℕ) → sort_of kind ≡ expression → leads kind ≡ false
unfolding harmless
plain kind e = go (leads kind) refl
  where
    go : (t : Bool) → leads kind ≡ t → leads kind ≡ false
    go true l = absurd (false≢true (rw (l, eq-eqb _ _ e) at (tested kind (in_table kind (λ n. omega arith)))))
    go false l = l

four : (a b c d : Bool) → a && (b && (c && d)) ≡ true → (a ≡ true) × (b ≡ true) × (c ≡ true) × (d ≡ true)
four a b c d e =
    let y = both a (b && (c && d)) e in
    let z = both b (c && d) y.1 in
    let w = both c d z.1 in
    (y.0, z.0, w.0, w.1)

neither : (a b : Bool) → a || b ≡ false → (a ≡ false) × (b ≡ false)
neither true b e = absurd (false≢true (sym e))
neither false b e = (refl, e)

module _ (b : Book) (nodes : GoodNodes b) where
  module _ (f : ℕ → Bool) (i : ℕ) (h : i < length b.nodes) (none : (v : ℕ) → v < i → sort_of (node_at b v).kind ≡ expression → f v ≡ false) where
    no_child : (role v : ℕ) → mild role ≡ true → field_fits b i role v ≡ true → child f role v ≡ false
    unfolding field_fits
    no_child role v m h = go (names_child role) refl
      where
        go : (t : Bool) → names_child role ≡ t → child f role v ≡ false
        go true e =
            let r : role ≡ expression = eqb-true role expression (rw e at m) in
            let t = both (ltb v i) (sorted b role v) (rw e at h) in
            rw e (none v (ltb-true v i t.0) (eqb-true _ _ t.1 ∙ r))
        go false e = rw e

    there_is : sort_of (node_at b i).kind ≡ no_kind → ⊥
    unfolding node_fits
    there_is e = false≢true (rw (eq-eqb _ _ e) at (nodes.good i h))

    -- a node that does not lead on
    still : leads (node_at b i).kind ≡ false → step b f i ≡ false
    unfolding harmless
    still e =
        let kind : ℕ = (node_at b i).kind in
        let u : Fields = roles b i in
        let good = good_fields b i (nodes.good i h) in
        let l = neither (forbidden kind) (eqb kind 18 || eqb kind 19) e in
        let p = four (mild u.a) (mild u.b) (mild u.c) (mild u.d) (rw e at (tested kind (in_table kind there_is))) in
        or_pass l.0
        (or_pass (no_child _ _ p.0 good.0)
        (or_pass (no_child _ _ p.1 good.1) (or_pass (no_child _ _ p.2 good.2) (no_child _ _ p.3 good.3))))

    pub other_step : eqb (node_at b i).kind 18 ≡ false → eqb (node_at b i).kind 19 ≡ false → step b f i ≡ forbidden (node_at b i).kind
    other_step p q = go (forbidden (node_at b i).kind) refl
      where
        go : (t : Bool) → forbidden (node_at b i).kind ≡ t → step b f i ≡ forbidden (node_at b i).kind
        go true e = or_hold _ e ∙ sym e
        go false e = still (or_pass e (or_pass p q)) ∙ sym e

    pub sequence_step : (node_at b i).kind ≡ 18
        → ((node_at b i).a < i) × ((node_at b i).b < i) × (step b f i ≡ f (node_at b i).a || f (node_at b i).b)
    unfolding fields_of forbidden
    sequence_step e =
        let good = nodes.good i h in
        (child_lower b i good (in_a (rw e)), child_lower b i good (in_b (rw e)), rw e (ap (λ (t : Bool). f (node_at b i).a || t) (or-false _)))

    pub choice_step : (node_at b i).kind ≡ 19
        → ((node_at b i).b < i) × ((node_at b i).c < i) × (step b f i ≡ f (node_at b i).b || f (node_at b i).c)
    unfolding fields_of forbidden
    choice_step e =
        let good = nodes.good i h in
        let test : f (node_at b i).a ≡ false = no_child expression _ refl (rw e at (good_fields b i good).0) in
        (child_lower b i good (in_b (rw e)), child_lower b i good (in_c (rw e)), rw e (or_pass test (ap (λ (t : Bool). f (node_at b i).b || t) (or-false _))))

  pub expression_safe : (n i : ℕ) → i < length b.nodes → sort_of (node_at b i).kind ≡ expression → reaches b n i ≡ false
  unfolding reaches
  expression_safe zero i h e = refl
  expression_safe (suc n) i h e = still (reaches b n) i h (λ v l q. expression_safe n v (omega arith) q) (plain _ e)

-- ---- the definition says what the paper says

one_of : {A : Type 0} (kind a b c d : Bool) → kind || (a || (b || (c || d))) ≡ true
    → (kind ≡ true → A) → (a ≡ true → A) → (b ≡ true → A) → (c ≡ true → A) → (d ≡ true → A) → A
one_of true a b c d e by_kind by_a by_b by_c by_d = by_kind refl
one_of false true b c d e by_kind by_a by_b by_c by_d = by_a refl
one_of false false true c d e by_kind by_a by_b by_c by_d = by_b refl
one_of false false false true d e by_kind by_a by_b by_c by_d = by_c refl
one_of false false false false d e by_kind by_a by_b by_c by_d = by_d e

module _ (b : Book) where
  -- what is found is reached
  sound : (n i : ℕ) → reaches b n i ≡ true → ReachesForbidden b i
  unfolding reaches
  sound zero i e = absurd (false≢true e)
  sound (suc n) i e =
      one_of
      (forbidden (node_at b i).kind)
      (child (reaches b n) (roles b i).a (node_at b i).a)
      (child (reaches b n) (roles b i).b (node_at b i).b)
      (child (reaches b n) (roles b i).c (node_at b i).c)
      (child (reaches b n) (roles b i).d (node_at b i).d)
      e
      (λ f. ((node_at b i).kind, own, f))
      (via (sound n) (roles b i).a (node_at b i).a in_a)
      (via (sound n) (roles b i).b (node_at b i).b in_b)
      (via (sound n) (roles b i).c (node_at b i).c in_c)
      (via (sound n) (roles b i).d (node_at b i).d in_d)
    where
      via : ((v : ℕ) → reaches b n v ≡ true → ReachesForbidden b v) → (role v : ℕ) → (names_child role ≡ true → Child b i v) → child (reaches b n) role v ≡ true → ReachesForbidden b i
      via below role v c e =
          let t = both (names_child role) (reaches b n v) e in
          let r = below v t.1 in
          (r.0, down (c t.0) r.1, r.2)

  -- a child that f picks is seen
  step_child : (f : ℕ → Bool) {i v : ℕ} → Child b i v → f v ≡ true → step b f i ≡ true
  step_child f (in_a e) h = simp (e, h, or-true)
  step_child f (in_b e) h = simp (e, h, or-true)
  step_child f (in_c e) h = simp (e, h, or-true)
  step_child f (in_d e) h = simp (e, h, or-true)

  -- what is reached is found
  complete : GoodNodes b → {i kind : ℕ} → Reaches b i kind → forbidden kind ≡ true → i < length b.nodes → reaches b (suc i) i ≡ true
  unfolding reaches
  complete nodes own f h = or_hold _ f
  complete nodes {i} (down {v = v} c r) f h =
      let l : v < i = child_lower b i (nodes.good i h) c in
      let e = deep_enough b nodes i (suc v) v l (omega arith) (omega arith) in
      step_child (reaches b i) c (e ∙ complete nodes r f (omega arith))

pub reaches_means : ReachesMeans
reaches_means b nodes i h = (sound b (length b.nodes) i, λ r. deep_enough b nodes _ (suc i) i h (omega arith) h ∙ complete b nodes r.1 r.2 h)

-- ---- the nodes of a file

module _ (s : List ℕ) (e : first (bad_node (decode s)) (count s 3) ≡ count s 3) where
  -- they are good if none of them is the first bad one
  pub good_nodes : GoodNodes (decode s)
  good_nodes = record { good = λ i h. not-false _ (below_first (bad_node (decode s)) (count s 3) i (fits i h)) }
    where
      fits : (i : ℕ) → i < length (decode s).nodes → i < first (bad_node (decode s)) (count s 3)
      fits i h = rw (e, ← count_nodes s) h

  -- the flag of node i, from flags that are right below it
  module _ (f : ℕ → Bool) (i : ℕ) (h : i < count s 3) (right : (j : ℕ) → j < i → f j ≡ reaches (decode s) (count s 3) j) where
    inside : i < length (decode s).nodes
    inside = rw (count_nodes s) h

    none : (v : ℕ) → v < i → sort_of (node_at (decode s) v).kind ≡ expression → f v ≡ false
    none v l e = right v l ∙ expression_safe (decode s) good_nodes (count s 3) v (omega (arith, inside)) e

    flag : step (decode s) f i ≡ reaches (decode s) (count s 3) i
    flag = rw (← count_nodes s) (flag_right (decode s) good_nodes f i inside (rw (count_nodes s) right))

    pub sequence_flag : (node_at (decode s) i).kind ≡ 18
        → ((node_at (decode s) i).a < i) × ((node_at (decode s) i).b < i) × (f (node_at (decode s) i).a || f (node_at (decode s) i).b ≡ reaches (decode s) (count s 3) i)
    sequence_flag e =
        let step = sequence_step (decode s) good_nodes f i inside none e in
        (step.0, step.1, sym step.2 ∙ flag)

    pub choice_flag : (node_at (decode s) i).kind ≡ 19
        → ((node_at (decode s) i).b < i) × ((node_at (decode s) i).c < i) × (f (node_at (decode s) i).b || f (node_at (decode s) i).c ≡ reaches (decode s) (count s 3) i)
    choice_flag e =
        let step = choice_step (decode s) good_nodes f i inside none e in
        (step.0, step.1, sym step.2 ∙ flag)

    pub other_flag : ((node_at (decode s) i).kind ≡ 18 → ⊥) → ((node_at (decode s) i).kind ≡ 19 → ⊥)
        → forbidden (node_at (decode s) i).kind ≡ reaches (decode s) (count s 3) i
    other_flag p q = sym (other_step (decode s) good_nodes f i inside none (ne_eqb _ _ p) (ne_eqb _ _ q)) ∙ flag
