-- The rules as a group sees them: each expression, each command and the whole run, in a hidden context and side by side. Assumes nothing.
use mathlib.Core.Path.{◌≡◌, refl, ap, subst}
use mathlib.Core.List.{List}
use mathlib.Core.Bool.{Bool, true, false, ◌&&◌, cond}
use Prim.Native.Nat.{ℕ, zero, suc, ◌+◌, ◌*◌}
use lib.Dec.{eqb}
use lib.IntN.{ℤ, pos}
use borrow.Author.Tests.{eqb-true}
use Rattle.std.specs.Prelude.{Option, Some, None}
use Rattle.places.specs.Sets.{union, difference, Within}
use Rattle.places.proofs.Sets.{within_trans, within_union_right, union_least, difference_within}
use Rattle.book.specs.Records.{Book}
use Rattle.book.specs.Refusals.{is_zero}
use Rattle.book.specs.Start.{public_set}
use Rattle.monitor.specs.Labelled.{Label, bottom, Lab, lift, lift2, under}
use Rattle.monitor.specs.Run.{Cell, held, Rights, State, changed, M, ◌>>=◌, ◌>>◌, ret, update}
use Rattle.monitor.specs.Syntax.{Exp, const, var, add, minus, less, query, Cmd, skip, assign, seq, branch, while, put, clear, out, grant, revoke, raise}
use Rattle.monitor.specs.Rules.{Key, key, from_to, Box, box_of, in_box, gather, seen, aggregate, ranged, found, expr, monitored, Env, within_label, choose, posting, trigger_vars, region_places, granted, revoked, trigger_run, fire, write_cell, command, eval, exec, program, run}
use Rattle.claims.specs.TwoBooks.{Group}
use Rattle.claims.proofs.Views.{seen_of, gift}
use Rattle.claims.proofs.Low.{View, Hidden, hidden_left, hidden_right, Same, equal, same_inside, same_lift, same_lift2, same_via, same_under, same_raised, same_update, Safe, Alike}
use Rattle.claims.proofs.Steps.{Still, Pair, Any, Both, stops, first_stops, second_stops, begun_nil, still_bind, pair_bind, pair_by, still_ret, pair_ret, still_look, pair_look, still_when, pair_when, still_each, pair_each, still_need, pair_need, still_pay, pair_pay, still_set_var, pair_set_var, still_set_cell, pair_set_cell, still_said, pair_said, pair_changed, still_own, pair_own, still_undoing, pair_undoing}

-- ---- expressions

still_ranged : {v : View} (i : ℕ) (x : Lab ℤ) → Still v Any (ranged i x)
unfolding ranged
still_ranged i x = still_bind (still_need _ 22 i) λ _ _. still_ret tt

pair_ranged : {v : View} (i : ℕ) {x y : Lab ℤ} → Same v.R x y → Pair v (Same v.R) (ranged i x) (ranged i y)
unfolding ranged
pair_ranged i h = pair_bind (pair_need _ _ 22 i) λ _ _ _. pair_ret h

still_found : {v : View} (i : ℕ) (l : Label) (x : Option ℤ) → Still v Any (found i l x)
unfolding found seen_of
still_found i l (Some z) = still_ranged i _
still_found i l None = λ s r. stops refl

-- amounts that the group cannot tell apart; where one of two that are hidden is none, that run stops and shows nothing more
pair_found : {v : View} (i : ℕ) (x y : Lab (Option ℤ)) → Same v.R x y → Pair v (Same v.R) (found i x.lab x.val) (found i y.lab y.val)
unfolding found seen_of lift
pair_found {v} i x y h = go x.val y.val (same_lift amount h)
  where
    amount : Option ℤ → ℤ
    amount (Some z) = z
    amount None = pos 0

    go : (a b : Option ℤ) → Same v.R (record { val = amount a; lab = x.lab }) (record { val = amount b; lab = y.lab })
        → Pair v (Same v.R) (found i x.lab a) (found i y.lab b)
    go (Some z) (Some w) h = pair_ranged i h
    go None b h = λ s t r. first_stops (begun_nil _ refl)
    go (Some z) None h = λ s t r. second_stops (begun_nil _ refl)

same_picked : {R : Label} (x : Bool) (f : List Cell → Cell → List Cell) {rest rest' : Lab (List Cell)} {c c' : Lab Cell}
    → Same R rest rest' → Same R c c'
    → Same R {A = List Cell} (elim x [ true ↦ lift2 f rest c | false ↦ rest ]) (elim x [ true ↦ lift2 f rest' c' | false ↦ rest' ])
same_picked true f h e = same_lift2 f h e
same_picked false f h e = h

-- the cells of a query are picked by their places alone
same_gather : {R : Label} {cells cells' : ℕ → Lab Cell} (picks : ℕ → Bool) (base n : ℕ)
    → ((q : ℕ) → Same R (cells q) (cells' q)) → Same R (gather cells picks base n) (gather cells' picks base n)
unfolding gather
same_gather picks base zero h = equal refl
same_gather picks base (suc n) h = same_picked (picks (base + n)) _ (same_gather picks base n h) (h (base + n))

same_seen : {v : View} (p : ℕ) {x y : Lab Box} {s t : State} → Same v.R x y → Alike v s t → Same v.R (seen p x s) (seen p y t)
unfolding seen
same_seen p e r = same_via e (λ box. same_gather (in_box box) (64 * p) 64 r.cells)

same_key : {R : Label} {x x' y y' : Lab ℤ} → Same R x x' → Same R y y' → Same R (key x y) (key x' y')
unfolding key
same_key e f = same_lift2 _ e f

same_box : {R : Label} {w w' x x' y y' z z' : Lab ℤ}
    → Same R w w' → Same R x x' → Same R y y' → Same R z z' → Same R (box_of w x y z) (box_of w' x' y' z')
unfolding box_of from_to
same_box d e f g = same_lift2 _ (same_lift2 _ d e) (same_lift2 _ f g)

module _ {v : View} (ev : ℕ → M (Lab ℤ)) (k : (a : ℕ) → Still v Any (ev a)) where
  still_two : (i a c : ℕ) (f : ℤ → ℤ → ℤ) → Still v Any (ev a >>= λ x. ev c >>= λ y. ranged i (lift2 f x y))
  still_two i a c f = still_bind (k a) λ x _. still_bind (k c) λ y _. still_ranged i (lift2 f x y)

  still_expr : (i : ℕ) (x : Exp) → Still v Any (expr ev i x)
  unfolding expr
  still_expr i (const z) = still_ret tt
  still_expr i (var p) = still_look _ (λ s r. tt)
  still_expr i (add a c) = still_two i a c _
  still_expr i (minus a c) = still_two i a c _
  still_expr i (Exp.equal a c) = still_two i a c _
  still_expr i (less a c) = still_two i a c _
  still_expr i (query kind p a c d e) =
      still_bind (k a) λ _ _. still_bind (k c) λ _ _. still_bind (k d) λ _ _. still_bind (k e) λ _ _.
      still_bind {P = Any} (still_look _ (λ s r. tt)) λ _ _. still_found i _ _

module _ {v : View} (ev ev' : ℕ → M (Lab ℤ)) (k : (a : ℕ) → Pair v (Same v.R) (ev a) (ev' a)) where
  pair_two : (i a c : ℕ) (f : ℤ → ℤ → ℤ)
      → Pair v (Same v.R) (ev a >>= λ x. ev c >>= λ y. ranged i (lift2 f x y)) (ev' a >>= λ x. ev' c >>= λ y. ranged i (lift2 f x y))
  pair_two i a c f = pair_bind (k a) λ _ _ x. pair_bind (k c) λ _ _ y. pair_ranged i (same_lift2 f x y)

  pair_expr : (i : ℕ) (x : Exp) → Pair v (Same v.R) (expr ev i x) (expr ev' i x)
  unfolding expr lift
  pair_expr i (const z) = pair_ret (equal refl)
  pair_expr i (var p) = pair_look _ _ (λ s t r. r.vars p)
  pair_expr i (add a c) = pair_two i a c _
  pair_expr i (minus a c) = pair_two i a c _
  pair_expr i (Exp.equal a c) = pair_two i a c _
  pair_expr i (less a c) = pair_two i a c _
  pair_expr i (query kind p a c d e) =
      pair_bind (k a) λ _ _ w. pair_bind (k c) λ _ _ x. pair_bind (k d) λ _ _ y. pair_bind (k e) λ _ _ z.
      pair_bind (pair_look _ _ (λ s t r. same_seen p (same_box w x y z) r)) λ _ _ q. pair_found i _ _ (same_lift (aggregate kind) q)

still_eval : {v : View} (b : Book) (fuel i : ℕ) → Still v Any (eval b fuel i)
unfolding eval seen_of
still_eval b zero i = λ s r. stops refl
still_eval b (suc fuel) i = still_bind (still_pay _ i) λ _ _. still_expr (eval b fuel) (still_eval b fuel) i _

pair_eval : {v : View} (b : Book) (fuel fuel' i : ℕ) → Pair v (Same v.R) (eval b fuel i) (eval b fuel' i)
unfolding eval seen_of
pair_eval b zero fuel' i = λ s t r. first_stops (begun_nil _ refl)
pair_eval b (suc fuel) zero i = λ s t r. second_stops (begun_nil _ refl)
pair_eval b (suc fuel) (suc fuel') i = pair_bind (pair_pay _ i) λ _ _ _. pair_expr (eval b fuel) (eval b fuel') (pair_eval b fuel fuel') i _

-- ---- the parts of commands

still_choose : {v : View} (z : ℤ) {m n : M (Unit {0})} → Still v Any m → Still v Any n → Still v Any (choose z m n)
unfolding choose
still_choose {v} z {m} {n} h k = go (is_zero z)
  where
    go : (x : Bool) → Still v {A = Unit {0}} Any (λ s. elim x [ true ↦ n s | false ↦ m s ])
    go true = k
    go false = h

pair_choose : {v : View} (z : ℤ) {m n m' n' : M (Unit {0})} → Pair v Both m m' → Pair v Both n n' → Pair v Both (choose z m n) (choose z m' n')
unfolding choose
pair_choose {v} z {m} {n} {m'} {n'} h k = go (is_zero z)
  where
    go : (x : Bool) → Pair v {A = Unit {0}} {B = Unit {0}} Both (λ s. elim x [ true ↦ n s | false ↦ m s ]) (λ s. elim x [ true ↦ n' s | false ↦ m' s ])
    go true = k
    go false = h

same_trigger_vars : {R : Label} (c : Label) (k : Key) {z z' : Lab Cell}
    → Same R z z' → (p : ℕ) → Same R (trigger_vars c k z p) (trigger_vars c k z' p)
unfolding trigger_vars
same_trigger_vars c k e = same_update 2 (λ p. equal refl) (same_under c (same_lift (λ x. x.amount) e))

still_posting : {v : View} (i : ℕ) {c : Label} (user p : ℕ) (k : Key) (z : Lab Cell) → Hidden v.R c → Still v Any (posting true i c user p k z)
unfolding posting under
still_posting i user p k z l =
    still_bind (still_need _ 23 i) λ _ _.
    still_bind {P = Any} (still_look _ (λ s r. tt)) λ _ _.
    still_bind (still_need _ 24 i) λ _ _.
    still_set_cell i _ _ l (hidden_left z.lab l)

pair_posting : {v : View} (i : ℕ) (c : Label) (user p : ℕ) (k : Key) {z z' : Lab Cell}
    → Same v.R z z' → Pair v Both (posting true i c user p k z) (posting true i c user p k z')
unfolding posting
pair_posting i c user p k w =
    pair_bind (pair_need _ _ 23 i) λ _ _ _.
    pair_bind {Q = Both} (pair_look _ _ (λ s t r. tt)) λ _ _ _.
    pair_bind (pair_need _ _ 24 i) λ _ _ _.
    pair_set_cell i _ _ (same_under _ w)

-- what is known of the children: they show nothing in a hidden context
abbrev StillIn : View → (Env → ℕ → M (Unit {0})) → Type 0
StillIn v rec = (e : Env) (i : ℕ) → Hidden v.R e.ctx → Still v Any (rec e i)

module _ {v : View} (rec : Env → ℕ → M (Unit {0})) (h : StillIn v rec) where
  still_branch : (e : Env) (x : Lab ℤ) (c d : ℕ) → Hidden v.R (union e.ctx x.lab)
      → Still v Any (choose x.val (rec (within_label e x) c) (rec (within_label e x) d))
  unfolding within_label
  still_branch e x c d l = still_choose x.val (h _ c l) (h _ d l)

  still_while : (e : Env) (i : ℕ) (x : Lab ℤ) (c : ℕ) → Hidden v.R (union e.ctx x.lab)
      → Still v Any (choose x.val (rec (within_label e x) c >> rec (within_label e x) i) (ret tt))
  unfolding within_label
  still_while e i x c l = still_choose x.val (still_bind (h _ c l) λ _ _. h _ i l) (still_ret tt)

  still_fire : (b : Book) (e : Env) (event q : ℕ) (k : Key) (z : Lab Cell) → Hidden v.R e.ctx → Still v Any (fire b true rec e event q k z)
  unfolding fire trigger_run
  still_fire b e event q k z l = still_each _ λ n. still_when _ (still_own _ (h _ _ l))

  still_write : (b : Book) (e : Env) (i event p : ℕ) (k : Lab Key) (z : Lab Cell)
      → Hidden v.R (union e.ctx k.lab) → Still v Any (write_cell b true rec e i event p k z)
  unfolding write_cell within_label
  still_write b e i event p k z l = still_bind (still_posting i e.user p k.val z l) λ _ _. still_fire b _ event _ k.val z l

-- and of two runs of them
record PairIn (v : View) (rec rec' : Env → ℕ → M (Unit {0})) : Type 0 where
  beside : (e : Env) (i : ℕ) → Pair v Both (rec e i) (rec' e i)
  first : StillIn v rec
  second : StillIn v rec'

module _ {v : View} (rec rec' : Env → ℕ → M (Unit {0})) (h : PairIn v rec rec') where
  pair_fire : (b : Book) (e : Env) (event q : ℕ) (k : Key) {z z' : Lab Cell}
      → Same v.R z z' → Pair v Both (fire b true rec e event q k z) (fire b true rec' e event q k z')
  unfolding fire trigger_run
  pair_fire b e event q k w = pair_each _ λ n. pair_when _ (pair_own (same_trigger_vars e.ctx k w) (h.beside _ _))

  pair_write : (b : Book) (e : Env) (i event p : ℕ) (k : Lab Key) {z z' : Lab Cell}
      → Same v.R z z' → Pair v Both (write_cell b true rec e i event p k z) (write_cell b true rec' e i event p k z')
  unfolding write_cell
  pair_write b e i event p k w = pair_bind (pair_posting i _ e.user p k.val w) λ _ _ _. pair_fire b _ event _ k.val w

  -- keys that differ are hidden, and so are both writes
  pair_keys : (b : Book) (e : Env) (i event p : ℕ) {k k' : Lab Key} {z z' : Lab Cell} → Same v.R k k' → Same v.R z z'
      → Pair v Both (write_cell b true rec e i event p k z) (write_cell b true rec' e i event p k' z')
  pair_keys b e i event p {z = z} {z' = z'} j w =
      pair_by (λ k. write_cell b true rec e i event p k z) (λ k. write_cell b true rec' e i event p k z') j (λ k. pair_write b e i event p k w)
      (λ k l. (still_write rec h.first b e i event p k z (hidden_right _ l), still_write rec' h.second b e i event p k z' (hidden_right _ l)))

module _ (b : Book) (g : Group) (R : Label) where
  abbrev pub view : View
  view = record { members = g; R = R; gift = gift b g }

  -- ---- rights

  safe_update : (f : ℕ → Label) (p : ℕ) (l : Label)
      → ((u : ℕ) → g u ≡ true → Within (f u) R) → (g p ≡ true → Within l R) → (u : ℕ) → g u ≡ true → Within (update f p l u) R
  unfolding update
  safe_update f p l h k u m =
      (elim (eqb u p) as (λ x. (x ≡ true → u ≡ p) → Within (cond x l (f u)) R)
      [ true ↦ λ e. k (subst (λ w. g w ≡ true) (e refl) m) | false ↦ λ e. h u m ]) (eqb-true u p)

  safe_granted : (p a kind : ℕ) (w : Rights)
      → Safe view w → Within (gift b g (changed (cond (eqb kind 1) 2 3) p a)) R → Safe view (granted b p a kind w)
  unfolding granted gift
  safe_granted p a kind w h l = record { safe = go (eqb kind 1) l }
    where
      given : (x : Bool) → x ≡ true → Within (cond x (region_places b a) bottom) R → Within (region_places b a) R
      given x e k = rw e at k

      go : (x : Bool) → Within (cond (eqb (cond x 2 3) 2 && g p) (region_places b a) bottom) R
          → (u : ℕ) → g u ≡ true → Within (cond x (update w.read p (union (w.read p) (region_places b a))) w.read u) R
      go true k = safe_update w.read p _ h.safe (λ m. union_least (h.safe p m) (given (g p) m k))
      go false k = h.safe

  safe_revoked : (p a kind : ℕ) (w : Rights) → Safe view w → Safe view (revoked b p a kind w)
  unfolding revoked
  safe_revoked p a kind w h = record { safe = go (eqb kind 1) }
    where
      go : (x : Bool) (u : ℕ) → g u ≡ true → Within (cond x (update w.read p (difference (w.read p) (region_places b a))) w.read u) R
      go true = safe_update w.read p _ h.safe (λ m. within_trans (difference_within (w.read p) (region_places b a)) (h.safe p m))
      go false = h.safe

  -- ---- commands and the run, where R holds the public set

  module _ (public : Within (public_set b) R) where
    -- what passes 27 for a member lies inside R
    readable : (r : Rights) {l : Label} (p : ℕ) → Safe view r → Within l (union (public_set b) (r.read p)) → g p ≡ true → Within l R
    readable r p h k m = within_trans k (union_least public (h.safe p m))

    module _ (ev : ℕ → M (Lab ℤ)) (k : (a : ℕ) → Still view Any (ev a)) (rec : Env → ℕ → M (Unit {0})) (h : StillIn view rec) where
      still_command : (e : Env) (i : ℕ) → Hidden R e.ctx → (x : Cmd) → Still view Any (command b monitored ev rec e i x)
      unfolding command under
      still_command e i l skip = still_ret tt
      still_command e i l (assign p a) = still_bind (k a) λ x _. still_set_var i p _ l (λ _ _. hidden_left x.lab l)
      still_command e i l (seq a c) = still_bind (h e a l) λ _ _. h e c l
      still_command e i l (branch a c d) = still_bind (k a) λ x _. still_branch rec h e x c d (hidden_left x.lab l)
      still_command e i l (while a c) = still_bind (k a) λ x _. still_while rec h e i x c (hidden_left x.lab l)
      still_command e i l (put p a c d) =
          still_undoing _ (still_bind (k a) λ _ _. still_bind (k c) λ _ _. still_bind (k d) λ _ _. still_write rec h b e i 1 p _ _ (hidden_left _ l))
      still_command e i l (clear p a c) =
          still_undoing _ (still_bind (k a) λ _ _. still_bind (k c) λ _ _. still_write rec h b e i 2 p _ _ (hidden_left _ l))
      still_command e i l (out p a) =
          still_bind (k a) λ x _. still_bind (still_look _ (λ s r. r.safe)) λ r f. still_bind (still_need _ 27 i) λ _ t.
          still_said i p x.val (λ m. hidden_left x.lab l (readable r p f (record { holds = t }) m))
      still_command e i l (grant p a kind) =
          still_bind (still_need _ 28 i) λ _ _. still_bind (still_need _ 29 i) λ _ t. absurd (l (within_trans (record { holds = t }) public))
      still_command e i l (revoke p a kind) =
          still_bind (still_need _ 28 i) λ _ _. still_bind (still_need _ 29 i) λ _ t. absurd (l (within_trans (record { holds = t }) public))
      still_command e i l (raise p a) = still_set_var i p _ l (λ _ m. hidden_left (region_places b a) m)

    still_exec : (fuel : ℕ) → StillIn view (exec b monitored fuel)
    unfolding exec seen_of
    still_exec zero e i l = λ s r. stops refl
    still_exec (suc fuel) e i l = still_bind (still_pay _ i) λ _ _.
        still_command (eval b fuel) (still_eval b fuel) (exec b monitored fuel) (still_exec fuel) e i l _

    module _ (ev ev' : ℕ → M (Lab ℤ)) (k : (a : ℕ) → Pair view (Same R) (ev a) (ev' a))
        (rec rec' : Env → ℕ → M (Unit {0})) (h : PairIn view rec rec') where
      pair_command : (e : Env) (i : ℕ) (x : Cmd) → Pair view Both (command b monitored ev rec e i x) (command b monitored ev' rec' e i x)
      unfolding command
      pair_command e i skip = pair_ret tt
      pair_command e i (assign p a) = pair_bind (k a) λ _ _ q. pair_set_var i e.ctx p _ _ (λ _ _ _. same_under e.ctx q)
      pair_command e i (seq a c) = pair_bind (h.beside e a) λ _ _ _. h.beside e c
      pair_command e i (branch a c d) = pair_bind (k a) λ _ _ q.
          pair_by _ _ q (λ z. pair_choose z.val (h.beside _ c) (h.beside _ d))
          (λ z l. (still_branch rec h.first e z c d (hidden_right _ l), still_branch rec' h.second e z c d (hidden_right _ l)))
      pair_command e i (while a c) = pair_bind (k a) λ _ _ q.
          pair_by _ _ q (λ z. pair_choose z.val (pair_bind (h.beside _ c) λ _ _ _. h.beside _ i) (pair_ret tt))
          (λ z l. (still_while rec h.first e i z c (hidden_right _ l), still_while rec' h.second e i z c (hidden_right _ l)))
      pair_command e i (put p a c d) =
          pair_undoing _ (pair_bind (k a) λ _ _ x. pair_bind (k c) λ _ _ y. pair_bind (k d) λ _ _ z.
          pair_keys rec rec' h b e i 1 p (same_key x y) (same_lift held z))
      pair_command e i (clear p a c) =
          pair_undoing _ (pair_bind (k a) λ _ _ x. pair_bind (k c) λ _ _ y. pair_keys rec rec' h b e i 2 p (same_key x y) (equal refl))
      pair_command e i (out p a) =
          pair_bind (k a) λ x x' q.
          pair_bind {Q = λ r _. Safe view r} (pair_look _ _ (λ s t r. r.safe)) λ r _ f.
          pair_bind (pair_need _ _ 27 i) λ _ _ t.
          pair_said i p x.val x'.val λ m.
          ap (λ w. w.val) (same_inside q (within_trans (within_union_right e.ctx x.lab) (readable r p f (record { holds = t }) m)))
      pair_command e i (grant p a kind) =
          pair_bind (pair_need _ _ 28 i) λ _ _ _. pair_bind (pair_need _ _ 29 i) λ _ _ _. pair_changed i _ _ (safe_granted p a kind)
      pair_command e i (revoke p a kind) =
          pair_bind (pair_need _ _ 28 i) λ _ _ _. pair_bind (pair_need _ _ 29 i) λ _ _ _. pair_changed i _ _ (λ w f _. safe_revoked p a kind w f)
      pair_command e i (raise p a) = pair_set_var i e.ctx p _ _ (λ _ _ q. same_raised (region_places b a) q)

    pair_exec : (fuel fuel' : ℕ) (e : Env) (i : ℕ) → Pair view Both (exec b monitored fuel e i) (exec b monitored fuel' e i)
    unfolding exec seen_of
    pair_exec zero fuel' e i = λ s t r. first_stops (begun_nil _ refl)
    pair_exec (suc fuel) zero e i = λ s t r. second_stops (begun_nil _ refl)
    pair_exec (suc fuel) (suc fuel') e i = pair_bind (pair_pay _ i) λ _ _ _.
        pair_command (eval b fuel) (eval b fuel') (pair_eval b fuel fuel') (exec b monitored fuel) (exec b monitored fuel')
        (record { beside = pair_exec fuel fuel'; first = still_exec fuel; second = still_exec fuel' }) e i _

    pub pair_run : (fuel fuel' : ℕ) → Pair view Both (run b monitored fuel) (run b monitored fuel')
    unfolding run program
    pair_run fuel fuel' = pair_each b.programs λ p. pair_own (λ n. equal refl) (pair_exec fuel fuel' _ _)
