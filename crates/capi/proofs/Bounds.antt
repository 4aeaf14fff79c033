-- What every run of an accepted book keeps: it stops on a node below 1,024, and writes no more records than the trace has room for.
-- Each combinator of the monitor's specs/Run.antt once, then the rules. Assumes nothing.
use mathlib.Core.Path.{◌≡◌, refl}
use mathlib.Core.List.{List, [], ◌∷◌, ◌++◌}
use mathlib.Core.Bool.{Bool, true, false, cond}
use Prim.Native.Nat.{ℕ, zero, suc, ◌+◌, ◌≤◌, ◌<◌}
use native.Mathlib.Nat.{le_refl}
use native.Mathlib.Omega.{arith}
use lib.Dec.{eqb}
use lib.IntN.{ℤ}
use lib.ListN.{length, get_or, length-append}
use borrow.Author.Tests.{leb-true}
use Rattle.std.specs.Prelude.{Option, Some, None}
use Rattle.book.specs.Records.{Book, NodeRecord}
use Rattle.book.specs.Kinds.{between}
use Rattle.book.specs.Refusals.{node_at, no_program, is_zero}
use Rattle.monitor.specs.Labelled.{Label, Lab, lift2}
use Rattle.monitor.specs.Run.{Cell, Rights, State, Rec, Halt, Out, done, stop, M, after, next, ◌>>=◌, ret, look, each, when, Test, guard, need, pay, set_var, set_cell, tell, restore, own, with_vars, taken_back, undoing}
use Rattle.monitor.specs.Syntax.{Exp, const, var, add, minus, equal, less, query, Cmd, skip, assign, seq, branch, while, put, clear, out, grant, revoke, raise, exp_of, cmd_of}
use Rattle.monitor.specs.Rules.{Key, ranged, found, expr, Mode, Env, choose, posting, trigger_run, fire, write_cell, command, eval, exec, program, run}
use Rattle.capi.proofs.Fields.{Fields, Named}

-- a run from a state whose trace has room for this many records
pub data Within {A : Type 0} (room : ℕ) : Out A → Type 0 where
  ends : {t : List Rec} {a : A} {s : State} → length t + s.room ≤ room → Within room (done t a s)
  halts : {t : List Rec} {h : Halt} {s : State} → length t ≤ room → h.node < 1024 → Within room (stop t h s)

-- with no record
at_once : {A : Type 0} {room : ℕ} {a : A} {s : State} → s.room ≤ room → Within room (done [] a s)
at_once {s = s} h = ends {t = []} {s = s} (omega arith)

stands : {A : Type 0} {room : ℕ} {h : Halt} {s : State} → h.node < 1024 → Within {A = A} room (stop [] h s)
stands n = halts {t = []} (omega arith) n

abbrev pub Keeps : {A : Type 0} → M A → Type 0
Keeps m = (s : State) → Within s.room (m s)

-- ---- one run after another

within_after : {A : Type 0} {room rest : ℕ} (t : List Rec) {o : Out A} → length t + rest ≤ room → Within rest o → Within room (after t o)
unfolding after
within_after {room = room} t l (ends {t = u} {s = s} h) =
    let k : length (t ++ u) + s.room ≤ room = rw length-append (omega arith) in
    ends k
within_after {room = room} t l (halts {t = u} h n) =
    let k : length (t ++ u) ≤ room = rw length-append (omega arith) in
    halts k n

within_next : {A B : Type 0} {room : ℕ} {o : Out A} (k : A → M B) → Within room o → ((a : A) → Keeps (k a)) → Within room (next o k)
unfolding next
within_next k (ends {t = t} {a = a} {s = s} h) g = within_after t h (g a s)
within_next k (halts h n) g = halts h n

keeps_bind : {A B : Type 0} {m : M A} {k : A → M B} → Keeps m → ((a : A) → Keeps (k a)) → Keeps (m >>= k)
keeps_bind {k = k} h g = λ s. within_next k (h s) g

keeps_look : {A : Type 0} (f : State → A) → Keeps (look f)
keeps_look f = λ s. at_once (le_refl s.room)

keeps_ret : {A : Type 0} (a : A) → Keeps (ret a)
keeps_ret a = keeps_look (λ s. a)

keeps_when : (x : Bool) {m : M (Unit {0})} → Keeps m → Keeps (when x m)
unfolding when
keeps_when true h = h
keeps_when false h = keeps_ret tt

keeps_each : {A : Type 0} (xs : List A) (d : A) (f : A → M (Unit {0})) → ((i : ℕ) → i < length xs → Keeps (f (get_or xs i d))) → Keeps (each xs f)
unfolding each
keeps_each [] d f h = keeps_ret tt
keeps_each (x ∷ xs) d f h = keeps_bind (h 0 (omega arith)) λ _. keeps_each xs d f λ i l. h (suc i) (omega arith)

-- ---- tests, and changes of the state

keeps_guard : {A : Type 0} (x : State → Test) (n i : ℕ) {m : M A} → i < 1024 → ((s : State) → (x s).passes ≡ true → Within s.room (m s)) → Keeps (guard x n i m)
unfolding guard
keeps_guard {A} x n i {m} l h = λ s. go s (x s).passes refl
  where
    go : (s : State) (y : Bool) → (x s).passes ≡ y
        → Within {A = A} s.room (elim y [ true ↦ m s | false ↦ stop [] (record { number = n; node = i; compared = (x s).compared }) s ])
    go s true e = h s e
    go s false e = stands l

keeps_need : (x : Test) (n i : ℕ) → i < 1024 → Keeps (need x n i)
unfolding need
keeps_need x n i l = keeps_guard _ n i l λ s e. keeps_ret tt s

keeps_pay : (c i : ℕ) → i < 1024 → Keeps (pay c i)
unfolding pay
keeps_pay c i l = keeps_guard _ 21 i l λ s e. at_once (le_refl s.room)

keeps_set_var : (labels : Bool) (i : ℕ) (c : Label) (p : ℕ) (f : Lab ℤ → Lab ℤ) → i < 1024 → Keeps (set_var labels i c p f)
unfolding set_var
keeps_set_var labels i c p f l = keeps_guard _ 25 i l λ s e. at_once (le_refl s.room)

keeps_set_cell : (labels : Bool) (i : ℕ) (c : Label) (q : ℕ) (x : Lab Cell) → i < 1024 → Keeps (set_cell labels i c q x)
unfolding set_cell
keeps_set_cell labels i c q x l = keeps_guard _ 26 i l λ s e. at_once (le_refl s.room)

keeps_tell : (i : ℕ) (r : Rec) (f : Rights → Rights) → i < 1024 → Keeps (tell i r f)
unfolding tell
keeps_tell i r f l = keeps_guard _ 30 i l λ s e. ends {t = r ∷ []} (omega (arith, leb-true 1 s.room e))

within_restore : {room : ℕ} (v : ℕ → Lab ℤ) {o : Out (Unit {0})} → Within room o → Within room (restore v o)
unfolding restore
within_restore v (ends h) = ends h
within_restore v (halts h n) = halts h n

keeps_own : (v : ℕ → Lab ℤ) {m : M (Unit {0})} → Keeps m → Keeps (own v m)
unfolding own
keeps_own v h = λ s. within_restore s.vars (h (with_vars v s))

within_taken : {room : ℕ} (c : ℕ → Lab Cell) {o : Out (Unit {0})} → Within room o → Within room (taken_back c o)
unfolding taken_back
within_taken c (ends h) = ends h
within_taken c (halts h n) = halts h n

keeps_undoing : (x : Bool) {m : M (Unit {0})} → Keeps m → Keeps (undoing x m)
unfolding undoing
keeps_undoing true h = λ s. within_taken s.cells (h s)
keeps_undoing false h = h

-- ---- expressions

-- the children are numbers of nodes
data LowExp : Exp → Type 0 where
  low_const : {z : ℤ} → LowExp (const z)
  low_var : {p : ℕ} → LowExp (var p)
  low_add : {a c : ℕ} → a < 1024 → c < 1024 → LowExp (add a c)
  low_minus : {a c : ℕ} → a < 1024 → c < 1024 → LowExp (minus a c)
  low_equal : {a c : ℕ} → a < 1024 → c < 1024 → LowExp (equal a c)
  low_less : {a c : ℕ} → a < 1024 → c < 1024 → LowExp (less a c)
  low_query : {kind p a c d e : ℕ} → a < 1024 → c < 1024 → d < 1024 → e < 1024 → LowExp (query kind p a c d e)

one_of : {A : Type 0} (P : A → Type 0) (b : Bool) {x y : A} → P x → P y → P (cond b x y)
one_of P true h k = h
one_of P false h k = k

low_exp : (x : NodeRecord) → Fields x → LowExp (exp_of x)
unfolding exp_of
low_exp x f =
    one_of LowExp (eqb x.kind 2) low_var
    (one_of LowExp (eqb x.kind 3) (low_add f.a f.b)
    (one_of LowExp (eqb x.kind 4) (low_minus f.a f.b)
    (one_of LowExp (eqb x.kind 5) (low_equal f.a f.b)
    (one_of LowExp (eqb x.kind 6) (low_less f.a f.b)
    (one_of LowExp (between 8 11 x.kind) (low_query f.a f.b f.c f.d) low_const)))))

keeps_ranged : (i : ℕ) (x : Lab ℤ) → i < 1024 → Keeps (ranged i x)
unfolding ranged
keeps_ranged i x l = keeps_bind (keeps_need _ 22 i l) λ _. keeps_ret x

keeps_found : (i : ℕ) (label : Label) (x : Option ℤ) → i < 1024 → Keeps (found i label x)
unfolding found
keeps_found i label (Some z) l = keeps_ranged i _ l
keeps_found i label None l = λ s. stands l

module _ (ev : ℕ → M (Lab ℤ)) (k : (a : ℕ) → a < 1024 → Keeps (ev a)) where
  keeps_two : (i a c : ℕ) (f : ℤ → ℤ → ℤ) → i < 1024 → a < 1024 → c < 1024 → Keeps (ev a >>= λ x. ev c >>= λ y. ranged i (lift2 f x y))
  keeps_two i a c f l m n = keeps_bind (k a m) λ x. keeps_bind (k c n) λ y. keeps_ranged i (lift2 f x y) l

  keeps_expr : (i : ℕ) → i < 1024 → {x : Exp} → LowExp x → Keeps (expr ev i x)
  unfolding expr
  keeps_expr i l low_const = keeps_ret _
  keeps_expr i l low_var = keeps_look _
  keeps_expr i l (low_add m n) = keeps_two i _ _ _ l m n
  keeps_expr i l (low_minus m n) = keeps_two i _ _ _ l m n
  keeps_expr i l (low_equal m n) = keeps_two i _ _ _ l m n
  keeps_expr i l (low_less m n) = keeps_two i _ _ _ l m n
  keeps_expr i l (low_query m n o p) =
      keeps_bind (k _ m) λ _. keeps_bind (k _ n) λ _. keeps_bind (k _ o) λ _. keeps_bind (k _ p) λ _. keeps_bind (keeps_look _) λ _. keeps_found i _ _ l

-- ---- commands

data LowCmd : Cmd → Type 0 where
  low_skip : LowCmd skip
  low_assign : {p a : ℕ} → a < 1024 → LowCmd (assign p a)
  low_seq : {a c : ℕ} → a < 1024 → c < 1024 → LowCmd (seq a c)
  low_branch : {a c d : ℕ} → a < 1024 → c < 1024 → d < 1024 → LowCmd (branch a c d)
  low_while : {a c : ℕ} → a < 1024 → c < 1024 → LowCmd (while a c)
  low_put : {p a c d : ℕ} → a < 1024 → c < 1024 → d < 1024 → LowCmd (put p a c d)
  low_clear : {p a c : ℕ} → a < 1024 → c < 1024 → LowCmd (clear p a c)
  low_out : {p a : ℕ} → a < 1024 → LowCmd (out p a)
  low_grant : {p a kind : ℕ} → LowCmd (grant p a kind)
  low_revoke : {p a kind : ℕ} → LowCmd (revoke p a kind)
  low_raise : {p a : ℕ} → LowCmd (raise p a)

low_cmd : (x : NodeRecord) → Fields x → LowCmd (cmd_of x)
unfolding cmd_of
low_cmd x f =
    one_of LowCmd (eqb x.kind 17) (low_assign f.a)
    (one_of LowCmd (eqb x.kind 18) (low_seq f.a f.b)
    (one_of LowCmd (eqb x.kind 19) (low_branch f.a f.b f.c)
    (one_of LowCmd (eqb x.kind 20) (low_while f.a f.b)
    (one_of LowCmd (eqb x.kind 21) (low_put f.a f.b f.c)
    (one_of LowCmd (eqb x.kind 22) (low_clear f.a f.b)
    (one_of LowCmd (eqb x.kind 23) (low_out f.a)
    (one_of LowCmd (eqb x.kind 24) low_grant
    (one_of LowCmd (eqb x.kind 25) low_revoke
    (one_of LowCmd (eqb x.kind 26) low_raise low_skip)))))))))

keeps_choose : (z : ℤ) {m n : M (Unit {0})} → Keeps m → Keeps n → Keeps (choose z m n)
unfolding choose
keeps_choose z {m} {n} h k = go (is_zero z)
  where
    go : (x : Bool) → Keeps {A = Unit {0}} (λ s. elim x [ true ↦ n s | false ↦ m s ])
    go true = k
    go false = h

module _ (b : Book) (named : Named b) where
  keeps_eval : (fuel i : ℕ) → i < 1024 → Keeps (eval b fuel i)
  unfolding eval
  keeps_eval zero i l = λ s. stands l
  keeps_eval (suc fuel) i l = keeps_bind (keeps_pay _ i l) λ _. keeps_expr (eval b fuel) (keeps_eval fuel) i l (low_exp (node_at b i) (named.nodes i))

  module _ (mode : Mode) (rec : Env → ℕ → M (Unit {0})) (r : (e : Env) (i : ℕ) → i < 1024 → Keeps (rec e i)) where
    keeps_write : (e : Env) (i event p : ℕ) (k : Lab Key) (z : Lab Cell) → i < 1024 → Keeps (write_cell b mode.labels rec e i event p k z)
    unfolding write_cell posting fire trigger_run
    keeps_write e i event p k z l =
        keeps_bind
        (keeps_bind (keeps_need _ 23 i l) λ _. keeps_bind (keeps_look _) λ _. keeps_bind (keeps_need _ 24 i l) λ _. keeps_set_cell mode.labels i _ _ _ l) λ _.
        keeps_each _ 0 _ λ n _. keeps_when _ (keeps_own _ (r _ _ (named.triggers _)))

    module _ (ev : ℕ → M (Lab ℤ)) (k : (a : ℕ) → a < 1024 → Keeps (ev a)) where
      keeps_command : (e : Env) (i : ℕ) → i < 1024 → {x : Cmd} → LowCmd x → Keeps (command b mode ev rec e i x)
      unfolding command
      keeps_command e i l low_skip = keeps_ret tt
      keeps_command e i l (low_assign m) = keeps_bind (k _ m) λ _. keeps_set_var mode.labels i _ _ _ l
      keeps_command e i l (low_seq m n) = keeps_bind (r e _ m) λ _. r e _ n
      keeps_command e i l (low_branch m n o) = keeps_bind (k _ m) λ x. keeps_choose x.val (r _ _ n) (r _ _ o)
      keeps_command e i l (low_while m n) = keeps_bind (k _ m) λ x. keeps_choose x.val (keeps_bind (r _ _ n) λ _. r _ i l) (keeps_ret tt)
      keeps_command e i l (low_put m n o) =
          keeps_undoing _ (keeps_bind (k _ m) λ _. keeps_bind (k _ n) λ _. keeps_bind (k _ o) λ _. keeps_write e i 1 _ _ _ l)
      keeps_command e i l (low_clear m n) = keeps_undoing _ (keeps_bind (k _ m) λ _. keeps_bind (k _ n) λ _. keeps_write e i 2 _ _ _ l)
      keeps_command e i l (low_out m) = keeps_bind (k _ m) λ _. keeps_bind (keeps_look _) λ _. keeps_bind (keeps_need _ 27 i l) λ _. keeps_tell i _ _ l
      keeps_command e i l low_grant = keeps_bind (keeps_need _ 28 i l) λ _. keeps_bind (keeps_need _ 29 i l) λ _. keeps_tell i _ _ l
      keeps_command e i l low_revoke = keeps_bind (keeps_need _ 28 i l) λ _. keeps_bind (keeps_need _ 29 i l) λ _. keeps_tell i _ _ l
      keeps_command e i l low_raise = keeps_set_var mode.labels i _ _ _ l

  keeps_exec : (mode : Mode) (fuel : ℕ) (e : Env) (i : ℕ) → i < 1024 → Keeps (exec b mode fuel e i)
  unfolding exec
  keeps_exec mode zero e i l = λ s. stands l
  keeps_exec mode (suc fuel) e i l = keeps_bind (keeps_pay _ i l) λ _.
      keeps_command mode (exec b mode fuel) (keeps_exec mode fuel) (eval b fuel) (keeps_eval fuel) e i l (low_cmd (node_at b i) (named.nodes i))

  pub keeps_run : (mode : Mode) (fuel : ℕ) → Keeps (run b mode fuel)
  unfolding run program
  keeps_run mode fuel = keeps_each b.programs no_program _ λ i l. keeps_own _ (keeps_exec mode fuel _ _ (named.programs i l))
