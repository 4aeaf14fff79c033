-- A relation between runs that each step of a run keeps is kept by every expression and every command. Assumes nothing.
use mathlib.Core.Path.{◌≡◌, refl}
use mathlib.Core.List.{List, [], ◌∷◌}
use mathlib.Core.Bool.{Bool, true, false, ◌&&◌}
use Prim.Native.Nat.{ℕ}
use lib.IntN.{ℤ, pos}
use Rattle.std.specs.Prelude.{Option, Some, None}
use Rattle.book.specs.Records.{Book}
use Rattle.book.specs.Refusals.{is_zero}
use Rattle.monitor.specs.Labelled.{Label, Lab, lift2}
use Rattle.monitor.specs.Run.{Cell, State, Rec, M, next, ◌>>=◌, ret, look, each, when, plainly, inside, guard, need, commit, set_var, set_cell, tell, own, undoing}
use Rattle.monitor.specs.Syntax.{Exp, const, var, add, minus, equal, less, query, Cmd, skip, assign, seq, branch, while, put, clear, out, grant, revoke, raise}
use Rattle.monitor.specs.Rules.{Key, ranged, found, expr, Mode, Env, choose, posting, trigger_run, fire, write_cell, command}

-- a relation between runs
abbrev pub Relation : Type 1
Relation = (A : Type 0) → M A → M A → Type 0

-- it holds between the steps of two runs, which are made in these modes
pub record Kept (mode mode' : Mode) (Rel : Relation) : Type 1 where
  pub looks : {A : Type 0} (f : State → A) → Rel A (look f) (look f)
  pub binds : {A B : Type 0} {m m' : M A} {k k' : A → M B} → Rel A m m' → ((a : A) → Rel B (k a) (k' a)) → Rel B (m >>= k) (m' >>= k')
  pub tests : (x : State → Bool) (n i : ℕ) {m : M (Unit {0})} → Rel (Unit {0}) m m
      → Rel (Unit {0}) (guard (λ s. plainly (x s)) n i m) (guard (λ s. plainly (x s)) n i m)
  pub label_tests : (l : Label) (bound : State → Label) (n i : ℕ) {m : M (Unit {0})} → Rel (Unit {0}) m m
      → Rel (Unit {0}) (guard (λ s. inside mode.labels l (bound s)) n i m) (guard (λ s. inside mode'.labels l (bound s)) n i m)
  pub commits : (t : List Rec) (f : State → State) → ((s : State) → (f s).left ≡ s.left) → Rel (Unit {0}) (commit t f) (commit t f)
  pub owns : (v : ℕ → Lab ℤ) {m m' : M (Unit {0})} → Rel (Unit {0}) m m' → Rel (Unit {0}) (own v m) (own v m')
  pub undoings : (x : Bool) {m m' : M (Unit {0})} → Rel (Unit {0}) m m'
      → Rel (Unit {0}) (undoing (mode.undoes && x) m) (undoing (mode'.undoes && x) m')

module _ {mode mode' : Mode} {Rel : Relation} (kept : Kept mode mode' Rel) where
  open kept use {looks, binds, tests, label_tests, commits, owns, undoings}

  returns : {A : Type 0} (a : A) → Rel A (ret a) (ret a)
  returns a = looks (λ s. a)

  needs : (x : Bool) (n i : ℕ) → Rel (Unit {0}) (need (plainly x) n i) (need (plainly x) n i)
  unfolding need
  needs x n i = tests (λ s. x) n i (returns tt)

  label_needs : (l bound : Label) (n i : ℕ) → Rel (Unit {0}) (need (inside mode.labels l bound) n i) (need (inside mode'.labels l bound) n i)
  unfolding need
  label_needs l bound n i = label_tests l (λ s. bound) n i (returns tt)

  chooses : (z : ℤ) {m n m' n' : M (Unit {0})} → Rel (Unit {0}) m m' → Rel (Unit {0}) n n' → Rel (Unit {0}) (choose z m n) (choose z m' n')
  unfolding choose
  chooses z {m} {n} {m'} {n'} h k = go (is_zero z)
    where
      go : (x : Bool) → Rel (Unit {0}) (λ s. elim x [ true ↦ n s | false ↦ m s ]) (λ s. elim x [ true ↦ n' s | false ↦ m' s ])
      go true = k
      go false = h

  whens : (x : Bool) {m m' : M (Unit {0})} → Rel (Unit {0}) m m' → Rel (Unit {0}) (when x m) (when x m')
  unfolding when
  whens true h = h
  whens false h = returns tt

  pub eaches : {A : Type 0} (xs : List A) {f f' : A → M (Unit {0})}
      → ((a : A) → Rel (Unit {0}) (f a) (f' a)) → Rel (Unit {0}) (each xs f) (each xs f')
  unfolding each
  eaches [] h = returns tt
  eaches (x ∷ xs) h = binds (h x) λ _. eaches xs h

  posts : (i : ℕ) (c : Label) (user p : ℕ) (k : Key) (z : Lab Cell) → Rel (Unit {0}) (posting mode.labels i c user p k z) (posting mode'.labels i c user p k z)
  unfolding posting set_cell
  posts i c user p k z =
      binds (needs _ 23 i) λ _.
      binds (looks _) λ _.
      binds (needs _ 24 i) λ _.
      label_tests _ _ 26 i (commits [] _ (λ s. refl))

  module _ (ev ev' : ℕ → M (Lab ℤ)) (k : (a : ℕ) → Rel (Lab ℤ) (ev a) (ev' a)) where
    ranges : (i : ℕ) (x : Lab ℤ) → Rel (Lab ℤ) (ranged i x) (ranged i x)
    unfolding ranged
    ranges i x = binds (needs _ 22 i) λ _. returns x

    -- a halt is a test that does not pass
    finds : (i : ℕ) (l : Label) (x : Option ℤ) → Rel (Lab ℤ) (found i l x) (found i l x)
    unfolding found need guard next
    finds i l (Some z) = ranges i _
    finds i l None = binds (needs false 31 i) λ _. returns (record { val = pos 0; lab = l })

    twos : (i a c : ℕ) (f : ℤ → ℤ → ℤ)
        → Rel (Lab ℤ) (ev a >>= λ x. ev c >>= λ y. ranged i (lift2 f x y)) (ev' a >>= λ x. ev' c >>= λ y. ranged i (lift2 f x y))
    twos i a c f = binds (k a) λ x. binds (k c) λ y. ranges i (lift2 f x y)

    pub expressions : (i : ℕ) (x : Exp) → Rel (Lab ℤ) (expr ev i x) (expr ev' i x)
    unfolding expr
    expressions i (const z) = returns _
    expressions i (var p) = looks _
    expressions i (add a c) = twos i a c _
    expressions i (minus a c) = twos i a c _
    expressions i (equal a c) = twos i a c _
    expressions i (less a c) = twos i a c _
    expressions i (query kind p a c d e) =
        binds (k a) λ _. binds (k c) λ _. binds (k d) λ _. binds (k e) λ _. binds (looks _) λ _. finds i _ _

    module _ (b : Book) (rec rec' : Env → ℕ → M (Unit {0})) (h : (e : Env) (i : ℕ) → Rel (Unit {0}) (rec e i) (rec' e i)) where
      writes : (e : Env) (i event p : ℕ) (x : Lab Key) (z : Lab Cell)
          → Rel (Unit {0}) (write_cell b mode.labels rec e i event p x z) (write_cell b mode'.labels rec' e i event p x z)
      unfolding write_cell fire trigger_run
      writes e i event p x z = binds (posts i _ e.user p x.val z) λ _. eaches _ λ n. whens _ (owns _ (h _ _))

      pub commands : (e : Env) (i : ℕ) (x : Cmd) → Rel (Unit {0}) (command b mode ev rec e i x) (command b mode' ev' rec' e i x)
      unfolding command set_var tell
      commands e i skip = returns tt
      commands e i (assign p a) = binds (k a) λ _. label_tests _ _ 25 i (commits [] _ (λ s. refl))
      commands e i (seq a c) = binds (h e a) λ _. h e c
      commands e i (branch a c d) = binds (k a) λ x. chooses x.val (h _ c) (h _ d)
      commands e i (while a c) = binds (k a) λ x. chooses x.val (binds (h _ c) λ _. h _ i) (returns tt)
      commands e i (put p a c d) = undoings _ (binds (k a) λ _. binds (k c) λ _. binds (k d) λ _. writes e i 1 p _ _)
      commands e i (clear p a c) = undoings _ (binds (k a) λ _. binds (k c) λ _. writes e i 2 p _ _)
      commands e i (out p a) = binds (k a) λ _. binds (looks _) λ _. binds (label_needs _ _ 27 i) λ _. tests _ 30 i (commits _ _ (λ s. refl))
      commands e i (grant p a kind) = binds (needs _ 28 i) λ _. binds (label_needs _ _ 29 i) λ _. tests _ 30 i (commits _ _ (λ s. refl))
      commands e i (revoke p a kind) = binds (needs _ 28 i) λ _. binds (label_needs _ _ 29 i) λ _. tests _ 30 i (commits _ _ (λ s. refl))
      commands e i (raise p a) = label_tests _ _ 25 i (commits [] _ (λ s. refl))
