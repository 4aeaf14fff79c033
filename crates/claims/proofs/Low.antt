-- What a group can tell apart: labelled values and states, seen from a set R that holds its reach. Assumes nothing.
use mathlib.Core.Path.{◌≡◌, refl, sym, ap, ◌∙◌, subst}
use mathlib.Core.Logic.{◌⊎◌, inl, inr}
use mathlib.Core.Bool.{Bool, true, false, false≢true, cond}
use Prim.Native.Nat.{ℕ}
use lib.Dec.{eqb}
use lib.IntN.{ℤ}
use borrow.Author.Tests.{eqb-true}
use Rattle.places.specs.Sets.{union, within, Within}
use Rattle.places.proofs.Sets.{within_trans, within_union_left, within_union_right}
use Rattle.monitor.specs.Labelled.{Label, Lab, lift, lift2, via, under}
use Rattle.monitor.specs.Run.{Cell, Rights, State, Rec, update, with_vars, with_cells}
use Rattle.claims.specs.TwoBooks.{Group}

-- a group, a set that holds its reach, and what a record gives it to read
pub record View : Type 0 where
  pub members : Group
  pub R : Label
  pub gift : Rec → Label

-- ---- labels

-- a label that does not lie inside R
abbrev pub Hidden : Label → Label → Type 0
Hidden R l = Within l R → ⊥

pub within? : (l R : Label) → Within l R ⊎ Hidden R l
within? l R = go (within l R) refl
  where
    go : (x : Bool) → within l R ≡ x → Within l R ⊎ Hidden R l
    go true e = inl (record { holds = e })
    go false e = inr (λ h. false≢true (sym e ∙ h.holds))

pub hidden_up : {R a c : Label} → Within a c → Hidden R a → Hidden R c
hidden_up w h = λ l. h (within_trans w l)

pub hidden_left : {R a : Label} (c : Label) → Hidden R a → Hidden R (union a c)
hidden_left {a = a} c h = hidden_up (within_union_left a c) h

pub hidden_right : {R : Label} (a : Label) {c : Label} → Hidden R c → Hidden R (union a c)
hidden_right a {c} h = hidden_up (within_union_right a c) h

-- ---- labelled values

-- two that the group cannot tell apart: equal, or hidden in both
pub data Same (R : Label) {A : Type 0} (x y : Lab A) : Type 0 where
  equal : x ≡ y → Same R x y
  hidden : Hidden R x.lab → Hidden R y.lab → Same R x y

pub same_sym : {R : Label} {A : Type 0} {x y : Lab A} → Same R x y → Same R y x
same_sym (equal p) = equal (sym p)
same_sym (hidden h k) = hidden k h

same_trans : {R : Label} {A : Type 0} {x y z : Lab A} → Same R x y → Same R y z → Same R x z
same_trans (equal p) (equal q) = equal (p ∙ q)
same_trans {R} (equal p) (hidden h k) = hidden (subst (λ w. Hidden R w.lab) (sym p) h) k
same_trans {R} (hidden h k) (equal q) = hidden h (subst (λ w. Hidden R w.lab) q k)
same_trans (hidden h k) (hidden h' k') = hidden h k'

-- what lies inside R is equal
pub same_inside : {R : Label} {A : Type 0} {x y : Lab A} → Same R x y → Within x.lab R → x ≡ y
same_inside (equal p) l = p
same_inside (hidden h k) l = absurd (h l)

pub same_lift : {R : Label} {A B : Type 0} (f : A → B) {x y : Lab A} → Same R x y → Same R (lift f x) (lift f y)
unfolding lift
same_lift f (equal p) = equal (ap (lift f) p)
same_lift f (hidden h k) = hidden h k

pub same_lift2 : {R : Label} {A B C : Type 0} (f : A → B → C) {x x' : Lab A} {y y' : Lab B}
    → Same R x x' → Same R y y' → Same R (lift2 f x y) (lift2 f x' y')
unfolding lift2
same_lift2 f (equal p) (equal q) = equal (λ i. lift2 f (p i) (q i))
same_lift2 f (equal p) (hidden h k) = hidden (hidden_right _ h) (hidden_right _ k)
same_lift2 f (hidden h k) e = hidden (hidden_left _ h) (hidden_left _ k)

via_one : {R : Label} {A B : Type 0} (f g : A → Lab B) (x : Lab A) → Same R (f x.val) (g x.val) → Same R (via x f) (via x g)
unfolding via
via_one f g x (equal p) = equal (λ i. record { val = (p i).val; lab = union x.lab (p i).lab })
via_one f g x (hidden h k) = hidden (hidden_right x.lab h) (hidden_right x.lab k)

pub same_via : {R : Label} {A B : Type 0} {f g : A → Lab B} {x y : Lab A}
    → Same R x y → ((a : A) → Same R (f a) (g a)) → Same R (via x f) (via y g)
unfolding via
same_via {R} {f = f} {g = g} {x = x} (equal p) e = subst (λ w. Same R (via x f) (via w g)) p (via_one f g x (e x.val))
same_via (hidden h k) e = hidden (hidden_left _ h) (hidden_left _ k)

pub same_under : {R : Label} {A : Type 0} (c : Label) {x y : Lab A} → Same R x y → Same R (under c x) (under c y)
unfolding under
same_under c (equal p) = equal (ap (under c) p)
same_under c (hidden h k) = hidden (hidden_right c h) (hidden_right c k)

pub same_raised : {R : Label} {A : Type 0} (l : Label) {x y : Lab A} → Same R x y
    → Same R {A = A} (record { val = x.val; lab = union x.lab l }) (record { val = y.val; lab = union y.lab l })
same_raised l (equal p) = equal (λ i. record { val = (p i).val; lab = union (p i).lab l })
same_raised l (hidden h k) = hidden (hidden_left l h) (hidden_left l k)

-- two families in which the same one is written
pub same_update : {R : Label} {A : Type 0} {f g : ℕ → Lab A} (q : ℕ) {x y : Lab A}
    → ((r : ℕ) → Same R (f r) (g r)) → Same R x y → (r : ℕ) → Same R (update f q x r) (update g q y r)
unfolding update
same_update {R} {f = f} {g = g} q {x} {y} h e r =
    elim (eqb r q) as (λ z. Same R (cond z x (f r)) (cond z y (g r))) [ true ↦ e | false ↦ h r ]

-- a family before and after one is written
pub same_written : {R : Label} {A : Type 0} (f : ℕ → Lab A) (q : ℕ) {x : Lab A} → Same R (f q) x → (r : ℕ) → Same R (f r) (update f q x r)
unfolding update
same_written {R} f q {x} e r =
    (elim (eqb r q) as (λ z. (z ≡ true → r ≡ q) → Same R (f r) (cond z x (f r)))
    [ true ↦ λ g. subst (λ n. Same R (f n) x) (sym (g refl)) e | false ↦ λ g. equal refl ]) (eqb-true r q)

-- ---- states

-- rights under which members read inside R only
pub record Safe (v : View) (r : Rights) : Type 0 where
  pub safe : (u : ℕ) → v.members u ≡ true → Within (r.read u) v.R

-- two states that the group cannot tell apart; budget and room are not looked at
pub record Alike (v : View) (s t : State) : Type 0 where
  pub cells : (q : ℕ) → Same v.R (s.cells q) (t.cells q)
  pub vars : (p : ℕ) → Same v.R (s.vars p) (t.vars p)
  pub rights : s.rights ≡ t.rights
  pub safe : Safe v s.rights

pub alike_sym : {v : View} {s t : State} → Alike v s t → Alike v t s
alike_sym {v} e = record {
  cells = λ q. same_sym (e.cells q);
  vars = λ p. same_sym (e.vars p);
  rights = sym e.rights;
  safe = subst (Safe v) e.rights e.safe;
}

pub alike_trans : {v : View} {s t u : State} → Alike v s t → Alike v t u → Alike v s u
alike_trans e f = record {
  cells = λ q. same_trans (e.cells q) (f.cells q);
  vars = λ p. same_trans (e.vars p) (f.vars p);
  rights = e.rights ∙ f.rights;
  safe = e.safe;
}

pub alike_first : {v : View} {s t : State} → Alike v s t → Alike v s s
alike_first e = alike_trans e (alike_sym e)

-- a step that changes budget and room, variables, or cells
pub alike_spent : {v : View} {s t : State} {left room left' room' : ℕ} → Alike v s t
    → Alike v (record { cells = s.cells; vars = s.vars; rights = s.rights; left = left; room = room })
    (record { cells = t.cells; vars = t.vars; rights = t.rights; left = left'; room = room' })
alike_spent e = record { cells = e.cells; vars = e.vars; rights = e.rights; safe = e.safe }

pub alike_vars : {v : View} {s t : State} {w w' : ℕ → Lab ℤ}
    → Alike v s t → ((p : ℕ) → Same v.R (w p) (w' p)) → Alike v (with_vars w s) (with_vars w' t)
alike_vars e h = record { cells = e.cells; vars = h; rights = e.rights; safe = e.safe }

pub alike_cells : {v : View} {s t : State} {c c' : ℕ → Lab Cell}
    → Alike v s t → ((q : ℕ) → Same v.R (c q) (c' q)) → Alike v (with_cells c s) (with_cells c' t)
alike_cells e h = record { cells = h; vars = e.vars; rights = e.rights; safe = e.safe }
