-- Runs as a group sees them: one run in a hidden context, and two runs side by side, with a law of each kind for each combinator of
-- specs/Run.antt. Assumes nothing.
use mathlib.Core.Path.{◌≡◌, refl, sym, ap, ap₂, ◌∙◌, subst}
use mathlib.Core.List.{List, [], ◌∷◌, ◌++◌, append_assoc}
use mathlib.Core.Logic.{◌⊎◌, inl, inr}
use mathlib.Core.Bool.{Bool, true, false}
use Prim.Native.Nat.{ℕ}
use lib.IntN.{ℤ}
use Rattle.places.specs.Sets.{Within}
use Rattle.places.proofs.Sets.{within_trans, empty_within, within_union_left, within_union_right, union_least}
use Rattle.monitor.specs.Labelled.{Label, bottom, Lab}
use Rattle.monitor.specs.Run.{Cell, Rights, State, Rec, said, Halt, Out, done, stop, M, after, next, ◌>>=◌, ret, look, each, when, Test, guard, need, commit, with_vars, recorded, pay, set_var, set_cell, tell, restore, own, taken_back, undoing}
use Rattle.claims.specs.TwoBooks.{Group}
use Rattle.claims.proofs.Views.{records, sees, keep, seen_of, gifts, Begun}
use Rattle.claims.proofs.Guards.{Guarded, passed, failed, guarded}
use Rattle.claims.proofs.Low.{View, Hidden, within?, hidden_up, hidden_left, Same, equal, hidden, same_update, same_written, Safe, Alike, alike_sym, alike_trans, alike_first, alike_spent, alike_vars, alike_cells}

-- ---- what a run shows

-- what the group sees of some records
abbrev pub shown : View → List Rec → List Rec
shown v t = seen_of v.members t

-- one run from s, in a hidden context: nothing is seen; where it is done, s looks as before, and P holds of the value
pub data Quiet (v : View) {A : Type 0} (P : A → Type 0) (s : State) : Out A → Type 0 where
  goes_on : {t : List Rec} {a : A} {s' : State} → shown v t ≡ [] → Alike v s s' → P a → Quiet v P s (done t a s')
  stops : {t : List Rec} {h : Halt} {s' : State} → shown v t ≡ [] → Quiet v P s (stop t h s')

abbrev pub Still : (v : View) {A : Type 0} → (A → Type 0) → M A → Type 0
Still v P m = (s : State) → Alike v s s → Quiet v P s (m s)

-- two runs: both are done and look the same, and Q holds of their values; or one stops, and what it has shown begins what the other
-- shows; or the first has made a grant that R does not hold
pub data Match (v : View) {A B : Type 0} (Q : A → B → Type 0) : Out A → Out B → Type 0 where
  both : {t u : List Rec} {a : A} {c : B} {s s' : State} → shown v t ≡ shown v u → Alike v s s' → Q a c → Match v Q (done t a s) (done u c s')
  first_stops : {t : List Rec} {h : Halt} {s : State} {o : Out B} → Begun (shown v t) (shown v (records o)) → Match v Q (stop t h s) o
  second_stops : {o : Out A} {t : List Rec} {h : Halt} {s : State} → Begun (shown v t) (shown v (records o)) → Match v Q o (stop t h s)
  beyond : {o : Out A} {o' : Out B} → Hidden v.R (gifts v.gift (records o)) → Match v Q o o'

abbrev pub Pair : (v : View) {A B : Type 0} → (A → B → Type 0) → M A → M B → Type 0
Pair v Q m m' = (s t : State) → Alike v s t → Match v Q (m s) (m' t)

-- nothing to say of a value, or of two
abbrev pub Any : {A : Type 0} → A → Type 0
Any a = Unit {0}

abbrev pub Both : {A B : Type 0} → A → B → Type 0
Both a c = Unit {0}

-- ---- lists of records

keep_append : (x : Bool) (r : Rec) (t u : List Rec) → keep x r (t ++ u) ≡ keep x r t ++ u
unfolding keep
keep_append true r t u = refl
keep_append false r t u = refl

seen_append : (g : Group) (t u : List Rec) → seen_of g (t ++ u) ≡ seen_of g t ++ seen_of g u
unfolding seen_of
seen_append g [] u = refl
seen_append g (r ∷ t) u = rw (seen_append g t u) (keep_append (sees g r) r (seen_of g t) (seen_of g u))

gifts_append : (gift : Rec → Label) {R : Label} (t u : List Rec)
    → Within (gifts gift (t ++ u)) R → Within (gifts gift t) R × Within (gifts gift u) R
unfolding gifts
gifts_append gift {R} [] u h = (empty_within 8 R, h)
gifts_append gift (r ∷ t) u h =
    let rest = gifts_append gift t u (within_trans (within_union_right (gift r) (gifts gift (t ++ u))) h) in
    (union_least (within_trans (within_union_left (gift r) (gifts gift (t ++ u))) h) rest.0, rest.1)

records_after : {A : Type 0} (t : List Rec) (o : Out A) → records (after t o) ≡ t ++ records o
unfolding records after
records_after t (done u a s) = refl
records_after t (stop u h s) = refl

pub begun_nil : {x : List Rec} (y : List Rec) → x ≡ [] → Begun x y
begun_nil y e = record { rest = y; is = rw e }

begun_append : {x y : List Rec} (z : List Rec) → Begun x y → Begun x (y ++ z)
begun_append {x} z f = record { rest = f.rest ++ z; is = sym (append_assoc x f.rest z) ∙ ap (λ l. l ++ z) f.is }

begun_after : (g : Group) (t u t' u' : List Rec)
    → seen_of g t ≡ seen_of g u → Begun (seen_of g t') (seen_of g u') → Begun (seen_of g (t ++ t')) (seen_of g (u ++ u'))
begun_after g t u t' u' e f = record {
  rest = f.rest;
  is = rw (seen_append g t t', seen_append g u u') (append_assoc (seen_of g t) (seen_of g t') f.rest ∙ (cc (e, f.is)));
}

-- ---- one run after another

quiet_after : {v : View} {A : Type 0} {P : A → Type 0} {s s' : State} (t : List Rec) {o : Out A}
    → shown v t ≡ [] → Alike v s s' → Quiet v P s' o → Quiet v P s (after t o)
unfolding after
quiet_after {v} t e r (goes_on {t = u} f q p) = goes_on (seen_append v.members t u ∙ (cc (e, f))) (alike_trans r q) p
quiet_after {v} t e r (stops {t = u} f) = stops (seen_append v.members t u ∙ (cc (e, f)))

quiet_next : {v : View} {A B : Type 0} {P : A → Type 0} {Q : B → Type 0} {s : State} {o : Out A} (k : A → M B)
    → Quiet v P s o → ((a : A) → P a → Still v Q (k a)) → Quiet v Q s (next o k)
unfolding next
quiet_next k (goes_on {t = t} {a = a} {s' = s'} e r p) h = quiet_after t e r (h a p s' (alike_first (alike_sym r)))
quiet_next k (stops e) h = stops e

pub still_bind : {v : View} {A B : Type 0} {P : A → Type 0} {Q : B → Type 0} {m : M A} {k : A → M B}
    → Still v P m → ((a : A) → P a → Still v Q (k a)) → Still v Q (m >>= k)
still_bind {k = k} h g = λ s r. quiet_next k (h s r) g

match_after : {v : View} {A B : Type 0} {Q : A → B → Type 0} (t u : List Rec) {o : Out A} {o' : Out B}
    → shown v t ≡ shown v u → Match v Q o o' → Match v Q (after t o) (after u o')
unfolding after
match_after {v} t u e (both {t = t'} {u = u'} f r q) =
    both (seen_append v.members t t' ∙ ap₂ ◌++◌ e f ∙ sym (seen_append v.members u u')) r q
match_after {v} t u {o' = o'} e (first_stops {t = t'} f) =
    first_stops {t = t ++ t'} {o = after u o'} (rw records_after (begun_after v.members t u t' (records o') e f))
match_after {v} t u {o = o} e (second_stops {t = u'} f) =
    second_stops {o = after t o} {t = u ++ u'} (rw records_after (begun_after v.members u t u' (records o) (sym e) f))
match_after {v} t u {o = o} e (beyond h) = beyond {o = after t o} (λ l. h (gifts_append v.gift t (records o) (rw records_after at l)).1)

begun_next : (g : Group) {x : List Rec} {A B : Type 0} (o : Out A) (k : A → M B)
    → Begun x (seen_of g (records o)) → Begun x (seen_of g (records (next o k)))
unfolding next records
begun_next g (done t a s) k f = rw (records_after, seen_append) (begun_append (seen_of g (records (k a s))) f)
begun_next g (stop t h s) k f = f

gifts_next : (gift : Rec → Label) {R : Label} {A B : Type 0} (o : Out A) (k : A → M B)
    → Within (gifts gift (records (next o k))) R → Within (gifts gift (records o)) R
unfolding next records
gifts_next gift (done t a s) k l = (gifts_append gift t (records (k a s)) (rw records_after at l)).0
gifts_next gift (stop t h s) k l = l

match_next : {v : View} {A B C D : Type 0} {Q : A → B → Type 0} {P : C → D → Type 0} {o : Out A} {o' : Out B} (k : A → M C) (k' : B → M D)
    → Match v Q o o' → ((a : A) (c : B) → Q a c → Pair v P (k a) (k' c)) → Match v P (next o k) (next o' k')
unfolding next
match_next k k' (both {t = t} {u = u} {a = a} {c = c} {s = s} {s' = s'} e r q) h = match_after t u e (h a c q s s' r)
match_next {v} {o' = o'} k k' (first_stops f) h = first_stops (begun_next v.members o' k' f)
match_next {v} {o = o} k k' (second_stops f) h = second_stops (begun_next v.members o k f)
match_next {v} {o = o} k k' (beyond h) g = beyond (λ l. h (gifts_next v.gift o k l))

pub pair_bind : {v : View} {A B C D : Type 0} {Q : A → B → Type 0} {P : C → D → Type 0} {m : M A} {m' : M B} {k : A → M C} {k' : B → M D}
    → Pair v Q m m' → ((a : A) (c : B) → Q a c → Pair v P (k a) (k' c)) → Pair v P (m >>= k) (m' >>= k')
pair_bind {k = k} {k' = k'} h g = λ s t r. match_next k k' (h s t r) g

-- ---- from hidden contexts to runs side by side

-- two runs in hidden contexts look the same
quiet_both : {v : View} {A B : Type 0} {s s' : State} {o : Out A} {o' : Out B}
    → Alike v s s' → Quiet v Any s o → Quiet v Any s' o' → Match v Both o o'
quiet_both r (goes_on e x p) (goes_on f y q) = both (e ∙ sym f) (alike_trans (alike_sym x) (alike_trans r y)) tt
quiet_both r (stops e) q = first_stops (begun_nil _ e)
quiet_both r (goes_on e x p) (stops f) = second_stops (begun_nil _ f)

pair_still : {v : View} {A B : Type 0} {m : M A} {m' : M B} → Still v Any m → Still v Any m' → Pair v Both m m'
pair_still h g = λ s t r. quiet_both r (h s (alike_first r)) (g t (alike_first (alike_sym r)))

-- what follows a labelled value: side by side where the value is equal, and in hidden contexts where it is not
pub pair_by : {v : View} {A : Type 0} {x y : Lab A} (k k' : Lab A → M (Unit {0})) → Same v.R x y
    → ((z : Lab A) → Pair v Both (k z) (k' z)) → ((z : Lab A) → Hidden v.R z.lab → Still v Any (k z) × Still v Any (k' z))
    → Pair v Both (k x) (k' y)
pair_by {v} {x = x} k k' (equal p) h g = subst (λ w. Pair v Both (k x) (k' w)) p (h x)
pair_by {x = x} {y = y} k k' (hidden l r) h g = pair_still (g x l).0 (g y r).1

-- ---- steps that leave the state

pub still_ret : {v : View} {A : Type 0} {P : A → Type 0} {a : A} → P a → Still v P (ret a)
unfolding seen_of
still_ret p = λ s r. goes_on refl r p

pub pair_ret : {v : View} {A B : Type 0} {Q : A → B → Type 0} {a : A} {c : B} → Q a c → Pair v Q (ret a) (ret c)
pair_ret q = λ s t r. both refl r q

pub still_look : {v : View} {A : Type 0} {P : A → Type 0} (f : State → A) → ((s : State) → Alike v s s → P (f s)) → Still v P (look f)
unfolding seen_of
still_look f h = λ s r. goes_on refl r (h s r)

pub pair_look : {v : View} {A B : Type 0} {Q : A → B → Type 0} (f : State → A) (g : State → B)
    → ((s t : State) → Alike v s t → Q (f s) (g t)) → Pair v Q (look f) (look g)
pair_look f g h = λ s t r. both refl r (h s t r)

pub still_when : {v : View} (x : Bool) {m : M (Unit {0})} → Still v Any m → Still v Any (when x m)
unfolding when
still_when true h = h
still_when false h = still_ret tt

pub pair_when : {v : View} (x : Bool) {m m' : M (Unit {0})} → Pair v Both m m' → Pair v Both (when x m) (when x m')
unfolding when
pair_when true h = h
pair_when false h = pair_ret tt

pub still_each : {v : View} {A : Type 0} (xs : List A) {f : A → M (Unit {0})} → ((a : A) → Still v Any (f a)) → Still v Any (each xs f)
unfolding each
still_each [] h = still_ret tt
still_each (x ∷ xs) h = still_bind (h x) λ _ _. still_each xs h

pub pair_each : {v : View} {A : Type 0} (xs : List A) {f f' : A → M (Unit {0})}
    → ((a : A) → Pair v Both (f a) (f' a)) → Pair v Both (each xs f) (each xs f')
unfolding each
pair_each [] h = pair_ret tt
pair_each (x ∷ xs) h = pair_bind (h x) λ _ _ _. pair_each xs h

-- ---- tests

quiet_guarded : {v : View} {A : Type 0} {P : A → Type 0} {x : Test} {n i : ℕ} {m : M A} {s : State} {o : Out A}
    → (x.passes ≡ true → Quiet v P s (m s)) → Guarded x n i m s o → Quiet v P s o
unfolding seen_of
quiet_guarded h (passed e) = h e
quiet_guarded h (failed e) = stops refl

match_guarded : {v : View} {A B : Type 0} {Q : A → B → Type 0} {x y : Test} {n i n' i' : ℕ} {m : M A} {m' : M B} {s t : State} {o : Out A} {o' : Out B}
    → (x.passes ≡ true → Match v Q (m s) (m' t)) → Guarded x n i m s o → Guarded y n' i' m' t o' → Match v Q o o'
unfolding seen_of
match_guarded h (passed e) (passed f) = h e
match_guarded h (failed e) g = first_stops (begun_nil _ refl)
match_guarded h (passed e) (failed f) = second_stops (begun_nil _ refl)

pub still_need : {v : View} (x : Test) (n i : ℕ) → Still v (λ _. x.passes ≡ true) (need x n i)
unfolding need
still_need x n i = λ s r. quiet_guarded (λ e. still_ret e s r) (guarded (λ _. x) n i (ret tt) s)

-- the two tests may differ; it is enough to know of the first that it passed
pub pair_need : {v : View} (x y : Test) (n i : ℕ) → Pair v (λ _ _. x.passes ≡ true) (need x n i) (need y n i)
unfolding need
pair_need x y n i = λ s t r. match_guarded (λ e. pair_ret e s t r) (guarded (λ _. x) n i (ret tt) s) (guarded (λ _. y) n i (ret tt) t)

-- ---- changes of the state

still_commit : {v : View} (x : State → Test) (n i : ℕ) (t : List Rec) (f : State → State)
    → shown v t ≡ [] → ((s : State) → Alike v s s → (x s).passes ≡ true → Alike v s (f s)) → Still v Any (guard x n i (commit t f))
still_commit x n i t f e h = λ s r. quiet_guarded (λ p. goes_on e (h s r p) tt) (guarded x n i (commit t f) s)

pair_commit : {v : View} (x x' : State → Test) (n i : ℕ) (t t' : List Rec) (f f' : State → State)
    → shown v t ≡ shown v t' → ((s s' : State) → Alike v s s' → Alike v (f s) (f' s'))
    → Pair v Both (guard x n i (commit t f)) (guard x' n i (commit t' f'))
pair_commit x x' n i t t' f f' e h = λ s s' r.
    match_guarded (λ p. both e (h s s' r) tt) (guarded x n i (commit t f) s) (guarded x' n i (commit t' f') s')

pub still_pay : {v : View} (c i : ℕ) → Still v Any (pay c i)
unfolding pay seen_of
still_pay c i = still_commit _ 21 i [] _ refl (λ s r e. alike_spent r)

pub pair_pay : {v : View} (c i : ℕ) → Pair v Both (pay c i) (pay c i)
unfolding pay
pair_pay c i = pair_commit _ _ 21 i [] [] _ _ refl (λ s s' r. alike_spent r)

-- a write in a hidden context: what stands there is hidden already, by the test, and stays so
pub still_set_var : {v : View} (i : ℕ) {c : Label} (p : ℕ) (f : Lab ℤ → Lab ℤ)
    → Hidden v.R c → ((x : Lab ℤ) → Hidden v.R x.lab → Hidden v.R (f x).lab) → Still v Any (set_var true i c p f)
unfolding set_var seen_of
still_set_var i p f h k = still_commit _ 25 i [] _ refl λ s r e.
    let old = hidden_up (record { holds = e }) h in
    alike_vars r (same_written s.vars p (hidden old (k (s.vars p) old)))

pub pair_set_var : {v : View} (i : ℕ) (c : Label) (p : ℕ) (f f' : Lab ℤ → Lab ℤ)
    → ((x y : Lab ℤ) → Same v.R x y → Same v.R (f x) (f' y)) → Pair v Both (set_var true i c p f) (set_var true i c p f')
unfolding set_var
pair_set_var i c p f f' k = pair_commit _ _ 25 i [] [] _ _ refl λ s s' r.
    alike_vars r (same_update p r.vars (k (s.vars p) (s'.vars p) (r.vars p)))

pub still_set_cell : {v : View} (i : ℕ) {c : Label} (q : ℕ) (x : Lab Cell)
    → Hidden v.R c → Hidden v.R x.lab → Still v Any (set_cell true i c q x)
unfolding set_cell seen_of
still_set_cell i q x h k = still_commit _ 26 i [] _ refl λ s r e.
    alike_cells r (same_written s.cells q (hidden (hidden_up (record { holds = e }) h) k))

pub pair_set_cell : {v : View} (i : ℕ) (c : Label) (q : ℕ) {x y : Lab Cell}
    → Same v.R x y → Pair v Both (set_cell true i c q x) (set_cell true i c q y)
unfolding set_cell
pair_set_cell i c q k = pair_commit _ _ 26 i [] [] _ _ refl λ s s' r. alike_cells r (same_update q r.cells k)

-- ---- trace records

-- an amount is seen by members alone
seen_amount : (g : Group) (u : ℕ) (z z' : ℤ) → (g u ≡ true → z ≡ z') → seen_of g (said u z ∷ []) ≡ seen_of g (said u z' ∷ [])
unfolding seen_of sees keep
seen_amount g u z z' h =
    (elim (g u) as (λ x. (x ≡ true → z ≡ z') → keep x (said u z) [] ≡ keep x (said u z') [])
    [ true ↦ λ e. ap (λ y. said u y ∷ []) (e refl) | false ↦ λ e. refl ]) h

unseen_amount : (g : Group) (u : ℕ) (z : ℤ) → (g u ≡ true → ⊥) → seen_of g (said u z ∷ []) ≡ []
unfolding seen_of sees keep
unseen_amount g u z h =
    (elim (g u) as (λ x. (x ≡ true → ⊥) → keep x (said u z) [] ≡ []) [ true ↦ λ e. absurd (e refl) | false ↦ λ e. refl ]) h

pub still_said : {v : View} (i u : ℕ) (z : ℤ) → (v.members u ≡ true → ⊥) → Still v Any (tell i (said u z) (λ r. r))
unfolding tell
still_said {v} i u z h = still_commit _ 30 i _ _ (unseen_amount v.members u z h) (λ s r e. alike_spent r)

pub pair_said : {v : View} (i u : ℕ) (z z' : ℤ)
    → (v.members u ≡ true → z ≡ z') → Pair v Both (tell i (said u z) (λ r. r)) (tell i (said u z') (λ r. r))
unfolding tell
pair_said {v} i u z z' h = pair_commit _ _ 30 i _ _ _ _ (seen_amount v.members u z z' h) (λ s s' r. alike_spent r)

match_beyond : {v : View} {A B : Type 0} {Q : A → B → Type 0} {x : Test} {n i : ℕ} {m : M A} {s : State} {o : Out A} {o' : Out B}
    → Hidden v.R (gifts v.gift (records (m s))) → Guarded x n i m s o → Match v Q o o'
unfolding seen_of
match_beyond h (passed e) = beyond h
match_beyond h (failed e) = first_stops (begun_nil _ refl)

-- a change of rights keeps what members read inside R, if R holds what its record gives
pub pair_changed : {v : View} (i : ℕ) (r : Rec) (f : Rights → Rights)
    → ((w : Rights) → Safe v w → Within (v.gift r) v.R → Safe v (f w)) → Pair v Both (tell i r f) (tell i r f)
unfolding tell records gifts
pair_changed {v} i r f h = go (within? (v.gift r) v.R)
  where
    go : Within (v.gift r) v.R ⊎ Hidden v.R (v.gift r) → Pair v Both (tell i r f) (tell i r f)
    go (inl l) = pair_commit _ _ 30 i _ _ _ _ refl λ s s' a.
        record { cells = a.cells; vars = a.vars; rights = ap f a.rights; safe = h s.rights a.safe l }
    go (inr l) = λ s s' a. match_beyond (hidden_left bottom l) (guarded _ 30 i (commit (r ∷ []) (recorded f)) s)

-- ---- variables of its own

quiet_own : {v : View} {s : State} {w : ℕ → Lab ℤ} {o : Out (Unit {0})} → Quiet v Any (with_vars w s) o → Quiet v Any s (restore s.vars o)
unfolding restore
quiet_own (goes_on e r p) = goes_on e (alike_vars r (λ p. equal refl)) tt
quiet_own (stops e) = stops e

pub still_own : {v : View} (w : ℕ → Lab ℤ) {m : M (Unit {0})} → Still v Any m → Still v Any (own w m)
unfolding own
still_own w h = λ s r. quiet_own (h (with_vars w s) (alike_vars r (λ p. equal refl)))

records_restore : (w : ℕ → Lab ℤ) (o : Out (Unit {0})) → records (restore w o) ≡ records o
unfolding records restore
records_restore w (done t a s) = refl
records_restore w (stop t h s) = refl

match_own : {v : View} (w w' : ℕ → Lab ℤ) {o o' : Out (Unit {0})}
    → ((p : ℕ) → Same v.R (w p) (w' p)) → Match v Both o o' → Match v Both (restore w o) (restore w' o')
unfolding restore
match_own w w' e (both f r q) = both f (alike_vars r e) tt
match_own w w' {o' = o'} e (first_stops {t = t} f) = first_stops {t = t} {o = restore w' o'} (rw records_restore f)
match_own w w' {o = o} e (second_stops {t = t} f) = second_stops {o = restore w o} {t = t} (rw records_restore f)
match_own w w' {o = o} e (beyond h) = beyond {o = restore w o} (λ l. h (rw records_restore at l))

pub pair_own : {v : View} {w w' : ℕ → Lab ℤ} {m m' : M (Unit {0})}
    → ((p : ℕ) → Same v.R (w p) (w' p)) → Pair v Both m m' → Pair v Both (own w m) (own w' m')
unfolding own
pair_own {w = w} {w' = w'} e h = λ s s' r. match_own s.vars s'.vars r.vars (h (with_vars w s) (with_vars w' s') (alike_vars r e))

-- ---- what a stop takes back: on a stop nobody asks for the cells, and a run that is done keeps them

quiet_taken_back : {v : View} {s : State} (c : ℕ → Lab Cell) {o : Out (Unit {0})} → Quiet v Any s o → Quiet v Any s (taken_back c o)
unfolding taken_back
quiet_taken_back c (goes_on e r p) = goes_on e r p
quiet_taken_back c (stops e) = stops e

pub still_undoing : {v : View} (x : Bool) {m : M (Unit {0})} → Still v Any m → Still v Any (undoing x m)
unfolding undoing
still_undoing true h = λ s r. quiet_taken_back s.cells (h s r)
still_undoing false h = h

records_taken_back : (c : ℕ → Lab Cell) (o : Out (Unit {0})) → records (taken_back c o) ≡ records o
unfolding records taken_back
records_taken_back c (done t a s) = refl
records_taken_back c (stop t h s) = refl

match_taken_back : {v : View} (c c' : ℕ → Lab Cell) {o o' : Out (Unit {0})} → Match v Both o o' → Match v Both (taken_back c o) (taken_back c' o')
unfolding taken_back
match_taken_back c c' (both e r q) = both e r q
match_taken_back c c' {o' = o'} (first_stops {t = t} f) = first_stops {t = t} {o = taken_back c' o'} (rw records_taken_back f)
match_taken_back c c' {o = o} (second_stops {t = t} f) = second_stops {o = taken_back c o} {t = t} (rw records_taken_back f)
match_taken_back c c' {o = o} (beyond h) = beyond {o = taken_back c o} (λ l. h (rw records_taken_back at l))

pub pair_undoing : {v : View} (x : Bool) {m m' : M (Unit {0})} → Pair v Both m m' → Pair v Both (undoing x m) (undoing x m')
unfolding undoing
pair_undoing true h = λ s s' r. match_taken_back s.cells s'.cells (h s s' r)
pair_undoing false h = h
