-- What every run keeps, of any book: contexts and the labels of the 512 cells have eight words, no label has more, all words have 64 bits, the
-- records are of the paper's five kinds, and a stop about labels is on a set that is not within its bound, where the state that it left is not
-- taken back. Each combinator of specs/Run.antt once, then the rules. Assumes nothing.
use mathlib.Core.Path.{◌≡◌, refl, sym, ◌∙◌, subst}
use mathlib.Core.List.{List, [], ◌∷◌, ◌++◌}
use mathlib.Core.Bool.{Bool, true, false, ◌&&◌, ◌||◌, not, cond, true≢false, false≢true}
use Prim.Native.Nat.{ℕ, zero, suc, ◌+◌, ◌*◌, ◌≤◌, ◌<◌, zero-le}
use native.Mathlib.Nat.{le_refl}
use native.Mathlib.Decide.{dec_lt}
use native.Mathlib.Omega.{arith}
use lib.Dec.{eqb, ltb}
use lib.Bits.{bit_or}
use lib.IntN.{ℤ, pos}
use lib.ListN.{length, get_or, length-replicate}
use Rattle.std.specs.Prelude.{Option, Some, None}
use Rattle.places.specs.Sets.{Words, empty, union, within}
use Rattle.places.proofs.Sets.{length_word_by_word, words_union, words_set_of}
use Rattle.places.proofs.Shapes.{set_of_none}
use Rattle.regions.specs.Regions.{region_set}
use Rattle.regions.proofs.Regions.{length_region}
use Rattle.book.specs.Records.{NodeRecord, Book, region_of}
use Rattle.book.specs.Kinds.{between}
use Rattle.book.specs.Refusals.{no_region, is_zero, node_at}
use Rattle.book.proofs.Chains.{both}
use Rattle.book.proofs.Remembered.{length_remembered, words_remembered}
use Rattle.monitor.specs.Labelled.{Label, bottom, Lab, lit, lift, lift2, via, under}
use Rattle.monitor.specs.Run.{Cell, Rights, State, Rec, said, changed, Halt, about_labels, Out, done, stop, M, after, next, ◌>>=◌, ret, look, each, when, Test, plainly, inside, guard, need, commit, update, with_vars, pay, set_var, set_cell, tell, sixteen, restore, own, taken_back, undoing}
use Rattle.monitor.specs.Syntax.{Exp, const, var, add, minus, equal, less, query, Cmd, skip, assign, seq, branch, while, put, clear, out, grant, revoke, raise, cmd_of}
use Rattle.monitor.specs.Rules.{Key, key, key_place, in_table, from_to, Box, box_of, in_box, gather, seen, ranged, found, expr, Mode, Env, within_label, choose, posting, trigger_vars, region_places, trigger_run, fire, write_cell, command, eval, exec, program, run}
use Rattle.monitor.specs.Call.{script, start_cells, start_state, run_book}
use Rattle.claims.specs.Reasons.{Bound, variable, cell, reader, everyone}
use Rattle.claims.specs.Undone.{standing_run}
use Rattle.claims.proofs.Views.{records, end}
use Rattle.claims.proofs.Steps.{Any}
use Rattle.claims.proofs.Guards.{halt, Guarded, passed, failed, guarded}
use Rattle.monitor.proofs.Memory.{Eight}
use Rattle.monitor.proofs.Start.{start_label, start_beyond}

-- ---- labels

-- at most eight words, each of 64 bits
pub record Small (a : Label) : Type 0 where
  pub few : length a ≤ 8
  pub words : Words a

abbrev pub Short : {A : Type 0} → Lab A → Type 0
Short x = Small x.lab

-- eight words, as a context has
record Full (a : Label) : Type 0 where
  all : length a ≡ 8
  words : Words a

small : {a : Label} → Full a → Small a
small h = record { few = omega (arith, h.all); words = h.words }

small_empty : (n : ℕ) → n ≤ 8 → Small (empty n)
small_empty n h = record { few = omega (arith, length-replicate {A = ℕ} n 0, h); words = subst Words (set_of_none n) (words_set_of n (λ p. false)) }

bottom_words : Full bottom
bottom_words = record { all = refl; words = (small_empty 8 (le_refl 8)).words }

small_union : (a b : Label) → Small a → Small b → Small (union a b)
unfolding union
small_union a b h l = record { few = omega (arith, length_word_by_word bit_or a b, h.few, l.few); words = words_union h.words l.words }

whole_union : (a b : Label) → Full a → Small b → Full (union a b)
unfolding union
whole_union a b h l = record { all = omega (arith, length_word_by_word bit_or a b, h.all, l.few); words = words_union h.words l.words }

pub record Sized (s : State) : Type 0 where
  pub cells : Eight s.cells 512
  pub short : (q : ℕ) → Short (s.cells q)
  pub vars : (p : ℕ) → Short (s.vars p)

-- ---- labels of values

short_lift2 : {A B C : Type 0} (f : A → B → C) (x : Lab A) (y : Lab B) → Short x → Short y → Short (lift2 f x y)
unfolding lift2
short_lift2 f x y h l = small_union x.lab y.lab h l

short_gather : (cells : ℕ → Lab Cell) (picks : ℕ → Bool) (base n : ℕ) → ((q : ℕ) → Short (cells q)) → Short (gather cells picks base n)
unfolding gather lit lift2
short_gather cells picks base zero h = small bottom_words
short_gather cells picks base (suc n) h = go (picks (base + n)) (gather cells picks base n) (short_gather cells picks base n h)
  where
    go : (x : Bool) (rest : Lab (List Cell)) → Short rest
        → Short {A = List Cell} (elim x [ true ↦ lift2 (λ xs x. xs ++ (x ∷ [])) rest (cells (base + n)) | false ↦ rest ])
    go true rest l = small_union rest.lab (cells (base + n)).lab l (h (base + n))
    go false rest l = l

short_seen : (p : ℕ) (x : Lab Box) (s : State) → Short x → Sized s → Short (seen p x s)
unfolding seen via
short_seen p x s h f = small_union x.lab _ h (short_gather s.cells (in_box x.val) (64 * p) 64 f.short)

short_box : (w x y z : Lab ℤ) → Short w → Short x → Short y → Short z → Short (box_of w x y z)
unfolding box_of from_to
short_box w x y z h i j k = short_lift2 _ _ _ (short_lift2 _ w x h i) (short_lift2 _ y z j k)

-- a property of all values is one of the values after a write
update_all : {A : Type 0} (P : ℕ → A → Type 0) (f : ℕ → A) (q : ℕ) (a : A)
    → ((r : ℕ) → P r (f r)) → ((r : ℕ) → P r a) → (r : ℕ) → P r (update f q a r)
unfolding update
update_all P f q a h g r = go (eqb r q)
  where
    go : (x : Bool) → P r (cond x a (f r))
    go true = g r
    go false = h r

short_update : {A : Type 0} (f : ℕ → Lab A) (q : ℕ) (x : Lab A) → ((r : ℕ) → Short (f r)) → Short x → (r : ℕ) → Short (update f q x r)
short_update f q x h l = update_all (λ r y. Short y) f q x h (λ r. l)

-- a context of eight words keeps them
abbrev Whole : Env → Type 0
Whole e = Full e.ctx

whole_within : {A : Type 0} (e : Env) (x : Lab A) → Whole e → Short x → Whole (within_label e x)
unfolding within_label
whole_within e x h l = whole_union e.ctx x.lab h l

short_sixteen : (x : Lab ℤ) → Short x → (p : ℕ) → Short (sixteen x p)
unfolding sixteen
short_sixteen x h p = go (ltb p 16)
  where
    go : (y : Bool) → Short {A = ℤ} (cond y x (record { val = pos 0; lab = [] }))
    go true = h
    go false = small_empty 0 zero-le

short_trigger_vars : (c : Label) (k : Key) (z : Lab Cell) → Full c → Short z → (p : ℕ) → Short (trigger_vars c k z p)
unfolding trigger_vars under lift
short_trigger_vars c k z h l =
    let few : Small c = small h in
    short_update _ 2 _ (short_update _ 1 _ (short_update _ 0 _ (short_sixteen _ few) few) few) (small_union c z.lab few l)

small_region : (b : Book) (n : ℕ) → Small (region_places b n)
unfolding region_places region_set
small_region b n = record { few = omega (arith, length_region 8 (region_of (get_or b.regions n no_region))); words = words_set_of 8 _ }

-- ---- records

-- an out, or a change of rights of kind 2 to 5
pub data Proper : Rec → Type 0 where
  out_record : {u : ℕ} {z : ℤ} → Proper (said u z)
  rights_record : {k u n : ℕ} → between 2 5 k ≡ true → Proper (changed k u n)

pub data AllProper : List Rec → Type 0 where
  none : AllProper []
  more : {r : Rec} {t : List Rec} → Proper r → AllProper t → AllProper (r ∷ t)

-- one kind or another
either : (x : Bool) (k k' : ℕ) → between 2 5 k ≡ true → between 2 5 k' ≡ true → between 2 5 (cond x k k') ≡ true
either true k k' h h' = h
either false k k' h h' = h'

proper_append : {t u : List Rec} → AllProper t → AllProper u → AllProper (t ++ u)
proper_append none q = q
proper_append (more p ps) q = more p (proper_append ps q)

-- ---- a command as its node says

data Read (n : NodeRecord) : Cmd → Type 0 where
  read_skip : Read n skip
  read_assign : Read n (assign n.p n.a)
  read_seq : Read n (seq n.a n.b)
  read_branch : Read n (branch n.a n.b n.c)
  read_while : Read n (while n.a n.b)
  read_put : Read n (put n.p n.a n.b n.c)
  read_clear : Read n (clear n.p n.a n.b)
  read_out : Read n (out n.p n.a)
  read_grant : Read n (grant n.p n.a n.b)
  read_revoke : Read n (revoke n.p n.a n.b)
  read_raise : Read n (raise n.p n.a)

read_of : (n : NodeRecord) → Read n (cmd_of n)
unfolding cmd_of
read_of n =
    of 17 read_assign (of 18 read_seq (of 19 read_branch (of 20 read_while (of 21 read_put (of 22 read_clear
    (of 23 read_out (of 24 read_grant (of 25 read_revoke (of 26 read_raise read_skip)))))))))
  where
    either : (x : Bool) {y z : Cmd} → Read n y → Read n z → Read n (cond x y z)
    either true h k = h
    either false h k = k

    of : (kind : ℕ) {y z : Cmd} → Read n y → Read n z → Read n (cond (eqb n.kind kind) y z)
    of kind h k = either (eqb n.kind kind) h k

-- ---- stops

module _ (b : Book) where
  -- a stop about labels: the set tested is not within its bound, of which `Bound` says what it is
  pub data Reasoned (h : Halt) (s : State) : Type 0 where
    outside : Bound b s h → within h.compared.tested h.compared.bound ≡ false → Small h.compared.tested → Reasoned h s
    plain : about_labels h.number ≡ false → Reasoned h s

  -- why a test may fail in a state
  abbrev Failing : Test → ℕ → ℕ → State → Type 0
  Failing x n i s = x.passes ≡ false → Reasoned (halt x n i) s

  fails_outside : (labels : Bool) (l bound : Label) (n i : ℕ) {s : State} → Bound b s (halt (inside labels l bound) n i) → Small l → Failing (inside labels l bound) n i s
  fails_outside labels l bound n i w h e = outside w (go labels (within l bound) e) h
    where
      go : (x y : Bool) → (not x || y) ≡ false → y ≡ false
      go true y e = e
      go false y e = absurd (false≢true (sym e))

-- ---- runs

module _ (b : Book) (mode : Mode) where
  abbrev labels : Bool
  labels = mode.labels

  -- a run's records are proper, it stops for a reason, unless what it wrote is taken back, and it ends in a sized state; where it is done, P
  -- holds of its value
  pub data Fine {A : Type 0} (P : A → Type 0) : Out A → Type 0 where
    finishes : {t : List Rec} {a : A} {s : State} → AllProper t → P a → Sized s → Fine P (done t a s)
    stops : {t : List Rec} {h : Halt} {s : State} → AllProper t → (mode.undoes ≡ false → Reasoned b h s) → Sized s → Fine P (stop t h s)

  abbrev pub Keeps : {A : Type 0} → (A → Type 0) → M A → Type 0
  Keeps P m = (s : State) → Sized s → Fine P (m s)

  fine_after : {A : Type 0} {P : A → Type 0} {t : List Rec} {o : Out A} → AllProper t → Fine P o → Fine P (after t o)
  unfolding after
  fine_after q (finishes r p f) = finishes (proper_append q r) p f
  fine_after q (stops r w f) = stops (proper_append q r) w f

  fine_next : {A B : Type 0} {P : A → Type 0} {Q : B → Type 0} {o : Out A} (k : A → M B)
      → Fine P o → ((a : A) → P a → Keeps Q (k a)) → Fine Q (next o k)
  unfolding next
  fine_next k (finishes {a = a} {s = s} q p f) h = fine_after q (h a p s f)
  fine_next k (stops q w f) h = stops q w f

  keeps_bind : {A B : Type 0} {P : A → Type 0} {Q : B → Type 0} {m : M A} {k : A → M B}
      → Keeps P m → ((a : A) → P a → Keeps Q (k a)) → Keeps Q (m >>= k)
  keeps_bind {k = k} h g = λ s f. fine_next k (h s f) g

  keeps_ret : {A : Type 0} {P : A → Type 0} {a : A} → P a → Keeps P (ret a)
  keeps_ret p = λ s f. finishes none p f

  keeps_look : {A : Type 0} {P : A → Type 0} (f : State → A) → ((s : State) → Sized s → P (f s)) → Keeps P (look f)
  keeps_look f h = λ s e. finishes none (h s e) e

  -- what follows a look starts from the state looked at
  keeps_read : {A B : Type 0} {Q : B → Type 0} (f : State → A) (k : A → M B) → ((s : State) → Sized s → Fine Q (k (f s) s)) → Keeps Q (look f >>= k)
  unfolding next
  keeps_read f k h = λ s e. fine_after none (h s e)

  keeps_when : (x : Bool) {m : M (Unit {0})} → Keeps Any m → Keeps Any (when x m)
  unfolding when
  keeps_when true h = h
  keeps_when false h = keeps_ret tt

  keeps_each : {A : Type 0} (xs : List A) {f : A → M (Unit {0})} → ((a : A) → Keeps Any (f a)) → Keeps Any (each xs f)
  unfolding each
  keeps_each [] h = keeps_ret tt
  keeps_each (x ∷ xs) h = keeps_bind (h x) λ _ _. keeps_each xs h

  fine_guarded : {A : Type 0} {P : A → Type 0} {x : Test} {n i : ℕ} {m : M A} {s : State} {o : Out A}
      → Sized s → Failing b x n i s → (x.passes ≡ true → Fine P (m s)) → Guarded x n i m s o → Fine P o
  fine_guarded f w h (passed e) = h e
  fine_guarded f w h (failed e) = stops none (λ _. w e) f

  keeps_guard : {A : Type 0} {P : A → Type 0} (x : State → Test) (n i : ℕ) {m : M A} → ((s : State) → Failing b (x s) n i s) → Keeps P m → Keeps P (guard x n i m)
  keeps_guard x n i {m} w h = λ s f. fine_guarded f (w s) (λ e. h s f) (guarded x n i m s)

  -- what follows a test may go by it
  keeps_need : (x : Bool) (n i : ℕ) → about_labels n ≡ false → Keeps (λ _. x ≡ true) (need (plainly x) n i)
  unfolding need
  keeps_need x n i q = λ s f. fine_guarded f (λ e. plain q) (λ e. finishes none e f) (guarded _ n i (ret tt) s)

  -- a test of labels, in a state that has its bound
  fine_label_need : (l bound : Label) (n i : ℕ) (s : State) → Sized s → Bound b s (halt (inside labels l bound) n i) → Small l
      → Fine Any (need (inside labels l bound) n i s)
  unfolding need
  fine_label_need l bound n i s f w h = fine_guarded f (fails_outside b labels l bound n i w h) (λ e. finishes none tt f) (guarded _ n i (ret tt) s)

  keeps_commit : {t : List Rec} (f : State → State) → AllProper t → ((s : State) → Sized s → Sized (f s)) → Keeps Any (commit t f)
  keeps_commit f q h = λ s e. finishes q tt (h s e)

  keeps_pay : (c i : ℕ) → Keeps Any (pay c i)
  unfolding pay
  keeps_pay c i = keeps_guard _ 21 i (λ s e. plain refl) (keeps_commit _ none λ s f. record { cells = f.cells; short = f.short; vars = f.vars })

  keeps_set_var : (i : ℕ) (c : Label) (p : ℕ) (f : Lab ℤ → Lab ℤ)
      → Small c → ((x : Lab ℤ) → Short x → Short (f x)) → Keeps Any (set_var labels i c p f)
  unfolding set_var
  keeps_set_var i c p f l h = keeps_guard _ 25 i (λ s. fails_outside b labels c (s.vars p).lab 25 i (variable refl) l) (keeps_commit _ none λ s e.
      record { cells = e.cells; short = e.short; vars = short_update s.vars p (f (s.vars p)) e.vars (h (s.vars p) (e.vars p)) })

  keeps_set_cell : (i : ℕ) (c : Label) (k : Key) (x : Lab Cell) → in_table k ≡ true → Small c → Full x.lab
      → Keeps Any (set_cell labels i c (key_place (node_at b i).p k) x)
  unfolding set_cell
  keeps_set_cell i c k x inside l h =
      let q : ℕ = key_place (node_at b i).p k in
      keeps_guard _ 26 i (λ s. fails_outside b labels c (s.cells q).lab 26 i (cell refl k inside refl) l) (keeps_commit _ none λ s e.
      record {
        cells = record { words = update_all (λ r y. r < 512 → length y.lab ≡ 8) s.cells q x e.cells.words (λ r l. h.all) };
        short = short_update s.cells q x e.short (small h);
        vars = e.vars;
      })

  keeps_tell : (i : ℕ) {r : Rec} (f : Rights → Rights) → Proper r → Keeps Any (tell i r f)
  unfolding tell
  keeps_tell i f p = keeps_guard _ 30 i (λ s e. plain refl) (keeps_commit _ (more p none) λ s e. record { cells = e.cells; short = e.short; vars = e.vars })

  fine_own : (v : ℕ → Lab ℤ) {o : Out (Unit {0})} → ((p : ℕ) → Short (v p)) → Fine Any o → Fine Any (restore v o)
  unfolding restore
  fine_own v h (finishes q p f) = finishes q tt (record { cells = f.cells; short = f.short; vars = h })
  fine_own v h (stops q w f) = stops q (λ e. kept (w e)) (record { cells = f.cells; short = f.short; vars = h })
    where
      kept : {halt : Halt} {s : State} → Reasoned b halt s → Reasoned b halt (with_vars v s)
      kept (outside (variable n) x small) = outside (variable n) x small
      kept (outside (cell n k t e) x small) = outside (cell n k t e) x small
      kept (outside (reader n e) x small) = outside (reader n e) x small
      kept (outside (everyone n e) x small) = outside (everyone n e) x small
      kept (plain n) = plain n

  keeps_own : (v : ℕ → Lab ℤ) {m : M (Unit {0})} → ((p : ℕ) → Short (v p)) → Keeps Any m → Keeps Any (own v m)
  unfolding own
  keeps_own v h k = λ s f. fine_own s.vars f.vars (k (with_vars v s) (record { cells = f.cells; short = f.short; vars = h }))

  -- the cells that come back are those from which the run started
  fine_taken_back : {s : State} {o : Out (Unit {0})} → mode.undoes ≡ true → Sized s → Fine Any o → Fine Any (taken_back s.cells o)
  unfolding taken_back
  fine_taken_back u f (finishes q p g) = finishes q p g
  fine_taken_back u f (stops q w g) =
      stops q (λ e. absurd (true≢false (sym u ∙ e))) (record { cells = f.cells; short = f.short; vars = g.vars })

  keeps_undoing : (x : Bool) {m : M (Unit {0})} → Keeps Any m → Keeps Any (undoing (mode.undoes && x) m)
  unfolding undoing
  keeps_undoing x {m} h = go (mode.undoes && x) (λ e. (both mode.undoes x e).0)
    where
      go : (y : Bool) → (y ≡ true → mode.undoes ≡ true) → Keeps Any (undoing y m)
      go true u = λ s f. fine_taken_back (u refl) f (h s f)
      go false u = h

  -- ---- expressions

  keeps_ranged : (i : ℕ) (x : Lab ℤ) → Short x → Keeps Short (ranged i x)
  unfolding ranged
  keeps_ranged i x h = keeps_bind (keeps_need _ 22 i refl) λ _ _. keeps_ret h

  keeps_found : (i : ℕ) (l : Label) (x : Option ℤ) → Small l → Keeps Short (found i l x)
  unfolding found
  keeps_found i l (Some z) h = keeps_ranged i _ h
  keeps_found i l None h = λ s f. stops none (λ _. plain refl) f

  module _ (ev : ℕ → M (Lab ℤ)) (k : (a : ℕ) → Keeps Short (ev a)) where
    keeps_two : (i a c : ℕ) (f : ℤ → ℤ → ℤ) → Keeps Short (ev a >>= λ x. ev c >>= λ y. ranged i (lift2 f x y))
    keeps_two i a c f = keeps_bind (k a) λ x h. keeps_bind (k c) λ y l. keeps_ranged i (lift2 f x y) (short_lift2 f x y h l)

    keeps_expr : (i : ℕ) (x : Exp) → Keeps Short (expr ev i x)
    unfolding expr lift lit
    keeps_expr i (const z) = keeps_ret (small bottom_words)
    keeps_expr i (var p) = keeps_look _ (λ s f. f.vars p)
    keeps_expr i (add a c) = keeps_two i a c _
    keeps_expr i (minus a c) = keeps_two i a c _
    keeps_expr i (equal a c) = keeps_two i a c _
    keeps_expr i (less a c) = keeps_two i a c _
    keeps_expr i (query kind p a c d e) =
        keeps_bind (k a) λ w h. keeps_bind (k c) λ x l. keeps_bind (k d) λ y m. keeps_bind (k e) λ z n.
        keeps_bind (keeps_look _ (λ s f. short_seen p (box_of w x y z) s (short_box w x y z h l m n) f)) λ cells q. keeps_found i _ _ q

  keeps_eval : (fuel i : ℕ) → Keeps Short (eval b fuel i)
  unfolding eval
  keeps_eval zero i = λ s f. stops none (λ _. plain refl) f
  keeps_eval (suc fuel) i = keeps_bind (keeps_pay _ i) λ _ _. keeps_expr (eval b fuel) (keeps_eval fuel) i _

  -- ---- commands

  keeps_choose : (z : ℤ) {m n : M (Unit {0})} → Keeps Any m → Keeps Any n → Keeps Any (choose z m n)
  unfolding choose
  keeps_choose z {m} {n} h k = go (is_zero z)
    where
      go : (x : Bool) → Keeps {A = Unit {0}} Any (λ s. elim x [ true ↦ n s | false ↦ m s ])
      go true = k
      go false = h

  keeps_posting : (i : ℕ) (c : Label) (user : ℕ) (k : Key) (z : Lab Cell)
      → Full c → Short z → Keeps Any (posting labels i c user (node_at b i).p k z)
  unfolding posting under
  keeps_posting i c user k z h l =
      keeps_bind (keeps_need _ 23 i refl) λ _ keyed.
      keeps_bind {P = Any} (keeps_look _ (λ s f. tt)) λ _ _.
      keeps_bind (keeps_need _ 24 i refl) λ _ _.
      keeps_set_cell i _ k _ keyed (small h) (whole_union c z.lab h l)

  module _ (rec : Env → ℕ → M (Unit {0})) (r : (e : Env) (i : ℕ) → Whole e → Keeps Any (rec e i)) where
    keeps_fire : (e : Env) (event q : ℕ) (k : Key) (z : Lab Cell) → Whole e → Short z → Keeps Any (fire b labels rec e event q k z)
    unfolding fire trigger_run
    keeps_fire e event q k z h l = keeps_each _ λ n. keeps_when _ (keeps_own _ (short_trigger_vars e.ctx k z h l) (r _ _ h))

    keeps_write : (e : Env) (i event : ℕ) (k : Lab Key) (z : Lab Cell)
        → Whole e → Short k → Short z → Keeps Any (write_cell b labels rec e i event (node_at b i).p k z)
    unfolding write_cell
    keeps_write e i event k z h l m =
        keeps_bind (keeps_posting i _ e.user k.val z (whole_union e.ctx k.lab h l) m) λ _ _.
        keeps_fire (within_label e k) event _ k.val z (whole_within e k h l) m

    module _ (ev : ℕ → M (Lab ℤ)) (k : (a : ℕ) → Keeps Short (ev a)) where
      keeps_command : (e : Env) (i : ℕ) → Whole e → {x : Cmd} → Read (node_at b i) x → Keeps Any (command b mode ev rec e i x)
      unfolding command under lift lit key
      keeps_command e i h read_skip = keeps_ret tt
      keeps_command e i h read_assign = keeps_bind (k _) λ x l.
          keeps_set_var i e.ctx _ _ (small h) (λ _ _. small_union e.ctx x.lab (small h) l)
      keeps_command e i h read_seq = keeps_bind (r e _ h) λ _ _. r e _ h
      keeps_command e i h read_branch = keeps_bind (k _) λ x l.
          let w = whole_within e x h l in
          keeps_choose x.val (r _ _ w) (r _ _ w)
      keeps_command e i h read_while = keeps_bind (k _) λ x l.
          let w = whole_within e x h l in
          keeps_choose x.val (keeps_bind (r _ _ w) λ _ _. r _ i w) (keeps_ret tt)
      keeps_command e i h read_put = keeps_undoing _ (keeps_bind (k _) λ x l. keeps_bind (k _) λ y m. keeps_bind (k _) λ z n.
          keeps_write e i 1 (key x y) _ h (short_lift2 _ x y l m) n)
      keeps_command e i h read_clear = keeps_undoing _ (keeps_bind (k _) λ x l. keeps_bind (k _) λ y m.
          keeps_write e i 2 (key x y) _ h (short_lift2 _ x y l m) (small bottom_words))
      keeps_command e i h read_out =
          keeps_bind (k _) λ x l. keeps_read _ _ λ s f.
          fine_next _ (fine_label_need _ _ 27 i s f (reader refl refl) (small_union e.ctx x.lab (small h) l)) λ _ _. keeps_tell i _ out_record
      keeps_command e i h read_grant =
          keeps_bind (keeps_need _ 28 i refl) λ _ _. keeps_bind (λ s f. fine_label_need _ _ 29 i s f (everyone refl refl) (small h)) λ _ _. keeps_tell i _ (rights_record (either (eqb (node_at b i).b 1) 2 3 refl refl))
      keeps_command e i h read_revoke =
          keeps_bind (keeps_need _ 28 i refl) λ _ _. keeps_bind (λ s f. fine_label_need _ _ 29 i s f (everyone refl refl) (small h)) λ _ _. keeps_tell i _ (rights_record (either (eqb (node_at b i).b 1) 4 5 refl refl))
      keeps_command e i h read_raise = keeps_set_var i e.ctx _ _ (small h) (λ x l. small_union x.lab _ l (small_region b _))

  keeps_exec : (fuel : ℕ) (e : Env) (i : ℕ) → Whole e → Keeps Any (exec b mode fuel e i)
  unfolding exec
  keeps_exec zero e i h = λ s f. stops none (λ _. plain refl) f
  keeps_exec (suc fuel) e i h = keeps_bind (keeps_pay _ i) λ _ _.
      keeps_command (exec b mode fuel) (keeps_exec fuel) (eval b fuel) (keeps_eval fuel) e i h (read_of (node_at b i))

  pub keeps_run : (fuel : ℕ) → Keeps Any (run b mode fuel)
  unfolding run program lit
  keeps_run fuel = keeps_each b.programs λ p. keeps_own _ (short_sixteen _ (small bottom_words)) (keeps_exec fuel _ _ bottom_words)

-- ---- a book's run

sized_start : (b : Book) (budget room : ℕ) → Sized (start_state b budget room)
unfolding start_state lit
sized_start b budget room =
    record { cells = record { words = whole }; short = λ q. few q (dec_lt q 512); vars = short_sixteen _ (small bottom_words) }
  where
    whole : (q : ℕ) → q < 512 → length (start_cells b q).lab ≡ 8
    whole q h = rw (start_label b q h) (length_remembered b.labels q)

    few : (q : ℕ) → Dec (q < 512) → Short (start_cells b q)
    few q (yes h) = rw (start_label b q h) (record { few = omega (arith, length_remembered b.labels q); words = words_remembered b.labels q })
    few q (no g) =
        let h : 512 ≤ q = omega arith in
        rw (start_beyond b q h) (small_empty 0 zero-le)

fine_from_start : (mode : Mode) (b : Book) (budget room : ℕ) → Fine (script b) mode Any (run (script b) mode budget (start_state b budget room))
fine_from_start mode b budget room = keeps_run (script b) mode budget (start_state b budget room) (sized_start b budget room)

pub fine_run : (labels : Bool) (b : Book) (budget room : ℕ)
    → Fine (script b) (record { labels = labels; undoes = true }) Any (run_book labels b budget room)
unfolding run_book
fine_run labels b budget room = fine_from_start _ b budget room

pub fine_standing : (labels : Bool) (b : Book) (budget room : ℕ)
    → Fine (script b) (record { labels = labels; undoes = false }) Any (standing_run labels b budget room)
unfolding standing_run
fine_standing labels b budget room = fine_from_start _ b budget room

pub fine_end : {b : Book} {mode : Mode} {A : Type 0} {P : A → Type 0} {o : Out A} → Fine b mode P o → Sized (end o)
unfolding end
fine_end (finishes q p f) = f
fine_end (stops q w f) = f

pub fine_records : {b : Book} {mode : Mode} {A : Type 0} {P : A → Type 0} {o : Out A} → Fine b mode P o → AllProper (records o)
unfolding records
fine_records (finishes q p f) = q
fine_records (stops q w f) = q
