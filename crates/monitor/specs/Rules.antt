-- The rules: what a run of a book does, as one total definition.
-- `exec` and `eval` recurse on fuel alone. Each entry to a node costs at least 1, so that a run whose fuel is its budget never
-- runs out of it before it stops with 21 (claims/proofs/Fuel.antt).
use Rattle.std.specs.Prelude.{List, [], ◌∷◌, ◌++◌, Bool, true, false, ◌&&◌, cond, ℕ, zero, suc, ◌+◌, ◌-◌, ◌*◌, ltb, eqb, ℤ, pos, negsuc, ◌+ℤ◌, ◌-ℤ◌, length, get_or, Option, Some, None}
use Rattle.std.specs.Int.Signed.{lt_z, le_z, mag}
use Rattle.places.specs.Places.{place, owner_of, line_of}
use Rattle.places.specs.Sets.{has, union, difference}
use Rattle.regions.specs.Regions.{region_set}
use Rattle.book.specs.Records.{Book, TriggerRecord, ProgramRecord, region_of}
use Rattle.book.specs.Kinds.{cost_of}
use Rattle.book.specs.Refusals.{no_region, no_trigger, node_at, is_zero}
use Rattle.book.specs.Start.{public_set}
use Rattle.monitor.specs.Labelled.{Label, bottom, Lab, lit, lift, lift2, via, under}
use Rattle.monitor.specs.Run.{Cell, held, absent, Rights, State, said, changed, M, ◌>>=◌, ◌>>◌, ret, look, each, when, halt, plainly, inside, need, update, pay, set_var, set_cell, tell, sixteen, own, undoing}
use Rattle.monitor.specs.Syntax.{Exp, const, var, add, minus, equal, less, query, Cmd, skip, assign, seq, branch, while, put, clear, out, grant, revoke, raise, exp_of, cmd_of}

-- ---- expressions

unfoldable pub fits_32 : ℤ → Bool
fits_32 z = ltb (mag z) 2147483648

abbrev pub from_bool : Bool → ℤ
from_bool true = pos 1
from_bool false = pos 0

unfoldable pub equals : ℤ → ℤ → ℤ
equals x y = from_bool (le_z x y && le_z y x)

unfoldable pub less_than : ℤ → ℤ → ℤ
less_than x y = from_bool (lt_z x y)

-- the owner and the line of a cell, as they are worked out
pub record Key : Type 0 where
  pub owner : ℤ
  pub line : ℤ

unfoldable pub key : Lab ℤ → Lab ℤ → Lab Key
key x y = lift2 (λ o l. record { owner = o; line = l }) x y

-- the bounds of a query's owners or lines, as they are worked out
pub record Bounds : Type 0 where
  pub first : ℤ
  pub last : ℤ

unfoldable pub from_to : Lab ℤ → Lab ℤ → Lab Bounds
from_to x y = lift2 (λ f l. record { first = f; last = l }) x y

pub record Box : Type 0 where
  pub owners : Bounds
  pub lines : Bounds

-- owners a to b, lines c to d
unfoldable pub box_of : Lab ℤ → Lab ℤ → Lab ℤ → Lab ℤ → Lab Box
box_of a b c d = lift2 (λ o l. record { owners = o; lines = l }) (from_to a b) (from_to c d)

-- bounds may lie outside 0 to 7; first above last matches none
unfoldable pub in_box : Box → ℕ → Bool
in_box x q =
    (le_z x.owners.first (pos (owner_of q)) && le_z (pos (owner_of q)) x.owners.last)
    && (le_z x.lines.first (pos (line_of q)) && le_z (pos (line_of q)) x.lines.last)

-- the cells that are picked among the n places from `base` on, present or absent, with the labels of all of them
unfoldable pub gather : (ℕ → Lab Cell) → (ℕ → Bool) → ℕ → ℕ → Lab (List Cell)
gather cells picks base zero = lit []
gather cells picks base (suc n) =
    let rest = gather cells picks base n in
    elim (picks (base + n)) [ true ↦ lift2 (λ xs x. xs ++ (x ∷ [])) rest (cells (base + n)) | false ↦ rest ]

-- the cells that a query over table p sees: its label is that of its bounds, with the labels of all cells in the box
unfoldable pub seen : ℕ → Lab Box → State → Lab (List Cell)
seen p x s = via x (λ box. gather s.cells (in_box box) (64 * p) 64)

unfoldable pub amounts_of : List Cell → List ℤ
amounts_of [] = []
amounts_of (c ∷ cs) =
    let rest = amounts_of cs in
    elim c.present [ true ↦ c.amount ∷ rest | false ↦ rest ]

unfoldable pub count_of : List ℤ → ℤ
count_of [] = pos 0
count_of (z ∷ zs) = pos 1 +ℤ count_of zs

unfoldable pub sum_of : List ℤ → ℤ
sum_of [] = pos 0
sum_of (z ∷ zs) = z +ℤ sum_of zs

-- the one that beats all others, z so far
unfoldable pub best : (ℤ → ℤ → Bool) → ℤ → List ℤ → ℤ
best beats z [] = z
best beats z (x ∷ xs) = best beats (cond (beats x z) x z) xs

-- nothing if none is present
unfoldable pub best_of : (ℤ → ℤ → Bool) → List ℤ → Option ℤ
best_of beats [] = None
best_of beats (z ∷ zs) = Some (best beats z zs)

-- of the present cells: 8 how many, 9 their sum, 10 the smallest, 11 the largest. Where there is none, 8 and 9 are 0, and 10 and 11 are not there
unfoldable pub aggregate : ℕ → List Cell → Option ℤ
aggregate kind cells =
    let amounts : List ℤ = amounts_of cells in
    cond (eqb kind 8)
    (Some (count_of amounts))
    (cond (eqb kind 9) (Some (sum_of amounts)) (cond (eqb kind 10) (best_of lt_z amounts) (best_of (λ x y. lt_z y x) amounts)))

-- 22: sums and differences are exact; a final value outside signed 32 bits stops on that expression's node
unfoldable pub ranged : ℕ → Lab ℤ → M (Lab ℤ)
ranged i x = need (plainly (fits_32 x.val)) 22 i >> ret x

-- what a query found, with the label of what it saw: 22 as above, or, where that is nothing, 31 on the query's node
unfoldable pub found : ℕ → Label → Option ℤ → M (Lab ℤ)
found i l (Some z) = ranged i (record { val = z; lab = l })
found i l None = halt 31 i

-- what an expression gives, once its own cost is paid; children are evaluated in the order a, b, c, d
unfoldable pub expr : (ℕ → M (Lab ℤ)) → ℕ → Exp → M (Lab ℤ)
-- 1 constant k
expr ev i (const k) = ret (lit k)
-- 2 variable p
expr ev i (var p) = look (λ s. s.vars p)
-- 3 a+b
expr ev i (add a b) = do
  x ← ev a
  y ← ev b
  ranged i (lift2 ◌+ℤ◌ x y)
-- 4 a−b
expr ev i (minus a b) = do
  x ← ev a
  y ← ev b
  ranged i (lift2 ◌-ℤ◌ x y)
-- 5 a equals b: 1 or 0
expr ev i (equal a b) = do
  x ← ev a
  y ← ev b
  ranged i (lift2 equals x y)
-- 6 a less than b: 1 or 0
expr ev i (less a b) = do
  x ← ev a
  y ← ev b
  ranged i (lift2 less_than x y)
-- 8 to 11, over table p, owners a to b, lines c to d; the labels of all cells in the region, present or absent
expr ev i (query kind p a b c d) = do
  w ← ev a
  x ← ev b
  y ← ev c
  z ← ev d
  cells ← look (seen p (box_of w x y z))
  found i cells.lab (aggregate kind cells.val)

-- ---- commands

-- how a run is made: whether it makes the tests of labels, and whether a stop inside a trigger's body takes back the posting that began it
pub record Mode : Type 0 where
  pub labels : Bool
  pub undoes : Bool

-- the run of the entry
abbrev pub monitored : Mode
monitored = record { labels = true; undoes = true }

-- the same but that what a posting wrote stands, wherever the run stops: the rule before Change 2, which no entry follows
abbrev pub standing : Mode
standing = record { labels = true; undoes = false }

-- what a command runs in: the context, the user, and the least number of a trigger that its writes fire
pub record Env : Type 0 where
  pub ctx : Label
  pub user : ℕ
  pub above : ℕ

-- inside if, while and trigger, the context gains a label
unfoldable pub within_label : {A : Type 0} → Env → Lab A → Env
within_label e x = record { ctx = union e.ctx x.lab; user = e.user; above = e.above }

-- m if v is nonzero, else n; `is_zero` stands in book/specs/Refusals.antt
unfoldable pub choose : ℤ → M (Unit {0}) → M (Unit {0}) → M (Unit {0})
choose v m n = λ s. elim (is_zero v) [ true ↦ n s | false ↦ m s ]

abbrev pub nat : ℤ → ℕ
nat (pos n) = n
nat (negsuc n) = 0

-- the place of a key in table p
unfoldable pub key_place : ℕ → Key → ℕ
key_place p k = place p (nat k.owner) (nat k.line)

unfoldable pub in_table : Key → Bool
in_table k = (le_z (pos 0) k.owner && le_z k.owner (pos 7)) && (le_z (pos 0) k.line && le_z k.line (pos 7))

-- put and clear up to their triggers: the tests for the cell of table p with key k, and its write; c is context plus key label
unfoldable pub posting : Bool → ℕ → Label → ℕ → ℕ → Key → Lab Cell → M (Unit {0})
posting labels i c user p k z = do
  -- 23: key outside 0 to 7
  need (plainly (in_table k)) 23 i
  -- 24: a write right for the place
  r ← look (λ s. s.rights)
  need (plainly (has (r.write user) (key_place p k))) 24 i
  -- 26, and the new label: context, key label and the amount's label
  set_cell labels i c (key_place p k) (under c z)

-- a trigger's variables: owner and line, with the context as label, the amount with its own label added, and 0 for the others
unfoldable pub trigger_vars : Label → Key → Lab Cell → ℕ → Lab ℤ
trigger_vars c k z =
    update (update (update (sixteen (record { val = pos 0; lab = c })) 0 (record { val = k.owner; lab = c })) 1 (record { val = k.line; lab = c }))
    2 (under c (lift (λ x. x.amount) z))

-- n numbers from k on
unfoldable pub numbers : ℕ → ℕ → List ℕ
numbers k zero = []
numbers k (suc n) = k ∷ numbers (suc k) n

module _ (book : Book) where
  -- the places of region n
  unfoldable pub region_places : ℕ → Label
  region_places n = region_set 8 (region_of (get_or book.regions n no_region))

  -- a grant adds its region's places to the named set, a revoke takes them out; kind 1 read, 2 write
  unfoldable pub granted : ℕ → ℕ → ℕ → Rights → Rights
  granted u n kind r = record {
    read = cond (eqb kind 1) (update r.read u (union (r.read u) (region_places n))) r.read;
    write = cond (eqb kind 1) r.write (update r.write u (union (r.write u) (region_places n)));
  }

  unfoldable pub revoked : ℕ → ℕ → ℕ → Rights → Rights
  revoked u n kind r = record {
    read = cond (eqb kind 1) (update r.read u (difference (r.read u) (region_places n))) r.read;
    write = cond (eqb kind 1) r.write (update r.write u (difference (r.write u) (region_places n)));
  }

  abbrev pub trigger_at : ℕ → TriggerRecord
  trigger_at n = get_or book.triggers n no_trigger

  -- whether a trigger's region holds the cell at q and its event fits
  unfoldable pub fitting : ℕ → ℕ → TriggerRecord → Bool
  fitting event q t = eqb t.event event && has (region_places t.region) q

  module _ (labels : Bool) (rec : Env → ℕ → M (Unit {0})) where
    -- trigger n, where it fits: with its own user's rights and its own variables; its writes fire only triggers above n
    unfoldable pub trigger_run : Env → ℕ → ℕ → Key → Lab Cell → ℕ → M (Unit {0})
    trigger_run e event q k z n =
        let t = trigger_at n in
        when (fitting event q t) (own (trigger_vars e.ctx k z) (rec (record { ctx = e.ctx; user = t.user; above = suc n }) t.body))

    -- the triggers that the write of a cell fires run by number
    unfoldable pub fire : Env → ℕ → ℕ → Key → Lab Cell → M (Unit {0})
    fire e event q k z = each (numbers e.above (length book.triggers - e.above)) (trigger_run e event q k z)

    -- put (event 1) and clear (event 2) of the cell of table p with key k, when key and new cell are known
    unfoldable pub write_cell : Env → ℕ → ℕ → ℕ → Lab Key → Lab Cell → M (Unit {0})
    write_cell e i event p k z = do
      posting labels i (union e.ctx k.lab) e.user p k.val z
      -- then the triggers, in context plus key label, even if clear met an absent cell
      fire (within_label e k) event (key_place p k.val) k.val z

  -- what a command does, once its own cost is paid; ev and rec run its children
  module _ (mode : Mode) (ev : ℕ → M (Lab ℤ)) (rec : Env → ℕ → M (Unit {0})) where
    abbrev labels : Bool
    labels = mode.labels

    -- Where the run stops inside a trigger's body, the program's own put or clear that began it is taken back: the cell that it wrote and all that
    -- its triggers wrote are what they were when that command began, labels too. Its own commands fire triggers from 0 on; those of a trigger's body
    -- do not, and are never taken back by themselves. A put or clear that stops before its triggers has written nothing, so that the whole command
    -- may be a run whose cells come back.
    abbrev pub taking_back : Env → M (Unit {0}) → M (Unit {0})
    taking_back e m = undoing (mode.undoes && eqb e.above 0) m

    unfoldable pub command : Env → ℕ → Cmd → M (Unit {0})
    -- 16 skip
    command e i skip = ret tt
    -- 17 variable p becomes a; an assigned variable's label becomes context plus expression
    command e i (assign p a) = do
      x ← ev a
      set_var labels i e.ctx p (λ old. under e.ctx x)
    -- 18 a then b
    command e i (seq a b) = do
      rec e a
      rec e b
    -- 19 if a nonzero then b else c; inside, the context gains the condition's label
    command e i (branch a b c) = do
      x ← ev a
      choose x.val (rec (within_label e x) b) (rec (within_label e x) c)
    -- 20 while a nonzero do b; inside, the context has the labels of all its tests so far; a while is entered anew for each test
    command e i (while a b) = do
      x ← ev a
      choose x.val (do rec (within_label e x) b; rec (within_label e x) i) (ret tt)
    -- 21 put amount c at table p, owner a, line b. Its four parts stand in `write_cell`: the tests of key and right, 23 and 24, and the new
    -- label in `posting`; the test of the old label, 26, with the write itself in `set_cell` (Run.antt); the triggers in `fire`
    command e i (put p a b c) = taking_back e (do
      x ← ev a
      y ← ev b
      z ← ev c
      write_cell labels rec e i 1 p (key x y) (lift held z))
    -- 22 clear that cell
    command e i (clear p a b) = taking_back e (do
      x ← ev a
      y ← ev b
      write_cell labels rec e i 2 p (key x y) (lit absent))
    -- 23 out a to user p; 27: value label plus context within the user's read set, in which the public set counts
    command e i (out p a) = do
      x ← ev a
      r ← look (λ s. s.rights)
      need (inside labels (union e.ctx x.lab) (union (public_set book) (r.read p))) 27 i
      tell i (said p x.val) (λ r. r)
    -- 24 grant region a for user p; 28: user 0; 29: a context within the public set
    command e i (grant p a kind) = do
      need (plainly (eqb e.user 0)) 28 i
      need (inside labels e.ctx (public_set book)) 29 i
      tell i (changed (cond (eqb kind 1) 2 3) p a) (granted p a kind)
    -- 25 revoke region a for user p, under the same tests
    command e i (revoke p a kind) = do
      need (plainly (eqb e.user 0)) 28 i
      need (inside labels e.ctx (public_set book)) 29 i
      tell i (changed (cond (eqb kind 1) 4 5) p a) (revoked p a kind)
    -- 26 raise variable p by region a: the context within its old label, and the region's places added
    command e i (raise p a) = set_var labels i e.ctx p (λ old. record { val = old.val; lab = union old.lab (region_places a) })

  -- ---- nodes and programs

  -- what entering node i costs
  abbrev pub cost_at : ℕ → ℕ
  cost_at i = cost_of (node_at book i).kind

  unfoldable pub eval : ℕ → ℕ → M (Lab ℤ)
  eval zero i = halt 21 i
  eval (suc fuel) i = pay (cost_at i) i >> expr (eval fuel) i (exp_of (node_at book i))

  unfoldable pub exec : Mode → ℕ → Env → ℕ → M (Unit {0})
  exec mode zero e i = halt 21 i
  exec mode (suc fuel) e i = pay (cost_at i) i >> command mode (eval fuel) (exec mode fuel) e i (cmd_of (node_at book i))

  -- a program: sixteen variables 0 of empty label, and the empty context
  unfoldable pub program : Mode → ℕ → ProgramRecord → M (Unit {0})
  program mode fuel p = own (sixteen (lit (pos 0))) (exec mode fuel (record { ctx = bottom; user = p.user; above = 0 }) p.root)

  -- programs follow one another; a stop ends the whole run
  unfoldable pub run : Mode → ℕ → M (Unit {0})
  run mode fuel = each book.programs (program mode fuel)
