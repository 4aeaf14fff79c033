-- A store into the structs of a run is an update of the rules' functions. Assumes nothing.
use mathlib.Core.Path.{◌≡◌, refl, sym, ap, ◌∙◌}
use mathlib.Core.List.{List, []}
use mathlib.Core.Bool.{Bool, true, false, ◌&&◌, ◌||◌, not, cond}
use mathlib.Core.Option.{Option, some}
use Prim.Native.Nat.{ℕ, ◌/◌, ◌%◌, ◌<◌}
use native.Mathlib.Decide.{ℕ_discrete}
use native.Mathlib.Omega.{arith}
use borrow.Author.Tests.{eq-eqb, ne_eqb, lt-ltb}
use lib.Bits.{bit_or}
use lib.Dec.{eqb, ltb}
use lib.IntN.{ℤ, pos}
use lib.ListN.{length, get_or, set}
use lib.Seq.{get_or-set_same, get_or-set_other}
use Rattle.places.specs.Sets.{bit, has, single, union, without, difference}
use Rattle.places.proofs.Sets.{union_word, difference_word, has_union, has_difference, has_single}
use Rattle.monitor.specs.Labelled.{Label, Lab}
use Rattle.monitor.specs.Run.{Cell, Compared, update}
use Rattle.monitor.specs.Call.{rows}
use Rattle.machine.specs.declared.lent.Right.{Right}
use Rattle.machine.specs.declared.lent.Right.TheVariants.{Read, Write}
use Rattle.machine.specs.declared.lent.Sets.{Sets}
use Rattle.machine.specs.declared.lent.Variables.{Variables}
use Rattle.machine.specs.Store.{row_at, users_of, with_users, with_compared, cells_held, idle, began, undo_of, rights_in, SameState, vars_of, cell}

-- the update of f at p is what holds a at p and else what f holds
pub updated : {A : Type 0} {f g : ℕ → A} {p : ℕ} {a : A} → g p ≡ a → ((q : ℕ) → (q ≡ p → ⊥) → g q ≡ f q) → g ≡ update f p a
unfolding update
updated {f = f} {g = g} {p = p} {a = a} here elsewhere = λ i q. at q (ℕ_discrete q p) i
  where
    at : (q : ℕ) → Dec (q ≡ p) → g q ≡ cond (eqb q p) a (f q)
    at q (yes e) = rw (e, eq-eqb p p refl) here
    at q (no d) = rw (ne_eqb q p d) (elsewhere q d)

-- ---- a row that is stored: it is read back, and the other rows stay

module _ (sets : List (List ℕ)) (i : ℕ) (label : Label) where
  pub row_same : i < length sets → row_at (set sets i label) i ≡ label
  row_same h = get_or-set_same sets i label [] h

  pub row_other : (j : ℕ) → (j ≡ i → ⊥) → row_at (set sets i label) j ≡ row_at sets j
  row_other j d = get_or-set_other sets i j label [] d

-- ---- sets of a run that are stored: they are read back, and the others stay, since storing the old ones again gives the sets as they were

module _ (sets : Sets) (right : Right) (users : List (List ℕ)) where
  pub users_same : users_of (with_users sets right users) right ≡ users
  unfolding users_of with_users
  users_same = go right
    where
      go : (right : Right) → users_of (with_users sets right users) right ≡ users
      go Read = refl
      go Write = refl

  pub users_other : with_users (with_users sets right users) right (users_of sets right) ≡ sets
  unfolding users_of with_users
  users_other = go right
    where
      go : (right : Right) → with_users (with_users sets right users) right (users_of sets right) ≡ sets
      go Read = refl
      go Write = refl

module _ (sets : Sets) (c : Compared) where
  pub compared_same : ◌≡◌ {A = Compared} (record { tested = (with_compared sets c).tested; bound = (with_compared sets c).bound }) c
  compared_same = refl

  pub compared_other : with_compared (with_compared sets c) (record { tested = sets.tested; bound = sets.bound }) ≡ sets
  compared_other = refl

-- ---- the users' sets

-- one user's set is stored: the others stay
pub rows_stored : (sets : List (List ℕ)) (user : ℕ) (label : Label) → user < length sets → rows (set sets user label) ≡ update (rows sets) user label
unfolding rows
rows_stored sets user label h = updated (row_same sets user label h) (λ u d. row_other sets user label u d)

-- ---- variables

module _ (vars : Variables) (p : ℕ) where
  -- a value and its label
  pub vars_stored : (z : ℤ) (label : Label) → p < length vars.values → p < length vars.labels
      → vars_of (record { values = set vars.values p z; labels = set vars.labels p label }) ≡ update (vars_of vars) p (record { val = z; lab = label })
  unfolding vars_of
  vars_stored z label h l =
      updated (rw (get_or-set_same vars.values p z (pos 0) h, row_same vars.labels p label l))
      (λ q d. rw (get_or-set_other vars.values p q z (pos 0) d, row_other vars.labels p label q d))

  -- a value alone
  pub value_stored : (z : ℤ) → p < length vars.values
      → vars_of (record { values = set vars.values p z; labels = vars.labels }) ≡ update (vars_of vars) p (record { val = z; lab = row_at vars.labels p })
  unfolding vars_of
  value_stored z h = updated (rw (get_or-set_same vars.values p z (pos 0) h)) (λ q d. rw (get_or-set_other vars.values p q z (pos 0) d))

  -- a label alone
  pub label_stored : (label : Label) → p < length vars.labels
      → vars_of (record { values = vars.values; labels = set vars.labels p label }) ≡ update (vars_of vars) p (record { val = get_or vars.values p (pos 0); lab = label })
  unfolding vars_of
  label_stored label l = updated (rw (row_same vars.labels p label l)) (λ q d. rw (row_other vars.labels p label q d))

-- ---- cells

-- membership is read in one word
same_word : (a b : List ℕ) (j : ℕ) → get_or a (j / 64) 0 ≡ get_or b (j / 64) 0 → has a j ≡ has b j
unfolding has
same_word a b j e = ap (λ (w : ℕ). eqb (bit (j % 64) w) 1) e

-- the presence words with the bit of place q set, or taken out
module _ (presence : List ℕ) (q : ℕ) (h : q < 512) (l : length presence ≡ 8) where
  abbrev old : ℕ
  old = get_or presence (q / 64) 0

  abbrev one : ℕ
  one = get_or (single 8 q) (q / 64) 0

  abbrev marked : Bool → List ℕ
  marked put = set presence (q / 64) (cond put (bit_or old one) (without old one))

  -- in the word of q they are a union, or a difference
  in_word : (put : Bool) (j : ℕ) → j / 64 ≡ q / 64
      → has (marked put) j ≡ cond put (has presence j || has (single 8 q) j) (has presence j && not (has (single 8 q) j))
  in_word true j e =
      same_word (marked true) (union presence (single 8 q)) j (rw e (get_or-set_same presence (q / 64) _ 0 (omega arith) ∙ sym (union_word presence (single 8 q) (q / 64))))
      ∙ has_union presence (single 8 q) j
  in_word false j e =
      same_word (marked false) (difference presence (single 8 q)) j (rw e (get_or-set_same presence (q / 64) _ 0 (omega arith) ∙ sym (difference_word presence (single 8 q) (q / 64))))
      ∙ has_difference presence (single 8 q) j

  has_here : (put : Bool) → has (marked put) q ≡ put
  has_here put = in_word put q refl ∙ rw (has_single 8 q q, lt-ltb q 512 h, eq-eqb q q refl) (chosen put (has presence q))
    where
      chosen : (put x : Bool) → cond put (x || true) (x && false) ≡ put
      chosen true true = refl
      chosen true false = refl
      chosen false true = refl
      chosen false false = refl

  has_elsewhere : (put : Bool) (j : ℕ) → (j ≡ q → ⊥) → has (marked put) j ≡ has presence j
  has_elsewhere put j d = go (ℕ_discrete (j / 64) (q / 64))
    where
      kept : (put x y : Bool) → cond put (x || y && false) (x && not (y && false)) ≡ x
      kept true true y = refl
      kept true false true = refl
      kept true false false = refl
      kept false true true = refl
      kept false true false = refl
      kept false false y = refl

      go : Dec (j / 64 ≡ q / 64) → has (marked put) j ≡ has presence j
      go (yes e) = in_word put j e ∙ rw (has_single 8 q j, ne_eqb j q d) (kept put (has presence j) (ltb j 512))
      go (no e) = same_word (marked put) presence j (get_or-set_other presence (q / 64) (j / 64) _ 0 e)

-- ---- a state

-- users' sets that stay leave the rights
pub rights_same : (sets sets' : Sets) → sets'.read ≡ sets.read → sets'.write ≡ sets.write → rights_in sets' ≡ rights_in sets
rights_same sets sets' read write = λ i. record { read = rows (read i); write = rows (write i) }

-- sets that differ in none of what the rules speak of
pub same_state : (amounts : List ℤ) (sets sets' : Sets) → sets'.present ≡ sets.present → sets'.public ≡ sets.public → sets'.read ≡ sets.read → sets'.write ≡ sets.write
    → ((q : ℕ) → row_at sets'.labels q ≡ row_at sets.labels q) → SameState amounts sets sets'
unfolding cells_held
same_state amounts sets sets' present public read write labels = record {
  cells_same = λ i q. record { val = record { present = has (present i) q; amount = get_or amounts q (pos 0) }; lab = labels q i };
  rights_same = rights_same sets sets' read write;
  public_same = public;
}

-- ---- a posting that is under way

-- what a stop would take back is the same where a posting is under way in both, and each cell would come back as the same
pub undo_same : (amounts amounts' : List ℤ) (sets sets' : Sets) → sets'.posting.under_way ≡ sets.posting.under_way
    → ((q : ℕ) → began amounts' sets' q ≡ began amounts sets q) → undo_of amounts' sets' ≡ undo_of amounts sets
unfolding undo_of
undo_same amounts amounts' sets sets' e same = λ i. cond (not (e i)) Option.none (some λ q. same q i)

no_undo : {A : Type 0} → Option A → Bool
no_undo Option.none = true
no_undo (some a) = false

-- where that is the same, a posting is under way in both or in neither
pub idle_same : (amounts amounts' : List ℤ) (sets sets' : Sets) → undo_of amounts' sets' ≡ undo_of amounts sets → idle sets' ≡ idle sets
unfolding undo_of no_undo
idle_same amounts amounts' sets sets' e = sym (told (idle sets') _) ∙ ap no_undo e ∙ told (idle sets) _
  where
    told : (b : Bool) (c : ℕ → Lab Cell) → no_undo (cond b Option.none (some c)) ≡ b
    told true c = refl
    told false c = refl

pub undo_idle : (amounts : List ℤ) (sets : Sets) → idle sets ≡ true → undo_of amounts sets ≡ Option.none
unfolding undo_of
undo_idle amounts sets e = rw e

-- and so are the cells that a stop would take back, if one is
pub began_same : (amounts amounts' : List ℤ) (sets sets' : Sets) → undo_of amounts' sets' ≡ undo_of amounts sets → idle sets ≡ false
    → began amounts' sets' ≡ began amounts sets
unfolding undo_of
began_same amounts amounts' sets sets' e busy =
    let busy' : idle sets' ≡ false = idle_same amounts amounts' sets sets' e ∙ busy in
    let all : some (began amounts' sets') ≡ some (began amounts sets) = rw (busy, busy') at e in
    cc

-- ---- a stop about labels: what it compared is none of the state, and none of what a posting keeps

pub compares_same : (amounts : List ℤ) (sets : Sets) (c : Compared) → SameState amounts sets (with_compared sets c)
compares_same amounts sets c = same_state amounts sets (with_compared sets c) refl refl refl refl (λ q. refl)

pub compares_undo : (amounts : List ℤ) (sets : Sets) (c : Compared) → undo_of amounts (with_compared sets c) ≡ undo_of amounts sets
unfolding undo_of began
compares_undo amounts sets c = refl

-- ---- the write of a cell

-- its amount, its presence and its label, each a store at one index
module _ (sets : Sets) (q event : ℕ) (label : Label) (h : q < 512) (l : length sets.present ≡ 8) (long : length sets.labels ≡ 512) where
  abbrev pub written : Sets
  written = record {
    present = marked sets.present q h l (eqb event 1);
    public = sets.public;
    read = sets.read;
    write = sets.write;
    labels = set sets.labels q label;
    tested = sets.tested;
    bound = sets.bound;
    posting = sets.posting;
  }

  pub cell_stored : (amounts : List ℤ) (z : ℤ) → length amounts ≡ 512
      → cells_held (set amounts q z) written ≡ update (cells_held amounts sets) q (record { val = cell event z; lab = label })
  unfolding cells_held
  cell_stored amounts z la =
      updated
      (rw (has_here sets.present q h l (eqb event 1), get_or-set_same amounts q z (pos 0) (omega arith), row_same sets.labels q label (omega (arith, long))))
      (λ j d. rw (has_elsewhere sets.present q h l (eqb event 1) j d, get_or-set_other amounts q j z (pos 0) d, row_other sets.labels q label j d))

  pub rights_stay : rights_in written ≡ rights_in sets
  rights_stay = refl

  pub public_stays : written.public ≡ sets.public
  public_stays = refl
