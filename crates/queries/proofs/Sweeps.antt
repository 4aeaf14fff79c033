-- A query's way through a table: it passes over the places outside its box, and meets the cells in it.
use mathlib.Core.Path.{◌≡◌, ap, ap₂, ◌∙◌}
use mathlib.Core.Bool.{true, false}
use mathlib.Core.List.{List}
use Prim.Native.Nat.{ℕ, ◌+◌, ◌*◌, ◌/◌, ◌%◌, ◌^◌, ◌≤◌, ◌<◌}
use native.Mathlib.Nat.{add_assoc}
use native.Mathlib.Omega.{arith}
use lib.Dec.{eqb}
use lib.IntN.{ℤ, pos}
use lib.ListN.{get_or}
use lib.Signed.{mag}
use borrow.Author.Tests.{eq-eqb, ne_eqb}
use Rattle.std.specs.Prelude.{Option}
use Rattle.places.specs.Sets.{has, union}
use Rattle.monitor.specs.Labelled.{Label, bottom, Lab}
use Rattle.monitor.specs.Run.{Cell}
use Rattle.monitor.specs.Rules.{in_box}
use Rattle.machine.specs.Store.{row_at, cells_held}
use Rattle.machine.specs.declared.lent.Sets.{Sets}
use Rattle.queries.specs.declared.Found.{Found}
use Rattle.queries.specs.Found.{box, found_in}
use Rattle.queries.specs.Tallies.{start_of, with_amount, amount_of, first_from, first_above}
use Rattle.queries.proofs.Boxes.{from_le, above_le, in_yes, owner_below, owner_above, line_below, line_above}
use Rattle.queries.proofs.Tallies.{amount_is}
use Rattle.queries.proofs.Passed.{Passed, passed_none, pass_over, pass_absent, pass_present}

module _ (kind : ℕ) (cells : ℕ → Lab Cell) (first last low high : ℤ) (table : ℕ) where
  -- a query over the box has passed the first n places of the table
  abbrev pub Swept : ℕ → ℤ → Label → Type 0
  Swept n t l = Passed kind cells (in_box (box first last low high)) (64 * table) n t l

  -- all places before owner o are passed
  pub record AtOwner (o : ℕ) (t : ℤ) (l : Label) : Type 0 where
    pub owner_le : o ≤ 8
    pub owner_from : first_from first ≤ o
    pub swept : Swept (8 * o) t l

  -- owner o is in the box, and all places before its line n are passed
  pub record AtLine (o n : ℕ) (t : ℤ) (l : Label) : Type 0 where
    pub owner_from : first_from first ≤ o
    pub owner_to : o < first_above last
    pub line_le : n ≤ 8
    pub line_from : first_from low ≤ n
    pub swept : Swept (8 * o + n) t l

  over : (n m : ℕ) {t : ℤ} {l : Label} → n ≤ m
      → ((i : ℕ) → n ≤ i → i < m → in_box (box first last low high) (64 * table + i) ≡ false) → Swept n t l → Swept m t l
  over n m h none p = pass_over kind cells (in_box (box first last low high)) (64 * table) n m h none p

  -- to the first owner of the box
  pub to_first_owner : {o : ℕ} → o ≡ first_from first → AtOwner o (start_of kind) bottom
  to_first_owner {o} e =
      let le : o ≤ 8 = omega (arith, from_le first) in
      record {
        owner_le = le;
        owner_from = omega arith;
        swept = over 0 (8 * o) (omega arith) (λ i a b. owner_below first last low high table i (omega arith) (omega arith)) (passed_none kind cells (in_box (box first last low high)) (64 * table));
      }

  -- to the first line of an owner
  pub to_first_line : {o n : ℕ} {t : ℤ} {l : Label} → o < first_above last → n ≡ first_from low → AtOwner o t l → AtLine o n t l
  to_first_line {o} {n} h e at =
      let le : n ≤ 8 = omega (arith, from_le low) in
      let lt : o < 8 = omega (arith, above_le last) in
      record {
        owner_from = at.owner_from;
        owner_to = h;
        line_le = le;
        line_from = omega arith;
        swept = over (8 * o) (8 * o + n) (omega arith) (λ i a b. line_below first last low high table i (omega arith) (omega arith)) at.swept;
      }

  -- past the last line of an owner
  pub to_next_owner : {o n : ℕ} {t : ℤ} {l : Label} → first_above high ≤ n → AtLine o n t l → AtOwner (o + 1) t l
  to_next_owner {o} {n} h at =
      let lt : o < 8 = omega (arith, above_le last) in
      record {
        owner_le = omega arith;
        owner_from = omega arith;
        swept = over (8 * o + n) (8 * (o + 1)) (omega arith) (λ i a b. line_above first last low high table i (omega arith) (omega arith)) at.swept;
      }

  -- past the last owner: the answer of the rules
  pub found : {o : ℕ} {t : ℤ} {l : Label} → first_above last ≤ o → AtOwner o t l
      → ◌≡◌ {A = Found} (record { amount = amount_of kind t; label = l }) (found_in kind cells (box first last low high) table)
  unfolding found_in
  found {o} h at =
      let all = over (8 * o) 64 (omega arith) (λ i a b. owner_above first last low high table i (omega arith) (omega arith)) at.swept in
      ap₂ (λ (a : Option ℤ) (l : Label). record { amount = a; label = l }) (ap (amount_of kind) all.tally_is ∙ amount_is _ all.within kind) all.label_is

-- ---- a place in the box

-- whether a cell is present, in its table's word
presence_at : (presence : List ℕ) (table bit : ℕ) → bit < 64 → has presence (64 * table + bit) ≡ eqb (get_or presence table 0 / 2 ^ bit % 2) 1
unfolding has
presence_at presence table bit h =
    let word_is : (64 * table + bit) / 64 ≡ table = omega arith in
    let bit_is : (64 * table + bit) % 64 ≡ bit = omega arith in
    ap₂ (λ (w b : ℕ). eqb (get_or presence w 0 / 2 ^ b % 2) 1) word_is bit_is

module _ {kind : ℕ} {cells : ℕ → Lab Cell} {first last low high : ℤ} {table o n : ℕ} {t : ℤ} {l : Label} (at : AtLine kind cells first last low high table o n t l) (in_lines : n < first_above high) where
  pub bit_lt : 8 * o + n < 64
  bit_lt = omega (arith, above_le last, above_le high)

  here : in_box (box first last low high) (64 * table + (8 * o + n)) ≡ true
  here =
      let lt : n < 8 = omega (arith, above_le high) in
      let owner_is : (8 * o + n) / 8 ≡ o = omega arith in
      let line_is : (8 * o + n) % 8 ≡ n = omega arith in
      in_yes first last low high table (8 * o + n) bit_lt (rw owner_is at.owner_from) (rw owner_is at.owner_to) (rw line_is at.line_from) (rw line_is in_lines)

  next_line : {t' : ℤ} {l' : Label} → Swept kind cells first last low high table (8 * o + n + 1) t' l' → AtLine kind cells first last low high table o (n + 1) t' l'
  next_line p = record {
    owner_from = at.owner_from;
    owner_to = at.owner_to;
    line_le = omega (arith, above_le high);
    line_from = omega arith;
    swept = rw add_assoc at p;
  }

module _ {kind : ℕ} (amounts : List ℤ) (sets : Sets) {first last low high : ℤ} (table : ℕ) {o n : ℕ} {t : ℤ} {l l' : Label} (at : AtLine kind (cells_held amounts sets) first last low high table o n t l) (in_lines : n < first_above high) (joined : l' ≡ union l (row_at sets.labels (64 * table + (8 * o + n)))) where
  -- its cell is absent: only its label counts
  pub meet_absent : (get_or sets.present table 0 / 2 ^ (8 * o + n) % 2 ≡ 1 → ⊥)
      → AtLine kind (cells_held amounts sets) first last low high table o (n + 1) t l'
  unfolding cells_held
  meet_absent e =
      let lt = bit_lt at in_lines in
      next_line at in_lines (pass_absent kind _ _ _ (8 * o + n) (here at in_lines) joined at.swept (presence_at sets.present table (8 * o + n) lt ∙ ne_eqb _ 1 e))

  -- its cell is present: its amount counts too
  pub meet_present : {t' : ℤ} → get_or sets.present table 0 / 2 ^ (8 * o + n) % 2 ≡ 1 → mag (get_or amounts (64 * table + (8 * o + n)) (pos 0)) < 2147483648
      → t' ≡ with_amount kind t (get_or amounts (64 * table + (8 * o + n)) (pos 0)) → AtLine kind (cells_held amounts sets) first last low high table o (n + 1) t' l'
  unfolding cells_held
  meet_present e small more =
      let lt = bit_lt at in_lines in
      next_line at in_lines (pass_present kind _ _ _ (8 * o + n) (here at in_lines) joined at.swept (presence_at sets.present table (8 * o + n) lt ∙ eq-eqb _ 1 e) small more)
