-- What acceptance of a file tells of its bytes and of its records. Assumes nothing.
use mathlib.Core.Path.{◌≡◌, refl, ap}
use mathlib.Core.Bool.{Bool, true, false, cond}
use mathlib.Core.List.{List, [], ◌∷◌, ◌++◌}
use Prim.Native.Nat.{ℕ, ◌+◌, ◌-◌, ◌*◌, ◌≤◌, ◌<◌}
use native.Mathlib.Nat.{zero-add, sub-le}
use native.Mathlib.Omega.{arith}
use lib.Dec.{leb, lit<}
use lib.ListN.{length, get_or}
use borrow.Author.Tests.{leb-true, not-false}
use Rattle.book.specs.Records.{RegionRecord, cells_format, regions_format, rights_format, nodes_format, programs_format, triggers_format, labels_format}
use Rattle.book.specs.Layout.{trailer, remembers, tail_size, distance, count, section, label_section, bound, six_bounds, in_order, decode}
use Rattle.book.specs.Refusals.{need, blame, length_fits, mark_fits, sections_fit, Laid, bad_cell, no_region, region_fits, bad_region, bad_right, bad_node, bad_program, bad_trigger, bad_label, book_verdict, verdict}
use Rattle.book.specs.declared.Section.{Section}
use Rattle.std.specs.Prelude.{Ok}
use Rattle.book.proofs.Chains.{both}
use Rattle.book.proofs.Verdicts.{accepts_both, need_accepts, blame_accepts}
use Rattle.book.proofs.Sections.{first_in_order, last_in_order, in_order_back, in_order_room}
use Rattle.book.proofs.Decoded.{count_cells, count_regions, count_rights, count_nodes, count_programs, count_triggers, count_labels, region_read}
use Rattle.book.specs.declared.Reason.TheVariants as reasons

-- where the sections lie: what passing refusals 2 and 4 tells
pub record Sited (s : List ℕ) : Type 0 where
  pub long : 36 ≤ length s
  pub short : length s ≤ 60000
  pub back : (i : ℕ) → i < 6 → distance s i ≤ length s
  pub cells_start : (section s 0).start ≡ 0
  pub regions_start : (section s 1).start ≡ count s 0 * 8
  pub rights_start : (section s 2).start ≡ (section s 1).start + count s 1 * 8
  pub nodes_start : (section s 3).start ≡ (section s 2).start + count s 2 * 4
  pub programs_start : (section s 4).start ≡ (section s 3).start + count s 3 * 16
  pub triggers_start : (section s 5).start ≡ (section s 4).start + count s 4 * 4
  pub labels_start : (label_section s).start ≡ (section s 5).start + count s 5 * 8
  pub labels_end : (label_section s).start + (label_section s).count * 66 + tail_size s ≡ length s
  pub few_cells : count s 0 ≤ 512
  pub few_regions : count s 1 ≤ 64
  pub few_rights : count s 2 ≤ 64
  pub few_nodes : count s 3 ≤ 1024
  pub few_programs : count s 4 ≤ 8
  pub few_triggers : count s 5 ≤ 8
  pub few_labels : (label_section s).count ≤ 512

pub length_bounds : (s : List ℕ) → length_fits s ≡ true → (36 ≤ length s) × (length s ≤ 60000)
unfolding length_fits
length_bounds s e =
    let p = both (leb 36 (length s)) _ e in
    let q = both (leb (length s) 60000) _ p.1 in
    (leb-true _ _ p.0, leb-true _ _ q.0)

-- the seventh section, and what stands behind it, by the version
abbrev seventh_of : List ℕ → Bool → Section
seventh_of s x = cond x (section s 6) (record { start = trailer s; count = 0 })

record Seventh (s : List ℕ) (at : ℕ) (x : Bool) : Type 0 where
  starts : (seventh_of s x).start ≡ at
  ends : (seventh_of s x).start + (seventh_of s x).count * 66 + tail_size s ≡ length s
  few : (seventh_of s x).count ≤ 512

seventh : (s : List ℕ) (at : ℕ) (x : Bool) → remembers s ≡ x → in_order s 6 at (cond x (bound labels_format ∷ []) []) ≡ true → Seventh s at x
unfolding labels_format
seventh s at true e o =
    let here = first_in_order s 6 at _ _ o in
    let end = last_in_order s 7 _ here.2 in
    let start : length s - distance s 6 ≡ at = omega arith in
    record { starts = start; ends = omega (arith, start, end); few = here.1 }
seventh s at false e o =
    let end = last_in_order s 6 at o in
    let size : tail_size s ≡ 36 = ap (λ (x : Bool). cond x 40 36) e in
    let start : trailer s ≡ at = omega (arith, size, end) in
    record { starts = start; ends = omega (arith, start, end); few = omega arith }

-- sections in order, six or seven
pub sections_in : (s : List ℕ) → sections_fit s ≡ true → (x : Bool) → remembers s ≡ x → in_order s 0 0 (six_bounds ++ cond x (bound labels_format ∷ []) []) ≡ true
unfolding sections_fit six_bounds
sections_in s o true e = rw e at o
sections_in s o false e = rw e at o

pub sited : (s : List ℕ) → length_fits s ≡ true → sections_fit s ≡ true → Sited s
unfolding six_bounds cells_format regions_format rights_format nodes_format programs_format triggers_format
sited s l f =
    let bounds_in = length_bounds s l in
    let o = sections_in s f (remembers s) refl in
    let at_0 = first_in_order s 0 0 _ _ o in
    let at_1 = first_in_order s 1 _ _ _ at_0.2 in
    let at_2 = first_in_order s 2 _ _ _ at_1.2 in
    let at_3 = first_in_order s 3 _ _ _ at_2.2 in
    let at_4 = first_in_order s 4 _ _ _ at_3.2 in
    let at_5 = first_in_order s 5 _ _ _ at_4.2 in
    let rest = seventh s _ (remembers s) refl at_5.2 in
    record {
      long = bounds_in.0;
      short = bounds_in.1;
      back = λ i h. rw zero-add at (in_order_back s 0 0 _ o i (omega arith));
      cells_start = omega arith;
      regions_start = omega arith;
      rights_start = omega arith;
      nodes_start = omega arith;
      programs_start = omega arith;
      triggers_start = omega arith;
      labels_start = omega (arith, rest.starts);
      labels_end = rest.ends;
      few_cells = at_0.1;
      few_regions = at_1.1;
      few_rights = at_2.1;
      few_nodes = at_3.1;
      few_programs = at_4.1;
      few_triggers = at_5.1;
      few_labels = rest.few;
    }

pub laid : {s : List ℕ} → Laid s → Sited s
laid {s} l = sited s l.length_ok l.sections_ok

-- version 2 has room for the seventh pair, and what the pair gives lies in the file
pub seventh_back : {s : List ℕ} → Laid s → remembers s ≡ true → (40 ≤ length s) × (distance s 6 ≤ length s)
unfolding six_bounds
seventh_back {s} l e =
    let o = sections_in s l.sections_ok true e in
    let size : tail_size s ≡ 40 = ap (λ (x : Bool). cond x 40 36) e in
    (omega (arith, size, in_order_room s 0 0 _ o), in_order_back s 0 0 _ o 6 (lit< tt))

-- the records of each section lie in the file
module _ {s : List ℕ} (t : Sited s) where
  pub cells_inside : (section s 0).start + count s 0 * 8 ≤ length s
  cells_inside = rw (t.cells_start, zero-add, ← t.regions_start) (sub-le (length s) (distance s 1))

  pub regions_inside : (section s 1).start + count s 1 * 8 ≤ length s
  regions_inside = rw (← t.rights_start) (sub-le (length s) (distance s 2))

  pub rights_inside : (section s 2).start + count s 2 * 4 ≤ length s
  rights_inside = rw (← t.nodes_start) (sub-le (length s) (distance s 3))

  pub nodes_inside : (section s 3).start + count s 3 * 16 ≤ length s
  nodes_inside = rw (← t.programs_start) (sub-le (length s) (distance s 4))

  pub programs_inside : (section s 4).start + count s 4 * 4 ≤ length s
  programs_inside = rw (← t.triggers_start) (sub-le (length s) (distance s 5))

  pub triggers_inside : (section s 5).start + count s 5 * 8 ≤ length s
  triggers_inside = omega (arith, t.labels_start, t.labels_end)

  pub labels_inside : (label_section s).start + (label_section s).count * 66 ≤ length s
  labels_inside = omega (arith, t.labels_end)

-- each check has passed, at each record
pub record Good (s : List ℕ) : Type 0 where
  pub length_ok : length_fits s ≡ true
  pub mark_ok : mark_fits s ≡ true
  pub sections_ok : sections_fit s ≡ true
  pub cells_ok : (i : ℕ) → i < count s 0 → bad_cell (decode s).cells i ≡ false
  pub regions_ok : (i : ℕ) → i < count s 1 → bad_region (decode s).regions i ≡ false
  pub rights_ok : (i : ℕ) → i < count s 2 → bad_right (decode s) i ≡ false
  pub nodes_ok : (i : ℕ) → i < count s 3 → bad_node (decode s) i ≡ false
  pub programs_ok : (i : ℕ) → i < count s 4 → bad_program (decode s) i ≡ false
  pub triggers_ok : (i : ℕ) → i < count s 5 → bad_trigger (decode s) i ≡ false
  pub labels_ok : (i : ℕ) → i < (label_section s).count → bad_label (decode s).labels i ≡ false

pub accepted : (s : List ℕ) → verdict s ≡ Ok tt → Good s
unfolding verdict book_verdict
accepted s e =
    let length_in = accepts_both (need reasons.Length (length_fits s)) _ e in
    let mark_in = accepts_both (need reasons.Mark (mark_fits s)) _ length_in.1 in
    let sections_in = accepts_both (need reasons.Sections (sections_fit s)) _ mark_in.1 in
    let cells_in = accepts_both (blame reasons.Cell (bad_cell (decode s).cells) (length (decode s).cells)) _ sections_in.1 in
    let regions_in = accepts_both (blame reasons.Region (bad_region (decode s).regions) (length (decode s).regions)) _ cells_in.1 in
    let rights_in = accepts_both (blame reasons.Right (bad_right (decode s)) (length (decode s).rights)) _ regions_in.1 in
    let nodes_in = accepts_both (blame reasons.Node (bad_node (decode s)) (length (decode s).nodes)) _ rights_in.1 in
    let programs_in = accepts_both (blame reasons.Program (bad_program (decode s)) (length (decode s).programs)) _ nodes_in.1 in
    let triggers_in = accepts_both (blame reasons.Trigger (bad_trigger (decode s)) (length (decode s).triggers)) _ programs_in.1 in
    record {
      length_ok = need_accepts reasons.Length _ length_in.0;
      mark_ok = need_accepts reasons.Mark _ mark_in.0;
      sections_ok = need_accepts reasons.Sections _ sections_in.0;
      cells_ok = rw count_cells at (blame_accepts reasons.Cell _ _ cells_in.0);
      regions_ok = rw count_regions at (blame_accepts reasons.Region _ _ regions_in.0);
      rights_ok = rw count_rights at (blame_accepts reasons.Right _ _ rights_in.0);
      nodes_ok = rw count_nodes at (blame_accepts reasons.Node _ _ nodes_in.0);
      programs_ok = rw count_programs at (blame_accepts reasons.Program _ _ programs_in.0);
      triggers_ok = rw count_triggers at (blame_accepts reasons.Trigger _ _ triggers_in.0);
      labels_ok = rw count_labels at (blame_accepts reasons.Label _ _ triggers_in.1);
    }

pub placed : (s : List ℕ) → verdict s ≡ Ok tt → Sited s
placed s v = sited s (accepted s v).length_ok (accepted s v).sections_ok

-- what the record of region j tells that passed its check
module _ (s : List ℕ) (j : ℕ) (h : j < count s 1) where
  abbrev region : RegionRecord
  region = regions_format.read s ((section s 1).start + j * 8)

  pub region_inside : (section s 1).start + count s 1 * 8 ≤ length s → (section s 1).start + j * 8 + 8 ≤ length s
  region_inside all = omega arith

  pub region_table : bad_region (decode s).regions j ≡ false → region.table < 8
  unfolding bad_region region_fits
  region_table ok =
      let fits : region_fits region ≡ true = rw (region_read s j no_region h) at (not-false (region_fits (get_or (decode s).regions j no_region)) ok) in
      let table = both (leb region.table 7) _ fits in
      omega (arith, leb-true region.table 7 table.0)
