-- What stands behind a book's sections: what is read of it once written, and what is written of an accepted one. Assumes nothing.
use mathlib.Core.Path.{◌≡◌, refl, sym, ap, ap₂, ◌∙◌}
use mathlib.Core.List.{List, [], ◌∷◌, ◌++◌}
use mathlib.Core.Bool.{Bool, true, cond}
use Prim.Native.Nat.{ℕ, ◌+◌, ◌-◌, ◌*◌, ◌≤◌}
use native.Mathlib.Omega.{arith}
use lib.ListN.{length, take, drop, length-append, length-drop}
use lib.Seq.{get_or-append-add, get_or-drop}
use borrow.Author.Tests.{eq-eqb, le-leb, eqb-true}
use lib.Dec.{eqb, leb, lit<}
use Rattle.book.specs.Bytes.{byte, Bytes, le16, le24, le32, two, four}
use Rattle.book.specs.Records.{Book, cells_format, regions_format, rights_format, nodes_format, programs_format, triggers_format, labels_format}
use Rattle.book.specs.Layout.{trailer, version, remembers, tail_size, distance, count, section, label_section, six_bounds, in_order}
use Rattle.book.specs.Kinds.{between}
use Rattle.book.specs.Refusals.{mark, length_fits, marked, mark_fits, sections_fit, verdict}
use Rattle.book.specs.Encode.{Extent, distance_to_end, pairs}
use Rattle.book.specs.declared.Section.{Section}
use Rattle.std.specs.Prelude.{Ok}
use Rattle.book.proofs.Chains.{both}
use Rattle.book.proofs.Accepted.{Sited, accepted, placed, seventh_back}
use Rattle.encoder.specs.Steps.{sized, tail_with}
use Rattle.encoder.proofs.Codec.{two_back, four_back, two_of, four_of, spread_is}

-- how many records the sections have
pub record Counts : Type 0 where
  pub cells : ℕ
  pub regions : ℕ
  pub rights : ℕ
  pub nodes : ℕ
  pub programs : ℕ
  pub triggers : ℕ
  pub labels : ℕ

-- no more than there may be
pub record Few (n : Counts) : Type 0 where
  pub cells : n.cells ≤ 512
  pub regions : n.regions ≤ 64
  pub rights : n.rights ≤ 64
  pub nodes : n.nodes ≤ 1024
  pub programs : n.programs ≤ 8
  pub triggers : n.triggers ≤ 8
  pub labels : n.labels ≤ 512

abbrev pub counts_of : Book → Counts
counts_of b = record {
  cells = length b.cells;
  regions = length b.regions;
  rights = length b.rights;
  nodes = length b.nodes;
  programs = length b.programs;
  triggers = length b.triggers;
  labels = length b.labels;
}

abbrev pub six_of : Counts → List Extent
six_of n = sized 8 n.cells ∷ sized 8 n.regions ∷ sized 4 n.rights ∷ sized 16 n.nodes ∷ sized 4 n.programs ∷ sized 8 n.triggers ∷ []

-- the distances from the sections' starts to the file's end
abbrev pub from_labels : Counts → ℕ
from_labels n = n.labels * 66 + 40

abbrev pub from_triggers : Counts → ℕ
from_triggers n = n.triggers * 8 + from_labels n

abbrev pub from_programs : Counts → ℕ
from_programs n = n.programs * 4 + from_triggers n

abbrev pub from_nodes : Counts → ℕ
from_nodes n = n.nodes * 16 + from_programs n

abbrev pub from_rights : Counts → ℕ
from_rights n = n.rights * 4 + from_nodes n

abbrev pub from_regions : Counts → ℕ
from_regions n = n.regions * 8 + from_rights n

abbrev pub from_cells : Counts → ℕ
from_cells n = n.cells * 8 + from_regions n

-- what the layout finds in a file with these counts
pub record Trailed (s : List ℕ) (n : Counts) : Type 0 where
  pub whole : length s ≡ from_cells n
  pub cells_back : distance s 0 ≡ from_cells n
  pub regions_back : distance s 1 ≡ from_regions n
  pub rights_back : distance s 2 ≡ from_rights n
  pub nodes_back : distance s 3 ≡ from_nodes n
  pub programs_back : distance s 4 ≡ from_programs n
  pub triggers_back : distance s 5 ≡ from_triggers n
  pub labels_back : distance s 6 ≡ from_labels n
  pub cells : count s 0 ≡ n.cells
  pub regions : count s 1 ≡ n.regions
  pub rights : count s 2 ≡ n.rights
  pub nodes : count s 3 ≡ n.nodes
  pub programs : count s 4 ≡ n.programs
  pub triggers : count s 5 ≡ n.triggers
  pub labels : count s 6 ≡ n.labels

-- ---- what was written

abbrev pub tail_of : Counts → List ℕ
tail_of n = tail_with (six_of n) n.labels

in_order_is : (s : List ℕ) (n : Counts) → Few n → remembers s ≡ true → Trailed s n → sections_fit s ≡ true
unfolding sections_fit in_order six_bounds cells_format regions_format rights_format nodes_format programs_format triggers_format labels_format
in_order_is s n few version t =
    rw (
      version,
      eq-eqb (distance s 0 + 0) (length s) (omega arith),
      le-leb (count s 0) 512 (omega arith),
      eq-eqb (distance s 1 + (0 + count s 0 * 8)) (length s) (omega arith),
      le-leb (count s 1) 64 (omega arith),
      eq-eqb (distance s 2 + (0 + count s 0 * 8 + count s 1 * 8)) (length s) (omega arith),
      le-leb (count s 2) 64 (omega arith),
      eq-eqb (distance s 3 + (0 + count s 0 * 8 + count s 1 * 8 + count s 2 * 4)) (length s) (omega arith),
      le-leb (count s 3) 1024 (omega arith),
      eq-eqb (distance s 4 + (0 + count s 0 * 8 + count s 1 * 8 + count s 2 * 4 + count s 3 * 16)) (length s) (omega arith),
      le-leb (count s 4) 8 (omega arith),
      eq-eqb (distance s 5 + (0 + count s 0 * 8 + count s 1 * 8 + count s 2 * 4 + count s 3 * 16 + count s 4 * 4)) (length s) (omega arith),
      le-leb (count s 5) 8 (omega arith),
      eq-eqb (distance s 6 + (0 + count s 0 * 8 + count s 1 * 8 + count s 2 * 4 + count s 3 * 16 + count s 4 * 4 + count s 5 * 8)) (length s) (omega arith),
      le-leb (count s 6) 512 (omega arith),
      version,
      eq-eqb (0 + count s 0 * 8 + count s 1 * 8 + count s 2 * 4 + count s 3 * 16 + count s 4 * 4 + count s 5 * 8 + count s 6 * 66 + 40) (length s) (omega arith),
    )

module _ (body : List ℕ) (n : Counts) (few : Few n) (h : length body + 40 ≡ from_cells n) where
  abbrev file : List ℕ
  file = body ++ tail_of n

  length_file : length file ≡ from_cells n
  unfolding pairs distance_to_end
  length_file = length-append body (tail_of n) ∙ h

  byte_is : (at k : ℕ) → at ≡ length body + k → byte file at ≡ byte (tail_of n) k
  byte_is at k e = rw e (get_or-append-add body (tail_of n) k 0)

  pair_is : (at k : ℕ) → at ≡ length body + k → le16 file at ≡ le16 (tail_of n) k
  pair_is at k e = ap₂ (λ (x y : ℕ). x + 256 * y) (byte_is at k e) (byte_is (at + 1) (k + 1) (omega arith))

  pub trailed : Trailed file n
  unfolding pairs distance_to_end
  trailed =
      let l : length file ≡ from_cells n = length_file in record {
        whole = l;
        cells_back = pair_is _ 12 (omega arith) ∙ two_back (from_cells n) (omega arith);
        regions_back = pair_is _ 16 (omega arith) ∙ two_back (from_regions n) (omega arith);
        rights_back = pair_is _ 20 (omega arith) ∙ two_back (from_rights n) (omega arith);
        nodes_back = pair_is _ 24 (omega arith) ∙ two_back (from_nodes n) (omega arith);
        programs_back = pair_is _ 28 (omega arith) ∙ two_back (from_programs n) (omega arith);
        triggers_back = pair_is _ 32 (omega arith) ∙ two_back (from_triggers n) (omega arith);
        labels_back = pair_is _ 0 (omega arith) ∙ two_back (from_labels n) (omega arith);
        cells = pair_is _ 14 (omega arith) ∙ two_back n.cells (omega arith);
        regions = pair_is _ 18 (omega arith) ∙ two_back n.regions (omega arith);
        rights = pair_is _ 22 (omega arith) ∙ two_back n.rights (omega arith);
        nodes = pair_is _ 26 (omega arith) ∙ two_back n.nodes (omega arith);
        programs = pair_is _ 30 (omega arith) ∙ two_back n.programs (omega arith);
        triggers = pair_is _ 34 (omega arith) ∙ two_back n.triggers (omega arith);
        labels = pair_is _ 2 (omega arith) ∙ two_back n.labels (omega arith);
      }

  pub length_passes : length_fits file ≡ true
  unfolding length_fits pairs distance_to_end
  length_passes =
      let l : length file ≡ from_cells n = length_file in
      let field : le32 file (trailer file + 32) ≡ length file =
      ap₂ (λ (x y : ℕ). x + 65536 * y) (pair_is _ 36 (omega arith)) (pair_is _ 38 (omega arith)) ∙ four_back (from_cells n) (omega arith) ∙ sym l in
      rw (le-leb 36 (length file) (omega arith), le-leb (length file) 60000 (omega arith), eq-eqb (le32 file (trailer file + 32)) (length file) field)

  pub version_passes : remembers file ≡ true
  unfolding pairs
  version_passes =
      let l : length file ≡ from_cells n = length_file in
      eq-eqb (version file) 2 (byte_is (trailer file + 4) 8 (omega arith))

  pub mark_passes : mark_fits file ≡ true
  unfolding mark_fits marked pairs
  mark_passes =
      let l : length file ≡ from_cells n = length_file in
      rw (byte_is (trailer file) 4 (omega arith), byte_is (trailer file + 1) 5 (omega arith), byte_is (trailer file + 2) 6 (omega arith), byte_is (trailer file + 3) 7 (omega arith), byte_is (trailer file + 4) 8 (omega arith), byte_is (trailer file + 5) 9 (omega arith), byte_is (trailer file + 5 + 1) 10 (omega arith), byte_is (trailer file + 5 + 1 + 1) 11 (omega arith))

  pub sections_pass : sections_fit file ≡ true
  sections_pass = in_order_is file n few version_passes trailed

-- ---- what was accepted

-- the counts that a file gives
abbrev pub found : List ℕ → Counts
found s = record {
  cells = count s 0;
  regions = count s 1;
  rights = count s 2;
  nodes = count s 3;
  programs = count s 4;
  triggers = count s 5;
  labels = (label_section s).count;
}

pub found_few : {s : List ℕ} → Sited s → Few (found s)
found_few t = record {
  cells = t.few_cells;
  regions = t.few_regions;
  rights = t.few_rights;
  nodes = t.few_nodes;
  programs = t.few_programs;
  triggers = t.few_triggers;
  labels = t.few_labels;
}

-- of version 2
module _ (s : List ℕ) (v : verdict s ≡ Ok tt) (two_is : remembers s ≡ true) where
  pub found_trailed : Trailed s (found s)
  found_trailed =
      let t = placed s v in
      let seventh = seventh_back (record { length_ok = (accepted s v).length_ok; sections_ok = (accepted s v).sections_ok }) two_is in
      let here : label_section s ≡ section s 6 = ap (λ (x : Bool). cond x (section s 6) (record { start = trailer s; count = 0 })) two_is in
      let start : (label_section s).start ≡ length s - distance s 6 = ap (λ (x : Section). x.start) here in
      let number : (label_section s).count ≡ count s 6 = ap (λ (x : Section). x.count) here in
      let size : tail_size s ≡ 40 = ap (λ (x : Bool). cond x 40 36) two_is in
      let b0 = t.back 0 (lit< tt) in
      let b1 = t.back 1 (lit< tt) in
      let b2 = t.back 2 (lit< tt) in
      let b3 = t.back 3 (lit< tt) in
      let b4 = t.back 4 (lit< tt) in
      let b5 = t.back 5 (lit< tt) in
      let whole : length s ≡ from_cells (found s) = omega (arith, t.labels_end, t.labels_start, t.triggers_start, t.programs_start, t.nodes_start, t.rights_start, t.regions_start) in record {
        whole = whole;
        cells_back = omega (arith, t.cells_start, b0);
        regions_back = omega (arith, t.regions_start, b1);
        rights_back = omega (arith, t.rights_start, t.regions_start, b2);
        nodes_back = omega (arith, t.nodes_start, t.rights_start, t.regions_start, b3);
        programs_back = omega (arith, t.programs_start, t.nodes_start, t.rights_start, t.regions_start, b4);
        triggers_back = omega (arith, t.triggers_start, t.programs_start, t.nodes_start, t.rights_start, t.regions_start, b5);
        labels_back = omega (arith, t.labels_end, start, size, seventh.1);
        cells = refl;
        regions = refl;
        rights = refl;
        nodes = refl;
        programs = refl;
        triggers = refl;
        labels = sym number;
      }

  module _ (b : Bytes s) where
    -- a number that two bytes of the file hold
    pair_at : (base k at m : ℕ) → at ≡ base + k → m ≡ le16 s at → two m ≡ byte (drop base s) k ∷ byte (drop base s) (k + 1) ∷ []
    pair_at base k at m e q =
        let low : byte s at ≡ byte (drop base s) k = rw (get_or-drop, e) in
        let high : byte s (at + 1) ≡ byte (drop base s) (k + 1) = rw (get_or-drop, e) (ap (λ (i : ℕ). byte s i) (omega arith)) in
        ap two q ∙ two_of (b.fits at) (b.fits (at + 1)) ∙ ap₂ (λ (x y : ℕ). x ∷ y ∷ []) low high

    -- a byte of the file that the checks fix
    byte_at : (base k at v : ℕ) → at ≡ base + k → byte s at ≡ v → v ≡ byte (drop base s) k
    byte_at base k at v e q = sym q ∙ rw (get_or-drop, e)

    record Marked : Type 0 where
      m0 : byte s (trailer s) ≡ 66
      m1 : byte s (trailer s + 1) ≡ 75
      m2 : byte s (trailer s + 2) ≡ 87
      m3 : byte s (trailer s + 3) ≡ 83
      zeros : le24 s (trailer s + 5) ≡ 0

    is_marked : mark_fits s ≡ true → Marked
    unfolding mark_fits marked
    is_marked m =
        let t : ℕ = trailer s in
        let x = both (marked s t mark) _ m in
        let x0 = both (eqb (byte s t) 66) _ x.0 in
        let x1 = both (eqb (byte s (t + 1)) 75) _ x0.1 in
        let x2 = both (eqb (byte s (t + 2)) 87) _ x1.1 in
        let y = both (between 1 2 (version s)) _ x.1 in record {
          m0 = eqb-true _ _ x0.0;
          m1 = eqb-true _ _ x1.0;
          m2 = eqb-true _ _ x2.0;
          m3 = eqb-true _ _ x2.1;
          zeros = eqb-true _ _ y.1;
        }

    length_field : length_fits s ≡ true → le32 s (trailer s + 32) ≡ from_cells (found s)
    unfolding length_fits
    length_field l =
        let x = both (leb 36 (length s)) _ l in
        let y = both (leb (length s) 60000) _ x.1 in
        eqb-true _ _ y.1 ∙ found_trailed.whole

    -- it is written as it stands
    pub tail_stands : tail_of (found s) ≡ take 40 (drop (length s - 40) s)
    unfolding pairs distance_to_end
    tail_stands =
        let t = found_trailed in
        let x = is_marked (accepted s v).mark_ok in
        let version_is : version s ≡ 2 = eqb-true _ _ two_is in
        let long : 40 ≤ length s = omega (arith, t.whole) in
        let base : ℕ = length s - 40 in
        let field : ℕ = trailer s + 32 in
        let last : four (from_cells (found s)) ≡ byte s field ∷ byte s (field + 1) ∷ byte s (field + 2) ∷ byte s (field + 2 + 1) ∷ [] =
        ap four (sym (length_field (accepted s v).length_ok)) ∙ four_of (b.fits field) (b.fits (field + 1)) (b.fits (field + 2)) (b.fits (field + 2 + 1)) in
        let ending : byte s field ∷ byte s (field + 1) ∷ byte s (field + 2) ∷ byte s (field + 2 + 1) ∷ []
        ≡ byte (drop base s) 36 ∷ byte (drop base s) 37 ∷ byte (drop base s) 38 ∷ byte (drop base s) 39 ∷ [] =
        λ i. byte_at base 36 field _ (omega arith) refl i ∷ byte_at base 37 (field + 1) _ (omega arith) refl i ∷ byte_at base 38 (field + 2) _ (omega arith) refl i ∷ byte_at base 39 (field + 2 + 1) _ (omega arith) refl i ∷ [] in
        (λ i.
        pair_at base 0 _ (from_labels (found s)) (omega arith) (sym t.labels_back) i ++ (pair_at base 2 _ (label_section s).count (omega arith) (sym t.labels) i
        ++ (byte_at base 4 (trailer s) 66 (omega arith) x.m0 i ∷ byte_at base 5 _ 75 (omega arith) x.m1 i ∷ byte_at base 6 _ 87 (omega arith) x.m2 i ∷ byte_at base 7 _ 83 (omega arith) x.m3 i
        ∷ byte_at base 8 _ 2 (omega arith) version_is i ∷ byte_at base 9 (trailer s + 5) 0 (omega arith) (omega arith) i ∷ byte_at base 10 (trailer s + 5 + 1) 0 (omega arith) (omega arith) i ∷ byte_at base 11 (trailer s + 5 + 1 + 1) 0 (omega arith) (omega arith) i
        ∷ (pair_at base 12 _ (from_cells (found s)) (omega arith) (sym t.cells_back) i ++ (pair_at base 14 _ (count s 0) (omega arith) refl i
        ++ (pair_at base 16 _ (from_regions (found s)) (omega arith) (sym t.regions_back) i ++ (pair_at base 18 _ (count s 1) (omega arith) refl i
        ++ (pair_at base 20 _ (from_rights (found s)) (omega arith) (sym t.rights_back) i ++ (pair_at base 22 _ (count s 2) (omega arith) refl i
        ++ (pair_at base 24 _ (from_nodes (found s)) (omega arith) (sym t.nodes_back) i ++ (pair_at base 26 _ (count s 3) (omega arith) refl i
        ++ (pair_at base 28 _ (from_programs (found s)) (omega arith) (sym t.programs_back) i ++ (pair_at base 30 _ (count s 4) (omega arith) refl i
        ++ (pair_at base 32 _ (from_triggers (found s)) (omega arith) (sym t.triggers_back) i ++ (pair_at base 34 _ (count s 5) (omega arith) refl i
        ++ (last ∙ ending) i)))))))))))))))
        ∙ sym (spread_is 40 0 (drop base s) (simp length-drop (omega arith)))
