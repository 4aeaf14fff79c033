-- A book's bytes are read back as the book, and an accepted file is what is written of its book. Assumes nothing.
use mathlib.Core.Path.{◌≡◌, refl, sym, ap, ap₂, ◌∙◌}
use mathlib.Core.List.{List, [], ◌++◌, append_assoc}
use mathlib.Core.Bool.{Bool, true, cond}
use Prim.Native.Nat.{ℕ, ◌+◌, ◌-◌, ◌*◌, ◌≤◌}
use native.Mathlib.Nat.{zero-add}
use native.Mathlib.Omega.{arith}
use lib.ListN.{length, take, drop, length-append}
use lib.Seq.{take_all, take-add, drop-drop}
use Rattle.book.specs.Bytes.{Bytes}
use Rattle.book.specs.Records.{Format, records, section_bytes, Book, cells_format, regions_format, rights_format, nodes_format, programs_format, triggers_format, labels_format}
use Rattle.book.specs.Layout.{trailer, remembers, distance, count, section, label_section, section_records, decode}
use Rattle.book.specs.Refusals.{length_fits, mark_fits, sections_fit, verdict}
use Rattle.book.specs.declared.Section.{Section}
use Rattle.std.specs.Prelude.{Ok}
use Rattle.book.proofs.Decoded.{count_cells, count_regions, count_rights, count_nodes, count_programs, count_triggers, count_labels}
use Rattle.book.proofs.Accepted.{Sited, placed, cells_inside, regions_inside, rights_inside, nodes_inside, programs_inside, triggers_inside, labels_inside}
use Rattle.book.specs.Encode.{six_extents, other_sections, tail_bytes, encode}
use Rattle.encoder.proofs.Codec.{Codec, AllKept, length_section, section_same, section_back, all_kept, cells_codec, regions_codec, rights_codec, nodes_codec, programs_codec, triggers_codec, labels_codec}
use Rattle.writer.proofs.Trailer.{Counts, Few, counts_of, tail_of, from_cells, Trailed, trailed, found, found_few, tail_stands, length_passes, version_passes, mark_passes, sections_pass}

-- each record is read back as it was written, and there are not too many
pub record Sound (b : Book) : Type 0 where
  pub few : Few (counts_of b)
  pub cells : AllKept cells_format b.cells
  pub regions : AllKept regions_format b.regions
  pub rights : AllKept rights_format b.rights
  pub nodes : AllKept nodes_format b.nodes
  pub programs : AllKept programs_format b.programs
  pub triggers : AllKept triggers_format b.triggers
  pub labels : AllKept labels_format b.labels

-- a section that stands where the trailer says is read back
section_is : {A : Type 0} {f : Format A} → Codec f → (s p q : List ℕ) (rs : List A) (i at : ℕ) → AllKept f rs
    → s ≡ p ++ (section_bytes f rs ++ q) → length p ≡ at → length s - distance s i ≡ at → count s i ≡ length rs → section_records f i s ≡ rs
section_is {A} {f} codec s p q rs i at kept e l start n =
    ap₂ (λ (x y : ℕ). records f x y s) n start ∙ ap (records f (length rs) at) e ∙ section_back codec rs kept p q at l

module _ (b : Book) where
  abbrev cells : List ℕ
  cells = section_bytes cells_format b.cells

  abbrev regions : List ℕ
  regions = section_bytes regions_format b.regions

  abbrev rights : List ℕ
  rights = section_bytes rights_format b.rights

  abbrev nodes : List ℕ
  nodes = section_bytes nodes_format b.nodes

  abbrev programs : List ℕ
  programs = section_bytes programs_format b.programs

  abbrev triggers : List ℕ
  triggers = section_bytes triggers_format b.triggers

  abbrev labels : List ℕ
  labels = section_bytes labels_format b.labels

  abbrev body : List ℕ
  body = cells ++ (other_sections b ++ labels)

  -- the sections' lengths in bytes
  record Sizes : Type 0 where
    of_cells : length cells ≡ length b.cells * 8
    of_regions : length regions ≡ length b.regions * 8
    of_rights : length rights ≡ length b.rights * 4
    of_nodes : length nodes ≡ length b.nodes * 16
    of_programs : length programs ≡ length b.programs * 4
    of_triggers : length triggers ≡ length b.triggers * 8
    of_labels : length labels ≡ length b.labels * 66

  sizes : Sizes
  unfolding cells_format regions_format rights_format nodes_format programs_format triggers_format labels_format
  sizes = record {
    of_cells = length_section cells_codec b.cells;
    of_regions = length_section regions_codec b.regions;
    of_rights = length_section rights_codec b.rights;
    of_nodes = length_section nodes_codec b.nodes;
    of_programs = length_section programs_codec b.programs;
    of_triggers = length_section triggers_codec b.triggers;
    of_labels = length_section labels_codec b.labels;
  }

  length_body : length body + 40 ≡ from_cells (counts_of b)
  unfolding other_sections
  length_body =
      let z = sizes in
      simp length-append (omega arith)

  pub tail_is : tail_bytes b ≡ tail_of (counts_of b)
  unfolding tail_bytes six_extents cells_format regions_format rights_format nodes_format programs_format triggers_format labels_format
  tail_is = refl

  encode_is : encode b ≡ body ++ tail_of (counts_of b)
  unfolding encode
  encode_is =
      ap (λ (t : List ℕ). cells ++ (other_sections b ++ (labels ++ t))) tail_is
      ∙ ap (λ (t : List ℕ). cells ++ t) (sym (append_assoc (other_sections b) labels (tail_of (counts_of b))))
      ∙ sym (append_assoc cells (other_sections b ++ labels) (tail_of (counts_of b)))

  module _ (sound : Sound b) where
    layout : Trailed (encode b) (counts_of b)
    layout = rw encode_is (trailed body (counts_of b) sound.few length_body)

    pub passes_length : length_fits (encode b) ≡ true
    passes_length = rw encode_is (length_passes body (counts_of b) sound.few length_body)

    pub passes_mark : mark_fits (encode b) ≡ true
    passes_mark = rw encode_is (mark_passes body (counts_of b) sound.few length_body)

    pub passes_version : remembers (encode b) ≡ true
    passes_version = rw encode_is (version_passes body (counts_of b) sound.few length_body)

    pub passes_sections : sections_fit (encode b) ≡ true
    passes_sections = rw encode_is (sections_pass body (counts_of b) sound.few length_body)

    -- the label records stand where the seventh pair says
    labels_back : (p : List ℕ) (at : ℕ) → encode b ≡ p ++ (labels ++ tail_bytes b) → length p ≡ at → length (encode b) - distance (encode b) 6 ≡ at
        → records labels_format (label_section (encode b)).count (label_section (encode b)).start (encode b) ≡ b.labels
    labels_back p at e l start =
        let s : List ℕ = encode b in
        ap (λ (x : Bool). let z : Section = cond x (section s 6) (record { start = trailer s; count = 0 }) in records labels_format z.count z.start s) passes_version
        ∙ section_is labels_codec s p (tail_bytes b) b.labels 6 at sound.labels e l start layout.labels

    pub decode_encode : decode (encode b) ≡ b
    unfolding decode encode other_sections
    decode_encode =
        let z = sizes in
        let t = layout in
        let n : Counts = counts_of b in
        let s : List ℕ = encode b in
        let x : List ℕ = labels ++ tail_bytes b in
        λ i. record {
          cells = section_is cells_codec s [] _ b.cells 0 0 sound.cells refl refl (omega arith) t.cells i;
          regions =
              section_is regions_codec s cells ((rights ++ (nodes ++ (programs ++ triggers))) ++ x) b.regions 1 (n.cells * 8) sound.regions
              (simp append_assoc) z.of_cells (omega arith) t.regions i;
          rights =
              section_is rights_codec s (cells ++ regions) ((nodes ++ (programs ++ triggers)) ++ x) b.rights 2 (n.cells * 8 + n.regions * 8) sound.rights
              (simp append_assoc) (simp length-append (omega arith)) (omega arith) t.rights i;
          nodes =
              section_is nodes_codec s (cells ++ regions ++ rights) ((programs ++ triggers) ++ x) b.nodes 3 (n.cells * 8 + n.regions * 8 + n.rights * 4) sound.nodes
              (simp append_assoc) (simp length-append (omega arith)) (omega arith) t.nodes i;
          programs =
              section_is programs_codec s (cells ++ regions ++ rights ++ nodes) (triggers ++ x) b.programs 4 (n.cells * 8 + n.regions * 8 + n.rights * 4 + n.nodes * 16) sound.programs
              (simp append_assoc) (simp length-append (omega arith)) (omega arith) t.programs i;
          triggers =
              section_is triggers_codec s (cells ++ regions ++ rights ++ nodes ++ programs) x b.triggers 5 (n.cells * 8 + n.regions * 8 + n.rights * 4 + n.nodes * 16 + n.programs * 4) sound.triggers
              (simp append_assoc) (simp length-append (omega arith)) (omega arith) t.triggers i;
          labels =
              labels_back (cells ++ regions ++ rights ++ nodes ++ programs ++ triggers) (n.cells * 8 + n.regions * 8 + n.rights * 4 + n.nodes * 16 + n.programs * 4 + n.triggers * 8)
              (simp append_assoc) (simp length-append (omega arith)) (omega arith) i;
        }

-- ---- accepted files

-- x is the `size` bytes of s from `at` on
record Part (s : List ℕ) (at size : ℕ) (x : List ℕ) : Type 0 where
  is : x ≡ take size (drop at s)

behind : {s x y : List ℕ} {at a b : ℕ} → Part s at a x → Part s (at + a) b y → Part s at (a + b) (x ++ y)
behind {s} {x} {y} {at} {a} {b} e f =
    record { is = ap₂ (λ (x y : List ℕ). x ++ y) e.is f.is ∙ sym (rw (take-add a b (drop at s), drop-drop a at s)) }

module _ (s : List ℕ) (b : Bytes s) (v : verdict s ≡ Ok tt) where
  abbrev n : Counts
  n = found s

  sited : Sited s
  sited = placed s v

  -- the bytes of a section
  stands : {A : Type 0} {f : Format A} → Codec f → (i at size : ℕ) → (section s i).start ≡ at → f.size ≡ size → (section s i).start + count s i * size ≤ length s
      → Part s at (count s i * size) (section_bytes f (section_records f i s))
  stands {A} {f} codec i at size e z h = record { is = rw (← z, ← e) (section_same codec (count s i) (section s i).start s b (rw z h)) }

  abbrev start : ℕ
  start = (label_section s).start

  -- where the sections after the cells start
  record Starts : Type 0 where
    of_regions : (section s 1).start ≡ n.cells * 8
    of_rights : (section s 2).start ≡ n.cells * 8 + n.regions * 8
    of_nodes : (section s 3).start ≡ n.cells * 8 + n.regions * 8 + n.rights * 4
    of_programs : (section s 4).start ≡ n.cells * 8 + n.regions * 8 + n.rights * 4 + n.nodes * 16
    of_triggers : (section s 5).start ≡ n.cells * 8 + n.regions * 8 + n.rights * 4 + n.nodes * 16 + n.programs * 4
    of_labels : start ≡ n.cells * 8 + n.regions * 8 + n.rights * 4 + n.nodes * 16 + n.programs * 4 + n.triggers * 8

  starts : Starts
  starts =
      let t = sited in
      let e1 = t.regions_start in
      let e2 = t.rights_start ∙ ap (λ (k : ℕ). k + n.regions * 8) e1 in
      let e3 = t.nodes_start ∙ ap (λ (k : ℕ). k + n.rights * 4) e2 in
      let e4 = t.programs_start ∙ ap (λ (k : ℕ). k + n.nodes * 16) e3 in
      let e5 = t.triggers_start ∙ ap (λ (k : ℕ). k + n.programs * 4) e4 in
      record { of_regions = e1; of_rights = e2; of_nodes = e3; of_programs = e4; of_triggers = e5; of_labels = t.labels_start ∙ ap (λ (k : ℕ). k + n.triggers * 8) e5 }

  others_size : n.regions * 8 + (n.rights * 4 + (n.nodes * 16 + (n.programs * 4 + n.triggers * 8))) ≡ start - n.cells * 8
  others_size = omega (arith, starts.of_labels)

  pub others_end : n.cells * 8 + (start - n.cells * 8) ≡ start
  others_end = omega (arith, starts.of_labels)

  pub others_few : start - n.cells * 8 ≤ 17248
  others_few =
      let t = sited in
      rw (← others_size) (omega (arith, t.few_regions, t.few_rights, t.few_nodes, t.few_programs, t.few_triggers))

  others_stand : Part s (n.cells * 8) (start - n.cells * 8) (other_sections (decode s))
  unfolding other_sections decode regions_format rights_format nodes_format programs_format triggers_format
  others_stand =
      let t = sited in
      let z = starts in
      rw (← others_size)
      (behind (stands regions_codec 1 (n.cells * 8) 8 z.of_regions refl (regions_inside t))
      (behind (stands rights_codec 2 (n.cells * 8 + n.regions * 8) 4 z.of_rights refl (rights_inside t))
      (behind (stands nodes_codec 3 (n.cells * 8 + n.regions * 8 + n.rights * 4) 16 z.of_nodes refl (nodes_inside t))
      (behind (stands programs_codec 4 (n.cells * 8 + n.regions * 8 + n.rights * 4 + n.nodes * 16) 4 z.of_programs refl (programs_inside t))
      (stands triggers_codec 5 (n.cells * 8 + n.regions * 8 + n.rights * 4 + n.nodes * 16 + n.programs * 4) 8 z.of_triggers refl (triggers_inside t))))))

  -- the sections between the cells and the label records are written as they stand
  pub others_same : other_sections (decode s) ≡ take (start - count s 0 * 8) (drop (count s 0 * 8) s)
  others_same = others_stand.is

  pub counts_found : counts_of (decode s) ≡ n
  counts_found i = record {
    cells = count_cells s i;
    regions = count_regions s i;
    rights = count_rights s i;
    nodes = count_nodes s i;
    programs = count_programs s i;
    triggers = count_triggers s i;
    labels = count_labels s i;
  }

  -- its records are read back as they are written
  pub sound_found : Sound (decode s)
  unfolding decode cells_format regions_format rights_format nodes_format programs_format triggers_format labels_format
  sound_found =
      let t = sited in record {
        few = rw counts_found (found_few t);
        cells = all_kept cells_codec (count s 0) _ s b (cells_inside t);
        regions = all_kept regions_codec (count s 1) _ s b (regions_inside t);
        rights = all_kept rights_codec (count s 2) _ s b (rights_inside t);
        nodes = all_kept nodes_codec (count s 3) _ s b (nodes_inside t);
        programs = all_kept programs_codec (count s 4) _ s b (programs_inside t);
        triggers = all_kept triggers_codec (count s 5) _ s b (triggers_inside t);
        labels = all_kept labels_codec (label_section s).count _ s b (labels_inside t);
      }

  -- ---- of version 2

  module _ (two_is : remembers s ≡ true) where
    tail_found : tail_bytes (decode s) ≡ tail_of n
    tail_found = tail_is (decode s) ∙ ap tail_of counts_found

    labels_stand : Part s start ((label_section s).count * 66) (section_bytes labels_format (decode s).labels)
    unfolding decode labels_format
    labels_stand = record { is = section_same labels_codec (label_section s).count start s b (labels_inside sited) }

    end_is : start + (label_section s).count * 66 + 40 ≡ length s
    end_is = ap (λ (x : Bool). start + (label_section s).count * 66 + cond x 40 36) (sym two_is) ∙ sited.labels_end

    tail_start : length s - 40 ≡ start + (label_section s).count * 66
    tail_start = omega (arith, end_is)

    all_parts : length s ≤ n.cells * 8 + (start - n.cells * 8 + ((label_section s).count * 66 + 40))
    all_parts = omega (arith, end_is, others_end)

    -- what is written of an accepted file's book is the file
    pub encode_decode : encode (decode s) ≡ s
    unfolding encode decode cells_format
    encode_decode =
        let a : ℕ = n.cells * 8 in
        let c : ℕ = start - a in
        let d : ℕ = (label_section s).count * 66 in
        let z = sited in
        let last : Part s (start + d) 40 (tail_bytes (decode s)) = record { is = tail_found ∙ tail_stands s v two_is b ∙ ap (λ (k : ℕ). take 40 (drop k s)) tail_start } in
        let later : Part s (a + c) (d + 40) (section_bytes labels_format (decode s).labels ++ tail_bytes (decode s)) = rw others_end (behind labels_stand last) in
        let rest : Part s (0 + a) (c + (d + 40)) (other_sections (decode s) ++ (section_bytes labels_format (decode s).labels ++ tail_bytes (decode s))) = rw zero-add (behind others_stand later) in
        (behind (stands cells_codec 0 0 8 z.cells_start refl (cells_inside z)) rest).is ∙ take_all _ s all_parts
