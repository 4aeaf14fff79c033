-- The decoded book: how many records each section has, and from where each record is read. Assumes nothing.
use mathlib.Core.Path.{◌≡◌}
use mathlib.Core.List.{List}
use Prim.Native.Nat.{ℕ, ◌+◌, ◌*◌, ◌<◌}
use lib.ListN.{length, get_or}
use Rattle.book.specs.Records.{CellRecord, RegionRecord, RightRecord, NodeRecord, ProgramRecord, TriggerRecord, LabelRecord, cells_format, regions_format, rights_format, nodes_format, programs_format, triggers_format, labels_format}
use Rattle.book.specs.Layout.{count, section, label_section, decode}
use Rattle.book.proofs.Records.{length_records, record_at}

-- ---- the counts

pub count_cells : (s : List ℕ) → length (decode s).cells ≡ count s 0
unfolding decode
count_cells s = length_records cells_format _ _ s

pub count_regions : (s : List ℕ) → length (decode s).regions ≡ count s 1
unfolding decode
count_regions s = length_records regions_format _ _ s

pub count_rights : (s : List ℕ) → length (decode s).rights ≡ count s 2
unfolding decode
count_rights s = length_records rights_format _ _ s

pub count_nodes : (s : List ℕ) → length (decode s).nodes ≡ count s 3
unfolding decode
count_nodes s = length_records nodes_format _ _ s

pub count_programs : (s : List ℕ) → length (decode s).programs ≡ count s 4
unfolding decode
count_programs s = length_records programs_format _ _ s

pub count_triggers : (s : List ℕ) → length (decode s).triggers ≡ count s 5
unfolding decode
count_triggers s = length_records triggers_format _ _ s

pub count_labels : (s : List ℕ) → length (decode s).labels ≡ (label_section s).count
unfolding decode
count_labels s = length_records labels_format _ _ s

-- ---- record i

pub cell_read : (s : List ℕ) (i : ℕ) (d : CellRecord) → i < count s 0 → get_or (decode s).cells i d ≡ cells_format.read s ((section s 0).start + i * 8)
unfolding decode cells_format
cell_read s i d h = record_at cells_format _ _ s i d h

pub region_read : (s : List ℕ) (i : ℕ) (d : RegionRecord) → i < count s 1 → get_or (decode s).regions i d ≡ regions_format.read s ((section s 1).start + i * 8)
unfolding decode regions_format
region_read s i d h = record_at regions_format _ _ s i d h

pub right_read : (s : List ℕ) (i : ℕ) (d : RightRecord) → i < count s 2 → get_or (decode s).rights i d ≡ rights_format.read s ((section s 2).start + i * 4)
unfolding decode rights_format
right_read s i d h = record_at rights_format _ _ s i d h

pub node_read : (s : List ℕ) (i : ℕ) (d : NodeRecord) → i < count s 3 → get_or (decode s).nodes i d ≡ nodes_format.read s ((section s 3).start + i * 16)
unfolding decode nodes_format
node_read s i d h = record_at nodes_format _ _ s i d h

pub program_read : (s : List ℕ) (i : ℕ) (d : ProgramRecord) → i < count s 4 → get_or (decode s).programs i d ≡ programs_format.read s ((section s 4).start + i * 4)
unfolding decode programs_format
program_read s i d h = record_at programs_format _ _ s i d h

pub trigger_read : (s : List ℕ) (i : ℕ) (d : TriggerRecord) → i < count s 5 → get_or (decode s).triggers i d ≡ triggers_format.read s ((section s 5).start + i * 8)
unfolding decode triggers_format
trigger_read s i d h = record_at triggers_format _ _ s i d h

pub label_read : (s : List ℕ) (i : ℕ) (d : LabelRecord) → i < (label_section s).count → get_or (decode s).labels i d ≡ labels_format.read s ((label_section s).start + i * 66)
unfolding decode labels_format
label_read s i d h = record_at labels_format _ _ s i d h
