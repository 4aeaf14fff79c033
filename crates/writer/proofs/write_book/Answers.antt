-- `writer::write_book` meets its contract: each step stores its part behind the one before.
use mathlib.Core.Path.{◌≡◌, ap, ◌∙◌}
use Prim.Native.Nat.{◌*◌}
use lib.Dec.{lit<}
use lib.ListN.{length}
use Rattle.book.specs.Bytes.{Bytes}
use Rattle.book.specs.Layout.{count, label_section}
use Rattle.book.specs.declared.Section.{Section}
use Rattle.book.proofs.Accepted.{accepted, placed}
use Rattle.encoder.proofs.Writes.{cells_below}
use Rattle.writer.proofs.Books.{Numbers, numbers, LabelNumbers, label_numbers, book_steps}
use native.Mathlib.Omega.{arith}
use Rattle.writer.proofs.write_book.Goals as goal
use Rattle.writer.proofs.write_book.Tie as tie
use Rattle.writer.proofs.write_book.Lts as lts
use Rattle.writer.proofs.write_book.Reads as reads

-- the cells are written, and the file's other sections are found
bytes : (c : lts.After-label_section tie.the-claims reads.Pre reads.Post tie.handed_clauses) → Bytes c.before.before.before.before.before.before.before.before.before.before.before.args.file.now
bytes c = record { fits = λ i. (c.before.before.before.before.before.before.before.before.before.before.shared_slice_known-1.given i).fits }

end_is : (c : lts.After-label_section tie.the-claims reads.Pre reads.Post tie.handed_clauses)
    → let s = c.before.before.before.before.before.before.before.before.before.before.before in
    c.before.before.before.before.write_cells-cells.result ≡ length (cells_below s.args.amounts.now s.args.presence.now 512)
end_is c = rw c.before.before.before.before.before.before.copy_from_slice.ensures.after at c.before.before.before.before.write_cells-cells.ensures.0

others_are : (c : lts.After-label_section tie.the-claims reads.Pre reads.Post tie.handed_clauses) → c.before.section_at-regions.result.start ≡ count c.before.before.before.before.before.before.before.before.before.before.before.args.file.now 0 * 8
others_are c =
    let s = c.before.before.before.before.before.before.before.before.before.before.before in
    ap (λ (x : Section). x.start) c.before.section_at-regions.ensures ∙ (placed s.args.file.now s.requires.0).regions_start

till_is : (c : lts.After-label_section tie.the-claims reads.Pre reads.Post tie.handed_clauses) → c.label_section-old_labels.result.start ≡ (label_section c.before.before.before.before.before.before.before.before.before.before.before.args.file.now).start
till_is c = ap (λ (x : Section). x.start) c.label_section-old_labels.ensures

known : (c : lts.After-label_section tie.the-claims reads.Pre reads.Post tie.handed_clauses)
    → let s = c.before.before.before.before.before.before.before.before.before.before.before in
    let w = c.before.before.before.before.write_cells-cells in
    Numbers s.args.file.now (bytes c) s.requires.0 s.args.amounts.now s.args.presence.now s.args.labels.now w.result c.before.section_at-regions.result.start
    c.label_section-old_labels.result.start w.ensures.2 (others_are c) (till_is c) (end_is c)
known c =
    let s = c.before.before.before.before.before.before.before.before.before.before.before in
    let w = c.before.before.before.before.write_cells-cells in
    numbers s.args.file.now (bytes c) s.requires.0 s.args.amounts.now s.args.presence.now s.args.labels.now w.result c.before.section_at-regions.result.start
    c.label_section-old_labels.result.start w.ensures.2 (others_are c) (till_is c) (end_is c)

-- the label records are written
known_labels : (c : lts.After-write_labels tie.the-claims reads.Pre reads.Post tie.handed_clauses)
    → let d = c.before.before.before.before.before.before.before.before in
    let s = d.before.before.before.before.before.before.before.before.before.before.before in
    let w = d.before.before.before.before.write_cells-cells in
    LabelNumbers s.args.file.now (bytes d) s.requires.0 s.args.amounts.now s.args.presence.now s.args.labels.now w.result d.before.section_at-regions.result.start
    d.label_section-old_labels.result.start w.ensures.2 (others_are d) (till_is d) (end_is d) c.write_labels-end.result c.write_labels-end.ensures.0
known_labels c =
    let d = c.before.before.before.before.before.before.before.before in
    let s = d.before.before.before.before.before.before.before.before.before.before.before in
    let w = d.before.before.before.before.write_cells-cells in
    label_numbers s.args.file.now (bytes d) s.requires.0 s.args.amounts.now s.args.presence.now s.args.labels.now w.result d.before.section_at-regions.result.start
    d.label_section-old_labels.result.start w.ensures.2 (others_are d) (till_is d) (end_is d) c.write_labels-end.result c.write_labels-end.ensures.0

pub section_at-regions-requires : goal.section_at-regions-requires
section_at-regions-requires c =
    let s = c.before.before.before.before.before.before.before.before.before.before in
    let z = placed s.args.file.now s.requires.0 in
    (lit< tt, z.long, z.back 1 (lit< tt))

pub label_section-old_labels-requires : goal.label_section-old_labels-requires
label_section-old_labels-requires c =
    let s = c.before.before.before.before.before.before.before.before.before.before.before in
    let z = accepted s.args.file.now s.requires.0 in
    record { length_ok = z.length_ok; sections_ok = z.sections_ok }

pub overflow_sub-size : goal.overflow_sub-size
overflow_sub-size c = (known c.before.before.before).before

pub copy_part-requires : goal.copy_part-requires
copy_part-requires c =
    let k = known c.before.before.before.before in
    (k.inside, omega (arith, k.small))

pub overflow_add-start : goal.overflow_add-start
overflow_add-start c = omega (arith, (known c.before.before.before.before.before.before.before).small)

pub write_labels-end-requires : goal.write_labels-end-requires
write_labels-end-requires c =
    let k = known c.before.before.before.before.before.before.before.before in
    let s = c.before.before.before.before.before.before.before.before.before.before.before.before.before.before.before.before.before.before.before in
    (s.requires.3, omega (arith, k.small))

pub overflow_sub-end : goal.overflow_sub-end
overflow_sub-end c = (known_labels c.before.before.before.before).after

pub write_tail-requires : goal.write_tail-requires
write_tail-requires c =
    let s = c.before.before.before.before.before.before.before.before.before.before.before.before.before.before.before.before.before.before.before.before.before.before.before in
    let k = known c.before.before.before.before.before.before.before.before.before.before.before.before in
    let m = known_labels c.before.before.before.before in
    ((placed s.args.file.now s.requires.0).long, omega (arith, m.small), omega (arith, c.before.before.before.before.before.before.before.before.before.before.before.before.before.before.before.write_cells-cells.ensures.2), omega (arith, m.number_is, m.few_labels))

pub overflow_add-whole : goal.overflow_add-whole
overflow_add-whole c = omega (arith, (known_labels c.before.before.before.before.before.before.before).small)

pub returns : goal.returns
returns c =
    let e = c.before.before.before.before.before.before.before in
    let d = c.before.before.before.before.before.before.before.before.before.before.before.before.before.before.before in
    let s = d.before.before.before.before.before.before.before.before.before.before.before in
    let w = d.before.before.before.before.write_cells-cells in
    book_steps s.args.file.now (bytes d) s.requires.0 s.args.amounts.now s.args.presence.now s.args.labels.now w.result d.before.section_at-regions.result.start
    d.label_section-old_labels.result.start w.ensures.2 (others_are d) (till_is d) (end_is d) e.write_labels-end.result e.write_labels-end.ensures.0
    s.args.out.now _ _ _ _ s.requires.4
    (rw d.before.before.before.before.before.before.copy_from_slice.ensures.after at w.ensures.1)
    c.before.before.before.before.before.before.before.before.before.before.copy_part.ensures
    e.write_labels-end.ensures.1
    c.before.before.write_tail.ensures
