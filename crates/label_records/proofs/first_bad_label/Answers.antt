-- `label_records::first_bad_label` meets its contract: none of the records before the loop's is bad, and `least` is one above the last place.
use mathlib.Core.Path.{◌≡◌, sym, ap, ◌∙◌}
use mathlib.Core.Bool.{true, false}
use mathlib.Core.List.{List}
use Prim.Native.Nat.{ℕ, ◌+◌, ◌*◌, ◌≤◌, ◌<◌}
use lib.ListN.{get_or}
use Rattle.labels.specs.Labels.{is_own}
use Rattle.book.specs.Records.{LabelRecord, label_of, labels_format}
use Rattle.book.specs.Layout.{decode}
use Rattle.book.specs.Refusals.{no_label, labelled}
use Rattle.book.proofs.Accepted.{laid, labels_inside}
use Rattle.book.proofs.Decoded.{label_read}
use Rattle.book.proofs.Least.{least_first, least_next}
use Rattle.book.proofs.Scans.{scan_begins, scan_next, scan_found, scan_ends}
use Rattle.label_records.proofs.Labels.{least_label, far_label, fallen_label, own_label, good_label}
use native.Mathlib.Omega.{arith}
use Rattle.label_records.proofs.first_bad_label.Goals as goal
use Rattle.label_records.proofs.first_bad_label.Tie as tie
use Rattle.label_records.proofs.first_bad_label.Lts as lts
use Rattle.label_records.proofs.first_bad_label.Reads as reads

pub label_section-labels-requires : goal.label_section-labels-requires
label_section-labels-requires c = c.before.requires

pub loop-label-init : goal.loop-label-init
loop-label-init c =
    let s : List ℕ = c.before.before.args.file.now in
    (scan_begins c.label_section-labels.ensures (labels_inside (laid c.before.before.requires)), least_first labelled no_label (decode s).labels)

abbrev labels : lts.In-loop tie.the-claims reads.Pre reads.Post goal.the-invariant-loop-label goal.the-decreases-loop-label → List LabelRecord
labels c = (decode c.before.before.before.before.args.file.now).labels

-- the record at the loop's place in the file
abbrev here : lts.In-loop tie.the-claims reads.Pre reads.Post goal.the-invariant-loop-label goal.the-decreases-loop-label → LabelRecord
here c = labels_format.read c.before.before.before.before.args.file.now (c.before.before.label_section-labels.result.start + c.before.loop-label.label * 66)

read : (c : lts.In-loop tie.the-claims reads.Pre reads.Post goal.the-invariant-loop-label goal.the-decreases-loop-label) → get_or (labels c) c.before.loop-label.label no_label ≡ here c
read c =
    let s : List ℕ = c.before.before.before.before.args.file.now in
    let i : ℕ = c.before.loop-label.label in
    let scan = c.before.loop-label.invariant.0 in
    label_read s i no_label (omega (arith, scan.counts, c.loop-label-test.true)) ∙ ap (λ (n : ℕ). labels_format.read s (n + i * 66)) (sym scan.starts)

pub returns-then-place-gt511 : goal.returns-then-place-gt511
returns-then-place-gt511 c =
    let l = c.before.before.before in
    let far : 511 < (here l).place = omega (arith, c.before.place_at-place.ensures, c.if-place-gt511.true) in
    scan_found l.before.loop-label.invariant.0 l.loop-label-test.true (far_label (labels l) _ (read l) far)

pub returns-then-place-least : goal.returns-then-place-least
returns-then-place-least c =
    let l = c.before.before.before.before in
    let falls : (here l).place < least_label (labels l) l.before.loop-label.label = omega (arith, c.before.before.place_at-place.ensures, l.before.loop-label.invariant.1, c.if-place-least.true) in
    scan_found l.before.loop-label.invariant.0 l.loop-label-test.true (fallen_label (labels l) _ (read l) falls)

-- the place is one of the 512
near : (c : lts.Else1 tie.the-claims reads.Pre reads.Post goal.the-invariant-loop-label goal.the-decreases-loop-label) → (here c.before.before).place < 512
near c = omega (arith, c.before.place_at-place.ensures, c.if-place-gt511.false)

pub returns-then-own_alone : goal.returns-then-own_alone
returns-then-own_alone c =
    let l = c.before.before.before.before.before.before in
    let own : is_own (here l).place (label_of (here l)) ≡ true = rw c.before.before.before.before.place_at-place.ensures at (sym c.before.own_alone.ensures ∙ c.if-own_alone.true) in
    scan_found l.before.loop-label.invariant.0 l.loop-label-test.true (own_label (labels l) _ (read l) (near c.before.before.before.before) own)

pub loop-label-preserved : goal.loop-label-preserved
loop-label-preserved c =
    let l = c.before.before.before.before.before.before in
    let place = c.before.before.before.before.place_at-place.ensures in
    let rises : least_label (labels l) l.before.loop-label.label ≤ (here l).place = omega (arith, place, l.before.loop-label.invariant.1, c.before.before.if-place-least.false) in
    let other : is_own (here l).place (label_of (here l)) ≡ false = rw place at (sym c.before.own_alone.ensures ∙ c.if-own_alone.false) in
    let next : c.before.before.before.before.place_at-place.result + 1 ≡ least_label (labels l) (l.before.loop-label.label + 1) =
    ap (λ (n : ℕ). n + 1) place ∙ least_next labelled no_label (labels l) _ (read l) in
    (scan_next l.before.loop-label.invariant.0 l.loop-label-test.true (good_label (labels l) _ (read l) (near c.before.before.before.before) rises other), next)

pub returns : goal.returns
returns c = scan_ends c.before.loop-label.invariant.0 c.loop-label-test.false
