-- `start::copy_script` meets its contract: each part is stored behind those that stand before it.
use native.Mathlib.Omega.{arith}
use lib.Dec.{lit<}
use Rattle.book.proofs.Accepted.{placed, regions_inside, rights_inside, nodes_inside, programs_inside, triggers_inside}
use Rattle.start.proofs.Scripts.{all_copied}
use Rattle.start.proofs.copy_script.Goals as goal

pub copy_section-requires : goal.copy_section-requires
copy_section-requires c =
    let s = c.before.before.before in
    let z = placed s.args.file.now s.requires in
    (s.requires, lit< tt, omega (arith, nodes_inside z), omega (arith, z.few_nodes, c.copy_section-arg-1.given))

pub copy_section-requires-2 : goal.copy_section-requires-2
copy_section-requires-2 c =
    let s = c.before.before.before.before.before.before.before in
    let z = placed s.args.file.now s.requires in
    (s.requires, lit< tt, omega (arith, regions_inside z), omega (arith, z.few_regions, c.copy_section-arg-2-1.given))

pub copy_section-requires-3 : goal.copy_section-requires-3
copy_section-requires-3 c =
    let s = c.before.before.before.before.before.before.before.before.before in
    let z = placed s.args.file.now s.requires in
    (s.requires, lit< tt, omega (arith, rights_inside z), omega (arith, z.few_rights, c.copy_section-arg-3-1.given))

pub copy_section-requires-4 : goal.copy_section-requires-4
copy_section-requires-4 c =
    let s = c.before.before.before.before.before.before.before.before.before.before.before in
    let z = placed s.args.file.now s.requires in
    (s.requires, lit< tt, omega (arith, programs_inside z), omega (arith, z.few_programs, c.copy_section-arg-4-1.given))

pub copy_section-requires-5 : goal.copy_section-requires-5
copy_section-requires-5 c =
    let s = c.before.before.before.before.before.before.before.before.before.before.before.before.before in
    let z = placed s.args.file.now s.requires in
    (s.requires, lit< tt, omega (arith, triggers_inside z), omega (arith, z.few_triggers, c.copy_section-arg-5-1.given))

pub returns : goal.returns
returns c =
    let t = c.before.before.before in
    let p = t.before.before in
    let r = p.before.before in
    let g = r.before.before in
    let k = g.before.before in
    let n = k.before.before in
    let s = n.before.before.before in
    all_copied s.args.file.now s.requires (record { fits = λ i. (n.before.before.shared_slice_known-1.given i).fits }) _ _ _ _ _ _ _ _
    (omega (arith, c.copy_counts.auto.code, c.before.copy_counts-arg-1.given))
    n.copy_section.ensures k.set_prices.ensures g.copy_section-2.ensures r.copy_section-3.ensures p.copy_section-4.ensures t.copy_section-5.ensures c.copy_counts.ensures
