-- `loader::load_cells` meets its contract: the records from `cell` on are loaded.
use mathlib.Core.Path.{◌∙◌}
use Prim.Native.Nat.{ℕ, ◌-◌, ◌%◌, ◌<◌}
use lib.Pow.{shl_exact}
use lib.Dec.{lit<}
use mir.Syntax.{w32}
use mir.ValLaws.{to_z-of_z}
use Rattle.book.specs.Layout.{count}
use Rattle.book.proofs.Accepted.{placed}
use Rattle.loader.proofs.Accepted.{place_inside}
use Rattle.loader.proofs.Loads.{loading_none, loading_length, loading_turn, loading_done}
use native.Mathlib.Nat.{one-mul}
use native.Mathlib.Omega.{arith}
use Rattle.loader.proofs.load_cells.Goals as goal
use Rattle.loader.proofs.load_cells.Tie as tie
use Rattle.loader.proofs.load_cells.Lts as lts
use Rattle.loader.proofs.load_cells.Reads as reads

pub section_at-cells-requires : goal.section_at-cells-requires
section_at-cells-requires c =
    let s = c.before.before.before.before.before in
    let z = placed s.args.file.now s.requires.0 in
    (lit< tt, z.long, z.back 0 (lit< tt))

pub loop-cell-init : goal.loop-cell-init
loop-cell-init c =
    let s = c.before.before.before.before.before.before in
    loading_none s.args.file.now s.requires.0 c.section_at-cells.ensures (rw s.requires.1 at c.before.before.fill.ensures.after (λ y h. h))

-- the place read is one of the 512
in_range : (c : lts.After-i32_at tie.the-claims reads.Pre reads.Post goal.the-invariant-loop-cell goal.the-decreases-loop-cell tie.handed_clauses) → c.before.place_at-place.result < 512
in_range c =
    let l = c.before.before.before in
    let s = l.before.before.before.before.before.before in
    let i : ℕ = l.loop-cell.cell - 1 in
    let lt : i < count s.args.file.now 0 = omega (arith, l.loop-cell.invariant.upto, c.before.before.loop-cell-test.true) in
    rw (c.before.place_at-place.ensures.0, l.loop-cell.invariant.starts) (place_inside s.args.file.now s.requires.0 i lt)

pub offset_bounds-amounts-place : goal.offset_bounds-amounts-place
offset_bounds-amounts-place c = omega (arith, in_range c.before)

pub bounds-amounts-place : goal.bounds-amounts-place
bounds-amounts-place c = omega (arith, in_range c.before, loading_length c.before.before.before.loop-cell.invariant)

pub offset_bounds-set-place : goal.offset_bounds-set-place
offset_bounds-set-place c = omega (arith, in_range c.before)

pub bounds-set-place : goal.bounds-set-place
bounds-set-place c = omega (arith, in_range c.before)

pub offset_bounds-set-place-in-loop-cell : goal.offset_bounds-set-place-in-loop-cell
offset_bounds-set-place-in-loop-cell c = omega (arith, in_range c.before)

pub bounds-set-place-in-loop-cell : goal.bounds-set-place-in-loop-cell
bounds-set-place-in-loop-cell c = omega (arith, in_range c.before)

pub loop-cell-preserved : goal.loop-cell-preserved
loop-cell-preserved c =
    let l = c.before.before.before.before in
    let s = l.before.before.before.before.before.before in
    let p : ℕ = c.before.place_at-place.result in
    let left : 0 < l.loop-cell.cell = omega (arith, c.before.before.loop-cell-test.true) in
    rw (shl_exact 1 (p % 64) 64 (lit< tt) (omega arith), one-mul)
    (loading_turn s.args.file.now s.requires.0 l.loop-cell.invariant left _ _
    c.before.place_at-place.ensures.0
    (to_z-of_z w32 c.i32_at.result (record { sfits = c.i32_at.type_inv }) ∙ c.i32_at.ensures)
    (in_range c.before))

pub shape_of-amounts : goal.shape_of-amounts
shape_of-amounts c =
    let s = c.before.before.before.before.before.before.before.before in
    omega (arith, loading_length c.before.loop-cell.invariant, s.requires.1)

pub returns : goal.returns
returns c =
    let s = c.before.before.before.before.before.before.before.before in
    loading_done s.args.file.now s.requires.0 c.before.loop-cell.invariant (omega arith)
