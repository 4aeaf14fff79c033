-- `queries::query` meets its contract.
use mathlib.Core.Path.{◌≡◌, ap, ◌∙◌}
use Prim.Native.Nat.{◌<◌, ◌^◌}
use native.Mathlib.Omega.{arith}
use lib.IntN.{ℤ}
use lib.Signed.{mag}
use mir.Syntax.{w32, w64}
use mir.Val.{to_z, of_z}
use mir.Facts.{to_z-of_z}
use Rattle.std.specs.Prelude.{Option}
use Rattle.queries.specs.Tallies.{with_amount, first_above}
use Rattle.queries.proofs.Sweeps.{to_first_owner, to_first_line, to_next_owner, found, bit_lt, meet_absent, meet_present}
use Rattle.queries.proofs.query.Goals as goal
use Rattle.queries.proofs.query.Goals.{then-present-bit-eq1, else-present-bit-eq1}
use Rattle.queries.proofs.query.Invariants.{bound}

-- a number of 32 bits is kept as it is
kept : (z : ℤ) → mag z < 2 ^ 31 → to_z w32 (of_z w32 z) ≡ z
kept z h = to_z-of_z {w = w32} (record { sfits = h })

pub loop-owner-init : goal.loop-owner-init
loop-owner-init c =
    rw (to_z-of_z {w = w64} (record { sfits = c.start-tally.type_inv }) ∙ c.start-tally.ensures)
    (to_first_owner _ _ _ _ _ _ _ (rw (kept (bound c.args.bounds.now 0) (omega arith)) at c.first_from-owner.ensures))

pub loop-line-init : goal.loop-line-init
loop-line-init c =
    let end_owner = rw (kept (bound c.args.bounds.now 1) (omega arith)) at c.first_above-end_owner.ensures in
    let owner_to : c.loop-owner.owner < first_above (bound c.args.bounds.now 1) = omega arith in
    to_first_line _ _ _ _ _ _ _ owner_to (rw (kept (bound c.args.bounds.now 2) (omega arith)) at c.first_from-start_line.ensures) c.loop-owner.invariant

pub bounds-sets-place : goal.bounds-sets-place
bounds-sets-place c =
    let end_line = rw (kept (bound c.args.bounds.now 3) (omega arith)) at c.first_above-end_line.ensures in
    omega (arith, bit_lt c.loop-line.invariant (omega arith))

pub overflow_shr-present : goal.overflow_shr-present
overflow_shr-present c =
    let end_line = rw (kept (bound c.args.bounds.now 3) (omega arith)) at c.first_above-end_line.ensures in
    bit_lt c.loop-line.invariant (omega arith)

pub bounds-amounts-place : goal.bounds-amounts-place
bounds-amounts-place c =
    let end_line = rw (kept (bound c.args.bounds.now 3) (omega arith)) at c.first_above-end_line.ensures in
    omega (arith, bit_lt c.loop-line.invariant (omega arith))

pub loop-line-preserved : goal.loop-line-preserved
loop-line-preserved c =
    let a = c.args in
    let end_line = rw (kept (bound a.bounds.now 3) (omega arith)) at c.first_above-end_line.ensures in
    let line_to : c.loop-line.line < first_above (bound a.bounds.now 3) = omega arith in
    elim c.if-present-bit-eq1.branch [
      | then-present-bit-eq1 w ↦
          let tally_is = w.tally-is ∙ to_z-of_z {w = w64} (record { sfits = w.counted-tally.type_inv }) ∙ w.counted-tally.ensures in
          meet_present a.amounts.now a.sets.now a.table c.loop-line.invariant line_to c.join.ensures w.if-present-bit-eq1.true (omega arith)
          (tally_is ∙ ap (with_amount a.kind (to_z w64 c.loop-line.tally-bits)) (kept _ (omega arith)))
      | else-present-bit-eq1 w ↦
          rw w.tally-is (meet_absent a.amounts.now a.sets.now a.table c.loop-line.invariant line_to c.join.ensures w.if-present-bit-eq1.false)
    ]

pub loop-owner-preserved : goal.loop-owner-preserved
loop-owner-preserved c =
    let end_line = rw (kept (bound c.args.bounds.now 3) (omega arith)) at c.first_above-end_line.ensures in
    to_next_owner _ _ _ _ _ _ _ (omega arith) c.loop-line.invariant

pub returns : goal.returns
returns c =
    let end_owner = rw (kept (bound c.args.bounds.now 1) (omega arith)) at c.first_above-end_owner.ensures in
    ap (λ (a : Option ℤ). record { amount = a; label = c.loop-owner.label }) c.amount.ensures
    ∙ found c.args.kind _ _ _ _ _ _ (omega arith) c.loop-owner.invariant
