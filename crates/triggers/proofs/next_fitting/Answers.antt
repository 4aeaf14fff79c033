-- `triggers::next_fitting` meets its contract. The loop's invariant: the search from `number` on finds what the whole search finds.
use mathlib.Core.Path.{◌≡◌, sym, ◌∙◌}
use mathlib.Core.List.{List}
use Prim.Native.Nat.{ℕ, ◌+◌, ◌*◌, ◌<◌}
use native.Mathlib.Omega.{arith}
use lib.ListN.{length}
use Rattle.monitor.specs.Rules.{trigger_at}
use Rattle.machine.specs.Script.{triggers_start, held_count, script_of, Runnable}
use Rattle.machine.proofs.Scripts.{TriggerRead, trigger_read_at, triggers_count}
use Rattle.triggers.proofs.Search.{first_none, first_passes, first_fits}
use Rattle.triggers.proofs.next_fitting.Goals as goal

-- a number below the count is a trigger's, whose record can be read
module _ (code : List ℕ) {count : ℕ} (counted : count ≡ held_count code 4) {number : ℕ} (below : number < count) where
  inside : number < length (script_of code).triggers
  inside = omega (arith, triggers_count code, counted, below)

  read : Runnable code → TriggerRead code (triggers_start + 8 * number) (trigger_at (script_of code) number)
  read runnable = trigger_read_at code runnable number inside

pub fits-requires : goal.fits-requires
fits-requires c = (omega (arith, triggers_count c.args.script.bytes.now, c.u16_at-count.ensures.0), c.requires)

pub byte_at-user-requires : goal.byte_at-user-requires
byte_at-user-requires c = omega (arith, (read _ c.u16_at-count.ensures.0 c.loop-number-test.true c.args.script.runnable).end)

pub u16_at-body-requires : goal.u16_at-body-requires
u16_at-body-requires c = omega (arith, (read _ c.u16_at-count.ensures.0 c.loop-number-test.true c.args.script.runnable).end)

pub returns-then-fits : goal.returns-then-fits
returns-then-fits c =
    let x = read _ c.u16_at-count.ensures.0 c.loop-number-test.true c.args.script.runnable in
    sym (c.loop-number.invariant
    ∙ first_fits c.args.script.bytes.now c.args.event c.args.place c.loop-number.number (inside c.args.script.bytes.now c.u16_at-count.ensures.0 c.loop-number-test.true) c.fits.ensures c.if-fits.true
    (c.byte_at-user.ensures.0 ∙ x.user) (c.u16_at-body.ensures.0 ∙ x.body))

pub loop-number-preserved : goal.loop-number-preserved
loop-number-preserved c =
    c.loop-number.invariant
    ∙ first_passes c.args.script.bytes.now c.args.event c.args.place c.loop-number.number (inside c.args.script.bytes.now c.u16_at-count.ensures.0 c.loop-number-test.true) c.fits.ensures c.if-fits.false

pub returns : goal.returns
returns c =
    sym (c.loop-number.invariant
    ∙ first_none c.args.script.bytes.now c.args.event c.args.place c.loop-number.number (omega (arith, triggers_count c.args.script.bytes.now, c.u16_at-count.ensures.0)))
