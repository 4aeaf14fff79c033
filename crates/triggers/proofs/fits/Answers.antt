-- `triggers::fits` meets its contract.
use borrow.Author.Tests.{eq-eqb, ne_eqb}
use Rattle.monitor.specs.Rules.{fitting}
use Rattle.machine.proofs.Scripts.{trigger_read_at}
use Rattle.triggers.proofs.fits.Goals as goal

pub returns-then-bytes-at : goal.returns-then-bytes-at
unfolding fitting
returns-then-bytes-at c =
    let read = trigger_read_at c.args.script.bytes.now c.args.script.runnable c.args.t c.requires.0 in
    rw (← read.event, ne_eqb _ _ c.if-bytes-at.true)

pub region_holds-requires : goal.region_holds-requires
region_holds-requires c =
    let read = trigger_read_at c.args.script.bytes.now c.args.script.runnable c.args.t c.requires.0 in
    (rw (c.byte_at.ensures.0, read.region) read.region_exists, c.requires.1)

pub returns : goal.returns
unfolding fitting
returns c =
    let read = trigger_read_at c.args.script.bytes.now c.args.script.runnable c.args.t c.requires.0 in
    rw (← read.event, eq-eqb _ _ c.if-bytes-at.false, ← read.region, ← c.byte_at.ensures.0) c.region_holds.ensures
