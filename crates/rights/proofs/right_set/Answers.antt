-- `rights::right_set` meets its contract: the records from `right` on are gathered.
use mathlib.Core.Path.{sym, ◌∙◌}
use native.Mathlib.Omega.{arith}
use Rattle.rights.proofs.Rights.{gathering_none, region_exists, gathered_kind, gathered_user, gathered_more, gathered}
use Rattle.rights.proofs.right_set.Goals as goal
use Rattle.rights.proofs.right_set.Goals.{else-code-at-via-then-code-at+else-byte_at-user, else-code-at-via-else-code-at}

pub loop-right-init : goal.loop-right-init
loop-right-init c = gathering_none c.args.script.bytes.now c.args.script.runnable c.args.kind c.args.user c.u16_at-right.ensures.0

pub region_places-held-requires : goal.region_places-held-requires
region_places-held-requires c =
    rw c.byte_at-then-byte_at-user.ensures.0
    (region_exists c.args.script.bytes.now c.args.script.runnable c.args.kind c.args.user c.loop-right.invariant (omega (arith, c.loop-right-test.true)))

pub loop-right-preserved-then-byte_at-user : goal.loop-right-preserved-then-byte_at-user
loop-right-preserved-then-byte_at-user c =
    gathered_more c.args.script.bytes.now c.args.script.runnable c.args.kind c.args.user c.loop-right.invariant (omega (arith, c.loop-right-test.true))
    c.if-code-at.true (sym c.byte_at.ensures.0 ∙ c.if-byte_at-user.true)
    _ _ _ c.byte_at-then-byte_at-user.ensures.0 c.region_places-held.ensures c.union-more.ensures

pub loop-right-preserved : goal.loop-right-preserved
loop-right-preserved c =
    elim c.else-code-at.branch [
      | else-code-at-via-then-code-at+else-byte_at-user w ↦
          gathered_user c.args.script.bytes.now c.args.script.runnable c.args.kind c.args.user c.loop-right.invariant (omega (arith, c.loop-right-test.true))
          w.if-code-at.true (λ e. w.if-byte_at-user.false (w.byte_at.ensures.0 ∙ e))
      | else-code-at-via-else-code-at w ↦
          gathered_kind c.args.script.bytes.now c.args.script.runnable c.args.kind c.args.user c.loop-right.invariant (omega (arith, c.loop-right-test.true))
          w.if-code-at.false
    ]

pub returns : goal.returns
returns c = gathered c.args.script.bytes.now c.args.script.runnable c.args.kind c.args.user c.loop-right.invariant (omega (arith, c.loop-right-test.false))
