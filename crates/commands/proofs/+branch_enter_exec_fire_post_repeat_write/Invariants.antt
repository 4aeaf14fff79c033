-- The measures of the cycle of commands, and the invariants of its loops.
use mathlib.Core.Path.{◌≡◌}
use Prim.Native.Nat.{◌+◌, ◌-◌, ◌*◌}
use Rattle.machine.specs.Store.{vars_of, store_of}
use Rattle.machine.specs.Promises.{Commands}
use Rattle.commands.proofs.Chains.{weight, Chain}
use Rattle.commands.proofs.Firing.{Remains}
use Rattle.commands.proofs.Steps.{Rest}
use Rattle.commands.proofs.+branch_enter_exec_fire_post_repeat_write.Given as goal

-- Each entry of a node costs at least 1, and counts 16: what stands between two entries counts less.
-- With the same budget `exec` enters only what is no sequence, which counts more before it is entered, and `enter` executes only a sequence, which counts less.

abbrev pub decreases-branch : goal.decreases-branch
decreases-branch l = 16 * l.store.now.run.left + 15

abbrev pub decreases-enter : goal.decreases-enter
decreases-enter l = 16 * l.store.now.run.left + 1

abbrev pub decreases-exec : goal.decreases-exec
decreases-exec l = weight l.script.bytes.now l.n l.store.now.run

abbrev pub decreases-fire : goal.decreases-fire
decreases-fire l = 16 * l.store.now.run.left + 3

abbrev pub decreases-post : goal.decreases-post
decreases-post l = 16 * l.store.now.run.left + 15

abbrev pub decreases-write : goal.decreases-write
decreases-write l = 16 * l.store.now.run.left + 14

abbrev pub decreases-repeat : goal.decreases-repeat
decreases-repeat l = 16 * l.store.now.run.left + 15

-- the turns of `exec`: what the turn's command does is the rest of what n does
abbrev pub invariant-exec-loop-script : goal.invariant-exec-loop-script
invariant-exec-loop-script l =
    Chain l.script.bytes.now l.env.ctx l.env.who l.n (vars_of l.initial.vars) (store_of l.initial.store) l.turn (vars_of l.vars) (store_of l.store)

abbrev pub decreases-exec-loop-script : goal.decreases-exec-loop-script
decreases-exec-loop-script l = l.store.run.left

-- the turns of `repeat`: what the while does in the context so far is the rest of what it does; who runs it stays
abbrev pub invariant-repeat-loop-body : goal.invariant-repeat-loop-body
invariant-repeat-loop-body l =
    (l.inner.who ≡ l.env.who)
    × Rest (Commands l.script.bytes.now l.env.ctx l.env.who l.n) (vars_of l.initial.vars) (store_of l.initial.store)
    (Commands l.script.bytes.now l.inner.ctx l.env.who l.n) (vars_of l.vars) (store_of l.store)

abbrev pub decreases-repeat-loop-body : goal.decreases-repeat-loop-body
decreases-repeat-loop-body l = l.store.run.left

-- the turns of `fire`
abbrev pub invariant-fire-loop-next : goal.invariant-fire-loop-next
invariant-fire-loop-next l =
    Remains l.script.bytes.now l.env.ctx l.label l.event l.written.place l.written.entry l.initial.from (store_of l.initial.store)
    l.from (store_of l.store)

-- there are at most 8 triggers
abbrev pub decreases-fire-loop-next : goal.decreases-fire-loop-next
decreases-fire-loop-next l = 8 - l.from
