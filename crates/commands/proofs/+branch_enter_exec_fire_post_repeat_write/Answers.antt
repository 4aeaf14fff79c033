-- The cycle of commands meets its contracts.
use mathlib.Core.Path.{◌≡◌, refl, sym, ap, ◌∙◌}
use mathlib.Core.List.{List, []}
use Prim.Native.Nat.{ℕ, ◌+◌, ◌-◌, ◌*◌}
use native.Mathlib.Omega.{arith}
use lib.Dec.{eqb}
use lib.ListN.{length}
use borrow.Author.Tests.{eq-eqb, ne_eqb}
use Rattle.std.specs.Prelude.{Option, Some, Ok}
use Rattle.std.proofs.lemmas.Result.{err_from_is_err_and}
use Rattle.book.specs.Bytes.{byte}
use Rattle.monitor.specs.Labelled.{Label}
use Rattle.machine.specs.Script.{script_of}
use Rattle.machine.specs.Store.{vars_of, store_of}
use Rattle.machine.specs.Promises.{Enters}
use Rattle.machine.specs.Writes.{event_number, key_in, cell_in}
use Rattle.machine.specs.declared.lent.Event.{Event}
use Rattle.machine.specs.declared.lent.Entry.{Entry}
use Rattle.machine.proofs.Events.{numbered}
use Rattle.machine.proofs.Nodes.{read, kind_inside}
use Rattle.machine.proofs.Runs.{then_stops, then_goes}
use Rattle.machine.proofs.Stores.{idle_same}
use Rattle.triggers.specs.Search.{first_fitting}
use Rattle.triggers.specs.declared.Fitting.{Fitting}
use Rattle.commands.proofs.Chains.{weight_list, weight_kept, Head, chain_stops, chain_turns}
use Rattle.commands.proofs.Entries.{outside_kinds, cost_paid, cost_short, list_turns, single_turns, while_turns}
use Rattle.commands.proofs.Firing.{variables_are, Found, found, none_left, found_stops, found_goes, found_runs}
use Rattle.commands.proofs.Steps.{does_keeps, keeps_both, idle_on, ready_on, answers, priced, paid_less, paid_keeps, enters, enters_not}
use Rattle.commands.proofs.Tests.{branch_stops, branch_never, branch_goes, while_stops, while_ends}
use Rattle.commands.proofs.Undoing.{under_way, begun_public, own_posts, inner_posts}
use Rattle.commands.proofs.+branch_enter_exec_fire_post_repeat_write.Goals as goal
use Rattle.commands.proofs.+branch_enter_exec_fire_post_repeat_write.Goals.{exec-Joined-more, exec-then-more+in_ok-pay, exec-else-more}

-- ---- the goals of `branch`

-- the test stops
pub branch-returns-in_err-way : goal.branch-returns-in_err-way
branch-returns-in_err-way t c =
    let a = c.args in
    rw (err_from_is_err_and c.from_residual.result c.from_residual.ensures.1).1
    (branch_stops a.script.bytes.now a.env.now.ctx a.env.now.who a.n {x = store_of a.store.now} c.decide.ensures a.store.now.room c.requires.n_value c.in_err-way.was)

-- it leads to a command
pub branch-returns-in_default : goal.branch-returns-in_default
branch-returns-in_default t c =
    let a = c.args in
    absurd (branch_never a.script.bytes.now a.env.now.ctx a.env.now.who a.n c.decide.ensures c.requires.n_value (c.in_ok-way.was ∙ ap Ok c.in_default.is))

pub branch-exec-requires : goal.branch-exec-requires
branch-exec-requires t c =
    let a = c.args in
    let goes = branch_goes a.script.bytes.now a.env.now.ctx a.env.now.who a.n {x = store_of a.store.now} c.decide.ensures a.store.now.room
    a.script.runnable.sound c.requires.ready.node.inside (c.in_ok-way.was ∙ ap Ok c.in-Some.is) c.requires.n_value in
    (omega (arith, c.decreases, weight_kept a.script.bytes.now c.in-Some.way goes.1.keeps), ready_on c.requires.ready goes.1.keeps goes.0)

pub branch-returns : goal.branch-returns
branch-returns t c =
    let a = c.args in
    (branch_goes a.script.bytes.now a.env.now.ctx a.env.now.who a.n {x = store_of a.store.now} c.decide.ensures a.store.now.room
    a.script.runnable.sound c.requires.ready.node.inside (c.in_ok-way.was ∙ ap Ok c.in-Some.is) c.requires.n_value).1.ends c.exec.ensures

-- ---- the goals of `enter`

pub enter-exec-requires : goal.enter-exec-requires
enter-exec-requires t c =
    let a = c.args in
    let kind = sym (read a.script.runnable c.requires.node).kind ∙ c.if-kind-eq18.true in
    (omega (arith, c.decreases, weight_list a.script.bytes.now a.n a.store.now.run kind), c.requires)

pub enter-pay-requires : goal.enter-pay-requires
enter-pay-requires t c = kind_inside c.args.script.runnable c.requires.node

-- the cost would pass the budget
pub enter-returns-in_err-pay : goal.enter-returns-in_err-pay
enter-returns-in_err-pay t c =
    let a = c.args in
    rw (err_from_is_err_and c.from_residual.result c.from_residual.ensures.1).1
    (enters_not a.script.bytes.now a.n a.env.now.ctx a.env.now.who (cost_short a.script.runnable c.requires.node c.pay.ensures c.in_err-pay.was) a.store.now.room)

-- it is paid
pub enter-branch-script-requires : goal.enter-branch-script-requires
enter-branch-script-requires t c =
    let a = c.args in
    let p = cost_paid a.script.runnable c.requires.node c.pay.ensures c.in_ok-pay.was in
    (omega (arith, c.decreases, paid_less a.script.bytes.now a.n p), (c.requires, sym (read a.script.runnable c.requires.node).kind ∙ c.in-19.is))

pub enter-repeat-requires : goal.enter-repeat-requires
enter-repeat-requires t c =
    let a = c.args in
    let p = cost_paid a.script.runnable c.requires.node c.pay.ensures c.in_ok-pay.was in
    (omega (arith, c.decreases, paid_less a.script.bytes.now a.n p), (c.requires, sym (read a.script.runnable c.requires.node).kind ∙ c.in-20.is))

pub enter-post-requires : goal.enter-post-requires
unfolding event_number
enter-post-requires t c =
    let a = c.args in
    let p = cost_paid a.script.runnable c.requires.node c.pay.ensures c.in_ok-pay.was in
    (omega (arith, c.decreases, paid_less a.script.bytes.now a.n p), (c.requires, sym (read a.script.runnable c.requires.node).kind ∙ c.in-21.is))

pub enter-post-requires-in-22 : goal.enter-post-requires-in-22
unfolding event_number
enter-post-requires-in-22 t c =
    let a = c.args in
    let p = cost_paid a.script.runnable c.requires.node c.pay.ensures c.in_ok-pay.was in
    (omega (arith, c.decreases, paid_less a.script.bytes.now a.n p), (c.requires, sym (read a.script.runnable c.requires.node).kind ∙ c.in-22.is))

pub enter-act-requires-clause-node : goal.enter-act-requires-clause-node
enter-act-requires-clause-node t c =
    (c.requires.node, outside_kinds (read c.args.script.runnable c.requires.node).kind c.if-kind-eq18.false (λ e. omega arith) (λ e. omega arith) (λ e. omega arith) (λ e. omega arith))

pub enter-act-requires-in_default-clause-node : goal.enter-act-requires-in_default-clause-node
enter-act-requires-in_default-clause-node t c =
    (c.requires.node, outside_kinds (read c.args.script.runnable c.requires.node).kind c.if-kind-eq18.false (λ e. omega arith) (λ e. omega arith) (λ e. omega arith) (λ e. omega arith))

-- and the command does its work
pub enter-returns-in-19 : goal.enter-returns-in-19
enter-returns-in-19 t c =
    let a = c.args in
    enters a.script.bytes.now a.n a.env.now.ctx a.env.now.who (cost_paid a.script.runnable c.requires.node c.pay.ensures c.in_ok-pay.was) c.branch-script.ensures

pub enter-returns-in-20 : goal.enter-returns-in-20
enter-returns-in-20 t c =
    let a = c.args in
    enters a.script.bytes.now a.n a.env.now.ctx a.env.now.who (cost_paid a.script.runnable c.requires.node c.pay.ensures c.in_ok-pay.was) c.repeat.ensures

pub enter-returns-in-21 : goal.enter-returns-in-21
enter-returns-in-21 t c =
    let a = c.args in
    enters a.script.bytes.now a.n a.env.now.ctx a.env.now.who (cost_paid a.script.runnable c.requires.node c.pay.ensures c.in_ok-pay.was) c.post.ensures

pub enter-returns-in-22 : goal.enter-returns-in-22
enter-returns-in-22 t c =
    let a = c.args in
    enters a.script.bytes.now a.n a.env.now.ctx a.env.now.who (cost_paid a.script.runnable c.requires.node c.pay.ensures c.in_ok-pay.was) c.post-in-22.ensures

pub enter-returns-in-17 : goal.enter-returns-in-17
enter-returns-in-17 t c =
    let a = c.args in
    enters a.script.bytes.now a.n a.env.now.ctx a.env.now.who (cost_paid a.script.runnable c.requires.node c.pay.ensures c.in_ok-pay.was) c.act.ensures.acts

pub enter-returns-in_default : goal.enter-returns-in_default
enter-returns-in_default t c =
    let a = c.args in
    enters a.script.bytes.now a.n a.env.now.ctx a.env.now.who (cost_paid a.script.runnable c.requires.node c.pay.ensures c.in_ok-pay.was) c.act-in_default.ensures.acts

-- ---- the goals of `exec`

-- the cost of a sequence would pass the budget
pub exec-returns-in_err-pay : goal.exec-returns-in_err-pay
exec-returns-in_err-pay t c =
    let a = c.args in
    let chain = c.loop-script.invariant in
    let kind = sym c.if-more.true ∙ (read a.script.runnable chain.node).kind in
    rw (err_from_is_err_and c.from_residual.result c.from_residual.ensures.1).1
    (chain.rest.ends (enters_not a.script.bytes.now c.loop-script.turn a.env.now.ctx a.env.now.who ((priced a.script.bytes.now c.loop-script.turn kind c.pay.ensures).short c.in_err-pay.was) chain.rest.keeps.fits))

-- what a turn enters: the first half of a sequence, or the command itself
turn_head : {t : ℕ} (c : exec-Joined-more t) → Head c.args.script.bytes.now c.args.env.now.ctx c.args.env.now.who c.loop-script.turn (vars_of c.loop-script.vars) (store_of c.loop-script.store)
    (eqb (byte c.args.script.bytes.now (16 * c.loop-script.turn)) 18) c.if-more.next (store_of c.if-more.store)
turn_head c =
    let runs = c.args.script.runnable in
    let chain = c.loop-script.invariant in
    elim c.if-more.branch [
      | exec-then-more+in_ok-pay w ↦ list_turns runs chain.node chain.rest.keeps.fits w.if-more.true w.pay.ensures w.in_ok-pay.was (ap store_of w.store-is) w.u16_at-next.ensures.0 w.next-is
      | exec-else-more w ↦ single_turns runs chain.node chain.rest.keeps.fits w.if-more.false (ap store_of w.store-is) w.next-is
    ]

pub exec-enter-requires : goal.exec-enter-requires
exec-enter-requires t c =
    let chain = c.loop-script.invariant in
    let h = turn_head (goal.at.exec-enter-requires t c).Joined-more in
    let kept = keeps_both chain.rest.keeps h.keeps in
    (omega (arith, c.decreases, chain.within, h.less), ready_on c.requires kept h.node_is)

-- it stops
pub exec-returns-in_err-enter : goal.exec-returns-in_err-enter
exec-returns-in_err-enter t c =
    rw (err_from_is_err_and c.from_residual-in_err-enter.result c.from_residual-in_err-enter.ensures.1).1
    (chain_stops c.loop-script.invariant (turn_head (goal.at.exec-returns-in_err-enter t c).Joined-more) c.enter.ensures c.in_err-enter.was)

-- the second half of a sequence is the next turn
pub exec-loop-script-smaller : goal.exec-loop-script-smaller
exec-loop-script-smaller t c =
    omega (arith, (turn_head (goal.at.exec-loop-script-smaller t c).Joined-more).falls (eq-eqb _ 18 c.if-not-more.false), c.enter.ensures.leaves.within)

pub exec-loop-script-preserved : goal.exec-loop-script-preserved
exec-loop-script-preserved t c =
    chain_turns c.loop-script.invariant (turn_head (goal.at.exec-loop-script-preserved t c).Joined-more) (eq-eqb _ 18 c.if-not-more.false) c.enter.ensures c.in_ok-enter.was
    (c.u16_at-turn.ensures.0 ∙ (read c.args.script.runnable c.loop-script.invariant.node).b)

-- ---- the goals of `fire`

-- a search for an event by another number for it
searched : (code : List ℕ) {number number' : ℕ} (place from : ℕ) {r : Option Fitting} → number ≡ number'
    → r ≡ first_fitting code number place (length (script_of code).triggers - from) from → r ≡ first_fitting code number' place (length (script_of code).triggers - from) from
searched code place from e is = is ∙ ap (λ (n : ℕ). first_fitting code n place (length (script_of code).triggers - from) from) e

-- the trigger that a turn runs, for any label of the amount
trigger : {code : List ℕ} (ctx : Label) (event : Event) {place : ℕ} (entry : Entry) (own : Label) {from : ℕ} {r : Option Fitting}
    → r ≡ first_fitting code (event_number event) place (length (script_of code).triggers - from) from → {f : Fitting} → r ≡ Some f
    → Found code ctx (event_number event) place (key_in entry) (cell_in event entry own) from f.number f.user f.body
trigger {code} ctx event {place} entry own {from} e is =
    found code ctx (event_number event) place (key_in entry) (cell_in event entry own) (length (script_of code).triggers - from) from refl (sym e ∙ is)

-- none is left
pub fire-returns-in_default : goal.fire-returns-in_default
fire-returns-in_default t c = λ own vars l.
    let a = c.args in
    let remains = c.loop-next.invariant in
    remains.ends own vars l (none_left a.script.bytes.now a.env.now.ctx (event_number a.event) a.written.place _ _ c.loop-next.from remains.keeps.fits (sym (searched _ _ _ (numbered c.args.event) c.next_fitting.ensures) ∙ c.in_default.is))

pub fire-overflow_add-from : goal.fire-overflow_add-from
fire-overflow_add-from t c =
    let a = c.args in
    omega (arith, (trigger a.env.now.ctx a.event a.written.entry [] (searched _ _ _ (numbered c.args.event) c.next_fitting.ensures) c.in-Some.is).below, a.script.runnable.sound.few_triggers)

pub fire-exec-requires : goal.fire-exec-requires
fire-exec-requires t c =
    let a = c.args in
    let keeps = c.loop-next.invariant.keeps in
    let runs = found_runs a.script.bytes.now a.env.now.ctx (event_number a.event) a.written.place _ _ a.script.runnable (trigger a.env.now.ctx a.event a.written.entry [] (searched _ _ _ (numbered c.args.event) c.next_fitting.ensures) c.in-Some.is) in (
      omega (arith, c.decreases, weight_kept a.script.bytes.now c.in-Some.next.body keeps),
      record {
        public_is = keeps.public_same ∙ c.requires.0;
        node = runs.0;
        user_below = runs.1;
        own_is = idle_on c.requires.2 keeps ∙ sym (ne_eqb (c.in-Some.next.number + 1) 0 (λ e. omega (arith, e)));
      },
    )

pub fire-loop-next-smaller : goal.fire-loop-next-smaller
fire-loop-next-smaller t c =
    let a = c.args in
    let this = trigger a.env.now.ctx a.event a.written.entry [] (searched _ _ _ (numbered c.args.event) c.next_fitting.ensures) c.in-Some.is in
    omega (arith, this.from, this.below, a.script.runnable.sound.few_triggers)

-- it is done: the triggers after it are next
pub fire-loop-next-preserved : goal.fire-loop-next-preserved
fire-loop-next-preserved t c =
    let a = c.args in
    let remains = c.loop-next.invariant in
    record {
      keeps = keeps_both remains.keeps (does_keeps c.exec.ensures);
      ends = λ own vars l d. remains.ends own vars l (found_goes a.script.bytes.now a.env.now.ctx (event_number a.event) a.written.place _ _ (trigger a.env.now.ctx a.event a.written.entry own (searched _ _ _ (numbered c.args.event) c.next_fitting.ensures) c.in-Some.is) (omega arith)
          (variables_are a.env.now.ctx own a.event a.written.entry l (rw c.label_all.ensures at c.set_variables.ensures)) c.exec.ensures c.in_ok-exec.was d);
    }

-- it stops
pub fire-returns-in_err-exec : goal.fire-returns-in_err-exec
fire-returns-in_err-exec t c = λ own vars l.
    let a = c.args in
    rw (err_from_is_err_and c.from_residual.result c.from_residual.ensures.1).1
    (answers (sym c.in_err-exec.was) (c.loop-next.invariant.ends own vars l (found_stops a.script.bytes.now a.env.now.ctx (event_number a.event) a.written.place _ _ (trigger a.env.now.ctx a.event a.written.entry own (searched _ _ _ (numbered c.args.event) c.next_fitting.ensures) c.in-Some.is) (omega arith)
    (variables_are a.env.now.ctx own a.event a.written.entry l (rw c.label_all.ensures at c.set_variables.ensures)) c.exec.ensures c.in_err-exec.was)))

-- ---- the goals of `post`

pub post-write-ran-requires : goal.post-write-ran-requires
post-write-ran-requires t c =
    let ready = c.requires.ready in
    let begun = c.begin-own.ensures in
    (omega (arith, c.decreases), ((begun_public begun ∙ ready.public_is, ready.node, ready.user_below, under_way begun), c.requires.n_value))

-- a posting of the program's own
pub post-returns-then-own : goal.post-returns-then-own
post-returns-then-own t c =
    let a = c.args in
    let own = c.if-own.true in
    let idles = sym c.begin-own.ensures.0 ∙ own in
    own_posts a.script.bytes.now a.env.now.ctx a.env.now.who a.n a.event c.requires.n_value (sym c.requires.ready.own_is ∙ idles) idles
    (c.begin-own.ensures.1 own) c.write-ran.ensures c.end.ensures

-- one of a trigger
pub post-returns-else-own : goal.post-returns-else-own
post-returns-else-own t c =
    let a = c.args in
    let other = c.if-own.false in
    inner_posts a.script.bytes.now a.env.now.ctx a.env.now.who a.n a.event c.requires.n_value
    (sym c.requires.ready.own_is ∙ sym c.begin-own.ensures.0 ∙ other) (c.begin-own.ensures.2 other) c.write-ran.ensures

-- ---- the goals of `repeat`

-- the test stops
pub repeat-returns-in_err-body : goal.repeat-returns-in_err-body
repeat-returns-in_err-body t c =
    let a = c.args in
    let l = c.loop-body in
    rw (err_from_is_err_and c.from_residual.result c.from_residual.ensures.1).1
    (l.invariant.1.ends (while_stops a.script.bytes.now l.inner.ctx a.env.now.who a.n {x = store_of l.store} c.decide.ensures l.invariant.1.keeps.fits c.requires.n_value c.in_err-body.was))

-- it is 0
pub repeat-returns-in_default : goal.repeat-returns-in_default
repeat-returns-in_default t c =
    let a = c.args in
    let l = c.loop-body in
    l.invariant.1.ends (while_ends a.script.bytes.now l.inner.ctx a.env.now.who a.n {x = store_of l.store} c.decide.ensures l.invariant.1.keeps.fits c.requires.n_value
    (c.in_ok-body.was ∙ ap Ok c.in_default.is))

-- it leads to the body, and then the while is entered anew
pub repeat-exec-requires : goal.repeat-exec-requires
repeat-exec-requires t c =
    let a = c.args in
    let goes = while_turns a.script.bytes.now a.env.now.ctx c.loop-body.inner.ctx a.env.now.who a.n a.script.runnable c.requires.ready.node c.requires.n_value
    c.loop-body.invariant.1 c.decide.ensures (c.in_ok-body.was ∙ ap Ok c.in-Some.is) in
    (omega (arith, c.decreases, weight_kept a.script.bytes.now c.in-Some.body goes.1.keeps), rw c.loop-body.invariant.0 (ready_on c.requires.ready goes.1.keeps goes.0))

-- the body stops
pub repeat-returns-in_err-exec : goal.repeat-returns-in_err-exec
repeat-returns-in_err-exec t c =
    let a = c.args in
    let goes = while_turns a.script.bytes.now a.env.now.ctx c.loop-body.inner.ctx a.env.now.who a.n a.script.runnable c.requires.ready.node c.requires.n_value
    c.loop-body.invariant.1 c.decide.ensures (c.in_ok-body.was ∙ ap Ok c.in-Some.is) in
    let ran = rw c.loop-body.invariant.0 at c.exec.ensures in
    rw (err_from_is_err_and c.from_residual-in_err-exec.result c.from_residual-in_err-exec.ensures.1).1
    (answers (sym c.in_err-exec.was) (goes.1.ends (then_stops (Enters a.script.bytes.now c.decide.new.inner a.env.now.who a.n) ran c.in_err-exec.was)))

-- the cost of the next test is paid
pub repeat-loop-body-smaller : goal.repeat-loop-body-smaller
repeat-loop-body-smaller t c =
    let a = c.args in
    let paid = (priced a.script.bytes.now a.n (sym c.requires.n_value) c.pay.ensures).paid c.in_ok-pay.was in
    omega (arith, paid_less a.script.bytes.now a.n paid, c.exec.ensures.leaves.within, c.decide.ensures.gives.within)

pub repeat-loop-body-preserved : goal.repeat-loop-body-preserved
repeat-loop-body-preserved t c =
    let a = c.args in
    let ran = rw c.loop-body.invariant.0 at c.exec.ensures in
    let paid = (priced a.script.bytes.now a.n (sym c.requires.n_value) c.pay.ensures).paid c.in_ok-pay.was in
    let goes = while_turns a.script.bytes.now a.env.now.ctx c.loop-body.inner.ctx a.env.now.who a.n a.script.runnable c.requires.ready.node c.requires.n_value
    c.loop-body.invariant.1 c.decide.ensures (c.in_ok-body.was ∙ ap Ok c.in-Some.is) in (
      c.loop-body.invariant.0,
      record {
        keeps = keeps_both goes.1.keeps (keeps_both (does_keeps ran) (paid_keeps a.script.bytes.now a.n (does_keeps ran).fits paid));
        ends = λ d. goes.1.ends (then_goes ran c.in_ok-exec.was (enters a.script.bytes.now a.n c.decide.new.inner a.env.now.who paid d));
      },
    )

-- it would pass the budget
pub repeat-returns-in_err-pay : goal.repeat-returns-in_err-pay
repeat-returns-in_err-pay t c =
    let a = c.args in
    let ran = rw c.loop-body.invariant.0 at c.exec.ensures in
    let short = (priced a.script.bytes.now a.n (sym c.requires.n_value) c.pay.ensures).short c.in_err-pay.was in
    let goes = while_turns a.script.bytes.now a.env.now.ctx c.loop-body.inner.ctx a.env.now.who a.n a.script.runnable c.requires.ready.node c.requires.n_value
    c.loop-body.invariant.1 c.decide.ensures (c.in_ok-body.was ∙ ap Ok c.in-Some.is) in
    rw (err_from_is_err_and c.from_residual-in_err-pay.result c.from_residual-in_err-pay.ensures.1).1
    (goes.1.ends (then_goes ran c.in_ok-exec.was (enters_not a.script.bytes.now a.n c.decide.new.inner a.env.now.who short (does_keeps ran).fits)))

-- ---- the goals of `write`

pub write-fire-requires : goal.write-fire-requires
write-fire-requires t c =
    let lent = c.requires.lent in
    let writes = c.post.ensures.writes in
    (omega (arith, c.decreases, writes.within), (writes.public_same ∙ lent.0, writes.inside _ c.in_ok-written.was, idle_same _ _ _ _ writes.undo_same ∙ lent.3))

-- the triggers, in the context with the key's label
pub write-returns : goal.write-returns
write-returns t c =
    let writes = c.post.ensures.writes in
    let told = c.in_ok-written.was in
    writes.goes _ told _ _ c.args.store.now.room (rw c.post.ensures.who_same at (c.fire.ensures writes.own (vars_of c.args.vars.now) (writes.label_is _ told)))
