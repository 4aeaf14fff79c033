-- `grants::change` meets its contract.
use mathlib.Core.Path.{sym, ◌∙◌}
use borrow.Author.Tests.{not-true, not-false}
use Rattle.grants.proofs.Changes.{asks, change_refused, change_hidden, change_full, change_made}
use Rattle.grants.proofs.change.Goals as goal

-- 28: not user 0
pub returns-then-env-ne0-clause-changes : goal.returns-then-env-ne0-clause-changes
returns-then-env-ne0-clause-changes c vars amounts =
    change_refused _ _ _ _ _ _ c.args.script.runnable c.args.store.now.room c.requires.public_set c.requires.node c.if-env-ne0.true c.stop.ensures

-- 29: the context is not within the public set
pub returns-then-not-compared-clause-changes : goal.returns-then-not-compared-clause-changes
returns-then-not-compared-clause-changes c vars amounts =
    change_hidden _ _ _ _ _ _ c.args.script.runnable c.args.store.now.room c.requires.public_set c.requires.node c.if-env-ne0.false
    (sym c.within-compared.ensures.0 ∙ not-true _ c.if-not-compared.true) c.stop_outside.ensures.stops c.stop_outside.ensures.compares

-- 30: the trace is full
pub returns-then-store-used-clause-changes : goal.returns-then-store-used-clause-changes
returns-then-store-used-clause-changes c vars amounts =
    change_full _ _ _ _ _ _ c.args.script.runnable c.args.store.now.room c.requires.public_set c.requires.node c.if-env-ne0.false
    (sym c.within-compared.ensures.0 ∙ not-false _ c.if-not-compared.false) c.if-store-used.true c.stop-then-store-used.ensures

pub alter-requires-clause-at_bound : goal.alter-requires-clause-at_bound
alter-requires-clause-at_bound c = asks _ _ c.args.script.runnable c.requires.node

-- the change is made
pub returns-clause-changes : goal.returns-clause-changes
returns-clause-changes c vars amounts =
    change_made _ _ _ _ _ _ c.args.script.runnable c.args.store.now.room c.requires.public_set c.requires.node c.if-env-ne0.false
    (sym c.within-compared.ensures.0 ∙ not-false _ c.if-not-compared.false) c.if-store-used.false c.alter.ensures.alters c.alter.ensures.rest_after
