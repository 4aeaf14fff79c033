-- `postings::post` meets its contract.
use mathlib.Core.Path.{◌≡◌, sym, ◌∙◌}
use borrow.Author.Rules.{rules}
use borrow.Author.Tests.{not-true, not-false}
use mir.Syntax.{w32}
use mir.Val.{to_z, of_z}
use Rattle.monitor.specs.Labelled.{under}
use Rattle.monitor.specs.Rules.{key_place}
use Rattle.machine.specs.Writes.{key_in}
use Rattle.postings.proofs.Keys.{tested, placed}
use Rattle.postings.proofs.Postings.{stops_23, stops_24, stops_26, posts}
use Rattle.postings.proofs.post.Goals as goal

pub returns-then-not-is_key-clause-posts : goal.returns-then-not-is_key-clause-posts
returns-then-not-is_key-clause-posts c own e trace loan u =
    let a = c.args in
    stops_23 a.n _ _ a.table _ _ _ u (tested a.entry (search rules) (search rules) c.is_key.ensures ∙ c.if-not-is_key.true) c.stop.ensures

pub returns-then-not-contains-clause-posts : goal.returns-then-not-contains-clause-posts
returns-then-not-contains-clause-posts c own e trace loan u =
    let a = c.args in
    stops_24 a.n _ a.env.now.who.user a.table _ _ _ u (tested a.entry (search rules) (search rules) c.is_key.ensures ∙ c.if-not-is_key.false)
    (rw (← placed a.entry _ (search rules) (search rules) c.place_of-place.ensures.0) (sym c.contains.ensures ∙ c.if-not-contains.true)) c.stop-then-not-contains.ensures

pub returns-then-not-compared-clause-posts : goal.returns-then-not-compared-clause-posts
returns-then-not-compared-clause-posts c own e trace loan u =
    let a = c.args in
    let at : c.place_of-place.result ≡ key_place a.table (key_in a.entry) = placed a.entry _ (search rules) (search rules) c.place_of-place.ensures.0 in
    stops_26 a.n a.env.now.ctx a.env.now.who.user a.table _ _ _ u (tested a.entry (search rules) (search rules) c.is_key.ensures ∙ c.if-not-is_key.false)
    (rw (← at) (sym c.contains.ensures ∙ c.if-not-contains.false))
    (rw (← at) (sym c.within-compared.ensures.0 ∙ not-true _ c.if-not-compared.true)) c.stop_outside.ensures.stops
    (rw (← at) c.stop_outside.ensures.compares)

pub returns-clause-posts : goal.returns-clause-posts
unfolding under
returns-clause-posts c own e trace loan u =
    let a = c.args in
    let at : c.place_of-place.result ≡ key_place a.table (key_in a.entry) = placed a.entry _ (search rules) (search rules) c.place_of-place.ensures.0 in
    let amount : to_z w32 (of_z w32 a.entry.amount) ≡ a.entry.amount = search rules in
    let stored = c.store_cell.ensures in
    posts a.n a.env.now.ctx a.env.now.who.user a.table _ _ _ u (tested a.entry (search rules) (search rules) c.is_key.ensures ∙ c.if-not-is_key.false)
    (rw (← at) (sym c.contains.ensures ∙ c.if-not-contains.false))
    (rw (← at) (sym c.within-compared.ensures.0 ∙ not-false _ c.if-not-compared.false)) at c.place_of-place.ensures.1
    (rw (← at, ← e, ← amount) stored.sets_after) stored.sets_unchanged.0 stored.sets_unchanged.1 stored.sets_unchanged.2
