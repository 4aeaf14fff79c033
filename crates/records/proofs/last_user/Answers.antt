-- `records::last_user` meets its contract.
use mathlib.Core.Path.{◌≡◌}
use borrow.Author.Tests.{eq-eqb, ne_eqb}
use Rattle.records.proofs.last_user.Goals as goal

pub returns-then-kind-eq0 : goal.returns-then-kind-eq0
returns-then-kind-eq0 c =
    let public : c.before.args.kind ≡ 0 = c.if-kind-eq0.true in
    rw (eq-eqb c.before.args.kind 0 public)

pub returns-else-kind-eq0 : goal.returns-else-kind-eq0
returns-else-kind-eq0 c =
    let other : c.before.args.kind ≡ 0 → ⊥ = c.if-kind-eq0.false in
    rw (ne_eqb c.before.args.kind 0 other)
