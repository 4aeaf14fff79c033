-- `grants::alter` meets its contract.
use Rattle.grants.proofs.Changes.{alters}
use Rattle.grants.proofs.alter.Goals as goal

pub returns-clause-alters : goal.returns-clause-alters
returns-clause-alters c =
    rw (← c.named-right.ensures, ← c.byte_at-user.ensures.0, ← c.u16_at-region.ensures.0, ← c.region_places.ensures)
    (alters c.changed-next.result c.store_users.ensures (rw (← c.users_sets-old.ensures) c.changed-next.ensures))
