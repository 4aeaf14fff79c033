-- A grant or a revoke: one user's set after it, the right that its node names, and the kind of its trace record.
use Rattle.std.specs.Prelude.{◌≡◌, List, Bool, cond, ℕ, ℤ, eqb}
use Rattle.places.specs.Sets.{union, difference}
use Rattle.monitor.specs.Labelled.{Label}
use Rattle.monitor.specs.Run.{update}
use Rattle.monitor.specs.Call.{rows}
use Rattle.machine.specs.Store.{users_of, with_users, Store, store}
use Rattle.machine.specs.declared.lent.Right.{Right}
use Rattle.machine.specs.declared.lent.Right.TheVariants.{Read, Write}
use Rattle.machine.specs.declared.lent.Sets.{Sets}

-- a grant adds the region's places, a revoke takes them out
abbrev pub altered : Bool → Label → Label → Label
altered grants set region = cond grants (union set region) (difference set region)

-- 1 read, 2 write
abbrev pub right_of : ℕ → Right
right_of number = cond (eqb number 1) Read Write

-- 2 read granted, 3 write granted, 4 read revoked, 5 write revoked
abbrev pub kind_of : Bool → Right → ℕ
kind_of grants Read = cond grants 2 4
kind_of grants Write = cond grants 3 5

-- the sets, with one user's set for a right altered by a region; all else is as it was
pub record Alters (sets : Sets) (right : Right) (user : ℕ) (grants : Bool) (region : Label) (sets' : Sets) : Type 0 where
  pub others_same : sets' ≡ with_users sets right (users_of sets' right)
  pub users_are : rows (users_of sets' right) ≡ update (rows (users_of sets right)) user (altered grants (rows (users_of sets right) user) region)

-- a store with other amounts, of which a grant or a revoke looks at none
abbrev pub with_amounts : List ℤ → Store → Store
with_amounts amounts x = store amounts x.sets x.run x.trace x.loan
