-- The reach of a group holds the public set, each member's read set at the start, and what the grants of the first run give it.
-- Assumes nothing.
use mathlib.Core.Path.{◌≡◌, ap, ◌∙◌}
use mathlib.Core.List.{List, []}
use mathlib.Core.Bool.{true}
use mathlib.Core.Logic.{⊎_elim}
use Prim.Native.Nat.{ℕ, zero, suc, ◌≤◌, ◌<◌}
use native.Mathlib.Decide.{dec_lt}
use native.Mathlib.Nat.{not-suc-le-zero, le_of_suc-le-suc, eq-or-lt_of_le}
use native.Mathlib.Omega.{arith}
use lib.ListN.{get_or-eq_default}
use Rattle.places.specs.Sets.{Within}
use Rattle.places.proofs.Sets.{within_trans, empty_within, within_union_left, within_union_right}
use Rattle.book.specs.Records.{Book}
use Rattle.book.specs.Layout.{decode}
use Rattle.book.specs.Start.{right_set, public_set, read_sets}
use Rattle.monitor.specs.Labelled.{Label}
use Rattle.monitor.specs.Run.{Out}
use Rattle.monitor.specs.Call.{Memory, rows, script, result_of, trace_records}
use Rattle.claims.specs.TwoBooks.{Group, members_read, granted_to, reach}
use Rattle.claims.proofs.Views.{records, gift, gifts}
use Rattle.book.proofs.Tabulate.{length_tabulate}
use Rattle.claims.proofs.Traces.{call_records, granted_is}

member_read : (g : Group) (b : Book) (n u : ℕ) → u < n → g u ≡ true → Within (rows (read_sets b) u) (members_read g b n)
unfolding members_read
member_read g b zero u h m = absurd (not-suc-le-zero h)
member_read g b (suc n) u h m =
    ⊎_elim
    (λ (e : u ≡ n).
    let k : g n ≡ true = rw e at m in
    rw (e, k) (within_union_right (members_read g b n) (rows (read_sets b) n)))
    (λ (l : u < n). within_trans (member_read g b n u l m) (within_union_left _ _))
    (eq-or-lt_of_le (le_of_suc-le-suc h))

-- there are no other users
no_user : (b : Book) (u : ℕ) → 8 ≤ u → rows (read_sets b) u ≡ []
unfolding rows
no_user b u h = get_or-eq_default (read_sets b) [] (omega (arith, length_tabulate (right_set b 1) 8))

module _ (g : Group) (file : List ℕ) (budget : ℕ) (m : Memory) (o : Out (Unit {0})) where
  abbrev R : Label
  R = reach g file (result_of budget m o)

  pub reach_public : Within (public_set (decode file)) R
  unfolding reach
  reach_public = within_union_left _ _

  pub reach_read : (u : ℕ) → g u ≡ true → Within (rows (read_sets (decode file)) u) R
  unfolding reach
  reach_read u e = go (dec_lt u 8)
    where
      go : Dec (u < 8) → Within (rows (read_sets (decode file)) u) R
      go (yes h) = within_trans (member_read g (decode file) 8 u h e) (within_trans (within_union_left _ _) (within_union_right _ _))
      go (no h) = rw (no_user (decode file) u (omega arith)) (empty_within 0 R)

  pub reach_gifts : Within (gifts (gift (script (decode file)) g) (records o)) R
  unfolding reach
  reach_gifts =
      let given : granted_to g (decode file) (trace_records (result_of budget m o)) ≡ gifts (gift (script (decode file)) g) (records o) =
      ap (granted_to g (decode file)) (call_records budget m o) ∙ granted_is g (decode file) (records o) in
      rw (← given) (within_trans (within_union_right _ _) (within_union_right _ _))
