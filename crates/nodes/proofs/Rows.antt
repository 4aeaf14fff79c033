-- The fields that a kind does not name: each is 0, and they are the last of the fields a to d. Assumes nothing.
use mathlib.Core.Path.{◌≡◌, refl, sym, ap, ◌∙◌}
use mathlib.Core.Bool.{Bool, true, false, ◌&&◌, ◌||◌, not}
use Prim.Native.Nat.{ℕ, ◌<◌}
use lib.Dec.{eqb, ltb}
use lib.ListN.{replicate, get_or-replicate}
use borrow.Author.Tests.{eq-eqb, eqb-true, ltb-true, ltb-false}
use Rattle.book.specs.Records.{Book}
use Rattle.book.specs.Start.{tabulate}
use Rattle.book.specs.Kinds.{fields_of, row_of}
use Rattle.book.specs.Refusals.{field_fits}
use Rattle.book.specs.declared.Row.{Row}
use Rattle.book.proofs.Chains.{both}
use Rattle.book.proofs.Tabulate.{table_at}
use Rattle.kinds.proofs.Past.{past}

pub no_role : (b : Book) (n role v : ℕ) → role ≡ 0 → field_fits b n role v ≡ eqb v 0
unfolding field_fits
no_role b n role v e = rw e

-- a row that does not name a names neither b nor c
abbrev after_a : Row → Bool
after_a r = not (eqb r.a 0) || (eqb r.b 0 && eqb r.c 0)

-- one that does not name c does not name d
abbrev after_c : Row → Bool
after_c r = not (eqb r.c 0) || eqb r.d 0

abbrev leading : Row → Bool
leading r = after_a r && after_c r

-- tested once, over the whole table
tested : (kind : ℕ) → kind < 27 → leading (row_of kind) ≡ true
unfolding tabulate row_of fields_of
tested kind h = sym (table_at (λ i. leading (row_of i)) 27 (replicate 27 true) refl kind true h) ∙ get_or-replicate 27 kind true true h

each : (kind : ℕ) → leading (row_of kind) ≡ true
unfolding row_of fields_of
each kind = go (ltb kind 27) refl
  where
    go : (t : Bool) → ltb kind 27 ≡ t → leading (row_of kind) ≡ true
    go true e = tested kind (ltb-true kind 27 e)
    go false e = ap leading (past kind (ltb-false kind 27 e))

module _ (row : Row) (kind : ℕ) (e : row ≡ row_of kind) where
  leads : leading row ≡ true
  leads = rw e (each kind)

  pub b_c_unnamed : row.a ≡ 0 → (row.b ≡ 0) × (row.c ≡ 0)
  b_c_unnamed h =
      let t = both (eqb row.b 0) (eqb row.c 0) (rw (eq-eqb _ _ h) at (both (after_a row) (after_c row) leads).0) in
      (eqb-true _ _ t.0, eqb-true _ _ t.1)

  pub d_unnamed : row.c ≡ 0 → row.d ≡ 0
  d_unnamed h = eqb-true _ _ (rw (eq-eqb _ _ h) at (both (after_a row) (after_c row) leads).1)
