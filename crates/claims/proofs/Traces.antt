-- The bytes that a call leaves in its trace are those of its run's records: what a group sees of them, and what their grants give it.
-- Assumes nothing.
use mathlib.Core.Path.{◌≡◌, refl, sym, ap, ap₂, ◌∙◌}
use mathlib.Core.List.{List, [], ◌∷◌, ◌++◌, map, append_assoc, map-append}
use mathlib.Core.Bool.{Bool, true, false, ◌&&◌, cond, or-false, or-true}
use Prim.Native.Nat.{ℕ, ◌*◌, ◌/◌}
use native.Mathlib.Omega.{arith}
use lib.Dec.{eqb}
use lib.ListN.{length, drop}
use lib.Seq.{take_at, drop_at}
use Rattle.places.specs.Sets.{union}
use Rattle.book.specs.Bytes.{byte}
use Rattle.book.specs.Records.{Book}
use Rattle.monitor.specs.Labelled.{bottom}
use Rattle.monitor.specs.Run.{Rec, said, changed, Out, done, stop}
use Rattle.monitor.specs.Rules.{region_places}
use Rattle.monitor.specs.Call.{Memory, values, record_bytes, trace_bytes, script, memory_after, result_of, cut, trace_records}
use Rattle.claims.specs.TwoBooks.{Group, visible, visible_in, group_trace, Begins, granted_to}
use Rattle.claims.proofs.Views.{records, sees, keep, seen_of, gift, gifts, Begun}
use Rattle.claims.proofs.Sized.{Proper, out_record, rights_record, AllProper, none, more}

length_record : (r : Rec) → length (record_bytes r) ≡ 8
unfolding record_bytes
length_record (said u z) = refl
length_record (changed k u n) = refl

-- as many records as there are come back from their bytes, whatever follows
cut_bytes : (t : List Rec) (rest : List ℕ) → cut (length t) (trace_bytes t ++ rest) ≡ map record_bytes t
unfolding cut trace_bytes
cut_bytes [] rest = refl
cut_bytes (r ∷ t) rest =
    let first = take_at (record_bytes r) (trace_bytes t ++ rest) 8 (length_record r) in
    let others = drop_at (record_bytes r) (trace_bytes t ++ rest) 8 (length_record r) in
    rw (append_assoc (record_bytes r) (trace_bytes t) rest, first, others, cut_bytes t rest)

eighth : (n : ℕ) → 8 * n / 8 ≡ n
eighth n = omega arith

-- the records of a call's result
pub call_records : (budget : ℕ) (m : Memory) (o : Out (Unit {0})) → trace_records (result_of budget m o) ≡ map record_bytes (records o)
unfolding trace_records result_of values memory_after records
call_records budget m (done t a s) = rw (eighth (length t)) (cut_bytes t (drop (8 * length t) m.trace))
call_records budget m (stop t h s) = rw (eighth (length t)) (cut_bytes t (drop (8 * length t) m.trace))

-- ---- what a group sees

seen_byte : (g : Group) {r : Rec} → Proper r → visible g (record_bytes r) ≡ sees g r
unfolding visible record_bytes sees
seen_byte g (out_record {u = u}) = or-false (g u)
seen_byte g (rights_record {k = k} {u = u} h) = rw h (or-true (eqb k 1 && g u))

seen_bytes : (g : Group) {t : List Rec} → AllProper t → visible_in g (map record_bytes t) ≡ map record_bytes (seen_of g t)
unfolding visible_in seen_of keep
seen_bytes g none = refl
seen_bytes g (more {r = r} {t = t} p ps) = ap₂ joined (seen_byte g p) (seen_bytes g ps) ∙ kept (sees g r) (seen_of g t)
  where
    joined : Bool → List (List ℕ) → List (List ℕ)
    joined x rest = elim x [ true ↦ record_bytes r ∷ rest | false ↦ rest ]

    kept : (x : Bool) (u : List Rec) → joined x (map record_bytes u) ≡ map record_bytes (keep x r u)
    kept true u = refl
    kept false u = refl

-- the group's trace of a call's result
pub call_seen : (g : Group) (budget : ℕ) (m : Memory) (o : Out (Unit {0})) → AllProper (records o)
    → group_trace g (result_of budget m o) ≡ map record_bytes (seen_of g (records o))
unfolding group_trace
call_seen g budget m o h = ap (visible_in g) (call_records budget m o) ∙ seen_bytes g h

pub begins_bytes : {x y : List Rec} → Begun x y → Begins (map record_bytes x) (map record_bytes y)
begins_bytes {x} h = record { rest = map record_bytes h.rest; is = sym (map-append record_bytes x h.rest) ∙ ap (map record_bytes) h.is }

-- ---- what the grants give it, by the rules, which look at the script only

given : (g : Group) (b : Book) (r : Rec)
    → cond (eqb (byte (record_bytes r) 0) 2 && g (byte (record_bytes r) 1)) (region_places b (byte (record_bytes r) 2)) bottom ≡ gift (script b) g r
unfolding record_bytes gift region_places script
given g b (said u z) = refl
given g b (changed k u n) = refl

pub granted_is : (g : Group) (b : Book) (t : List Rec) → granted_to g b (map record_bytes t) ≡ gifts (gift (script b) g) t
unfolding granted_to gifts
granted_is g b [] = refl
granted_is g b (r ∷ t) = ap₂ union (given g b r) (granted_is g b t)
