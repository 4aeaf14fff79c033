-- The trace of a running call: records written one after another, and the room for more of them. Assumes nothing.
use mathlib.Core.Path.{◌≡◌, refl, sym, ap, ◌∙◌}
use mathlib.Core.List.{List, [], ◌∷◌, ◌++◌, append_assoc, append-nil}
use mathlib.Core.Bool.{true, false}
use Prim.Native.Nat.{ℕ, ◌+◌, ◌-◌, ◌*◌, ◌/◌, ◌≤◌, ◌<◌}
use native.Mathlib.Nat.{add-zero}
use native.Mathlib.Omega.{arith}
use borrow.Author.Tests.{le-leb, lt-leb}
use lib.Dec.{leb}
use lib.ListN.{length, take, drop, length-append, length-drop, take-append-drop}
use lib.Seq.{length-take-le, take_all, take_at, drop-append-add, drop-drop, drop-length}
use Rattle.monitor.specs.Run.{Rec, said, changed}
use Rattle.monitor.specs.Call.{record_bytes, trace_bytes}
use Rattle.machine.specs.Store.{room_in, with_records}

-- ---- the bytes of records

length_record : (r : Rec) → length (record_bytes r) ≡ 8
unfolding record_bytes
length_record (said user amount) = refl
length_record (changed kind user region) = refl

pub length_bytes : (records : List Rec) → length (trace_bytes records) ≡ 8 * length records
unfolding trace_bytes
length_bytes [] = refl
length_bytes (r ∷ records) = omega (arith, length-append (record_bytes r) (trace_bytes records), length_record r, length_bytes records)

bytes_append : (a b : List Rec) → trace_bytes (a ++ b) ≡ trace_bytes a ++ trace_bytes b
unfolding trace_bytes
bytes_append [] b = refl
bytes_append (r ∷ a) b =
    ap (λ (rest : List ℕ). record_bytes r ++ rest) (bytes_append a b) ∙ sym (append_assoc (record_bytes r) (trace_bytes a) (trace_bytes b))

-- ---- a trace with records

module _ (trace : List ℕ) (used : ℕ) where
  pub with_none : with_records trace used [] ≡ trace
  unfolding with_records trace_bytes
  with_none = rw (append-nil (take used trace), add-zero used) (take-append-drop used trace)

  module _ (u : used ≤ length trace) where
    -- what is written up to the end of the records a
    length_front : (a : List Rec) → length (take used trace ++ trace_bytes a) ≡ used + 8 * length a
    length_front a = omega (arith, length-append (take used trace) (trace_bytes a), length-take-le used trace u, length_bytes a)

    -- records in the room that there is leave the length as it was
    pub with_length : (a : List Rec) → used + 8 * length a ≤ length trace → length (with_records trace used a) ≡ length trace
    unfolding with_records
    with_length a h =
        let end : ℕ = used + 8 * length a in
        omega (arith, length-append (take used trace ++ trace_bytes a) (drop end trace), length_front a, length-drop end trace)

    -- records after records
    pub with_both : (a b : List Rec) → with_records (with_records trace used a) (used + 8 * length a) b ≡ with_records trace used (a ++ b)
    unfolding with_records
    with_both a b =
        let front : List ℕ = take used trace ++ trace_bytes a in
        let end : ℕ = used + 8 * length a in
        let long : length front ≡ end = length_front a in
        let rest : drop (end + 8 * length b) (front ++ drop end trace) ≡ drop (end + 8 * length b) trace =
        ap (λ (k : ℕ). drop (k + 8 * length b) (front ++ drop end trace)) (sym long)
        ∙ drop-append-add front (drop end trace) (8 * length b)
        ∙ drop-drop (8 * length b) end trace in
        let ends : end + 8 * length b ≡ used + 8 * length (a ++ b) = omega (arith, length-append a b) in
        rw (take_at front (drop end trace) end long, rest, append_assoc (take used trace) (trace_bytes a) (trace_bytes b), ← bytes_append a b, ends)

-- one record, written at the start of the part that is lent from byte `used` on
pub record_added : (trace : List ℕ) (used : ℕ) (r : Rec) {part : List ℕ} → used + 8 ≤ length trace
    → part ≡ record_bytes r ++ drop 8 (take (length trace - used) (drop used trace))
    → take used trace ++ (part ++ drop (length trace - used) (drop used trace)) ≡ with_records trace used (r ∷ [])
unfolding with_records trace_bytes
record_added trace used r {part} h e =
    let size : ℕ = length trace - used in
    let whole : take size (drop used trace) ≡ drop used trace = take_all size (drop used trace) (omega (arith, length-drop used trace)) in
    let sum : used + size ≡ length trace = omega arith in
    let none : drop size (drop used trace) ≡ [] = drop-drop size used trace ∙ ap (λ (k : ℕ). drop k trace) sum ∙ drop-length trace in
    rw (none, append-nil part, e, whole, drop-drop 8 used trace, append-nil (record_bytes r))
    (sym (append_assoc (take used trace) (record_bytes r) (drop (used + 8) trace)))

-- ---- room

module _ (trace : List ℕ) (used : ℕ) where
  pub no_room : length trace < used + 8 → leb 1 (room_in trace used) ≡ false
  no_room h = lt-leb 1 (room_in trace used) (omega arith)

  module _ (h : used + 8 ≤ length trace) where
    pub some_room : leb 1 (room_in trace used) ≡ true
    some_room = le-leb 1 (room_in trace used) (omega arith)

    -- a record takes the room of one
    room_less : (length trace - used) / 8 - 1 ≡ (length trace - (used + 8)) / 8
    room_less = omega arith

    pub room_after : (r : Rec) → room_in trace used - 1 ≡ room_in (with_records trace used (r ∷ [])) (used + 8)
    room_after r = rw (with_length trace used (omega arith) (r ∷ []) (omega arith)) room_less
