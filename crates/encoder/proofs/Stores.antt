-- Output that is written part by part: `new` is stored from `at` on, and the other bytes stay. Assumes nothing.
use mathlib.Core.Path.{◌≡◌, refl, sym, ap, ap₂, ◌∙◌}
use mathlib.Core.List.{List, [], ◌∷◌, ◌++◌, append_assoc, append-nil}
use Prim.Native.Nat.{ℕ, ◌+◌, ◌≤◌}
use native.Mathlib.Nat.{add-zero, add_assoc}
use native.Mathlib.Numerals.{add-one, add-two, add-three}
use native.Mathlib.Omega.{arith}
use lib.ListN.{length, take, drop, set, length-append, length-drop, take-append-drop}
use lib.Seq.{take_at, take-append-le, drop_at, drop-drop, length-take-le, sets-eq}

pub record Stored (old : List ℕ) (at : ℕ) (new out : List ℕ) : Type 0 where
  pub fits : at + length new ≤ length old
  pub is : out ≡ take at old ++ new ++ drop (at + length new) old

-- as the contracts say it: new has n bytes
pub stored : (old : List ℕ) (at : ℕ) (new out : List ℕ) (n : ℕ) → length new ≡ n → at + n ≤ length old → out ≡ take at old ++ new ++ drop (at + n) old → Stored old at new out
stored old at new out n e h q = record { fits = omega arith; is = rw e q }

-- nothing is stored
pub stored_none : (old : List ℕ) (at : ℕ) → at ≤ length old → Stored old at [] old
stored_none old at h = record { fits = omega arith; is = sym (rw (append-nil (take at old), add-zero at) (take-append-drop at old)) }

front_length : {old new out : List ℕ} {at : ℕ} → Stored old at new out → length (take at old ++ new) ≡ at + length new
front_length {old} {new} {out} {at} v = length-append (take at old) new ∙ omega (arith, length-take-le at old (omega (arith, v.fits)))

pub same_length : {old new out : List ℕ} {at : ℕ} → Stored old at new out → length out ≡ length old
same_length {old} {new} {out} {at} v =
    ap length v.is ∙ length-append (take at old ++ new) (drop (at + length new) old) ∙ omega (arith, front_length v, length-drop (at + length new) old, v.fits)

-- a part is stored behind another
pub stored_behind : {old u x w y : List ℕ} {at to : ℕ} → Stored old at u x → Stored x to w y → to ≡ at + length u → Stored old at (u ++ w) y
stored_behind {old} {u} {x} {w} {y} {at} {to} v z e =
    let front : take to x ≡ take at old ++ u = ap₂ take e v.is ∙ take_at (take at old ++ u) (drop (at + length u) old) (at + length u) (front_length v) in
    let back : drop (to + length w) x ≡ drop (at + length (u ++ w)) old =
    sym (drop-drop (length w) to x)
    ∙ ap (drop (length w)) (ap₂ drop e v.is ∙ drop_at (take at old ++ u) (drop (at + length u) old) (at + length u) (front_length v))
    ∙ drop-drop (length w) (at + length u) old
    ∙ ap (λ (n : ℕ). drop n old) (add_assoc at (length u) (length w) ∙ ap (λ (n : ℕ). at + n) (sym (length-append u w))) in record {
      fits = omega (arith, length-append u w, z.fits, same_length v);
      is = z.is ∙ ap₂ (λ (a b : List ℕ). a ++ w ++ b) front back ∙ ap (λ (l : List ℕ). l ++ drop (at + length (u ++ w)) old) (append_assoc (take at old) u w);
    }

-- a part is stored before another
pub stored_before : {old w x u y : List ℕ} {at to : ℕ} → Stored old to w x → Stored x at u y → to ≡ at + length u → Stored old at (u ++ w) y
stored_before {old} {w} {x} {u} {y} {at} {to} v z e =
    let rest : List ℕ = drop (to + length w) old in
    let kept : length (take to old) ≡ to = length-take-le to old (omega (arith, v.fits)) in
    let was : x ≡ take to old ++ (w ++ rest) = v.is ∙ append_assoc (take to old) w rest in
    let front : take at x ≡ take at old =
    ap (take at) was
    ∙ take-append-le at (take to old) (w ++ rest) (omega arith)
    ∙ sym (take-append-le at (take to old) (drop to old) (omega arith))
    ∙ ap (take at) (take-append-drop to old) in
    let back : drop (at + length u) x ≡ w ++ drop (at + length (u ++ w)) old =
    ap₂ drop (sym e) was
    ∙ drop_at (take to old) (w ++ rest) to kept
    ∙ ap (λ (n : ℕ). w ++ drop n old) (ap (λ (n : ℕ). n + length w) e ∙ add_assoc at (length u) (length w) ∙ ap (λ (n : ℕ). at + n) (sym (length-append u w))) in record {
      fits = omega (arith, length-append u w, v.fits);
      is =
          z.is
          ∙ ap₂ (λ (a b : List ℕ). a ++ u ++ b) front back
          ∙ sym (append_assoc (take at old ++ u) w (drop (at + length (u ++ w)) old))
          ∙ ap (λ (l : List ℕ). l ++ drop (at + length (u ++ w)) old) (append_assoc (take at old) u w);
    }

-- ---- output from byte `at` on, written up to byte `end`

pub record Begun (old : List ℕ) (at end : ℕ) (bytes out : List ℕ) : Type 0 where
  pub end_is : end ≡ at + length bytes
  pub bytes_are : Stored old at bytes out

pub begun_none : (old : List ℕ) (at : ℕ) → at ≤ length old → Begun old at at [] old
begun_none old at h = record { end_is = omega arith; bytes_are = stored_none old at h }

-- as the contracts say it
pub begun : (old : List ℕ) (at end : ℕ) (bytes out : List ℕ) → end ≡ at + length bytes → end ≤ length old → out ≡ take at old ++ bytes ++ drop end old → Begun old at end bytes out
begun old at end bytes out e h q = record {
  end_is = e;
  bytes_are = record { fits = omega arith; is = q ∙ rw e };
}

pub begun_is : {old bytes out : List ℕ} {at end : ℕ} → Begun old at end bytes out → (end ≡ at + length bytes) × (out ≡ take at old ++ bytes ++ drop end old)
begun_is v = (v.end_is, v.bytes_are.is ∙ rw v.end_is)

-- a part of n bytes more
pub begun_more : {old bytes out : List ℕ} {at end : ℕ} → Begun old at end bytes out → (new out' : List ℕ) (n to : ℕ) → length new ≡ n → end + n ≡ to → to ≤ length old
    → out' ≡ take end out ++ new ++ drop (end + n) out → Begun old at to (bytes ++ new) out'
begun_more {old} {bytes} {out} {at} {end} v new out' n to e t h q =
    let part : Stored out end new out' = stored out end new out' n e (omega (arith, same_length v.bytes_are)) q in record {
      end_is = omega (arith, v.end_is, length-append bytes new);
      bytes_are = stored_behind v.bytes_are part v.end_is;
    }

-- ---- single bytes

pub two_stores : (l : List ℕ) (at a b : ℕ) → at + 2 ≤ length l → set (set l at a) (at + 1) b ≡ take at l ++ (a ∷ b ∷ []) ++ drop (at + 2) l
two_stores l at a b h = rw (add-one at) (sets-eq (a ∷ b ∷ []) l at h)

pub four_stores : (l : List ℕ) (at a b c d : ℕ) → at + 4 ≤ length l
    → set (set (set (set l at a) (at + 1) b) (at + 2) c) (at + 3) d ≡ take at l ++ (a ∷ b ∷ c ∷ d ∷ []) ++ drop (at + 4) l
four_stores l at a b c d h = rw (add-one at, add-two at, add-three at) (sets-eq (a ∷ b ∷ c ∷ d ∷ []) l at h)

-- four bytes, and behind them four more by another store
pub eight_stores : (l : List ℕ) (at a b c d : ℕ) (w out : List ℕ) → length w ≡ 4 → at + 8 ≤ length l
    → let x : List ℕ = set (set (set (set l at a) (at + 1) b) (at + 2) c) (at + 3) d in out ≡ take (at + 4) x ++ w ++ drop (at + 4 + 4) x
    → Stored l at ((a ∷ b ∷ c ∷ d ∷ []) ++ w) out
eight_stores l at a b c d w out n h q =
    let x : List ℕ = set (set (set (set l at a) (at + 1) b) (at + 2) c) (at + 3) d in
    let first : Stored l at (a ∷ b ∷ c ∷ d ∷ []) x = stored l at _ x 4 refl (omega arith) (four_stores l at a b c d (omega arith)) in
    stored_behind first (stored x (at + 4) w out 4 n (omega (arith, same_length first)) q) refl
