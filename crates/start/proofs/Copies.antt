-- Bytes that are stored behind others: the others stay, and numbers and sections are read back. Assumes nothing.
use mathlib.Core.Path.{◌≡◌, refl, sym, ap, ap₂, ◌∙◌}
use mathlib.Core.List.{List, [], ◌∷◌, ◌++◌, append_assoc}
use mathlib.Core.Logic.{⊎_elim}
use Prim.Native.Nat.{ℕ, zero, suc, ◌+◌, ◌*◌, ◌≤◌, ◌<◌}
use native.Mathlib.Nat.{add-zero, zero-add, suc-add, add_assoc, mul-le-mul_left, not-suc-le-zero, le_of_suc-le-suc, eq-or-lt_of_le}
use native.Mathlib.Numerals.{add-one}
use native.Mathlib.Omega.{arith}
use lib.ListN.{length, take, drop, take-append-drop}
use lib.Seq.{take_at, take-take, take-nil, drop_at, get_or-take, get_or-drop, length-take-le}
use Rattle.book.specs.Bytes.{byte, Bytes, le16, le32, two, four}
use Rattle.book.specs.Records.{Format, records, section_bytes}
use Rattle.book.proofs.Records.{length_records}
use Rattle.encoder.proofs.Codec.{Codec, two_back, four_back, section_same, all_kept, section_back}
use Rattle.start.specs.Start.{Stays}

-- ---- bytes that stay

pub stays_then : {m n : ℕ} {a b c : List ℕ} → m ≤ n → Stays m a b → Stays n b c → Stays m a c
stays_then {m} {n} {a} {b} {c} h s t = record { is = sym (take-take m n c h) ∙ ap (take m) t.is ∙ take-take m n b h ∙ s.is }

byte_same : {n : ℕ} {a b : List ℕ} → Stays n a b → (i : ℕ) → i < n → byte b i ≡ byte a i
byte_same {n} {a} {b} s i h = sym (get_or-take n b i 0 h) ∙ ap (λ (l : List ℕ). byte l i) s.is ∙ get_or-take n a i 0 h

pub le16_same : (n : ℕ) (a b : List ℕ) → Stays n a b → (i : ℕ) → i + 2 ≤ n → le16 b i ≡ le16 a i
le16_same n a b s i h = ap₂ (λ (x y : ℕ). x + 256 * y) (byte_same s i (omega arith)) (byte_same s (i + 1) (omega arith))

pub le32_same : (n : ℕ) (a b : List ℕ) → Stays n a b → (i : ℕ) → i + 4 ≤ n → le32 b i ≡ le32 a i
le32_same n a b s i h = ap₂ (λ (x y : ℕ). x + 65536 * y) (le16_same n a b s i (omega arith)) (le16_same n a b s (i + 2) (omega arith))

-- n bytes from `at` on
part_of : (n at : ℕ) (l : List ℕ) → take n (drop at l) ≡ drop at (take (at + n) l)
part_of n zero l = ap (λ (k : ℕ). take k l) (sym (zero-add n))
part_of n (suc at) [] = take-nil n ∙ sym (ap (drop (suc at)) (take-nil (suc at + n)))
part_of n (suc at) (x ∷ l) = part_of n at l ∙ ap (λ (k : ℕ). drop (suc at) (take k (x ∷ l))) (sym (suc-add at n))

pub part_same : (m : ℕ) (a b : List ℕ) → Stays m a b → (n at : ℕ) → at + n ≤ m → take n (drop at b) ≡ take n (drop at a)
part_same m a b s n at h =
    part_of n at b ∙ ap (drop at) (sym (take-take (at + n) m b h) ∙ ap (take (at + n)) s.is ∙ take-take (at + n) m a h) ∙ sym (part_of n at a)

-- ---- a store, as the contracts say it

module _ (old new rest : List ℕ) (at : ℕ) {out : List ℕ} (h : at ≤ length old) (e : out ≡ take at old ++ new ++ rest) where
  front : length (take at old) ≡ at
  front = length-take-le at old h

  all : out ≡ take at old ++ (new ++ rest)
  all = e ∙ append_assoc (take at old) new rest

  pub stored_stays : Stays at old out
  stored_stays = record { is = ap (take at) all ∙ take_at (take at old) (new ++ rest) at front }

  pub stored_there : drop at out ≡ new ++ rest
  stored_there = ap (drop at) all ∙ drop_at (take at old) (new ++ rest) at front

pub le16_stored : (old rest out : List ℕ) (at n : ℕ) → at ≤ length old → out ≡ take at old ++ two n ++ rest → n < 65536 → le16 out at ≡ n
le16_stored old rest out at n h e b =
    let moved : le16 out at ≡ le16 (drop at out) 0 = simp (get_or-drop, add-zero) in
    moved ∙ ap (λ (l : List ℕ). le16 l 0) (stored_there old (two n) rest at h e) ∙ two_back n b

pub le32_stored : (old rest out : List ℕ) (at n : ℕ) → at ≤ length old → out ≡ take at old ++ four n ++ rest → n < 4294967296 → le32 out at ≡ n
le32_stored old rest out at n h e b =
    let moved : le32 out at ≡ le32 (drop at out) 0 = simp (get_or-drop, add-zero, add_assoc) in
    moved ∙ ap (λ (l : List ℕ). le32 l 0) (stored_there old (four n) rest at h e) ∙ four_back n b

-- ---- numbers that are stored one behind the other, from `at` on, `size` bytes each

pub record Numbers (read : List ℕ → ℕ → ℕ) (at size : ℕ) (f : ℕ → ℕ) (old new : List ℕ) (n : ℕ) : Type 0 where
  pub long : length new ≡ length old
  pub stays : Stays at old new
  pub are : (k : ℕ) → k < n → read new (at + size * k) ≡ f k

pub numbers_none : {read : List ℕ → ℕ → ℕ} {at size : ℕ} {f : ℕ → ℕ} {code : List ℕ} → Numbers read at size f code code 0
numbers_none = record { long = refl; stays = record { is = refl }; are = λ k h. absurd (not-suc-le-zero h) }

pub numbers_turn : {read : List ℕ → ℕ → ℕ} {at size n : ℕ} {f : ℕ → ℕ} {old code code' : List ℕ}
    → ((m : ℕ) (a b : List ℕ) → Stays m a b → (i : ℕ) → i + size ≤ m → read b i ≡ read a i)
    → Numbers read at size f old code n → length code' ≡ length code → Stays (at + size * n) code code' → read code' (at + size * n) ≡ f n
    → Numbers read at size f old code' (n + 1)
numbers_turn {read} {at} {size} {n} {f} {old} {code} {code'} same v long stays is = record {
  long = long ∙ v.long;
  stays = stays_then (omega arith) v.stays stays;
  are = λ k h. ⊎_elim
      (λ (e : k ≡ n). ap (λ (j : ℕ). read code' (at + size * j)) e ∙ is ∙ ap f (sym e))
      (λ (l : k < n). same (at + size * n) code code' stays (at + size * k) (below k l) ∙ v.are k l)
      (eq-or-lt_of_le (le_of_suc-le-suc (rw add-one at h)));
}
  where
    below : (k : ℕ) → k < n → at + size * k + size ≤ at + size * n
    below k l = omega (arith, mul-le-mul_left size l)

-- ---- a section

-- records are those of the bytes that were copied
pub records_copied : {A : Type 0} {f : Format A} → Codec f → (file code : List ℕ) (n from at : ℕ) → Bytes file → from + f.size * n ≤ length file → at ≤ length code
    → take (f.size * n) (drop at code) ≡ take (f.size * n) (drop from file) → records f n at code ≡ records f n from file
records_copied {A} {f} codec file code n from at b inside h e =
    let rs : List A = records f n from file in
    let size : n * f.size ≡ f.size * n = omega arith in
    let bytes : section_bytes f rs ≡ take (f.size * n) (drop at code) = section_same codec n from file b (rw size inside) ∙ rw size (sym e) in
    let rest : List ℕ = drop (f.size * n) (drop at code) in
    let parts : code ≡ take at code ++ (section_bytes f rs ++ rest) =
    sym (ap (λ (l : List ℕ). take at code ++ (l ++ rest)) bytes ∙ ap (λ (l : List ℕ). take at code ++ l) (take-append-drop (f.size * n) (drop at code)) ∙ take-append-drop at code) in
    ap₂ (λ (k : ℕ) (l : List ℕ). records f k at l) (sym (length_records f n from file)) parts
    ∙ section_back codec rs (all_kept codec n from file b (rw size inside)) (take at code) rest at (length-take-le at code h)
