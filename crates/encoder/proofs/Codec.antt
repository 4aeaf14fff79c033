-- Records and their bytes: what is read is written as it stood, and what is written is read back. Stated once for a format, and
-- for the sections of any format; then the seven formats. Assumes nothing.
use mathlib.Core.Path.{◌≡◌, refl, sym, ap, ap₂, ◌∙◌}
use mathlib.Core.List.{List, [], ◌∷◌, ◌++◌, append_assoc}
use Prim.Native.Nat.{ℕ, zero, suc, ◌+◌, ◌*◌, ◌/◌, ◌%◌, ◌^◌, ◌≤◌, ◌<◌}
use native.Mathlib.Nat.{add-zero, add_assoc}
use native.Mathlib.Omega.{arith}
use lib.ListN.{length, take, drop, length-append, length-drop}
use lib.Seq.{drop-cons, get_or-drop, drop_at, drop-drop, take-add}
use mir.Syntax.{w32}
use mir.ValLaws.{of_z-to_z}
use Rattle.book.specs.Bytes.{byte, Bytes, le32, le64, signed32, bits32, two, three, four, eight}
use Rattle.book.specs.Records.{Format, records, section_bytes, cells_format, regions_format, rights_format, nodes_format, programs_format, triggers_format, labels_format}

-- ---- numbers and their bytes

pub two_back : (n : ℕ) → n < 65536 → n % 256 + 256 * (n / 256 % 256) ≡ n
two_back n h = omega arith

pub four_back : (n : ℕ) → n < 4294967296 → n % 256 + 256 * (n / 256 % 256) + 65536 * (n / 65536 % 256 + 256 * (n / 16777216 % 256)) ≡ n
four_back n h =
    let top : n / 16777216 % 256 ≡ n / 16777216 = omega arith in
    rw top (omega arith)

pub two_of : {a b : ℕ} → a < 256 → b < 256 → two (a + 256 * b) ≡ a ∷ b ∷ []
two_of {a} {b} h l =
    let q : (a + 256 * b) / 256 ≡ b = omega arith in
    let x : (a + 256 * b) % 256 ≡ a = omega arith in
    let y : b % 256 ≡ b = omega arith in
    rw (x, q, y)

three_of : {a b c : ℕ} → a < 256 → b < 256 → c < 256 → three (a + 256 * (b + 256 * c)) ≡ a ∷ b ∷ c ∷ []
three_of {a} {b} {c} h l k =
    let n : ℕ = a + 256 * (b + 256 * c) in
    let q : n / 256 ≡ b + 256 * c = omega arith in
    let r : n / 65536 ≡ c = omega arith in
    let x : n % 256 ≡ a = omega arith in
    let y : (b + 256 * c) % 256 ≡ b = omega arith in
    let z : c % 256 ≡ c = omega arith in
    rw (x, q, r, y, z)

pub four_of : {a b c d : ℕ} → a < 256 → b < 256 → c < 256 → d < 256 → four (a + 256 * b + 65536 * (c + 256 * d)) ≡ a ∷ b ∷ c ∷ d ∷ []
four_of {a} {b} {c} {d} h l k m =
    let n : ℕ = a + 256 * b + 65536 * (c + 256 * d) in
    let q : n / 256 ≡ b + 256 * (c + 256 * d) = omega arith in
    let r : n / 65536 ≡ c + 256 * d = omega arith in
    let t : n / 16777216 ≡ d = omega arith in
    let x : n % 256 ≡ a = omega arith in
    let y : (b + 256 * (c + 256 * d)) % 256 ≡ b = omega arith in
    let z : (c + 256 * d) % 256 ≡ c = omega arith in
    let u : d % 256 ≡ d = omega arith in
    rw (x, q, r, t, y, z, u)

-- the same of a number that was taken as signed
signed_of : {a b c d : ℕ} → a < 256 → b < 256 → c < 256 → d < 256
    → four (bits32 (signed32 (a + 256 * b + 65536 * (c + 256 * d)))) ≡ a ∷ b ∷ c ∷ d ∷ []
signed_of {a} {b} {c} {d} h l k m =
    let fits : a + 256 * b + 65536 * (c + 256 * d) < 4294967296 = omega arith in
    ap four (of_z-to_z w32 _ (record { fits = fits })) ∙ four_of h l k m

-- the lower four bytes of a number are those of its lower 32 bits
four_wraps : (x y : ℕ) → four (x + 4294967296 * y) ≡ four x
four_wraps x y =
    let b : (x + 4294967296 * y) / 256 ≡ x / 256 + 16777216 * y = omega arith in
    let c : (x + 4294967296 * y) / 65536 ≡ x / 65536 + 65536 * y = omega arith in
    let d : (x + 4294967296 * y) / 16777216 ≡ x / 16777216 + 256 * y = omega arith in
    let byte_0 : (x + 4294967296 * y) % 256 ≡ x % 256 = omega arith in
    let byte_1 : (x / 256 + 16777216 * y) % 256 ≡ x / 256 % 256 = omega arith in
    let byte_2 : (x / 65536 + 65536 * y) % 256 ≡ x / 65536 % 256 = omega arith in
    let byte_3 : (x / 16777216 + 256 * y) % 256 ≡ x / 16777216 % 256 = omega arith in
    λ i. byte_0 i ∷ (ap (λ (n : ℕ). n % 256) b ∙ byte_1) i ∷ (ap (λ (n : ℕ). n % 256) c ∙ byte_2) i ∷ (ap (λ (n : ℕ). n % 256) d ∙ byte_3) i ∷ []

pub four_low : (n : ℕ) → four (n % 4294967296) ≡ four n
four_low n =
    let e : n % 4294967296 + 4294967296 * (n / 4294967296) ≡ n = omega arith in
    sym (four_wraps (n % 4294967296) (n / 4294967296)) ∙ ap four e

-- of two numbers of 32 bits, the lower first
eight_of : (x y : ℕ) → x < 4294967296 → eight (x + 4294967296 * y) ≡ four x ++ four y
eight_of x y h =
    let high : (x + 4294967296 * y) / 4294967296 ≡ y = omega arith in
    ap₂ (λ (a b : List ℕ). a ++ b) (four_wraps x y) (ap four high)

pub eight_back : (n : ℕ) → n < 2 ^ 64 → le64 (eight n) 0 ≡ n
eight_back n h =
    let low : le32 (four n) 0 ≡ n % 4294967296 = ap (λ (l : List ℕ). le32 l 0) (sym (four_low n)) ∙ four_back (n % 4294967296) (omega arith) in
    let high : le32 (four (n / 4294967296)) 0 ≡ n / 4294967296 = four_back (n / 4294967296) (omega arith) in
    ap₂ (λ (x y : ℕ). x + 4294967296 * y) low high ∙ omega arith

-- ---- a format

-- n bytes from byte i on, one by one
abbrev pub spread : ℕ → ℕ → List ℕ → List ℕ
spread zero i s = []
spread (suc n) i s = byte s i ∷ spread n (suc i) s

pub spread_is : (n i : ℕ) (s : List ℕ) → i + n ≤ length s → take n (drop i s) ≡ spread n i s
spread_is zero i s h = refl
spread_is (suc n) i s h =
    rw (drop-cons s i 0 (omega arith)) (ap (λ (l : List ℕ). byte s i ∷ l) (spread_is n (suc i) s (omega arith)))

-- the laws of a format
pub record Codec {A : Type 0} (f : Format A) : Type 0 where
  -- as many bytes are written as the format says
  pub width : (a : A) → length (f.write a) ≡ f.size
  -- reading looks at those bytes only
  pub moved : (s : List ℕ) (at : ℕ) → f.read s at ≡ f.read (drop at s) 0
  pub own : (s rest : List ℕ) → f.size ≤ length s → f.read (take f.size s ++ rest) 0 ≡ f.read s 0
  -- what was read is written as it stood
  pub same : (s : List ℕ) → Bytes s → f.size ≤ length s → f.write (f.read s 0) ≡ take f.size s

-- ---- the sections of any format

bytes_drop : {s : List ℕ} (at : ℕ) → Bytes s → Bytes (drop at s)
bytes_drop at b = record { fits = λ i. rw get_or-drop (b.fits (at + i)) }

-- what is written of a record is read back
pub record Kept {A : Type 0} (f : Format A) (a : A) : Type 0 where
  pub back : (rest : List ℕ) → f.read (f.write a ++ rest) 0 ≡ a

pub data AllKept {A : Type 0} (f : Format A) : List A → Type 0 where
  none : AllKept f []
  more : {a : A} {rs : List A} → Kept f a → AllKept f rs → AllKept f (a ∷ rs)

module _ {A : Type 0} {f : Format A} (codec : Codec f) where
  pub length_section : (rs : List A) → length (section_bytes f rs) ≡ length rs * f.size
  unfolding section_bytes
  length_section [] = omega arith
  length_section (a ∷ rs) = rw length-append (omega (arith, codec.width a, length_section rs))

  -- a record that is read from a file of bytes is written as it stood
  same_at : (s : List ℕ) (at : ℕ) → Bytes s → at + f.size ≤ length s → f.write (f.read s at) ≡ take f.size (drop at s)
  same_at s at b h = ap f.write (codec.moved s at) ∙ codec.same (drop at s) (bytes_drop at b) (simp length-drop (omega arith))

  pub section_same : (n at : ℕ) (s : List ℕ) → Bytes s → at + n * f.size ≤ length s → section_bytes f (records f n at s) ≡ take (n * f.size) (drop at s)
  unfolding records section_bytes
  section_same zero at s b h =
      let z : 0 * f.size ≡ 0 = omega arith in
      rw z
  section_same (suc n) at s b h =
      let e : suc n * f.size ≡ f.size + n * f.size = omega arith in
      rw (e, take-add f.size (n * f.size) (drop at s), drop-drop f.size at s)
      (ap₂ (λ (x y : List ℕ). x ++ y) (same_at s at b (omega arith)) (section_same n (at + f.size) s b (omega arith)))

  kept_read : (s : List ℕ) (at : ℕ) → Bytes s → at + f.size ≤ length s → Kept f (f.read s at)
  kept_read s at b h = record {
    back = λ rest.
        ap (λ (l : List ℕ). f.read (l ++ rest) 0) (same_at s at b h)
        ∙ codec.own (drop at s) rest (simp length-drop (omega arith))
        ∙ sym (codec.moved s at);
  }

  pub all_kept : (n at : ℕ) (s : List ℕ) → Bytes s → at + n * f.size ≤ length s → AllKept f (records f n at s)
  unfolding records
  all_kept zero at s b h = none
  all_kept (suc n) at s b h = more (kept_read s at b (omega arith)) (all_kept n (at + f.size) s b (omega arith))

  -- a section that is written is read back, wherever it stands
  pub section_back : (rs : List A) → AllKept f rs → (p q : List ℕ) (at : ℕ) → length p ≡ at → records f (length rs) at (p ++ (section_bytes f rs ++ q)) ≡ rs
  unfolding records section_bytes
  section_back [] none p q at e = refl
  section_back (a ∷ rs) (more k ks) p q at e =
      let w : List ℕ = f.write a in
      let t : List ℕ = section_bytes f rs ++ q in
      let here : (w ++ section_bytes f rs) ++ q ≡ w ++ t = append_assoc w (section_bytes f rs) q in
      let all : p ++ ((w ++ section_bytes f rs) ++ q) ≡ (p ++ w) ++ t = ap (λ (l : List ℕ). p ++ l) here ∙ sym (append_assoc p w t) in
      let first : f.read (p ++ ((w ++ section_bytes f rs) ++ q)) at ≡ a =
      codec.moved _ at ∙ ap (λ (l : List ℕ). f.read l 0) (drop_at p _ at e ∙ here) ∙ k.back t in
      let l : length (p ++ w) ≡ at + f.size = length-append p w ∙ omega (arith, codec.width a) in
      ap₂ (λ (x : A) (y : List A). x ∷ y) first
      (ap (records f (length rs) (at + f.size)) all ∙ section_back rs ks (p ++ w) q (at + f.size) l)

-- ---- the seven formats

pub cells_codec : Codec cells_format
unfolding cells_format
cells_codec = record {
  width = λ c. refl;
  moved = λ s at. simp (get_or-drop, add-zero, add_assoc);
  own = λ s rest h. rw (spread_is 8 0 s h);
  same = λ s b h. rw (signed_of (b.fits 4) (b.fits 5) (b.fits 6) (b.fits 7)) (sym (spread_is 8 0 s h));
}

pub regions_codec : Codec regions_format
unfolding regions_format
regions_codec = record {
  width = λ r. refl;
  moved = λ s at. simp (get_or-drop, add-zero, add_assoc);
  own = λ s rest h. rw (spread_is 8 0 s h);
  same = λ s b h. rw (three_of (b.fits 5) (b.fits 6) (b.fits 7)) (sym (spread_is 8 0 s h));
}

pub rights_codec : Codec rights_format
unfolding rights_format
rights_codec = record {
  width = λ r. refl;
  moved = λ s at. simp (get_or-drop, add-zero);
  own = λ s rest h. rw (spread_is 4 0 s h);
  same = λ s b h. sym (spread_is 4 0 s h);
}

pub nodes_codec : Codec nodes_format
unfolding nodes_format
nodes_codec = record {
  width = λ n. refl;
  moved = λ s at. simp (get_or-drop, add-zero, add_assoc);
  own = λ s rest h. rw (spread_is 16 0 s h);
  same = λ s b h.
      (λ i.
      byte s 0 ∷ byte s 1 ∷ (two_of (b.fits 2) (b.fits 3) i ++ two_of (b.fits 4) (b.fits 5) i ++ two_of (b.fits 6) (b.fits 7) i
      ++ two_of (b.fits 8) (b.fits 9) i ++ signed_of (b.fits 10) (b.fits 11) (b.fits 12) (b.fits 13) i ++ two_of (b.fits 14) (b.fits 15) i))
      ∙ sym (spread_is 16 0 s h);
}

pub programs_codec : Codec programs_format
unfolding programs_format
programs_codec = record {
  width = λ p. refl;
  moved = λ s at. simp (get_or-drop, add-zero, add_assoc);
  own = λ s rest h. rw (spread_is 4 0 s h);
  same = λ s b h. rw (two_of (b.fits 2) (b.fits 3)) (sym (spread_is 4 0 s h));
}

pub triggers_codec : Codec triggers_format
unfolding triggers_format
triggers_codec = record {
  width = λ t. refl;
  moved = λ s at. simp (get_or-drop, add-zero, add_assoc);
  own = λ s rest h. rw (spread_is 8 0 s h);
  same = λ s b h.
      (λ i. byte s 0 ∷ byte s 1 ∷ byte s 2 ∷ byte s 3 ∷ (two_of (b.fits 4) (b.fits 5) i ++ two_of (b.fits 6) (b.fits 7) i)) ∙ sym (spread_is 8 0 s h);
}

-- eight bytes that were read as a word
word_same : (s : List ℕ) → Bytes s → (i : ℕ)
    → eight (le64 s i)
    ≡ byte s i ∷ byte s (i + 1) ∷ byte s (i + 2) ∷ byte s (i + 2 + 1) ∷ byte s (i + 4) ∷ byte s (i + 4 + 1) ∷ byte s (i + 4 + 2) ∷ byte s (i + 4 + 2 + 1) ∷ []
word_same s b i =
    eight_of (le32 s i) (le32 s (i + 4)) (omega (arith, b.fits i, b.fits (i + 1), b.fits (i + 2), b.fits (i + 2 + 1)))
    ∙ ap₂ (λ (x y : List ℕ). x ++ y) (four_same i) (four_same (i + 4))
  where
    four_same : (k : ℕ) → four (le32 s k) ≡ byte s k ∷ byte s (k + 1) ∷ byte s (k + 2) ∷ byte s (k + 2 + 1) ∷ []
    four_same k = four_of (b.fits k) (b.fits (k + 1)) (b.fits (k + 2)) (b.fits (k + 2 + 1))

pub labels_codec : Codec labels_format
unfolding labels_format
labels_codec = record {
  width = λ r. refl;
  moved = λ s at. simp (get_or-drop, add-zero, add_assoc);
  own = λ s rest h. rw (spread_is 66 0 s h);
  same = λ s b h.
      (λ i.
      two_of (b.fits 0) (b.fits 1) i
      ++ (word_same s b 2 i ++ word_same s b 10 i ++ word_same s b 18 i ++ word_same s b 26 i ++ word_same s b 34 i ++ word_same s b 42 i ++ word_same s b 50 i
      ++ word_same s b 58 i))
      ∙ sym (spread_is 66 0 s h);
}
