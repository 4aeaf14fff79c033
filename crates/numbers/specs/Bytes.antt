-- Numbers in a file's bytes, lowest byte first.
use Rattle.std.specs.Prelude.{List, [], ◌∷◌, ◌++◌, ℕ, ◌+◌, ◌*◌, ◌/◌, ◌%◌, ◌<◌, ℤ, get_or}
use Rattle.std.specs.Int.{w32}
use Rattle.std.proofs.Common.{of_z, to_z}

abbrev pub byte : List ℕ → ℕ → ℕ
byte s at = get_or s at 0

-- each element is a byte
pub record Bytes (s : List ℕ) : Type 0 where
  pub fits : (i : ℕ) → byte s i < 256

abbrev pub le16 : List ℕ → ℕ → ℕ
le16 s at = byte s at + 256 * byte s (at + 1)

abbrev pub le24 : List ℕ → ℕ → ℕ
le24 s at = byte s at + 256 * le16 s (at + 1)

abbrev pub le32 : List ℕ → ℕ → ℕ
le32 s at = le16 s at + 65536 * le16 s (at + 2)

abbrev pub le64 : List ℕ → ℕ → ℕ
le64 s at = le32 s at + 4294967296 * le32 s (at + 4)

-- 32 bits as a signed number, in two's complement, and back
abbrev pub signed32 : ℕ → ℤ
signed32 n = to_z w32 n

abbrev pub bits32 : ℤ → ℕ
bits32 z = of_z w32 z

-- the bytes of a number of 16, 24, 32 or 64 bits
abbrev pub two : ℕ → List ℕ
two n = n % 256 ∷ n / 256 % 256 ∷ []

abbrev pub three : ℕ → List ℕ
three n = n % 256 ∷ n / 256 % 256 ∷ n / 65536 % 256 ∷ []

abbrev pub four : ℕ → List ℕ
four n = n % 256 ∷ n / 256 % 256 ∷ n / 65536 % 256 ∷ n / 16777216 % 256 ∷ []

abbrev pub eight : ℕ → List ℕ
eight n = four n ++ four (n / 4294967296)
