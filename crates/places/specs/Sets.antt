-- Sets of places (the paper's labels, presence, and read, write and public sets) as lists of 64-bit words.
-- Place p is bit p % 64 of word p / 64, which is bit 8 · owner + line of word `table`. Nothing here fixes the number of words.
use Rattle.std.specs.Prelude.{◌≡◌, List, [], ◌∷◌, Bool, true, false, ◌&&◌, not, cond, ℕ, zero, suc, ◌+◌, ◌*◌, ◌/◌, ◌%◌, ◌^◌, ◌<◌, eqb, length, get_or, replicate, Option, Some, None}
use Rattle.std.specs.Int.Bits.{bit_or, bit_and, bit_xor}

-- each word is a number of 64 bits
pub record Words (s : List ℕ) : Type 0 where
  pub fits : (w : ℕ) → get_or s w 0 < 2 ^ 64

-- bit k of a number, 0 or 1
abbrev pub bit : ℕ → ℕ → ℕ
bit k n = n / 2 ^ k % 2

-- membership: whether place p is in the set; words past the end have no members
unfoldable pub has : List ℕ → ℕ → Bool
has s p = eqb (bit (p % 64) (get_or s (p / 64) 0)) 1

-- the empty set, of n words
abbrev pub empty : ℕ → List ℕ
empty n = replicate n 0

-- the number whose bits below n are those that f picks
unfoldable pub word_of : (ℕ → Bool) → ℕ → ℕ
word_of f zero = 0
word_of f (suc k) = word_of f k + cond (f k) (2 ^ k) 0

-- the set of a predicate: the places below 64 · n that f picks, in n words
unfoldable pub set_of : ℕ → (ℕ → Bool) → List ℕ
set_of zero f = []
set_of (suc n) f = word_of f 64 ∷ set_of n (λ p. f (64 + p))

-- the set of place p alone, of n words
unfoldable pub single : ℕ → ℕ → List ℕ
single n p = set_of n (λ q. eqb q p)

-- whether two sets have the same words
unfoldable pub same_words : List ℕ → List ℕ → Bool
same_words [] [] = true
same_words [] (y ∷ b) = false
same_words (x ∷ a) [] = false
same_words (x ∷ a) (y ∷ b) = eqb x y && same_words a b

-- f on the words of two sets, one by one; a word past an end counts as 0
unfoldable pub word_by_word : (ℕ → ℕ → ℕ) → List ℕ → List ℕ → List ℕ
word_by_word f [] [] = []
word_by_word f [] (y ∷ b) = f 0 y ∷ word_by_word f [] b
word_by_word f (x ∷ a) [] = f x 0 ∷ word_by_word f a []
word_by_word f (x ∷ a) (y ∷ b) = f x y ∷ word_by_word f a b

-- the places of either set
unfoldable pub union : List ℕ → List ℕ → List ℕ
union a b = word_by_word bit_or a b

-- the bits of x that y lacks
abbrev pub without : ℕ → ℕ → ℕ
without x y = bit_xor x (bit_and x y)

-- the places of the first set that the second lacks
unfoldable pub difference : List ℕ → List ℕ → List ℕ
difference a b = word_by_word without a b

-- whether each place of the first set is one of the second
unfoldable pub within : List ℕ → List ℕ → Bool
within [] b = true
within (x ∷ a) [] = eqb x 0 && within a []
within (x ∷ a) (y ∷ b) = eqb (bit_or x y) y && within a b

-- the same as a statement
pub record Within (a b : List ℕ) : Type 0 where
  pub holds : within a b ≡ true

-- how many of the numbers below n are picked by f
unfoldable pub tally : (ℕ → Bool) → ℕ → ℕ
tally f zero = 0
tally f (suc n) = tally f n + cond (f n) 1 0

-- the number of members
unfoldable pub size : List ℕ → ℕ
size s = tally (has s) (64 * length s)

abbrev pub or_else : Option ℕ → Option ℕ → Option ℕ
or_else (Some p) q = Some p
or_else None q = q

-- the least of the numbers below n that f picks
unfoldable pub least : (ℕ → Bool) → ℕ → Option ℕ
least f zero = None
least f (suc n) = or_else (least f n) (cond (f n) (Some n) None)

-- the lowest member
unfoldable pub lowest : List ℕ → Option ℕ
lowest s = least (has s) (64 * length s)

-- ---- how far a comparison looks (02, Change 3)

-- whether word w has a missing place: one of the first set that the second lacks
abbrev pub misses : List ℕ → List ℕ → ℕ → Bool
misses a b w = not (eqb (get_or (difference a b) w 0) 0)

-- as many words as there are up to and with this one; n if there is none
abbrev pub up_to_and_with : Option ℕ → ℕ → ℕ
up_to_and_with (Some w) n = suc w
up_to_and_with None n = n

-- how many words a comparison looks at, from word 0 up: the last is the first with a missing place; where there is none, all are looked at
unfoldable pub looked_at : List ℕ → List ℕ → ℕ
looked_at a b = up_to_and_with (least (misses a b) (length a)) (length a)
