-- What the number of words looked at means, for any number of words, as statements. Their proofs are in proofs/.
use Rattle.std.specs.Prelude.{◌≡◌, List, true, false, not, ℕ, suc, ◌-◌, ◌/◌, ◌≤◌, ◌<◌, length, get_or, Some}
use Rattle.places.specs.Sets.{Words, difference, within, lowest, misses, looked_at}

-- word w is the first with a missing place
pub record FirstMissing (a b : List ℕ) (w : ℕ) : Type 0 where
  pub missing : misses a b w ≡ true
  pub none_before : (v : ℕ) → v < w → misses a b v ≡ false

-- two pairs of sets have the same first n words; a word past an end counts as 0
pub record SameWords (n : ℕ) (a b a' b' : List ℕ) : Type 0 where
  pub first : (w : ℕ) → w < n → get_or a w 0 ≡ get_or a' w 0
  pub second : (w : ℕ) → w < n → get_or b w 0 ≡ get_or b' w 0

-- the laws of a comparison that ends early
pub record EndsEarly (a b : List ℕ) : Type 0 where
  -- it looks at no more words than there are
  pub at_most : looked_at a b ≤ length a
  -- and at all of them where the first set lies within the second
  pub all_words : within a b ≡ true → looked_at a b ≡ length a
  -- where it does not, the last word looked at is the first with a missing place
  pub last_word : within a b ≡ false → (0 < looked_at a b) × FirstMissing a b (looked_at a b - 1)
  -- where it looks at fewer words than there are, the first set does not lie within the second; where at all of them, that alone tells nothing
  pub stops_short : looked_at a b < length a → within a b ≡ false
  -- the last word looked at decides
  pub decides : within a b ≡ not (misses a b (looked_at a b - 1))
  -- no other word does: where the first sets have as many words, and both pairs the same up to there, they compare alike
  pub looks_no_further : (a' b' : List ℕ) → length a ≡ length a' → SameWords (looked_at a b) a b a' b'
      → (within a b ≡ within a' b') × (looked_at a b ≡ looked_at a' b')
  -- the last word looked at has the lowest missing place
  pub lowest_there : Words a → (p : ℕ) → lowest (difference a b) ≡ Some p → looked_at a b ≡ suc (p / 64)
