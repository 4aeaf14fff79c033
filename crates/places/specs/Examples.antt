-- Worked examples of a comparison, by hand: for each part of `looked_at` a line that would not hold if it said something else.
use Rattle.std.specs.Prelude.{◌≡◌, List, [], ◌∷◌, Bool, true, false, ℕ, set}
use Rattle.places.specs.Sets.{empty, within, looked_at}

-- what a comparison tells: whether the first set lies within the second, and how many words were looked at
abbrev pub Tells : List ℕ → List ℕ → Bool → ℕ → Type 0
Tells a b inside words = (within a b ≡ inside) × (looked_at a b ≡ words)

-- one place in each of eight words
abbrev pub eight_places : List ℕ
eight_places = 1 ∷ 2 ∷ 4 ∷ 8 ∷ 16 ∷ 32 ∷ 64 ∷ 128 ∷ []

pub record ComparisonExamples : Type 0 where
  -- a place is missing in word 0, 3, 7 or in none
  pub in_word_0 : Tells (set eight_places 0 3) eight_places false 1
  pub in_word_3 : Tells (set eight_places 3 9) eight_places false 4
  pub in_word_7 : Tells (set eight_places 7 129) eight_places false 8
  pub in_none : Tells eight_places eight_places true 8
  -- the second set has more: where nothing is missing; before, in and after the word with the missing place
  pub more : Tells eight_places (set eight_places 2 7) true 8
  pub more_before : Tells (set eight_places 5 33) (set eight_places 2 7) false 6
  pub more_there : Tells (set eight_places 5 33) (set eight_places 5 50) false 6
  pub more_after : Tells (set eight_places 5 33) (set eight_places 6 65) false 6
  -- places are missing in two words, and two in one
  pub in_two : Tells (set (set eight_places 6 65) 2 5) eight_places false 3
  pub two_in_one : Tells (set eight_places 4 19) eight_places false 5
  -- no words, one, three, ten
  pub no_words : Tells [] [] true 0
  pub one_word : Tells (5 ∷ []) (7 ∷ []) true 1
  pub one_missing : Tells (5 ∷ []) (6 ∷ []) false 1
  pub last_of_three : Tells (1 ∷ 0 ∷ 2 ∷ []) (1 ∷ 0 ∷ 1 ∷ []) false 3
  pub ninth_of_ten : Tells (set (empty 10) 8 1) (empty 10) false 9
  -- the words are the first set's; past the second's end there is no place
  pub second_shorter : Tells (1 ∷ 0 ∷ []) (1 ∷ []) true 2
  pub second_too_short : Tells (1 ∷ 2 ∷ 0 ∷ []) (1 ∷ []) false 2
  pub second_longer : Tells (1 ∷ []) (1 ∷ 7 ∷ []) true 1
