-- The lent label words: eight for each cell, those of cell p from word 8 · p on.
use Rattle.std.specs.Prelude.{List, [], ◌++◌, Bool, ℕ, zero, suc, ◌+◌, ◌*◌, take, drop}
use Rattle.places.specs.Sets.{empty, single, same_words}

-- the label of cell p
abbrev pub label_at : List ℕ → ℕ → List ℕ
label_at labels p = take 8 (drop (8 * p) labels)

-- the label words with cell p's replaced
abbrev pub set_label : List ℕ → ℕ → List ℕ → List ℕ
set_label labels p label = take (8 * p) labels ++ label ++ drop (8 * p + 8) labels

-- the labels of the first n cells, that of cell p being `label p`
unfoldable pub labels_by : (ℕ → List ℕ) → ℕ → List ℕ
labels_by label zero = []
labels_by label (suc n) = labels_by label n ++ label n

-- each cell's own place alone
abbrev pub own_labels : ℕ → List ℕ
own_labels = labels_by (single 8)

-- whether a label is the cell's own place alone
abbrev pub is_own : ℕ → List ℕ → Bool
is_own p label = same_words label (single 8 p)

-- the labels of n cells, all empty
unfoldable pub no_labels : ℕ → List ℕ
no_labels n = empty (8 * n)
