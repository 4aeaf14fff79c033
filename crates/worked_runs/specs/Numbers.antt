-- The number of each refusal in the paper, told by the definition that the entries' contracts use.
use Rattle.std.specs.Prelude.{◌≡◌, [], ◌∷◌, map}
use Rattle.book.specs.Refusals.{number_of}
use Rattle.book.specs.declared.Reason.TheVariants as reasons

pub record RefusalNumbers : Type 0 where
  pub of_the_call : map number_of (reasons.Lent ∷ []) ≡ 1 ∷ []
  pub of_the_file : map number_of (reasons.Length ∷ reasons.Mark ∷ reasons.Sections ∷ []) ≡ 2 ∷ 3 ∷ 4 ∷ []
  pub of_records : map number_of (reasons.Cell ∷ reasons.Region ∷ reasons.Right ∷ reasons.Node ∷ reasons.Program ∷ reasons.Trigger ∷ reasons.Label ∷ [])
      ≡ 5 ∷ 6 ∷ 7 ∷ 8 ∷ 9 ∷ 10 ∷ 32 ∷ []
