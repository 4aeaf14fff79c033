-- Where the programs and triggers of a laid-out file stand. Assumes nothing.
use mathlib.Core.Path.{◌≡◌, ap, ◌∙◌}
use mathlib.Core.List.{List}
use Prim.Native.Nat.{ℕ, ◌+◌, ◌*◌, ◌<◌}
use native.Mathlib.Nat.{mul_comm}
use native.Mathlib.Omega.{arith}
use lib.ListN.{get_or}
use Rattle.book.specs.Records.{programs_format, triggers_format}
use Rattle.book.specs.Layout.{count, section, decode}
use Rattle.book.specs.Refusals.{Laid, no_program, no_trigger}
use Rattle.book.specs.declared.Section.{Section}
use Rattle.book.proofs.Decoded.{program_read, trigger_read}
use Rattle.book.proofs.Accepted.{laid, programs_inside, triggers_inside}
use Rattle.kinds.proofs.Sites.{Inside}

module _ (s : List ℕ) (at : Section) (i : ℕ) where
  pub program_is : at ≡ section s 4 → i < count s 4 → get_or (decode s).programs i no_program ≡ programs_format.read s (at.start + 4 * i)
  program_is e h = rw e (program_read s i _ h ∙ ap (λ (n : ℕ). programs_format.read s ((section s 4).start + n)) (mul_comm i 4))

  pub trigger_is : at ≡ section s 5 → i < count s 5 → get_or (decode s).triggers i no_trigger ≡ triggers_format.read s (at.start + 8 * i)
  trigger_is e h = rw e (trigger_read s i _ h ∙ ap (λ (n : ℕ). triggers_format.read s ((section s 5).start + n)) (mul_comm i 8))

  -- each record lies in the file
  module _ (l : Laid s) where
    pub program_inside : at ≡ section s 4 → i < count s 4 → Inside s (at.start + 4 * i) 4
    program_inside e h =
        let all = programs_inside (laid l) in
        rw e (record { end = omega arith; short = (laid l).short })

    pub trigger_inside : at ≡ section s 5 → i < count s 5 → Inside s (at.start + 8 * i) 8
    trigger_inside e h =
        let all = triggers_inside (laid l) in
        rw e (record { end = omega arith; short = (laid l).short })
