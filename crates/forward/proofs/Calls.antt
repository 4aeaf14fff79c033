-- What carrying a book forward leaves, by the answers of the run and of the writer. Assumes nothing.
use mathlib.Core.Path.{◌≡◌, refl, sym, ap, ◌∙◌}
use mathlib.Core.List.{List}
use mathlib.Core.Bool.{true, false}
use Prim.Native.Nat.{ℕ}
use Rattle.monitor.specs.Call.{Memory, Result, call}
use Rattle.claims.specs.TwoBooks.{finished}
use Rattle.writer.specs.Write.{WriteCall, written_values, Written}
use Rattle.std.specs.Prelude.{Ok, Err}
use Rattle.std.specs.Result.{result_unwrap_or}
use Rattle.forward.specs.Forward.{left_book, forward_of, forward_call}

-- ---- the writer's answer

bytes_of : (a : Written) → result_unwrap_or a 0 ≡ (written_values a).bytes
unfolding written_values
bytes_of (Ok n) = refl
bytes_of (Err refusal) = refl

module _ (a : Written) (o : List ℕ) (w : WriteCall) (e : record { answer = a; out = o } ≡ w) where
  left : o ≡ w.out
  left = ap (λ (x : WriteCall). x.out) e

  -- its bytes, 0 where it is refused
  pub told : {n : ℕ} → n ≡ result_unwrap_or a 0 → (n ≡ (written_values w.answer).bytes) × (o ≡ w.out)
  told q = (q ∙ bytes_of a ∙ ap (λ (x : WriteCall). (written_values x.answer).bytes) e, left)

-- ---- the answer of the run

module _ (file : List ℕ) (budget : ℕ) (m : Memory) (out : List ℕ) (r : Result) (e : r ≡ call true file budget m) where
  called : forward_of file out r ≡ forward_call file budget m out
  unfolding forward_call
  called = ap (forward_of file out) e

  -- a run that does not finish leaves the output
  pub stays : finished r.answer ≡ false → record { ran = r; bytes = 0; out = out } ≡ forward_call file budget m out
  unfolding forward_of
  stays h = sym (rw h) ∙ called

  -- one that finishes is written
  pub carried : finished r.answer ≡ true → (n : ℕ) (o : List ℕ)
      → n ≡ (written_values (left_book file r.memory out).answer).bytes → o ≡ (left_book file r.memory out).out
      → record { ran = r; bytes = n; out = o } ≡ forward_call file budget m out
  unfolding forward_of
  carried h n o x y = (λ i. record { ran = r; bytes = x i; out = y i }) ∙ sym (rw h) ∙ called
