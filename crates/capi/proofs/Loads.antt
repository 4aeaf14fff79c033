-- What loading gives C, by the loader's verdict. Assumes nothing.
use mathlib.Core.Path.{◌≡◌, refl, ap}
use mathlib.Core.List.{List}
use Prim.Native.Nat.{ℕ, ◌<◌}
use native.Mathlib.Omega.{arith}
use lib.IntN.{ℤ}
use Rattle.book.specs.Refusals.{number_of, verdict_values, Verdict}
use Rattle.std.specs.Prelude.{Ok, Err}
use Rattle.book.specs.declared.Refusal.{Refusal}
use Rattle.loader.specs.Load.{load_verdict}
use Rattle.loader.specs.Load as loader
use Rattle.capi.specs.Calls.{loaded, LoadCall, load_numbers, load_call}
use Rattle.capi.specs.declared.Answered.{Answered}
use Rattle.capi.proofs.Indexes.{low_need, low_then, low_verdict}

module _ (file : List ℕ) (amounts : List ℤ) (presence labels : List ℕ) where
  load_low : (load_call file amounts presence labels).answer.at < 1024
  unfolding load_call load_numbers loaded loader.load_call load_verdict
  load_low = low_then _ _ (low_need _ _) λ _. low_verdict file

  module _ (v : Verdict) (a : List ℤ) (p l : List ℕ)
      (e : record { answer = v; amounts = a; presence = p; labels = l } ≡ loader.load_call file amounts presence labels) where
    pub load_accepted : v ≡ Ok tt → (r : Answered) → r ≡ record { number = 0; at = 0; bytes = 0 }
        → record { answer = r; amounts = a; presence = p; labels = l } ≡ load_call file amounts presence labels
    unfolding load_call load_numbers loaded verdict_values
    load_accepted q r t = rw t (rw q at (ap load_numbers e))

    module _ (refusal : Refusal) (q : v ≡ Err refusal) where
      pub load_refused : (r : Answered) → r ≡ record { number = number_of refusal.reason; at = refusal.index; bytes = 0 }
          → record { answer = r; amounts = a; presence = p; labels = l } ≡ load_call file amounts presence labels
      unfolding load_call load_numbers loaded verdict_values
      load_refused r t = rw t (rw q at (ap load_numbers e))

      pub load_index : refusal.index < 1024
      load_index = omega (arith, load_low, ap (λ (c : LoadCall). c.answer.at) (load_refused _ refl))
