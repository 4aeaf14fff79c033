-- The memory that an accepted call leaves: its lengths, and what the types of its slices say. Assumes nothing.
use mathlib.Core.Path.{◌≡◌, refl, ap, ◌∙◌}
use mathlib.Core.List.{List, [], ◌∷◌, ◌++◌}
use mathlib.Core.Bool.{Bool, true, ◌&&◌}
use Prim.Native.Nat.{ℕ, zero, suc, ◌/◌, ◌^◌, ◌≤◌, ◌<◌}
use native.Mathlib.Decide.{dec_lt}
use native.Mathlib.Omega.{arith}
use lib.Dec.{ltb}
use lib.IntN.{pos}
use lib.ListN.{length, get_or, get_or-eq_default}
use lib.Signed.{mag}
use borrow.Author.Tests.{ltb-true}
use mir.Syntax.{w32}
use mir.Val.{SFits}
use Rattle.places.specs.Sets.{Words}
use Rattle.places.proofs.Sets.{length_set_of, words_set_of}
use Rattle.book.specs.Bytes.{byte, Bytes}
use Rattle.book.specs.Layout.{decode}
use Rattle.book.specs.Start.{Lengths}
use Rattle.book.proofs.Chains.{both}
use Rattle.book.proofs.Tabulate.{length_tabulate}
use Rattle.monitor.specs.Labelled.{Lab}
use Rattle.monitor.specs.Run.{Cell, Out, done, stop}
use Rattle.monitor.specs.Call.{Memory, cells_of, amounts_in, presence_in, labels_in, run_book, memory_after, result_of, call}
use Rattle.monitor.proofs.Memory.{length_labels_in}
use Rattle.claims.specs.TwoBooks.{accepted, cells_in}
use Rattle.claims.proofs.Views.{end}
use Rattle.claims.proofs.Sized.{Sized, fine_run, fine_end}
use Rattle.claims.proofs.Demand3.{accepted_is}
use Rattle.claims.proofs.Inside.{below, below_at}
use Rattle.writer.specs.Claims.{Amounts}

-- ---- bytes, computed

unfoldable pub all_bytes : List ℕ → Bool
all_bytes [] = true
all_bytes (x ∷ s) = ltb x 256 && all_bytes s

pub bytes_are : (s : List ℕ) → all_bytes s ≡ true → Bytes s
unfolding all_bytes
bytes_are s h = record { fits = go s h }
  where
    go : (s : List ℕ) → all_bytes s ≡ true → (i : ℕ) → byte s i < 256
    go [] h i = omega arith
    go (x ∷ s) h zero = ltb-true x 256 (both (ltb x 256) (all_bytes s) h).0
    go (x ∷ s) h (suc i) = go s (both (ltb x 256) (all_bytes s) h).1 i

-- ---- words

words_more : {x : ℕ} {s : List ℕ} → x < 2 ^ 64 → Words s → Words (x ∷ s)
words_more {x} {s} h l = record { fits = go }
  where
    go : (w : ℕ) → get_or (x ∷ s) w 0 < 2 ^ 64
    go zero = h
    go (suc w) = l.fits w

words_append : (a b : List ℕ) → Words a → Words b → Words (a ++ b)
words_append [] b h l = l
words_append (x ∷ a) b h l = words_more (h.fits 0) (words_append a b (record { fits = λ w. h.fits (suc w) }) l)

words_labels : (cells : ℕ → Lab Cell) → ((q : ℕ) → Words (cells q).lab) → (n : ℕ) → Words (labels_in cells n)
unfolding labels_in
words_labels cells h zero = record { fits = λ w. omega arith }
words_labels cells h (suc n) = words_append (labels_in cells n) (cells n).lab (words_labels cells h n) (h n)

-- ---- what a run leaves

module _ (budget : ℕ) (m : Memory) where
  amounts_left : (o : Out (Unit {0})) → (result_of budget m o).memory.amounts ≡ amounts_in (end o).cells
  unfolding result_of memory_after end
  amounts_left (done t a s) = refl
  amounts_left (stop t h s) = refl

  presence_left : (o : Out (Unit {0})) → (result_of budget m o).memory.presence ≡ presence_in (end o).cells
  unfolding result_of memory_after end
  presence_left (done t a s) = refl
  presence_left (stop t h s) = refl

  labels_left : (o : Out (Unit {0})) → (result_of budget m o).memory.labels ≡ labels_in (end o).cells 512
  unfolding result_of memory_after end
  labels_left (done t a s) = refl
  labels_left (stop t h s) = refl

module _ (file : List ℕ) (budget : ℕ) (m : Memory) (a : accepted (call true file budget m).answer ≡ true) where
  abbrev o : Out (Unit {0})
  o = run_book true (decode file) budget (length m.trace / 8)

  at_end : Sized (end o)
  at_end = fine_end (fine_run true (decode file) budget (length m.trace / 8))

  amounts_are : (call true file budget m).memory.amounts ≡ amounts_in (end o).cells
  amounts_are = ap (λ r. r.memory.amounts) (accepted_is file budget m a) ∙ amounts_left budget m o

  presence_are : (call true file budget m).memory.presence ≡ presence_in (end o).cells
  presence_are = ap (λ r. r.memory.presence) (accepted_is file budget m a) ∙ presence_left budget m o

  labels_are : (call true file budget m).memory.labels ≡ labels_in (end o).cells 512
  labels_are = ap (λ r. r.memory.labels) (accepted_is file budget m a) ∙ labels_left budget m o

  pub lengths_left : Lengths (call true file budget m).memory.amounts (call true file budget m).memory.presence (call true file budget m).memory.labels
  unfolding amounts_in presence_in
  lengths_left = record {
    amounts_are = rw amounts_are (length_tabulate (λ q. ((end o).cells q).val.amount) 512);
    presence_is = rw presence_are (length_set_of 8 (λ q. ((end o).cells q).val.present));
    labels_are = rw labels_are (length_labels_in (end o).cells 512 at_end.cells);
  }

  pub presence_words : Words (call true file budget m).memory.presence
  unfolding presence_in
  presence_words = rw presence_are (words_set_of 8 (λ q. ((end o).cells q).val.present))

  pub labels_words : Words (call true file budget m).memory.labels
  labels_words = rw labels_are (words_labels (end o).cells (λ q. (at_end.short q).words) 512)

  -- by one computed test of the 512 places
  pub amounts_fit : (cells : ℕ → Lab Cell) → ((q : ℕ) → q < 512 → cells_in (call true file budget m).memory q ≡ cells q)
      → below (λ q. ltb (mag (cells q).val.amount) 2147483648) 512 ≡ true → Amounts (call true file budget m).memory.amounts
  unfolding cells_of
  amounts_fit cells same h = record { fits = λ p. go p (dec_lt p 512) }
    where
      go : (p : ℕ) → Dec (p < 512) → SFits w32 (get_or (call true file budget m).memory.amounts p (pos 0))
      go p (yes l) =
          let e : get_or (call true file budget m).memory.amounts p (pos 0) ≡ (cells p).val.amount = ap (λ (c : Lab Cell). c.val.amount) (same p l) in
          rw e (record { sfits = ltb-true (mag (cells p).val.amount) 2147483648 (below_at (λ q. ltb (mag (cells q).val.amount) 2147483648) 512 p h l) })
      go p (no g) =
          let past : length (call true file budget m).memory.amounts ≤ p = omega (arith, lengths_left.amounts_are) in
          rw (get_or-eq_default (call true file budget m).memory.amounts (pos 0) past) (record { sfits = ltb-true 0 2147483648 refl })
