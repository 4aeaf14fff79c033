-- The loops that look for the first bad record of a section. Assumes nothing.
use mathlib.Core.Path.{◌≡◌, sym, ap}
use mathlib.Core.Bool.{Bool, true, false}
use mathlib.Core.List.{List}
use Prim.Native.Nat.{ℕ, ◌+◌, ◌*◌, ◌≤◌, ◌<◌}
use native.Mathlib.Omega.{arith}
use lib.ListN.{length}
use Rattle.book.specs.Layout.{section}
use Rattle.std.specs.Prelude.{Some, None}
use Rattle.book.specs.Refusals.{first_bad}
use Rattle.book.specs.declared.Section.{Section}
use Rattle.book.proofs.First.{NoneBelow, none_yet, none_next, first_bad_none, first_bad_found}

-- the n records of section x, of `size` bytes each from byte `start` on, lie in the file, and none of the first i is bad
pub record ScanOf (s : List ℕ) (x : Section) (size : ℕ) (bad : ℕ → Bool) (start n i : ℕ) : Type 0 where
  pub starts : start ≡ x.start
  pub counts : n ≡ x.count
  pub inside : start + n * size ≤ length s
  pub passed : i ≤ n
  pub none : NoneBelow bad i

-- of section k
abbrev pub Scan : List ℕ → ℕ → ℕ → (ℕ → Bool) → ℕ → ℕ → ℕ → Type 0
Scan s k size bad start n i = ScanOf s (section s k) size bad start n i

module _ {s : List ℕ} {x : Section} {size : ℕ} {bad : ℕ → Bool} where
  pub scan_begins : {y : Section} → y ≡ x → x.start + x.count * size ≤ length s → ScanOf s x size bad y.start y.count 0
  scan_begins {y} e h =
      let p : y.start ≡ x.start = ap (λ (z : Section). z.start) e in
      let q : y.count ≡ x.count = ap (λ (z : Section). z.count) e in
      record { starts = p; counts = q; inside = rw (p, q) h; passed = omega arith; none = none_yet bad }

  pub scan_next : {start n i : ℕ} → ScanOf s x size bad start n i → i < n → bad i ≡ false → ScanOf s x size bad start n (i + 1)
  scan_next {i = i} c h e =
      record { starts = c.starts; counts = c.counts; inside = c.inside; passed = omega arith; none = none_next bad i c.none e }

  pub scan_found : {start n i : ℕ} → ScanOf s x size bad start n i → i < n → bad i ≡ true → Some i ≡ first_bad bad x.count
  scan_found {i = i} c h e = sym (first_bad_found bad x.count i (omega arith) c.none e)

  pub scan_ends : {start n i : ℕ} → ScanOf s x size bad start n i → n ≤ i → None ≡ first_bad bad x.count
  scan_ends {n = n} {i = i} c h =
      let e : i ≡ x.count = omega arith in
      sym (first_bad_none bad x.count (rw e at c.none))
