-- The rights at the start: one record more, from the last to the first. Assumes nothing.
use mathlib.Core.Path.{◌≡◌, sym, ap, ◌∙◌}
use mathlib.Core.List.{List, [], ◌∷◌}
use Prim.Native.Nat.{ℕ, suc, ◌+◌, ◌-◌, ◌*◌, ◌≤◌, ◌<◌}
use native.Mathlib.Nat.{mul_comm}
use native.Mathlib.Omega.{arith}
use lib.Dec.{leb, ltb}
use lib.ListN.{length, get_or, drop, replicate, drop_of_length-le}
use lib.Seq.{drop-cons}
use borrow.Author.Tests.{eq-eqb, ne_eqb, ltb-true, not-false}
use Rattle.places.specs.Sets.{set_of, union}
use Rattle.regions.specs.Regions.{in_region, region_set}
use Rattle.regions.specs.declared.Region.{Region}
use Rattle.places.proofs.Sets.{union_set_of}
use Rattle.places.proofs.Shapes.{set_of_cong, set_of_none}
use Rattle.book.specs.Bytes.{byte}
use Rattle.book.specs.Records.{RightRecord, Book, region_of, rights_format}
use Rattle.book.specs.Refusals.{no_region, no_right, right_fits, bad_right}
use Rattle.book.specs.Start.{rights_hold, right_set}
use Rattle.book.proofs.Chains.{both}
use Rattle.book.proofs.Records.{length_records, record_at}
use Rattle.monitor.specs.Rules.{region_places}
use Rattle.machine.specs.Script.{rights_start, programs_start, held_count, script_of, Runnable}

-- ---- the set of some records

abbrev pub held : Book → ℕ → ℕ → List RightRecord → List ℕ
held b kind user rs = set_of 8 (rights_hold b kind user rs)

module _ (b : Book) (kind user : ℕ) where
  held_none : replicate 8 0 ≡ held b kind user []
  unfolding rights_hold
  held_none = sym (set_of_none 8)

  module _ (r : RightRecord) (rs : List RightRecord) where
    abbrev region : Region
    region = region_of (get_or b.regions r.region no_region)

    -- a record of this kind and user adds its region's places
    held_more : r.kind ≡ kind → r.user ≡ user → union (region_set 8 region) (held b kind user rs) ≡ held b kind user (r ∷ rs)
    unfolding rights_hold region_set
    held_more k u =
        union_set_of 8 (in_region region) (rights_hold b kind user rs)
        ∙ set_of_cong _ _ 8 (λ p h. sym (rw (eq-eqb r.kind kind k, eq-eqb r.user user u)))

    -- another record adds nothing
    held_kind : (r.kind ≡ kind → ⊥) → held b kind user rs ≡ held b kind user (r ∷ rs)
    unfolding rights_hold
    held_kind k = set_of_cong _ _ 8 (λ p h. sym (rw (ne_eqb r.kind kind k)))

    held_user : r.kind ≡ kind → (r.user ≡ user → ⊥) → held b kind user rs ≡ held b kind user (r ∷ rs)
    unfolding rights_hold
    held_user k u = set_of_cong _ _ 8 (λ p h. sym (rw (eq-eqb r.kind kind k, ne_eqb r.user user u)))

-- ---- the loop: the records from `right` on are gathered

pub record Gathering (b : Book) (kind user : ℕ) (words : List ℕ) (right : ℕ) : Type 0 where
  pub upto : right ≤ length b.rights
  pub words_are : words ≡ held b kind user (drop right b.rights)

module _ (code : List ℕ) (v : Runnable code) (kind user : ℕ) where
  abbrev b : Book
  b = script_of code

  rights_count : length b.rights ≡ held_count code 1
  unfolding script_of
  rights_count = length_records rights_format _ _ code

  pub gathering_none : {right : ℕ} → right ≡ held_count code 1 → Gathering b kind user (replicate 8 0) right
  gathering_none {right} e =
      let none : drop right b.rights ≡ [] = drop_of_length-le b.rights {i = right} (omega (arith, e, rights_count)) in
      record {
        upto = omega (arith, e, rights_count);
        words_are = held_none b kind user ∙ ap (held b kind user) (sym none);
      }

  module _ {right : ℕ} {words : List ℕ} (g : Gathering b kind user words right) (h : 0 < right) where
    abbrev i : ℕ
    i = right - 1

    abbrev at : ℕ
    at = rights_start + 4 * i

    abbrev r : RightRecord
    r = get_or b.rights i no_right

    lt : i < length b.rights
    lt = omega (arith, g.upto)

    -- the record stands in the script
    pub right_end : at + 4 ≤ programs_start
    right_end = omega (arith, lt, v.sound.few_rights)

    right_read : r ≡ rights_format.read code at
    unfolding script_of rights_format
    right_read = record_at rights_format _ rights_start code i no_right (omega (arith, lt, rights_count)) ∙ ap (λ (k : ℕ). rights_format.read code (rights_start + k)) (mul_comm i 4)

    kind_read : byte code at ≡ r.kind
    unfolding rights_format
    kind_read = ap (λ (x : RightRecord). x.kind) (sym right_read)

    user_read : byte code (at + 1) ≡ r.user
    unfolding rights_format
    user_read = ap (λ (x : RightRecord). x.user) (sym right_read)

    region_read : byte code (at + 2) ≡ r.region
    unfolding rights_format
    region_read = ap (λ (x : RightRecord). x.region) (sym right_read)

    -- the region that it names
    pub region_exists : byte code (at + 2) < length b.regions
    unfolding bad_right right_fits
    region_exists =
        let fits = not-false (right_fits b r) (v.sound.rights_ok i lt) in
        let kind_ok = both (leb r.kind 2) _ fits in
        let user_ok = both (leb r.user _) _ kind_ok.1 in
        let region_ok = both (ltb r.region (length b.regions)) _ user_ok.1 in
        omega (arith, region_read, ltb-true r.region (length b.regions) region_ok.0)

    on : (words' : List ℕ) → words' ≡ held b kind user (r ∷ drop right b.rights) → Gathering b kind user words' i
    on words' e =
        let n : suc i ≡ right = omega arith in
        let more : drop i b.rights ≡ r ∷ drop right b.rights = drop-cons b.rights i no_right lt ∙ rw n in
        record { upto = omega (arith, g.upto); words_are = e ∙ ap (held b kind user) (sym more) }

    -- the record is of another kind
    pub gathered_kind : (byte code at ≡ kind → ⊥) → Gathering b kind user words i
    gathered_kind k = on words (g.words_are ∙ held_kind b kind user r (drop right b.rights) (λ e. k (kind_read ∙ e)))

    -- it is for another user
    pub gathered_user : byte code at ≡ kind → (byte code (at + 1) ≡ user → ⊥) → Gathering b kind user words i
    gathered_user k u =
        on words (g.words_are ∙ held_user b kind user r (drop right b.rights) (sym kind_read ∙ k) (λ e. u (user_read ∙ e)))

    -- it counts
    pub gathered_more : byte code at ≡ kind → byte code (at + 1) ≡ user
        → (region : ℕ) (places words' : List ℕ) → region ≡ byte code (at + 2) → places ≡ region_places b region → words' ≡ union places words
        → Gathering b kind user words' i
    unfolding region_places
    gathered_more k u region places words' e p w =
        on words' (w ∙ rw (p, e ∙ region_read, g.words_are) (held_more b kind user r (drop right b.rights) (sym kind_read ∙ k) (sym user_read ∙ u)))

  pub gathered : {right : ℕ} {words : List ℕ} → Gathering b kind user words right → right ≤ 0 → words ≡ right_set b kind user
  unfolding right_set
  gathered {right = right} g h =
      let e : right ≡ 0 = omega arith in
      g.words_are ∙ rw e
