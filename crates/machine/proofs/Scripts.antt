-- What is known of a region, a trigger and a program of the script that is run. Assumes nothing.
use mathlib.Core.Path.{◌≡◌, sym, ap, ◌∙◌}
use mathlib.Core.List.{List}
use mathlib.Core.Bool.{true}
use Prim.Native.Nat.{ℕ, ◌+◌, ◌*◌, ◌≤◌, ◌<◌}
use native.Mathlib.Nat.{mul_comm}
use native.Mathlib.Omega.{arith}
use lib.Dec.{eqb, leb, ltb}
use lib.ListN.{length, get_or}
use borrow.Author.Tests.{eqb-true, leb-true, ltb-true, not-false}
use Rattle.book.specs.Bytes.{byte, le16}
use Rattle.book.specs.Records.{RegionRecord, ProgramRecord, TriggerRecord, Book, region_of, regions_format, programs_format, triggers_format}
use Rattle.book.specs.Kinds.{command, between}
use Rattle.book.specs.Refusals.{no_region, is_command, no_program, program_fits, bad_program, no_trigger, trigger_fits, bad_trigger, region_fits, bad_region}
use Rattle.book.proofs.Chains.{both}
use Rattle.book.proofs.Records.{length_records, record_at}
use Rattle.monitor.specs.Rules.{trigger_at}
use Rattle.machine.specs.Script.{regions_start, programs_start, triggers_start, counts_start, held_count, script_of, Runnable, Node}

-- the counts that the code reads
pub programs_count : (code : List ℕ) → length (script_of code).programs ≡ held_count code 3
unfolding script_of
programs_count code = length_records programs_format _ _ code

pub triggers_count : (code : List ℕ) → length (script_of code).triggers ≡ held_count code 4
unfolding script_of
triggers_count code = length_records triggers_format _ _ code

-- a root or a body is a command
as_command : (b : Book) (n : ℕ) → is_command b n ≡ true → Node command b n
unfolding is_command
as_command b n e =
    let q = both (ltb n (length b.nodes)) _ e in
    record { inside = ltb-true n (length b.nodes) q.0; sort_is = eqb-true _ _ q.1 }

-- ---- regions

module _ (code : List ℕ) (v : Runnable code) (j : ℕ) (h : j < length (script_of code).regions) where
  pub region_end : regions_start + 8 * j + 8 ≤ length code
  region_end = omega (arith, v.long, v.sound.few_regions)

  region_record : get_or (script_of code).regions j no_region ≡ regions_format.read code (regions_start + 8 * j)
  unfolding script_of regions_format
  region_record =
      let count : length (script_of code).regions ≡ held_count code 0 = length_records regions_format _ _ code in
      record_at regions_format _ regions_start code j no_region (omega (arith, h, count)) ∙ ap (λ (k : ℕ). regions_format.read code (regions_start + k)) (mul_comm j 8)

  pub region_is : region_of (regions_format.read code (regions_start + 8 * j)) ≡ region_of (get_or (script_of code).regions j no_region)
  region_is = ap region_of (sym region_record)

  pub region_table : (region_of (regions_format.read code (regions_start + 8 * j))).table < 8
  unfolding bad_region region_fits
  region_table =
      let r : RegionRecord = get_or (script_of code).regions j no_region in
      let fits = not-false (region_fits r) (v.sound.regions_ok j h) in
      let low = leb-true r.table 7 (both (leb r.table 7) _ fits).0 in
      rw (← region_record) (omega (arith, low))

-- ---- triggers

-- the trigger's record stands at this byte of the script, and it names what there is
pub record TriggerRead (code : List ℕ) (at : ℕ) (x : TriggerRecord) : Type 0 where
  pub region : byte code at ≡ x.region
  pub event : byte code (at + 1) ≡ x.event
  pub user : byte code (at + 2) ≡ x.user
  pub body : le16 code (at + 4) ≡ x.body
  pub end : at + 8 ≤ length code
  pub short : at + 8 ≤ counts_start
  pub region_exists : x.region < length (script_of code).regions
  pub user_below : x.user < 8
  pub body_command : Node command (script_of code) x.body

module _ (code : List ℕ) (v : Runnable code) (t : ℕ) (h : t < length (script_of code).triggers) where
  abbrev x : TriggerRecord
  x = trigger_at (script_of code) t

  trigger_record : x ≡ triggers_format.read code (triggers_start + 8 * t)
  unfolding script_of triggers_format
  trigger_record =
      record_at triggers_format _ triggers_start code t no_trigger (omega (arith, h, triggers_count code))
      ∙ ap (λ (k : ℕ). triggers_format.read code (triggers_start + k)) (mul_comm t 8)

  pub trigger_read_at : TriggerRead code (triggers_start + 8 * t) x
  unfolding triggers_format bad_trigger trigger_fits
  trigger_read_at =
      let few = v.sound.few_triggers in
      let is = trigger_record in
      let fits = not-false (trigger_fits (script_of code) x) (v.sound.triggers_ok t h) in
      let region = both (ltb x.region (length (script_of code).regions)) _ fits in
      let event = both (between 1 2 x.event) _ region.1 in
      let user = both (leb x.user 7) _ event.1 in
      let zero = both (eqb x.zero 0) _ user.1 in
      let body = both (is_command (script_of code) x.body) _ zero.1 in
      record {
        region = ap (λ (y : TriggerRecord). y.region) (sym is);
        event = ap (λ (y : TriggerRecord). y.event) (sym is);
        user = ap (λ (y : TriggerRecord). y.user) (sym is);
        body = ap (λ (y : TriggerRecord). y.body) (sym is);
        end = omega (arith, few, v.long);
        short = omega (arith, few);
        region_exists = ltb-true x.region (length (script_of code).regions) region.0;
        user_below = omega (arith, leb-true x.user 7 user.0);
        body_command = as_command (script_of code) x.body body.0;
      }

-- ---- programs

pub record ProgramRead (code : List ℕ) (at : ℕ) (x : ProgramRecord) : Type 0 where
  pub user : byte code at ≡ x.user
  pub root : le16 code (at + 2) ≡ x.root
  pub end : at + 4 ≤ length code
  pub short : at + 4 ≤ counts_start
  pub user_below : x.user < 8
  pub root_command : Node command (script_of code) x.root

module _ (code : List ℕ) (v : Runnable code) (i : ℕ) (h : i < length (script_of code).programs) where
  abbrev program : ProgramRecord
  program = get_or (script_of code).programs i no_program

  program_record : program ≡ programs_format.read code (programs_start + 4 * i)
  unfolding script_of programs_format
  program_record =
      record_at programs_format _ programs_start code i no_program (omega (arith, h, programs_count code))
      ∙ ap (λ (k : ℕ). programs_format.read code (programs_start + k)) (mul_comm i 4)

  pub program_read_at : ProgramRead code (programs_start + 4 * i) program
  unfolding programs_format bad_program program_fits
  program_read_at =
      let few = v.sound.few_programs in
      let is = program_record in
      let fits = not-false (program_fits (script_of code) program) (v.sound.programs_ok i h) in
      let user = both (leb program.user 7) _ fits in
      let zero = both (eqb program.zero 0) _ user.1 in
      record {
        user = ap (λ (y : ProgramRecord). y.user) (sym is);
        root = ap (λ (y : ProgramRecord). y.root) (sym is);
        end = omega (arith, few, v.long);
        short = omega (arith, few);
        user_below = omega (arith, leb-true program.user 7 user.0);
        root_command = as_command (script_of code) program.root zero.1;
      }
