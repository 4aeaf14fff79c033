-- A script whose sections were copied one after another holds the book's, and can be run. Assumes nothing.
use mathlib.Core.Path.{◌≡◌, refl, sym, ap, ◌∙◌, subst, fun_ext}
use mathlib.Core.List.{List, []}
use mathlib.Core.Bool.{Bool, ◌||◌}
use Prim.Native.Nat.{ℕ, zero, suc, ◌+◌, ◌*◌, ◌≤◌}
use native.Mathlib.Omega.{arith}
use lib.Dec.{lit<}
use lib.ListN.{length}
use Rattle.book.specs.Bytes.{Bytes}
use Rattle.book.specs.Records.{Format, records, Book, NodeRecord, regions_format, rights_format, nodes_format, programs_format, triggers_format}
use Rattle.book.specs.Kinds.{Fields, fields_of}
use Rattle.book.specs.Layout.{count, section, section_records, decode}
use Rattle.book.specs.Refusals.{right_fits, bad_right, node_at, field_fits, node_fits, is_command, program_fits, bad_program, forbidden, child, reaches, trigger_fits, bad_trigger, verdict}
use Rattle.std.specs.Prelude.{Ok}
use Rattle.book.proofs.Accepted.{placed, accepted, regions_inside, rights_inside, nodes_inside, programs_inside, triggers_inside}
use Rattle.book.proofs.Decoded.{count_regions, count_rights, count_nodes, count_programs, count_triggers}
use Rattle.monitor.specs.Call.{script}
use Rattle.machine.specs.Script.{prices_start, regions_start, rights_start, programs_start, triggers_start, counts_start, script_bytes, script_of, Sound, Runnable}
use Rattle.encoder.proofs.Codec.{Codec, regions_codec, rights_codec, nodes_codec, programs_codec, triggers_codec}
use Rattle.start.specs.Start.{Stays, Part, Prices, Counts}
use Rattle.start.proofs.Copies.{stays_then, le32_same, part_same, records_copied}

-- ---- the script of an accepted book is sound: the checks look at no cell

reaches_same : (b : Book) (depth i : ℕ) → reaches (script b) depth i ≡ reaches b depth i
unfolding reaches script
reaches_same b zero i = refl
reaches_same b (suc depth) i =
    let x : NodeRecord = node_at b i in
    let u : Fields = fields_of x.kind in
    ap (λ (below : ℕ → Bool). forbidden x.kind || (child below u.a x.a || (child below u.b x.b || (child below u.c x.c || child below u.d x.d))))
    (fun_ext (reaches_same b depth))

trigger_same : (b : Book) (i : ℕ) → bad_trigger (script b) i ≡ bad_trigger b i
unfolding bad_trigger trigger_fits is_command script
trigger_same b i = rw (reaches_same b)

sound : (file : List ℕ) → verdict file ≡ Ok tt → Sound (script (decode file))
unfolding script bad_right right_fits field_fits node_fits is_command program_fits bad_program
sound file v =
    let good = accepted file v in
    let sited = placed file v in
    record {
      few_regions = omega (arith, count_regions file, sited.few_regions);
      few_rights = omega (arith, count_rights file, sited.few_rights);
      few_nodes = omega (arith, count_nodes file, sited.few_nodes);
      few_programs = omega (arith, count_programs file, sited.few_programs);
      few_triggers = omega (arith, count_triggers file, sited.few_triggers);
      regions_ok = λ i h. good.regions_ok i (omega (arith, h, count_regions file));
      rights_ok = λ i h. good.rights_ok i (omega (arith, h, count_rights file));
      nodes_ok = λ i h. good.nodes_ok i (omega (arith, h, count_nodes file));
      programs_ok = λ i h. good.programs_ok i (omega (arith, h, count_programs file));
      triggers_ok = λ i h. trigger_same (decode file) i ∙ good.triggers_ok i (omega (arith, h, count_triggers file));
    }

-- ---- the copies, as the contracts say them

module _ (file : List ℕ) (v : verdict file ≡ Ok tt) (b : Bytes file) where
  -- the records of a section that was copied, and stood below byte m while the rest was
  section_held : {A : Type 0} {f : Format A} → Codec f → (i at m n : ℕ) (c code : List ℕ) → Part file i f.size at c → Stays m c code → n ≡ count file i
      → (section file i).start + f.size * count file i ≤ length file → at + f.size * count file i ≤ m → m ≤ length code → records f n at code ≡ section_records f i file
  section_held {A} {f} codec i at m n c code part stays e inside below long =
      ap (λ (k : ℕ). records f k at code) e
      ∙ records_copied codec file code (count file i) (section file i).start at b inside (omega arith) (part_same m c code stays (f.size * count file i) at below ∙ part)

  pub all_copied : (c₀ c₁ c₂ c₃ c₄ c₅ c₆ code : List ℕ) → length code ≡ script_bytes
      → Stays 0 c₀ c₁ × Part file 3 16 0 c₁
      → Stays prices_start c₁ c₂ × Prices c₂
      → Stays regions_start c₂ c₃ × Part file 1 8 regions_start c₃
      → Stays rights_start c₃ c₄ × Part file 2 4 rights_start c₄
      → Stays programs_start c₄ c₅ × Part file 4 4 programs_start c₅
      → Stays triggers_start c₅ c₆ × Part file 5 8 triggers_start c₆
      → Stays counts_start c₆ code × Counts file code
      → Runnable code × (script_of code ≡ script (decode file))
  unfolding script_of script decode regions_format rights_format nodes_format programs_format triggers_format
  all_copied c₀ c₁ c₂ c₃ c₄ c₅ c₆ code long nodes prices regions rights programs triggers counts =
      let z = placed file v in
      let t₅ : Stays triggers_start c₅ code = stays_then (omega arith) triggers.0 counts.0 in
      let t₄ : Stays programs_start c₄ code = stays_then (omega arith) programs.0 t₅ in
      let t₃ : Stays rights_start c₃ code = stays_then (omega arith) rights.0 t₄ in
      let t₂ : Stays regions_start c₂ code = stays_then (omega arith) regions.0 t₃ in
      let t₁ : Stays prices_start c₁ code = stays_then (omega arith) prices.0 t₂ in
      let same : script_of code ≡ script (decode file) = λ i. record {
        cells = [];
        regions = section_held regions_codec 1 regions_start _ _ c₃ code regions.1 t₃ (counts.1 0 (lit< tt))
            (omega (arith, regions_inside z)) (omega (arith, z.few_regions)) (omega (arith, long)) i;
        rights = section_held rights_codec 2 rights_start _ _ c₄ code rights.1 t₄ (counts.1 1 (lit< tt))
            (omega (arith, rights_inside z)) (omega (arith, z.few_rights)) (omega (arith, long)) i;
        nodes = section_held nodes_codec 3 0 _ _ c₁ code nodes.1 t₁ (counts.1 2 (lit< tt))
            (omega (arith, nodes_inside z)) (omega (arith, z.few_nodes)) (omega (arith, long)) i;
        programs = section_held programs_codec 4 programs_start _ _ c₅ code programs.1 t₅ (counts.1 3 (lit< tt))
            (omega (arith, programs_inside z)) (omega (arith, z.few_programs)) (omega (arith, long)) i;
        triggers = section_held triggers_codec 5 triggers_start _ _ c₆ code triggers.1 counts.0 (counts.1 4 (lit< tt))
            (omega (arith, triggers_inside z)) (omega (arith, z.few_triggers)) (omega (arith, long)) i;
        labels = [];
      } in (
        record {
          long = long;
          sound = subst Sound (sym same) (sound file v);
          prices_are = λ kind h. le32_same regions_start c₂ code t₂ (prices_start + 4 * kind) (omega arith) ∙ prices.1 kind h;
        },
        same,
      )
