-- The ways through put and clear: the evaluations, the write, and the triggers. Assumes nothing.
use mathlib.Core.Path.{◌≡◌, refl, sym, ap, subst, ◌∙◌}
use mathlib.Core.List.{List}
use Prim.Native.Nat.{ℕ, ◌+◌, ◌≤◌, ◌<◌}
use mathlib.Core.Bool.{true}
use native.Mathlib.Omega.{arith}
use lib.IntN.{ℤ, pos}
use lib.ListN.{length}
use Rattle.std.specs.Prelude.{Result, Ok, Err}
use Rattle.places.specs.Sets.{union}
use Rattle.places.proofs.Sets.{union_assoc}
use Rattle.book.specs.Records.{NodeRecord, Book}
use Rattle.book.specs.Kinds.{expression}
use Rattle.book.specs.Refusals.{node_at}
use Rattle.monitor.specs.Syntax.{put, clear, cmd_of}
use Rattle.monitor.specs.Labelled.{Label, bottom, Lab, lit, lift, lift2}
use Rattle.monitor.specs.Run.{Cell, M, next, ◌>>=◌, ◌>>◌, undoing}
use Rattle.monitor.specs.Rules.{Key, key, key_place, posting, within_label, trigger_run, fire, write_cell, monitored, command, exec}
use Rattle.machine.specs.Script.{script_of, Sound}
use Rattle.machine.specs.Store.{cells_held, Store, store, cell}
use Rattle.machine.specs.Promises.{Value, Outcome, stopped, Gives, Evaluates, Leaves, Does, env, Stands}
use Rattle.machine.specs.Writes.{event_number, key_of, Posted, posted_end, Posts, key_in, cell_in, Fires}
use Rattle.machine.specs.declared.Stopped.{Stopped}
use Rattle.machine.specs.declared.Who.{Who}
use Rattle.machine.specs.declared.lent.Run.{Run}
use Rattle.machine.specs.declared.lent.Sets.{Sets}
use Rattle.machine.specs.declared.lent.Event.{Event}
use Rattle.machine.specs.declared.lent.Event.TheVariants.{Put, Clear}
use Rattle.machine.specs.declared.lent.Entry.{Entry}
use Rattle.machine.proofs.Nodes.{stands_is, Child, put_p, put_a, put_b, clear_p, clear_a, clear_b}
use Rattle.machine.proofs.Runs.{after_none, does_as, then_stops, then_goes, value_stops, value_goes}
use Rattle.postings.proofs.Traces.{on_any, write_uses_none}
use Rattle.puts.specs.declared.Written.{Written}
use Rattle.puts.specs.Writing.{NewAmount, Writes}

-- what the fields of put and clear name
pub record Fields (s : Book) (n : ℕ) : Type 0 where
  pub p : (node_at s n).p < 8
  pub a : Child expression s n (node_at s n).a
  pub b : Child expression s n (node_at s n).b

pub post_fields : (s : Book) → Sound s → (n : ℕ) → n < length s.nodes → (event : Event) → (node_at s n).kind ≡ 20 + event_number event → Fields s n
unfolding event_number
post_fields s v n h Put e = record { p = put_p s v n h e; a = put_a s v n h e; b = put_b s v n h e }
post_fields s v n h Clear e = record { p = clear_p s v n h e; a = clear_a s v n h e; b = clear_b s v n h e }

-- a value with its label
abbrev labelled : {A : Type 0} → A → Label → Lab A
labelled a label = record { val = a; lab = label }

-- an expression by another number
pub named : (code : List ℕ) {cells : ℕ → Lab Cell} {vars : ℕ → Lab ℤ} {run : Run} {before : Label} {v : Value} {run' : Run} {after : Label} {a a' : ℕ} → a ≡ a'
    → Gives (Evaluates code a) cells vars run before v run' after → Gives (Evaluates code a') cells vars run before v run' after
named code {cells} {vars} {run} {before} {v} {run'} {after} e d = subst (λ (j : ℕ). Gives (Evaluates code j) cells vars run before v run' after) e d

-- ---- put and clear as one

as_put : (x : NodeRecord) → x.kind ≡ 21 → cmd_of x ≡ put x.p x.a x.b x.c
unfolding cmd_of
as_put x e = rw e

as_clear : (x : NodeRecord) → x.kind ≡ 22 → cmd_of x ≡ clear x.p x.a x.b
unfolding cmd_of
as_clear x e = rw e

module _ (code : List ℕ) (ctx : Label) (who : Who) (n : ℕ) (event : Event) where
  abbrev node : NodeRecord
  node = node_at (script_of code) n

  -- the write of the cell, when key and new amount are known
  writes : ℕ → Lab ℤ → Lab ℤ → Lab ℤ → M (Unit {0})
  writes fuel x y z = write_cell (script_of code) true (exec (script_of code) monitored fuel) (env ctx who) n (event_number event) node.p (key x y) (lift (cell (event_number event)) z)

  -- the new amount and the write, when the key is known
  amounts : ℕ → Lab ℤ → Lab ℤ → M (Unit {0})
  amounts fuel x y = NewAmount code n event fuel >>= writes fuel x y

  -- the line and what follows, when the owner is known
  lines : ℕ → Lab ℤ → M (Unit {0})
  lines fuel x = Evaluates code node.b fuel >>= amounts fuel x

post_event : (code : List ℕ) (ctx : Label) (who : Who) (n : ℕ) (event : Event) → (node_at (script_of code) n).kind ≡ 20 + event_number event → (fuel : ℕ)
    → Stands code ctx who n fuel ≡ (Evaluates code (node_at (script_of code) n).a fuel >>= lines code ctx who n event fuel)
unfolding command undoing NewAmount lines amounts writes lift lit next event_number
post_event code ctx who n Put kind fuel = stands_is code ctx who n (as_put (node_at (script_of code) n) kind) fuel
post_event code ctx who n Clear kind fuel =
    let x : NodeRecord = node_at (script_of code) n in
    stands_is code ctx who n (as_clear x kind) fuel
    ∙ ap (λ (k : Lab ℤ → Lab ℤ → M (Unit {0})). Evaluates code x.a fuel >>= λ o. Evaluates code x.b fuel >>= k o)
    (λ i o l s. sym (after_none (writes code ctx who n Clear fuel o l (lit (pos 0)) s)) i)

-- ---- the ways

module _ (code : List ℕ) (ctx : Label) (who : Who) (n : ℕ) (event : Event) (kind : (node_at (script_of code) n).kind ≡ 20 + event_number event)
    (vars : ℕ → Lab ℤ) (cells : List ℤ) (sets : Sets) (run : Run) where
  abbrev Writing : Result Written Stopped → List ℤ → Sets → Run → Label → Label → Type 0
  Writing r cells' sets' run' inner label = Writes code ctx who n event vars cells sets run r cells' sets' run' inner label

  -- before the write, only the numbers of the run change
  abbrev before : Run → List ℕ → ℕ → Store
  before run' trace loan = store cells sets run' trace loan

  -- the key or the amount has no value
  lacks : {run' : Run} {inner label : Label} → run'.left ≤ run.left → run'.used ≡ run.used
      → ((trace : List ℕ) (loan : ℕ) → run.used ≤ length trace → Does (Stands code ctx who n) vars (before run trace loan) (Err stopped) vars (before run' trace loan))
      → Writing (Err stopped) cells sets run' inner label
  lacks w e d = record {
    own = bottom;
    stops = λ _. d;
    goes = λ y q. absurd (none q);
    label_is = λ y q. absurd (none q);
    inside = λ y q. absurd (none q);
    within = w;
    used_same = e;
    public_same = refl;
    undo_same = refl;
  }
    where
      none : {y : Written} → ◌≡◌ {A = Result Written Stopped} (Err stopped) (Ok y) → ⊥
      none q = let z : ◌≡◌ {A = ℕ} 0 1 = cc in omega arith

  module _ {v₁ : Value} {run₁ : Run} {l₁ : Label} (d₁ : Gives (Evaluates code (node_at (script_of code) n).a) (cells_held cells sets) vars run ctx v₁ run₁ l₁) where
    pub owner_stops : {label : Label} → v₁ ≡ Err stopped → Writing (Err stopped) cells sets run₁ l₁ label
    owner_stops e = lacks d₁.within d₁.used_same
        (λ trace loan u. does_as (post_event code ctx who n event kind) (value_stops d₁ (lines code ctx who n event) e u))

    module _ {owner : ℤ} (e₁ : v₁ ≡ Ok owner) {v₂ : Value} {run₂ : Run} {l₂ : Label}
        (d₂ : Gives (Evaluates code (node_at (script_of code) n).b) (cells_held cells sets) vars run₁ l₁ v₂ run₂ l₂) where
      abbrev key_owner : Lab ℤ
      key_owner = labelled owner d₁.label

      to_line : (trace : List ℕ) (loan : ℕ) {r : Outcome} {x' : Store}
          → Does (λ fuel. lines code ctx who n event fuel key_owner) vars (before run₁ trace loan) r vars x'
          → Does (Stands code ctx who n) vars (before run trace loan) r vars x'
      to_line trace loan w = does_as (post_event code ctx who n event kind) (value_goes d₁ (lines code ctx who n event) owner e₁ w)

      pub line_stops : {label : Label} → v₂ ≡ Err stopped → Writing (Err stopped) cells sets run₂ l₂ label
      unfolding lines
      line_stops e = lacks (omega (arith, d₁.within, d₂.within)) (d₂.used_same ∙ d₁.used_same)
          (λ trace loan u. to_line trace loan (value_stops d₂ (λ fuel. amounts code ctx who n event fuel key_owner) e (omega (arith, d₁.used_same, u))))

      module _ {line : ℤ} (e₂ : v₂ ≡ Ok line) {v₃ : Value} {run₃ : Run} {l₃ : Label}
          (d₃ : Gives (NewAmount code n event) (cells_held cells sets) vars run₂ l₂ v₃ run₃ l₃) where
        abbrev key_line : Lab ℤ
        key_line = labelled line d₂.label

        to_amount : (trace : List ℕ) (loan : ℕ) {r : Outcome} {x' : Store}
            → Does (λ fuel. amounts code ctx who n event fuel key_owner key_line) vars (before run₂ trace loan) r vars x'
            → Does (Stands code ctx who n) vars (before run trace loan) r vars x'
        unfolding lines
        to_amount trace loan w = to_line trace loan (value_goes d₂ (λ fuel. amounts code ctx who n event fuel key_owner) line e₂ w)

        used_is : run₃.used ≡ run.used
        used_is = d₃.used_same ∙ d₂.used_same ∙ d₁.used_same

        pub amount_stops : {inner label : Label} → v₃ ≡ Err stopped → Writing (Err stopped) cells sets run₃ inner label
        unfolding amounts
        amount_stops e = lacks (omega (arith, d₁.within, d₂.within, d₃.within)) used_is
            (λ trace loan u. to_amount trace loan (value_stops d₃ (λ fuel. writes code ctx who n event fuel key_owner key_line) e (omega (arith, d₁.used_same, d₂.used_same, u))))

        -- the entry as it is made of the three
        module _ {amount : ℤ} (e₃ : v₃ ≡ Ok amount) {table : ℕ} (ep : table ≡ (node_at (script_of code) n).p)
            (entry : Entry) (ek : key_in entry ≡ key_of owner line) (em : entry.amount ≡ amount) where
          abbrev k : Key
          k = key_in entry

          abbrev z : Lab Cell
          z = cell_in event entry d₃.label

          inner_is : l₂ ≡ union ctx (union d₁.label d₂.label)
          inner_is = d₂.joined e₂ ∙ rw (d₁.joined e₁) (union_assoc ctx d₁.label d₂.label)

          -- the user who writes bears on no trigger
          posts_then : (fuel : ℕ) → writes code ctx who n event fuel key_owner key_line (labelled amount d₃.label)
              ≡ (posting true n l₂ who.user table k z >> Fires code l₂ who.above (event_number event) (key_place table k) k z fuel)
          unfolding writes key lift lift2 write_cell within_label fire trigger_run
          posts_then fuel i =
              let c : Lab Cell = labelled (cell (event_number event) (sym em i)) d₃.label in
              posting true n (sym inner_is i) who.user (sym ep i) (sym ek i) c
              >> Fires code (sym inner_is i) who.above (event_number event) (key_place (sym ep i) (sym ek i)) (sym ek i) c fuel

          to_write : (trace : List ℕ) (loan : ℕ) {r : Outcome} {x' : Store}
              → Does (λ fuel. posting true n l₂ who.user table k z >> Fires code l₂ who.above (event_number event) (key_place table k) k z fuel) vars (before run₃ trace loan) r vars x'
              → Does (Stands code ctx who n) vars (before run trace loan) r vars x'
          unfolding amounts
          to_write trace loan w = to_amount trace loan (value_goes d₃ (λ fuel. writes code ctx who n event fuel key_owner key_line) amount e₃ (does_as posts_then w))

          -- the write on one trace, by the event's number as the code has it
          module _ {given : List ℕ} {loan : ℕ} {r : Posted} {x' : Store} {number : ℕ} (en : number ≡ event_number event)
              (p : (own : Label) → l₃ ≡ union l₂ own → Posts n l₂ who.user table k (record { val = cell number entry.amount; lab = own }) (before run₃ given loan) r x') where
            once : Posts n l₂ who.user table k z (before run₃ given loan) r x'
            once = rw en at (p d₃.label (d₃.joined e₃))

            -- it does the same on any
            q : (trace : List ℕ) (loan : ℕ) → run.used ≤ length trace → Posts n l₂ who.user table k z (before run₃ trace loan) r (store x'.amounts x'.sets x'.run trace loan)
            q trace loan u = on_any n l₂ who.user table k z once trace loan (omega (arith, used_is, u))

            abbrev left : Leaves (before run₃ given loan) (once.does vars).records x'
            left = (once.does vars).leaves

            used_same : x'.run.used ≡ run.used
            used_same = write_uses_none n l₂ who.user table k z once vars ∙ used_is

            abbrev firing : ℕ → M (Unit {0})
            firing = Fires code l₂ who.above (event_number event) (key_place table k) k z

            -- a test fails
            pub write_stops : r ≡ Err stopped → Writing (Err stopped) x'.amounts x'.sets x'.run l₂ l₃
            unfolding posted_end
            write_stops e = record {
              own = d₃.label;
              stops = λ _ trace loan u. to_write trace loan (rw e at (then_stops firing ((q trace loan u).does vars) (rw e)));
              goes = λ y f. absurd (none f);
              label_is = λ y f. absurd (none f);
              inside = λ y f. absurd (none f);
              within = omega (arith, d₁.within, d₂.within, d₃.within, left.within);
              used_same = used_same;
              public_same = left.public_same;
              undo_same = left.undo_same;
            }
              where
                none : {y : Written} → ◌≡◌ {A = Result Written Stopped} (Err stopped) (Ok y) → ⊥
                none f = let z : ◌≡◌ {A = ℕ} 0 1 = cc in omega arith

            -- the cell is written
            pub write_goes : {place : ℕ} → r ≡ Ok place → Writing (Ok (record { place = place; entry = entry })) x'.amounts x'.sets x'.run l₂ l₃
            unfolding posted_end
            write_goes {place} e = record {
              own = d₃.label;
              stops = λ f. absurd (none f);
              goes = λ y f trace loan u w. to_write trace loan (then_goes ((q trace loan u).does vars) (rw e) (rw ((q trace loan u).place_is place e) at (rw (← same f) at w)));
              label_is = λ y f. d₃.joined e₃;
              inside = λ y f. rw (← same f) (once.place_inside place e);
              within = omega (arith, d₁.within, d₂.within, d₃.within, left.within);
              used_same = used_same;
              public_same = left.public_same;
              undo_same = left.undo_same;
            }
              where
                none : ◌≡◌ {A = Result Written Stopped} (Ok (record { place = place; entry = entry })) (Err stopped) → ⊥
                none f = let z : ◌≡◌ {A = ℕ} 0 1 = cc in omega arith

                same : {y : Written} → ◌≡◌ {A = Result Written Stopped} (Ok (record { place = place; entry = entry })) (Ok y) → ◌≡◌ {A = Written} (record { place = place; entry = entry }) y
                same f = cc
