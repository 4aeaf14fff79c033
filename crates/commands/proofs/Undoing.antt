-- A posting of the program's own: it is begun, does what it does, and is taken back if it stops. Assumes nothing.
use mathlib.Core.Path.{◌≡◌, refl, sym, ap, ◌∙◌, subst}
use mathlib.Core.List.{List, []}
use mathlib.Core.Bool.{Bool, true, false}
use Prim.Native.Nat.{ℕ, ◌+◌}
use lib.IntN.{ℤ}
use Rattle.std.specs.Prelude.{Ok, Err}
use Rattle.book.specs.Records.{NodeRecord}
use Rattle.book.specs.Refusals.{node_at}
use Rattle.monitor.specs.Labelled.{Label, Lab}
use Rattle.monitor.specs.Run.{Cell, M, taken_back, undoing}
use Rattle.monitor.specs.Syntax.{put, clear, cmd_of}
use Rattle.monitor.specs.Rules.{command}
use Rattle.machine.specs.Script.{script_of}
use Rattle.machine.specs.Store.{cells_held, idle, Store, store, state}
use Rattle.machine.specs.Promises.{Outcome, stopped, ended, Does, Commands, Stands, is_own}
use Rattle.machine.specs.declared.Who.{Who}
use Rattle.machine.specs.declared.lent.Event.{Event}
use Rattle.machine.specs.declared.lent.Event.TheVariants.{Put, Clear}
use Rattle.machine.specs.declared.lent.Sets.{Sets}
use Rattle.machine.specs.Writes.{event_number}
use Rattle.machine.proofs.Nodes.{command_is, stands_is}
use Rattle.machine.proofs.Runs.{does_as}
use Rattle.machine.proofs.Stores.{began_same, undo_idle}
use Rattle.undo.specs.Undo.{Begins, Ends}

-- ---- the rule: put and clear are taken back where they are the program's own

module _ (code : List ℕ) (ctx : Label) (who : Who) (n : ℕ) where
  abbrev node : NodeRecord
  node = node_at (script_of code) n

  taken : (event : Event) → node.kind ≡ 20 + event_number event → (fuel : ℕ) → Commands code ctx who n fuel ≡ undoing (is_own who) (Stands code ctx who n fuel)
  unfolding command undoing cmd_of event_number
  taken Put e fuel =
      let as_put : cmd_of node ≡ put node.p node.a node.b node.c = rw e in
      command_is code ctx who n as_put fuel ∙ ap (undoing (is_own who)) (sym (stands_is code ctx who n as_put fuel))
  taken Clear e fuel =
      let as_clear : cmd_of node ≡ clear node.p node.a node.b = rw e in
      command_is code ctx who n as_clear fuel ∙ ap (undoing (is_own who)) (sym (stands_is code ctx who n as_clear fuel))

-- ---- begun, done and ended

-- once it is begun a posting is under way, its own or the one that it belongs to; the public set stays
module _ {sets sets' : Sets} {r : Bool} (e : (r ≡ idle sets) × (r ≡ true → Begins sets sets') × (r ≡ false → sets' ≡ sets)) where
  pub under_way : idle sets' ≡ false
  under_way = go r refl
    where
      go : (b : Bool) → r ≡ b → idle sets' ≡ false
      go true q = (e.1 q).under_way
      go false q = ap idle (e.2 q) ∙ sym e.0 ∙ q

  pub begun_public : sets'.public ≡ sets.public
  begun_public = go r refl
    where
      go : (b : Bool) → r ≡ b → sets'.public ≡ sets.public
      go true q = ((e.1 q).same []).public_same
      go false q = ap (λ s. s.public) (e.2 q)

-- a store with other sets
abbrev pub with_sets : Store → Sets → Store
with_sets x sets = store x.amounts sets x.run x.trace x.loan

module _ {vars vars' : ℕ → Lab ℤ} {x x' : Store} {sets : Sets} (idles : idle x.sets ≡ true) (b : Begins x.sets sets)
    {m : ℕ → M (Unit {0})} {r : Outcome} (d : Does m vars (with_sets x sets) r vars' x')
    {amounts' : List ℤ} {sets' : Sets} (e : Ends r x'.amounts x'.sets amounts' sets') where
  abbrev ending : Store
  ending = store amounts' sets' x'.run x'.trace x'.loan

  abbrev cells : ℕ → Lab Cell
  cells = cells_held x.amounts x.sets

  -- what was kept is what was there
  cells_back : r ≡ Err stopped → cells_held amounts' sets' ≡ cells
  cells_back o = e.stopped o ∙ began_same x.amounts x'.amounts sets x'.sets d.leaves.undo_same b.under_way ∙ b.began_is x.amounts

  back : (o : Outcome) → r ≡ o → taken_back cells (ended o x'.run x'.sets d.records (state vars' x')) ≡ ended o x'.run sets' d.records (state vars' ending)
  unfolding ended taken_back
  back (Ok u) q = rw (e.done q, e.stays.rights_same)
  back (Err o) q = rw (cells_back q, e.stays.rights_same, e.stays.tested_same, e.stays.bound_same)

  begun : state vars x ≡ state vars (with_sets x sets)
  begun = rw ((b.same x.amounts).cells_same, (b.same x.amounts).rights_same)

  undone_does : Does (λ fuel. undoing true (m fuel)) vars x r vars' ending
  unfolding undoing
  undone_does = record {
    records = d.records;
    is = λ fuel h. ap (λ s. taken_back cells (m fuel s)) begun ∙ ap (taken_back cells) (d.is fuel h) ∙ back r refl;
    leaves = record {
      trace_is = d.leaves.trace_is;
      used_is = d.leaves.used_is;
      fits = d.leaves.fits;
      within = d.leaves.within;
      public_same = e.stays.public_same ∙ d.leaves.public_same ∙ (b.same x.amounts).public_same;
      undo_same = undo_idle amounts' sets' e.over ∙ sym (undo_idle x.amounts x.sets idles);
      loan_same = d.leaves.loan_same;
    };
  }

module _ (code : List ℕ) (ctx : Label) (who : Who) (n : ℕ) (event : Event) (kind : (node_at (script_of code) n).kind ≡ 20 + event_number event)
    {vars vars' : ℕ → Lab ℤ} {x x' : Store} {r : Outcome} where
  -- a posting of the program's own
  pub own_posts : is_own who ≡ true → idle x.sets ≡ true → {sets sets' : Sets} {amounts' : List ℤ} → Begins x.sets sets
      → Does (Stands code ctx who n) vars (with_sets x sets) r vars' x' → Ends r x'.amounts x'.sets amounts' sets'
      → Does (Commands code ctx who n) vars x r vars' (store amounts' sets' x'.run x'.trace x'.loan)
  own_posts own idles b d e = does_as (λ fuel. taken code ctx who n event kind fuel ∙ rw own) (undone_does idles b d e)

  -- one of a trigger
  pub inner_posts : is_own who ≡ false → {sets : Sets} → sets ≡ x.sets → Does (Stands code ctx who n) vars (with_sets x sets) r vars' x'
      → Does (Commands code ctx who n) vars x r vars' x'
  unfolding undoing
  inner_posts other same d = does_as (λ fuel. taken code ctx who n event kind fuel ∙ rw other)
      (subst (λ s. Does (Stands code ctx who n) vars (with_sets x s) r vars' x') same d)
