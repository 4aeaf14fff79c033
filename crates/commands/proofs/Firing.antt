-- The triggers that a write fires, by number. Assumes nothing.
use mathlib.Core.Path.{◌≡◌, refl, sym, ap, ◌∙◌}
use mathlib.Core.List.{List, []}
use mathlib.Core.Bool.{Bool, true, false, cond}
use Prim.Native.Nat.{ℕ, zero, suc, ◌-◌, ◌≤◌, ◌<◌}
use native.Mathlib.Decide.{dec_lt}
use native.Mathlib.Omega.{arith}
use borrow.Author.Tests.{lt-ltb, le-ltb}
use lib.Dec.{ltb}
use lib.IntN.{ℤ, pos}
use lib.ListN.{length, get_or, replicate, get_or-replicate, get_or-eq_default}
use Rattle.places.specs.Sets.{union}
use Rattle.std.specs.Prelude.{Ok, Err, Option, Some, None}
use Rattle.book.specs.Kinds.{command}
use Rattle.monitor.specs.Labelled.{Label, Lab, lift, under}
use Rattle.monitor.specs.Run.{Cell, State, done, M, next, ◌>>◌, each, when, update, sixteen, own}
use Rattle.monitor.specs.Rules.{Key, monitored, trigger_vars, numbers, trigger_at, fitting, trigger_run, fire, exec}
use Rattle.machine.specs.Script.{script_of, Runnable, Node}
use Rattle.machine.specs.Store.{row_at, vars_of, Store, state}
use Rattle.machine.specs.Promises.{Outcome, stopped, Does, Enters}
use Rattle.machine.specs.declared.lent.Event.{Event}
use Rattle.machine.specs.declared.lent.Entry.{Entry}
use Rattle.machine.specs.Writes.{event_number, key_in, cell_in, Fires}
use Rattle.triggers.specs.declared.Fitting.{Fitting}
use Rattle.triggers.specs.Search.{first_fitting}
use Rattle.machine.proofs.Scripts.{trigger_read_at}
use Rattle.commands.proofs.Steps.{Keeps}
use Rattle.machine.proofs.Runs.{after_none, comes_to, does_as, sets_vars, then_stops, then_goes, own_does}

-- ---- a trigger's variables

-- sixteen zeros of one label
pub sixteen_are : (ctx : Label) → vars_of (record { values = replicate 16 (pos 0); labels = replicate 16 ctx }) ≡ sixteen (record { val = pos 0; lab = ctx })
unfolding vars_of sixteen
sixteen_are ctx = λ i p. at p (dec_lt p 16) i
  where
    at : (p : ℕ) → Dec (p < 16) → ◌≡◌ {A = Lab ℤ} (record { val = get_or (replicate 16 (pos 0)) p (pos 0); lab = get_or (replicate 16 ctx) p [] })
        (cond (ltb p 16) (record { val = pos 0; lab = ctx }) (record { val = pos 0; lab = [] }))
    at p (yes h) = rw (get_or-replicate 16 p (pos 0) (pos 0) h, get_or-replicate 16 p ctx [] h, lt-ltb p 16 h)
    at p (no h) =
        let g : 16 ≤ p = omega arith in
        rw (get_or-eq_default (replicate 16 (pos 0)) (pos 0) {n = p} g, get_or-eq_default (replicate 16 ctx) [] {n = p} g, le-ltb p 16 g)

-- sixteen zeros, of which the first three become those of the write
pub variables_are : (ctx own : Label) {label : Label} (event : Event) (entry : Entry) {vars : ℕ → Lab ℤ} → label ≡ union ctx own
    → vars ≡ update (update (update (vars_of (record { values = replicate 16 (pos 0); labels = replicate 16 ctx }))
    0 (record { val = entry.owner; lab = row_at (replicate 16 ctx) 0 }))
    1 (record { val = entry.line; lab = row_at (replicate 16 ctx) 1 }))
    2 (record { val = entry.amount; lab = label }) → vars ≡ trigger_vars ctx (key_in entry) (cell_in event entry own)
unfolding trigger_vars under lift
variables_are ctx own event entry l e = e ∙ rw (sixteen_are ctx, l)

-- ---- what the triggers do

module _ (code : List ℕ) (ctx : Label) (event place : ℕ) (key : Key) (z : Lab Cell) where
  abbrev count : ℕ
  count = length (script_of code).triggers

  abbrev fits : ℕ → Bool
  fits t = fitting (script_of code) event place (trigger_at (script_of code) t)

  abbrev runs : ℕ → ℕ → M (Unit {0})
  runs t fuel = own (trigger_vars ctx key z) (exec (script_of code) monitored fuel
      (record { ctx = ctx; user = (trigger_at (script_of code) t).user; above = suc t }) (trigger_at (script_of code) t).body)

  abbrev some : ℕ → ℕ → ℕ → M (Unit {0})
  some k t fuel = each (numbers t k) (λ n. when (fits n) (runs n fuel))

  abbrev fires : ℕ → ℕ → M (Unit {0})
  fires t = Fires code ctx t event place key z

  fires_is : (t k fuel : ℕ) → count - t ≡ k → fires t fuel ≡ some k t fuel
  unfolding fire trigger_run
  fires_is t k fuel e = ap (λ (j : ℕ). some j t fuel) e

  -- the first of them
  fires_first : (t fuel : ℕ) (y : Bool) (s : State) → t < count → fits t ≡ y → fires t fuel s ≡ next (when y (runs t fuel) s) (λ a. fires (suc t) fuel)
  unfolding each numbers
  fires_first t fuel y s h e = ap (λ m. m s) (fires_is t (suc (count - suc t)) fuel (omega arith))
      ∙ ap (λ m. next (when (fits t) (runs t fuel) s) (λ a. m)) (sym (fires_is (suc t) (count - suc t) fuel refl))
      ∙ ap (λ (b : Bool). next (when b (runs t fuel) s) (λ a. fires (suc t) fuel)) e

  -- one that does not fit is passed over
  passes : (t fuel : ℕ) (s : State) → t < count → fits t ≡ false → fires t fuel s ≡ fires (suc t) fuel s
  unfolding when next
  passes t fuel s h e = fires_first t fuel false s h e ∙ after_none (fires (suc t) fuel s)

  -- the trigger found: it is run, and then those after it
  pub record Found (t number user body : ℕ) : Type 0 where
    pub from : t ≤ number
    pub below : number < count
    pub user_is : user ≡ (trigger_at (script_of code) number).user
    pub body_is : body ≡ (trigger_at (script_of code) number).body
    pub same : (fuel : ℕ) (s : State) → fires t fuel s ≡ (runs number fuel >> fires (suc number) fuel) s

  abbrev chosen : ℕ → ℕ → Bool → Option Fitting
  chosen k t y =
      cond y (Some (record { number = t; user = (trigger_at (script_of code) t).user; body = (trigger_at (script_of code) t).body })) (first_fitting code event place k (suc t))

  pub found : (k t : ℕ) → k ≡ count - t → {number user body : ℕ} → first_fitting code event place k t ≡ Some (record { number = number; user = user; body = body })
      → Found t number user body
  unfolding first_fitting when
  found zero t h e = absurd (let z : ◌≡◌ {A = ℕ} 0 1 = cc in omega arith)
  found (suc k) t h {number} {user} {body} e = go (fits t) refl (λ e'. found k (suc t) (omega (arith, h)) e')
    where
      go : (y : Bool) → fits t ≡ y → (first_fitting code event place k (suc t) ≡ Some (record { number = number; user = user; body = body }) → Found (suc t) number user body)
          → Found t number user body
      go true q later =
          let here : chosen k t true ≡ Some (record { number = number; user = user; body = body }) = sym (ap (chosen k t) q) ∙ e in
          let it : ◌≡◌ {A = Fitting} (record { number = number; user = user; body = body })
          (record { number = t; user = (trigger_at (script_of code) t).user; body = (trigger_at (script_of code) t).body }) = cc in
          let n : number ≡ t = ap (λ f. f.number) it in
          record {
            from = omega (arith, n);
            below = omega (arith, n, h);
            user_is = rw n (ap (λ f. f.user) it);
            body_is = rw n (ap (λ f. f.body) it);
            same = λ fuel s. rw n (fires_first t fuel true s (omega (arith, h)) q);
          }
      go false q later =
          let on = later (sym (ap (chosen k t) q) ∙ e) in
          record {
            from = omega (arith, on.from);
            below = on.below;
            user_is = on.user_is;
            body_is = on.body_is;
            same = λ fuel s. passes t fuel s (omega (arith, h)) q ∙ on.same fuel s;
          }

  none_fits : (k t : ℕ) → k ≡ count - t → first_fitting code event place k t ≡ None → (fuel : ℕ) (s : State) → fires t fuel s ≡ done [] tt s
  unfolding first_fitting each numbers
  none_fits zero t h e fuel s = ap (λ m. m s) (fires_is t 0 fuel (sym h))
  none_fits (suc k) t h e fuel s = go (fits t) refl (λ e'. none_fits k (suc t) (omega (arith, h)) e' fuel s)
    where
      go : (y : Bool) → fits t ≡ y → (first_fitting code event place k (suc t) ≡ None → fires (suc t) fuel s ≡ done [] tt s) → fires t fuel s ≡ done [] tt s
      go true q later = absurd (let here : chosen k t true ≡ None = sym (ap (chosen k t) q) ∙ e in let z : ◌≡◌ {A = ℕ} 0 1 = cc in omega arith)
      go false q later = passes t fuel s (omega (arith, h)) q ∙ later (sym (ap (chosen k t) q) ∙ e)

  module _ {vars : ℕ → Lab ℤ} {x : Store} where
    pub none_left : (t : ℕ) → x.run.used ≤ length x.trace → first_fitting code event place (count - t) t ≡ None → Does (fires t) vars x (Ok tt) vars x
    none_left t u e = sets_vars u λ fuel _. none_fits (count - t) t refl e fuel (state vars x)

    -- the trigger's body is run
    module _ {t number user body above : ℕ} (f : Found t number user body) (higher : above ≡ suc number) {own_vars own_vars' : ℕ → Lab ℤ}
        (ev : own_vars ≡ trigger_vars ctx key z) {r : Outcome} {x' : Store}
        (d : Does (Enters code ctx (record { user = user; above = above }) body) own_vars x r own_vars' x') where
      runs_it : Does (runs number) vars x r vars x'
      runs_it = does_as (λ fuel i. own (sym ev i) (Enters code ctx (record { user = sym f.user_is i; above = sym higher i }) (sym f.body_is i) fuel)) (own_does d)

      pub found_stops : r ≡ Err stopped → Does (fires t) vars x r vars x'
      found_stops e = comes_to (λ fuel _. f.same fuel (state vars x)) (then_stops (fires (suc number)) runs_it e)

      pub found_goes : r ≡ Ok tt → {q : Outcome} {x'' : Store} → Does (fires above) vars x' q vars x'' → Does (fires t) vars x q vars x''
      found_goes e g = comes_to (λ fuel _. f.same fuel (state vars x)) (then_goes runs_it e (does_as (λ fuel. ap (λ (j : ℕ). fires j fuel) (sym higher)) g))

  -- a body is a command, run by one of the eight users
  pub found_runs : {t number user body : ℕ} → Runnable code → Found t number user body → Node command (script_of code) body × (user < 8)
  found_runs {number = number} v f =
      let trigger = trigger_read_at code v number f.below in
      (rw f.body_is trigger.body_command, omega (arith, f.user_is, trigger.user_below))

-- the loop's invariant, for any label of the amount and any variables: what the triggers from `from` on do is the rest of what those from t on do
pub record Remains (code : List ℕ) (ctx label : Label) (event : Event) (place : ℕ) (entry : Entry) (t : ℕ) (x : Store) (from : ℕ) (x' : Store) : Type 0 where
  pub keeps : Keeps x x'
  pub ends : (own : Label) (vars : ℕ → Lab ℤ) → label ≡ union ctx own → {q : Outcome} {x'' : Store}
      → Does (Fires code ctx from (event_number event) place (key_in entry) (cell_in event entry own)) vars x' q vars x''
      → Does (Fires code ctx t (event_number event) place (key_in entry) (cell_in event entry own)) vars x q vars x''
