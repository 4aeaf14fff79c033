-- `start::start_sets` meets its contract: each set is stored, and later stores leave it.
use mathlib.Core.Path.{refl, ap, ◌∙◌}
use mathlib.Core.List.{List}
use Prim.Native.Nat.{ℕ}
use lib.ListN.{length, length-replicate}
use Rattle.places.specs.Sets.{empty}
use Rattle.book.specs.Start.{tabulate, right_set}
use Rattle.machine.specs.Script.{script_of}
use Rattle.machine.specs.Store.{right_number, with_users}
use Rattle.start.proofs.start_sets.Goals as goal

pub returns : goal.returns
unfolding right_number with_users
returns c = rw (c.store_users-2.ensures, c.store_users.ensures) (record {
  long = c.start_labels.auto.labels ∙ ap (λ (l : List (List ℕ)). length l) c.requires.1 ∙ length-replicate 512 (empty 8);
  present_is = refl;
  public_is = c.public_set-sets.ensures;
  read_are = c.right_sets.ensures ∙ ap (λ (kind : ℕ). tabulate (right_set (script_of c.args.script.bytes.now) kind) 8) c.number.ensures;
  write_are = c.right_sets-2.ensures ∙ ap (λ (kind : ℕ). tabulate (right_set (script_of c.args.script.bytes.now) kind) 8) c.number-2.ensures;
  labels_are = c.start_labels.ensures;
  idles = c.requires.2;
})
