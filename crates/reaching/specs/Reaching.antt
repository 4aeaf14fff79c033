-- What "reaches" means, from parent to child, and the claim that the test of trigger bodies finds it. Its proof is in proofs/.
use Rattle.std.specs.Prelude.{◌≡◌, Bool, true, ◌↔◌, ℕ, ◌<◌, length}
use Rattle.book.specs.Records.{Book}
use Rattle.book.specs.Kinds.{expression, command, between, Fields, fields_of}
use Rattle.book.specs.Refusals.{node_at, node_fits, forbidden, reaches}

-- whether a field in this role names a child
abbrev pub names_child : ℕ → Bool
names_child role = between expression command role

module _ (b : Book) where
  -- the roles of node i's fields
  abbrev pub roles : ℕ → Fields
  roles i = fields_of (node_at b i).kind

  -- the children of node i
  pub data Child (i : ℕ) : ℕ → Type 0 where
    in_a : names_child (roles i).a ≡ true → Child i (node_at b i).a
    in_b : names_child (roles i).b ≡ true → Child i (node_at b i).b
    in_c : names_child (roles i).c ≡ true → Child i (node_at b i).c
    in_d : names_child (roles i).d ≡ true → Child i (node_at b i).d

  -- node i reaches this kind: its own, or one that a child of it reaches
  pub data Reaches : ℕ → ℕ → Type 0 where
    own : {i : ℕ} → Reaches i (node_at b i).kind
    down : {i v kind : ℕ} → Child i v → Reaches v kind → Reaches i kind

  -- a kind that node i reaches and that is forbidden
  abbrev pub ReachesForbidden : ℕ → Type 0
  ReachesForbidden i = (kind : ℕ) × Reaches i kind × (forbidden kind ≡ true)

  -- each of the nodes is good
  pub record GoodNodes : Type 0 where
    pub good : (i : ℕ) → i < length b.nodes → node_fits b i ≡ true

-- in a book whose nodes are good, a forbidden kind is found exactly where one is reached from parent to child
abbrev pub ReachesMeans : Type 0
ReachesMeans = (b : Book) → GoodNodes b → (i : ℕ) → i < length b.nodes → (reaches b (length b.nodes) i ≡ true) ↔ ReachesForbidden b i
