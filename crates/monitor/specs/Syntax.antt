-- Expressions and commands: what the nodes of a book say.
use Rattle.std.specs.Prelude.{cond, ℕ, eqb, ℤ}
use Rattle.book.specs.Records.{NodeRecord}
use Rattle.book.specs.Kinds.{between}

pub data Exp : Type 0 where
  const : ℤ → Exp
  var : ℕ → Exp
  add minus equal less : ℕ → ℕ → Exp
  query : ℕ → ℕ → ℕ → ℕ → ℕ → ℕ → Exp  -- kind 8 to 11, table, and the nodes of the four bounds

pub data Cmd : Type 0 where
  skip : Cmd
  assign : ℕ → ℕ → Cmd  -- variable, expression
  seq : ℕ → ℕ → Cmd
  branch : ℕ → ℕ → ℕ → Cmd  -- if: condition, then, else
  while : ℕ → ℕ → Cmd  -- condition, body
  put : ℕ → ℕ → ℕ → ℕ → Cmd  -- table, owner, line, amount
  clear : ℕ → ℕ → ℕ → Cmd  -- table, owner, line
  out : ℕ → ℕ → Cmd  -- user, expression
  grant revoke : ℕ → ℕ → ℕ → Cmd  -- user, region, 1 read or 2 write
  raise : ℕ → ℕ → Cmd  -- variable, region

-- a node of an expression kind
unfoldable pub exp_of : NodeRecord → Exp
exp_of n =
    cond (eqb n.kind 2) (var n.p)
    (cond (eqb n.kind 3) (add n.a n.b)
    (cond (eqb n.kind 4) (minus n.a n.b)
    (cond (eqb n.kind 5) (equal n.a n.b)
    (cond (eqb n.kind 6) (less n.a n.b)
    (cond (between 8 11 n.kind) (query n.kind n.p n.a n.b n.c n.d)
    (const n.k))))))

-- a node of a command kind
unfoldable pub cmd_of : NodeRecord → Cmd
cmd_of n =
    cond (eqb n.kind 17) (assign n.p n.a)
    (cond (eqb n.kind 18) (seq n.a n.b)
    (cond (eqb n.kind 19) (branch n.a n.b n.c)
    (cond (eqb n.kind 20) (while n.a n.b)
    (cond (eqb n.kind 21) (put n.p n.a n.b n.c)
    (cond (eqb n.kind 22) (clear n.p n.a n.b)
    (cond (eqb n.kind 23) (out n.p n.a)
    (cond (eqb n.kind 24) (grant n.p n.a n.b)
    (cond (eqb n.kind 25) (revoke n.p n.a n.b)
    (cond (eqb n.kind 26) (raise n.p n.a)
    skip)))))))))
