-- The kinds of node: what each costs, whether it is an expression or a command, and what its fields are.
use Rattle.std.specs.Prelude.{Bool, ◌&&◌, ◌||◌, cond, ℕ, eqb, leb}
use Rattle.book.specs.declared.Row.{Row}

-- the sorts of node
abbrev pub no_kind : ℕ
no_kind = 0

abbrev pub expression : ℕ
expression = 1

abbrev pub command : ℕ
command = 2

-- the roles of a field; a child's role is its sort
abbrev pub unused : ℕ
unused = 0

abbrev pub variable : ℕ
variable = 3

abbrev pub table : ℕ
table = 4

abbrev pub user : ℕ
user = 5

abbrev pub region : ℕ
region = 6

-- 1 read, 2 write
abbrev pub right : ℕ
right = 7

abbrev pub constant : ℕ
constant = 8

abbrev pub between : ℕ → ℕ → ℕ → Bool
between low high n = leb low n && leb n high

-- 4 for kinds 8 to 11, 1 for others
unfoldable pub cost_of : ℕ → ℕ
cost_of kind = cond (between 8 11 kind) 4 1

-- expressions are 1 to 6 and 8 to 11, commands 16 to 26; a node of any other kind is bad
unfoldable pub sort_of : ℕ → ℕ
sort_of kind = cond (between 1 6 kind || between 8 11 kind) expression (cond (between 16 26 kind) command no_kind)

-- the roles of p, a, b, c, d and k
pub record Fields : Type 0 where
  pub p : ℕ
  pub a : ℕ
  pub b : ℕ
  pub c : ℕ
  pub d : ℕ
  pub k : ℕ

abbrev pub fields : ℕ → ℕ → ℕ → ℕ → ℕ → ℕ → Fields
fields p a b c d k = record { p = p; a = a; b = b; c = c; d = d; k = k }

-- the fields that each kind names
unfoldable pub fields_of : ℕ → Fields
fields_of kind =
    -- 1 constant k
    cond (eqb kind 1) (fields unused unused unused unused unused constant)
    -- 2 variable p
    (cond (eqb kind 2) (fields variable unused unused unused unused unused)
    -- 3 a+b, 4 a−b, 5 a equals b, 6 a less than b
    (cond (between 3 6 kind) (fields unused expression expression unused unused unused)
    -- 8 to 11: over table p, owners a to b, lines c to d
    (cond (between 8 11 kind) (fields table expression expression expression expression unused)
    -- 17 variable p becomes a
    (cond (eqb kind 17) (fields variable expression unused unused unused unused)
    -- 18 a then b
    (cond (eqb kind 18) (fields unused command command unused unused unused)
    -- 19 if a nonzero then b else c
    (cond (eqb kind 19) (fields unused expression command command unused unused)
    -- 20 while a nonzero do b
    (cond (eqb kind 20) (fields unused expression command unused unused unused)
    -- 21 put amount c at table p, owner a, line b
    (cond (eqb kind 21) (fields table expression expression expression unused unused)
    -- 22 clear that cell
    (cond (eqb kind 22) (fields table expression expression unused unused unused)
    -- 23 out a to user p
    (cond (eqb kind 23) (fields user expression unused unused unused unused)
    -- 24 grant, 25 revoke region a for user p (b: 1 read, 2 write)
    (cond (between 24 25 kind) (fields user region right unused unused unused)
    -- 26 raise variable p by region a
    (cond (eqb kind 26) (fields variable region unused unused unused unused)
    -- 16 skip
    (fields unused unused unused unused unused unused)))))))))))))

-- a kind's row in the table of the code
unfoldable pub row_of : ℕ → Row
row_of kind = record {
  cost = cost_of kind;
  sort = sort_of kind;
  p = (fields_of kind).p;
  a = (fields_of kind).a;
  b = (fields_of kind).b;
  c = (fields_of kind).c;
  d = (fields_of kind).d;
  k = (fields_of kind).k;
}
