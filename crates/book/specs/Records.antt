-- The records of the seven sections, as the paper's table lays them out, and the decoded book.
-- A field that the paper calls 0 is kept, as `zero` or `zeros`, so that a record says all of its bytes.
use Rattle.std.specs.Prelude.{◌≡◌, List, [], ◌∷◌, ◌++◌, ℕ, zero, suc, ◌+◌, ◌%◌, ◌^◌, ℤ}
use Rattle.places.specs.Places.{place}
use Rattle.regions.specs.declared.Region.{Region}
use Rattle.book.specs.Bytes.{byte, le16, le24, le32, le64, signed32, bits32, two, three, four, eight}

-- how the records of a section are laid out: how many at most, the bytes of each, and both directions
pub record Format (A : Type 0) : Type 0 where
  pub most : ℕ
  pub size : ℕ
  pub read : List ℕ → ℕ → A
  pub write : A → List ℕ

-- n records, the first at byte `at`
unfoldable pub records : {A : Type 0} → Format A → ℕ → ℕ → List ℕ → List A
records f zero at s = []
records f (suc n) at s = f.read s at ∷ records f n (at + f.size) s

-- the bytes of a section
unfoldable pub section_bytes : {A : Type 0} → Format A → List A → List ℕ
section_bytes f [] = []
section_bytes f (r ∷ rs) = f.write r ++ section_bytes f rs

-- table, owner, line, 0, amount
pub record CellRecord : Type 0 where
  pub table : ℕ
  pub owner : ℕ
  pub line : ℕ
  pub zero : ℕ
  pub amount : ℤ

-- the place of a cell record
abbrev pub place_of : CellRecord → ℕ
place_of c = place c.table c.owner c.line

unfoldable pub cells_format : Format CellRecord
cells_format = record {
  most = 512;
  size = 8;
  read = λ s at. record { table = byte s at; owner = byte s (at + 1); line = byte s (at + 2); zero = byte s (at + 3); amount = signed32 (le32 s (at + 4)) };
  write = λ c. c.table ∷ c.owner ∷ c.line ∷ c.zero ∷ four (bits32 c.amount);
}

-- table, owner first, last, line first, last, three 0
pub record RegionRecord : Type 0 where
  pub table : ℕ
  pub owner_first : ℕ
  pub owner_last : ℕ
  pub line_first : ℕ
  pub line_last : ℕ
  pub zeros : ℕ

-- the region that a record describes
abbrev pub region_of : RegionRecord → Region
region_of r = record { table = r.table; owners = record { first = r.owner_first; last = r.owner_last }; lines = record { first = r.line_first; last = r.line_last } }

unfoldable pub regions_format : Format RegionRecord
regions_format = record {
  most = 64;
  size = 8;
  read = λ s at. record {
    table = byte s at;
    owner_first = byte s (at + 1);
    owner_last = byte s (at + 2);
    line_first = byte s (at + 3);
    line_last = byte s (at + 4);
    zeros = le24 s (at + 5);
  };
  write = λ r. r.table ∷ r.owner_first ∷ r.owner_last ∷ r.line_first ∷ r.line_last ∷ three r.zeros;
}

-- kind (0 public, 1 read, 2 write), user, region, 0
pub record RightRecord : Type 0 where
  pub kind : ℕ
  pub user : ℕ
  pub region : ℕ
  pub zero : ℕ

unfoldable pub rights_format : Format RightRecord
rights_format = record {
  most = 64;
  size = 4;
  read = λ s at. record { kind = byte s at; user = byte s (at + 1); region = byte s (at + 2); zero = byte s (at + 3) };
  write = λ r. r.kind ∷ r.user ∷ r.region ∷ r.zero ∷ [];
}

-- kind, p, then a, b, c, d, k, two 0
pub record NodeRecord : Type 0 where
  pub kind : ℕ
  pub p : ℕ
  pub a : ℕ
  pub b : ℕ
  pub c : ℕ
  pub d : ℕ
  pub k : ℤ
  pub zeros : ℕ

unfoldable pub nodes_format : Format NodeRecord
nodes_format = record {
  most = 1024;
  size = 16;
  read = λ s at. record {
    kind = byte s at;
    p = byte s (at + 1);
    a = le16 s (at + 2);
    b = le16 s (at + 4);
    c = le16 s (at + 6);
    d = le16 s (at + 8);
    k = signed32 (le32 s (at + 10));
    zeros = le16 s (at + 14);
  };
  write = λ n. n.kind ∷ n.p ∷ (two n.a ++ two n.b ++ two n.c ++ two n.d ++ four (bits32 n.k) ++ two n.zeros);
}

-- user, 0, root
pub record ProgramRecord : Type 0 where
  pub user : ℕ
  pub zero : ℕ
  pub root : ℕ

unfoldable pub programs_format : Format ProgramRecord
programs_format = record {
  most = 8;
  size = 4;
  read = λ s at. record { user = byte s at; zero = byte s (at + 1); root = le16 s (at + 2) };
  write = λ p. p.user ∷ p.zero ∷ two p.root;
}

-- region, event (1 put, 2 clear), user, 0, body, two 0
pub record TriggerRecord : Type 0 where
  pub region : ℕ
  pub event : ℕ
  pub user : ℕ
  pub zero : ℕ
  pub body : ℕ
  pub zeros : ℕ

unfoldable pub triggers_format : Format TriggerRecord
triggers_format = record {
  most = 8;
  size = 8;
  read = λ s at. record {
    region = byte s at;
    event = byte s (at + 1);
    user = byte s (at + 2);
    zero = byte s (at + 3);
    body = le16 s (at + 4);
    zeros = le16 s (at + 6);
  };
  write = λ t. t.region ∷ t.event ∷ t.user ∷ t.zero ∷ (two t.body ++ two t.zeros);
}

-- place, eight label words (02, Change 5)
pub record LabelRecord : Type 0 where
  pub place : ℕ
  pub w0 : ℕ
  pub w1 : ℕ
  pub w2 : ℕ
  pub w3 : ℕ
  pub w4 : ℕ
  pub w5 : ℕ
  pub w6 : ℕ
  pub w7 : ℕ

-- a word has 64 bits
abbrev pub word64 : ℕ → ℕ
word64 n = n % 2 ^ 64

-- the label that a record gives its cell
unfoldable pub label_of : LabelRecord → List ℕ
label_of r =
    word64 r.w0 ∷ word64 r.w1 ∷ word64 r.w2 ∷ word64 r.w3 ∷ word64 r.w4 ∷ word64 r.w5 ∷ word64 r.w6 ∷ word64 r.w7 ∷ []

unfoldable pub labels_format : Format LabelRecord
labels_format = record {
  most = 512;
  size = 66;
  read = λ s at. record {
    place = le16 s at;
    w0 = le64 s (at + 2);
    w1 = le64 s (at + 10);
    w2 = le64 s (at + 18);
    w3 = le64 s (at + 26);
    w4 = le64 s (at + 34);
    w5 = le64 s (at + 42);
    w6 = le64 s (at + 50);
    w7 = le64 s (at + 58);
  };
  write = λ r.
      two r.place
      ++ (eight r.w0 ++ eight r.w1 ++ eight r.w2 ++ eight r.w3 ++ eight r.w4 ++ eight r.w5 ++ eight r.w6 ++ eight r.w7);
}

-- the decoded book
pub record Book : Type 0 where
  pub cells : List CellRecord
  pub regions : List RegionRecord
  pub rights : List RightRecord
  pub nodes : List NodeRecord
  pub programs : List ProgramRecord
  pub triggers : List TriggerRecord
  pub labels : List LabelRecord

-- two books whose region, rights, node, program and trigger records are the same in the same order
pub record SameScripts (b b' : Book) : Type 0 where
  pub regions : b.regions ≡ b'.regions
  pub rights : b.rights ≡ b'.rights
  pub nodes : b.nodes ≡ b'.nodes
  pub programs : b.programs ≡ b'.programs
  pub triggers : b.triggers ≡ b'.triggers
