-- What the check of node n goes by.
use Rattle.std.specs.Prelude.{◌≡◌, List, Bool, ◌&&◌, ℕ, ◌+◌, ◌≤◌, ◌<◌, length, get_or}
use Rattle.book.specs.Bytes.{byte}
use Rattle.book.specs.Records.{NodeRecord, Book, nodes_format}
use Rattle.book.specs.Layout.{decode}
use Rattle.book.specs.Kinds.{sort_of, row_of}
use Rattle.book.specs.Refusals.{node_at, field_fits}
use Rattle.book.specs.declared.Row.{Row}

-- node n's record stands at this byte, and this is the row of its kind
pub record Stands (s : List ℕ) (n at : ℕ) (row : Row) : Type 0 where
  pub inside : at + 16 ≤ length s
  pub short : length s ≤ 60000
  pub room : n < 1024
  pub read : node_at (decode s) n ≡ nodes_format.read s at
  pub row_is : row ≡ row_of (byte s at)

-- the number of regions, and the sorts of the nodes below n
pub record Known (b : Book) (regions : ℕ) (sorts : List ℕ) (n : ℕ) : Type 0 where
  pub regions_are : regions ≡ length b.regions
  pub sorts_are : (i : ℕ) → i < n → get_or sorts i 0 ≡ sort_of (node_at b i).kind

-- whether the fields a to d of node n may hold what they do in the roles of this row
unfoldable pub fields_fit : Book → ℕ → Row → Bool
fields_fit b n row =
    let x : NodeRecord = node_at b n in
    field_fits b n row.a x.a && (field_fits b n row.b x.b && (field_fits b n row.c x.c && field_fits b n row.d x.d))
