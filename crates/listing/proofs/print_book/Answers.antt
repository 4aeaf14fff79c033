-- `listing::print_book` meets its contract: the book has as many bytes as are printed.
use native.Mathlib.Omega.{arith}
use lib.ListN.{length-take}
use Rattle.listing.proofs.print_book.Goals as goal

pub slice_bounds-write_all-end-3 : goal.slice_bounds-write_all-end-3
slice_bounds-write_all-end-3 c = simp length-take (omega (arith, c.if-book-bytes.false))
