-- `regions::region_set` meets its contract: the row of lines, then a row for each owner, in the word of the table.
use Rattle.std.proofs.Common.{sym, ap, ◌∙◌, ℕ, set, lit≤}
use Rattle.regions.specs.Regions.{in_range, repeated}
use Rattle.places.specs.Sets.{empty}
use Rattle.places.proofs.Bits.{word_of_lt}
use Rattle.regions.proofs.Regions.{bits_repeated, rows_repeated, region_word}
use Rattle.regions.proofs.region_set.Goals as goal

pub repeated-requires : goal.repeated-requires
repeated-requires c =
    let row = c.repeated-row.ensures ∙ bits_repeated c.args.region.lines 8 in
    (rw row (word_of_lt (in_range c.args.region.lines) 8), lit≤ tt)

pub returns : goal.returns
returns c =
    let r = c.args.region in
    let row = c.repeated-row.ensures ∙ bits_repeated r.lines 8 in
    ap (set (empty 8) r.table)
    (c.repeated.ensures ∙ ap (λ (n : ℕ). repeated n 8 r.owners 8) row ∙ rows_repeated r.owners r.lines 8)
    ∙ sym (region_word 8 r c.requires)
