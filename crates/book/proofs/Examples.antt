-- The worked examples hold, by computation: every definition that they compute with is opened in one place. Assumes nothing.
use mathlib.Core.Path.{refl}
use Rattle.places.specs.Sets.{has, word_of, set_of, single, same_words}
use Rattle.regions.specs.Regions.{in_region}
use Rattle.labels.proofs.Labels.{length_by, label_by}
use Rattle.book.specs.Records.{records, section_bytes, cells_format, regions_format, rights_format, nodes_format, programs_format, triggers_format, label_of, labels_format}
use Rattle.book.specs.Layout.{in_order, six_bounds, decode}
use Rattle.book.specs.Kinds.{cost_of, sort_of, fields_of, row_of}
use Rattle.book.specs.Refusals.{and_then, need, first, blame, length_fits, marked, mark_fits, sections_fit, cell_fits, rises, bad_cell, region_fits, bad_region, right_fits, bad_right, field_fits, is_zero, node_fits, is_command, program_fits, bad_program, forbidden, reaches, trigger_fits, bad_trigger, label_fits, bad_label, book_verdict, verdict, verdict_values}
use Rattle.book.specs.Start.{tabulate, amount_at, start_amounts, start_presence, remembered, start_labels, rights_hold, right_set}
use Rattle.book.specs.Encode.{six_extents, distance_to_end, pairs, other_sections, tail_bytes, encode, picked, with_cells}
use Rattle.book.specs.Tables.{w_file, w_file_2}
use Rattle.book.proofs.Remembered.{length_remembered}
use Rattle.book.specs.Examples.{each_file, each_file_2, large_trailer, large_tail, Examples}

pub worked_examples : Examples
unfolding has word_of set_of single same_words in_region records section_bytes cells_format regions_format rights_format nodes_format programs_format triggers_format label_of labels_format in_order six_bounds decode cost_of sort_of fields_of row_of and_then need first blame length_fits marked mark_fits sections_fit cell_fits rises bad_cell region_fits bad_region right_fits bad_right field_fits is_zero node_fits is_command program_fits bad_program forbidden reaches trigger_fits bad_trigger label_fits bad_label book_verdict verdict verdict_values tabulate amount_at start_amounts start_presence remembered start_labels rights_hold right_set six_extents distance_to_end pairs other_sections tail_bytes encode picked with_cells w_file w_file_2 each_file each_file_2 large_trailer large_tail
worked_examples = record {
  files = record {
    lengths = record { passes = refl; fails = refl };
    longest = λ s h. rw h refl;
    too_long = λ s h. rw h refl;
    marks = record { passes = refl; fails = refl };
    sections = record { passes = refl; fails = refl };
    seven_sections = record { passes = refl; fails = refl };
    versions = record { passes = refl; fails = refl };
    counts = record { passes = refl; fails = refl };
    label_counts = record { passes = refl; fails = refl };
    most = refl;
    most_six = refl;
    verdicts = refl;
    numbers = refl;
  };
  records = record {
    firsts = refl;
    first_of_none = refl;
    verdicts = refl;
    numbers = refl;
    cells = record { passes = refl; fails = refl };
    order = record { passes = refl; fails = refl };
    regions = record { passes = refl; fails = refl };
    rights = record { passes = refl; fails = refl };
    expressions = record { passes = refl; fails = refl };
    commands = record { passes = refl; fails = refl };
    variables = record { passes = refl; fails = refl };
    tables = record { passes = refl; fails = refl };
    users = record { passes = refl; fails = refl };
    named_regions = record { passes = refl; fails = refl };
    read_or_write = record { passes = refl; fails = refl };
    unnamed = record { passes = refl; fails = refl };
    nodes = record { passes = refl; fails = refl };
    programs = record { passes = refl; fails = refl };
    forbidding = record { passes = refl; fails = refl };
    steps = record { passes = refl; fails = refl };
    reaching = record { passes = refl; fails = refl };
    triggers = record { passes = refl; fails = refl };
    bodies = record { passes = refl; fails = refl };
    farthest = record { passes = refl; fails = refl };
    labels = record { passes = refl; fails = refl };
    label_order = record { passes = refl; fails = refl };
  };
  kind_rows = refl;
  starts = record {
    lent = record { amounts_are = refl; presence_is = refl; labels_are = refl };
    amounts = refl;
    presence = refl;
    label_words = λ b. length_by (remembered b.labels) (length_remembered b.labels) 512;
    labels = λ b. label_by (remembered b.labels) (length_remembered b.labels) 512;
    own = λ p. refl;
    records = refl;
    publics = refl;
    reads = refl;
    writes = refl;
  };
  bytes = record {
    w_read = refl;
    w_read_2 = refl;
    w_written = refl;
    shortest_written = refl;
    each_read = refl;
    each_read_2 = refl;
    each_written = refl;
    tail_written = refl;
    rewritten = λ labels. refl;
    remembered_labels = refl;
    same_scripts = λ b b' h. rw (h.regions, h.rights, h.nodes, h.programs, h.triggers) refl;
  };
}
