-- The clauses of the rules and of a call give what is said of them, by computation. Assumes nothing.
use mathlib.Core.Path.{refl}
use Rattle.places.specs.Sets.{single, tally, least}
use Rattle.labels.specs.Labels.{labels_by}
use Rattle.book.specs.Start.{start_amounts, start_presence, remembered, start_labels}
use Rattle.monitor.specs.Call.{cells_of, amounts_in, presence_in, labels_in, start_cells, start_state, run_book, answered, call}
use Rattle.monitor.specs.Explain.{stands, reason, explanation, explained, explain_call}
use Rattle.book.specs.Refusals.{verdict_values}
use Rattle.book.specs.Tables.{w_file}
use Rattle.monitor.specs.RunClauses.{RunClauses}
use Rattle.monitor.specs.RuleClauses.{RuleClauses}
use Rattle.monitor.specs.CallClauses.{CallClauses}
use Rattle.monitor.specs.ExplainClauses.{ExplainClauses}
use Rattle.monitor.proofs.Tables.{called_quick}

pub run_clauses : RunClauses
unfolding called_quick
run_clauses = record {
  literal = refl;
  lifted = refl;
  lifted_both = refl;
  found_by = refl;
  in_context = refl;
  holding = refl;
  not_there = refl;
  in_turn = refl;
  in_turn_left = refl;
  stop_last = refl;
  stop_last_left = refl;
  stop_first = refl;
  stop_first_left = refl;
  each_in_order = refl;
  when_holds = refl;
  when_not = refl;
  when_not_left = refl;
  halts = refl;
  halts_left = refl;
  tests = refl;
  about = refl;
  guard_passes = refl;
  guard_stops = refl;
  guard_stops_left = refl;
  need_passes = refl;
  need_stops = refl;
  updated = refl;
  spent = refl;
  spent_else = (refl, refl, refl);
  new_vars = (refl, refl, refl, refl);
  new_cells = (refl, refl, refl, refl);
  new_rights = (refl, refl, refl, refl);
  paid = (refl, refl);
  not_paid = (refl, refl);
  var_set = (refl, refl);
  var_not_set = (refl, refl);
  var_unlabelled = refl;
  cell_set = (refl, refl);
  cell_not_set = (refl, refl);
  cell_unlabelled = refl;
  room_for_one = (refl, refl, refl);
  no_room = (refl, refl);
  variables = refl;
  own_vars = refl;
  vars_back = refl;
  vars_back_left = refl;
  vars_back_stopped = (refl, refl);
  done_stays = (refl, (refl, refl, refl), refl);
  cells_back = refl;
  stop_stays = (refl, (refl, refl, refl));
  undone = refl;
  undone_else = (refl, (refl, refl, refl));
  undone_done = (refl, (refl, refl, refl), refl);
  undone_from = refl;
  not_undone = (refl, refl, (refl, refl, refl));
}

pub rule_clauses : RuleClauses
unfolding called_quick
rule_clauses = record {
  expressions_of = refl;
  commands_of = refl;
  limits = refl;
  same_numbers = refl;
  lesser_numbers = refl;
  keys = refl;
  boxes = refl;
  corners = refl;
  outside_bounds = refl;
  crossed_bounds = refl;
  gathered = refl;
  gathered_odd = refl;
  seen_last = refl;
  seen_first = refl;
  aggregates = refl;
  of_absent = refl;
  of_no_cells = refl;
  of_zero = refl;
  of_lowest = refl;
  of_highest = refl;
  smallest_above = refl;
  largest_below = refl;
  in_range = refl;
  out_of_range = refl;
  found = refl;
  constants = refl;
  variables = refl;
  sums = refl;
  differences = refl;
  equalities = refl;
  comparisons = refl;
  queries = refl;
  queries_count = refl;
  queries_best = refl;
  queries_of_nothing = refl;
  queries_outside = refl;
  queries_of_absent = refl;
  queries_of_nothing_left = refl;
  queries_none = refl;
  queries_none_present = refl;
  sums_in_range = refl;
  differences_in_range = refl;
  queries_in_range = refl;
  inside_gains = refl;
  chosen = refl;
  places = refl;
  keys_in_table = refl;
  posted = refl;
  posted_there = refl;
  no_key = refl;
  no_right = refl;
  no_right_there = refl;
  not_within = refl;
  not_within_passed = refl;
  trigger_variables = refl;
  numbered = refl;
  regions = refl;
  fits = refl;
  trigger_runs = refl;
  trigger_reads = refl;
  trigger_leaves = refl;
  fired = refl;
  grants_read = refl;
  grants_read_only = refl;
  grants_write = refl;
  grants_write_only = refl;
  revokes_read = refl;
  revokes_read_only = refl;
  revokes_write = refl;
  revokes_write_only = refl;
  skips = refl;
  assigns = (refl, refl);
  assigns_not = refl;
  assigns_unlabelled = refl;
  sequences = refl;
  branches = refl;
  branches_else = refl;
  repeats = refl;
  repeats_no_more = refl;
  puts = (refl, refl);
  puts_there = refl;
  puts_not = refl;
  clears = (refl, refl);
  puts_undone = refl;
  puts_undone_cells = refl;
  puts_undone_left = refl;
  puts_in_body = (refl, refl);
  puts_done = (refl, refl);
  puts_before = (refl, refl);
  clears_undone = (refl, refl);
  clears_in_body = (refl, refl);
  clears_done = (refl, refl);
  clears_before = (refl, refl);
  tells = refl;
  tells_not = refl;
  tells_not_in_context = refl;
  tells_unlabelled = refl;
  tells_rights = refl;
  tells_no_room = refl;
  grants = refl;
  grants_reading = refl;
  grants_writing = refl;
  grants_not = refl;
  grants_not_public = refl;
  grants_no_room = refl;
  grants_unlabelled = refl;
  raises = refl;
  raises_unlabelled = refl;
  raises_not = refl;
  costs = refl;
  out_of_fuel = (refl, refl);
  evaluates = (refl, refl);
  evaluates_children = (refl, refl);
  evaluates_not = refl;
  executes = (refl, refl);
  executes_not = refl;
}

pub call_clauses : CallClauses
unfolding called_quick w_file cells_of amounts_in presence_in labels_in start_cells start_state run_book start_amounts start_presence labels_by remembered start_labels single answered call verdict_values
call_clauses = record {
  numbers = refl;
  cells_lent = refl;
  absent_lent = refl;
  amounts_stored = (refl, refl);
  presence_stored = refl;
  labels_stored = refl;
  records_said = refl;
  records_changed = refl;
  records_in_order = refl;
  script_kept = refl;
  rows_of = refl;
  start_of_cells = refl;
  start_of_vars = refl;
  start_of_rights = (refl, refl);
  start_of_counts = (refl, refl);
  runs = (refl, refl);
  runs_labelled = refl;
  lengths_fit = refl;
  lengths_refused = refl;
  budget_refused = refl;
  lent_first = (refl, refl);
  first_numbers = refl;
  trace_after = refl;
  cells_after = (refl, refl, refl);
  finishes = refl;
  stops = refl;
  traces_left = refl;
  refused_untouched = refl;
  room_of_trace = refl;
  counted = refl;
  posting_fails = (refl, refl, refl, refl, refl);
  posting_fails_unlabelled = (refl, refl);
  writes_stay = (refl, refl);
  public_read = refl;
}

pub explain_clauses : ExplainClauses
unfolding called_quick w_file cells_of amounts_in presence_in labels_in start_cells start_state run_book start_amounts start_presence labels_by remembered start_labels single answered call tally least stands reason explanation explained explain_call
explain_clauses = record {
  standing = refl;
  lowest_counted = refl;
  first_places = refl;
  middle_places = refl;
  last_places = refl;
  all_places = refl;
  no_places = refl;
  explained_stops = refl;
  other_stops = refl;
  finished = refl;
  refused = refl;
  raised_call = (refl, refl);
  put_call = (refl, refl);
  put_again_call = (refl, refl);
  assign_after_call = (refl, refl);
  refused_call = (refl, refl);
  refused_lent = refl;
  w_call = refl;
}
