use Rattle.std.proofs.Common.{◌≡◌, ◌≤◌, [], map, drop, length}
use Rattle.pb_core_language.specs.Meaning.{label_names, labels_after}
use Rattle.pb_core_file_rules.specs.Lowering.{first}
use Rattle.pb_core_file_rules.specs.Tables.{labelled_of, broken_behind}
use Rattle.pb_core_file_rules.proofs.label_rows.filled.Given as goal

abbrev pub invariant-loop-one : goal.invariant-loop-one
invariant-loop-one l = record {
  names : l.table.table.names ≡ label_names l.table.rows.items;
  few : length l.table.rows.items ≤ l.one-index;
  rows : labels_after l.table.rows.items (map labelled_of (drop l.one-index l.list)) ≡ labels_after [] (map labelled_of l.list);
  keeps : first (broken_behind l.table.rows.items (map labelled_of (drop l.one-index l.list))) ≡ first (broken_behind [] (map labelled_of l.list));
}
