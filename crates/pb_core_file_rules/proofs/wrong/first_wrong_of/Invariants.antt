use Rattle.std.proofs.Common.{◌≡◌, ◌≤◌, [], drop, length}
use Rattle.pb_core_file_rules.specs.Lowering.{first}
use Rattle.pb_core_file_rules.specs.Visiting.{met_names, wrong_behind}
use Rattle.pb_core_file_rules.proofs.wrong.first_wrong_of.Given as goal

abbrev pub invariant-loop-one : goal.invariant-loop-one
invariant-loop-one l = record {
  names : l.table.table.names ≡ met_names l.table.rows.items;
  few : length l.table.rows.items ≤ l.one-index;
  right : first (wrong_behind l.table.rows.items (drop l.one-index l.list)) ≡ first (wrong_behind [] l.list);
}
