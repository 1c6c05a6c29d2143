use Rattle.std.proofs.Common.{◌≡◌, ◌≤◌, [], drop, length}
use Rattle.pb_core_language.specs.Meaning.{kernel_names, kernels_after}
use Rattle.pb_core_file_rules.proofs.kernel_rows.kernel_table.Given as goal

abbrev pub invariant-loop-one : goal.invariant-loop-one
invariant-loop-one l = record {
  names : l.table.table.names ≡ kernel_names l.table.rows.items;
  few : length l.table.rows.items ≤ l.one-index;
  rows : kernels_after l.table.rows.items (drop l.one-index l.list) ≡ kernels_after [] l.list;
}
