use Rattle.std.proofs.Common.{◌≡◌, ◌++◌, [], drop}
use Rattle.pb_do_syntax.specs.Names.{names}
use Rattle.pb_do_faults.specs.Faults.{repeated}
use Rattle.pb_do_faults.specs.Found.{first}
use Rattle.pb_do_faults.proofs.indexed.table_of_params.Given as goal

abbrev pub invariant-loop-param : goal.invariant-loop-param
invariant-loop-param l = record {
  names : l.table.names ++ names (drop l.param-index l.params) ≡ names l.params;
  once : first (repeated l.table.names (drop l.param-index l.params)) ≡ first (repeated [] l.params);
}
