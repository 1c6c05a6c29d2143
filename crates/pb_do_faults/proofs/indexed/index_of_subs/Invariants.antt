use Rattle.std.proofs.Common.{◌≡◌, ◌++◌, [], map, drop}
use Rattle.pb_do_syntax.specs.Names.{sub_names}
use Rattle.pb_do_syntax.specs.Plain.{plain_sub}
use Rattle.pb_do_inline.specs.Index.{param_lists}
use Rattle.pb_do_faults.specs.Faults.{twice_behind}
use Rattle.pb_do_faults.specs.Found.{first}
use Rattle.pb_do_faults.proofs.indexed.index_of_subs.Given as goal

abbrev pub invariant-loop-sub : goal.invariant-loop-sub
invariant-loop-sub l = record {
  names : l.table.names ++ sub_names (map plain_sub (drop l.sub-index l.subs)) ≡ sub_names (map plain_sub l.subs);
  params : l.params.items ++ param_lists (map plain_sub (drop l.sub-index l.subs)) ≡ param_lists (map plain_sub l.subs);
  once : first (twice_behind l.table.names (map plain_sub (drop l.sub-index l.subs))) ≡ first (twice_behind [] (map plain_sub l.subs));
}
