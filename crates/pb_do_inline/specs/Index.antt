-- The tables of the names of subprotocols and of their parameters.
use Rattle.std.specs.Prelude.{◌≡◌, List, [], ◌∷◌}
use Rattle.pb_do_syntax.specs.Calls.{PlainSub}
use Rattle.pb_do_syntax.specs.Names.{Name, names, sub_names}
use Rattle.pb_do_inline.specs.declared.site.Index.{Index}

abbrev pub param_lists : List PlainSub → List (List Name)
param_lists [] = []
param_lists (s ∷ ss) = names s.params ∷ param_lists ss

pub record IsIndex (subs : List PlainSub) (index : Index) : Type 0 where
  pub subs_named : index.names ≡ sub_names subs
  pub params_named : index.params.items ≡ param_lists subs
