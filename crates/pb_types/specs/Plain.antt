-- A types file as lists.
use Rattle.std.specs.Prelude.{List}
use Rattle.pb_types.specs.declared.tree.Constant.{Constant}
use Rattle.pb_types.specs.declared.tree.TypeRow.{TypeRow}
use Rattle.pb_types.specs.declared.tree.TypesFile.{TypesFile}

pub record PlainTypes : Type 0 where
  pub constants : List Constant
  pub rows : List TypeRow

abbrev pub plain_file : TypesFile → PlainTypes
plain_file f = record { constants = f.constants.items; rows = f.rows.items }
