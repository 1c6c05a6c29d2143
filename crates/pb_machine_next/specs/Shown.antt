-- The place that a value of the program tells.
use Rattle.pb_local.specs.Tree.{plain}
use Rattle.pb_machine_next.specs.declared.place.Place.{Place}
use Rattle.pb_machine_next.specs.declared.place.Place.TheVariants.{Nowhere, At, Round}
use Rattle.pb_machine_next.specs.Place.{Found, nowhere, at_code, at_round}

abbrev pub found_in : Place → Found
found_in Nowhere = nowhere
found_in (At depth k after stmt) = at_code depth k after (plain stmt.now)
found_in (Round depth after high) = at_round depth after high
