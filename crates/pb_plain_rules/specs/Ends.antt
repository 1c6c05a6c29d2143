-- The rules on ends, of which the program holds one.
use Rattle.std.specs.Prelude.{not, if◌then◌else◌, List, [], ◌∷◌, map}
use Rattle.pb_core_language.specs.Ranks as R
use Rattle.pb_core_language.specs.Flat as F
use Rattle.pb_core_language.specs.Rules.{is_seat, strays, loners}
use Rattle.pb_plain_rules.specs.declared.end_rule.EndRule.{EndRule}
use Rattle.pb_plain_rules.specs.declared.end_rule.EndRule.TheVariants.{InRange, Apart}
use Rattle.pb_plain.specs.View.{seat_of}

abbrev pub breaks : EndRule → F.Origin → List F.Asked
breaks (InRange seats) a = strays (map seat_of seats.now) a
breaks Apart a = loners a

-- one end, where its seat isn't there
abbrev pub stray : List R.Seat → F.Asked → List F.Asked
stray ranks e = if not (is_seat e.seat ranks) then e ∷ [] else []
