use Rattle.pb_core_flat.proofs.Sorted.{sorted_by_falling}
use Rattle.pb_core_flat.proofs.EachStops.{each_stops, each_few_stops}
use Rattle.pb_core_flat.proofs.Behind.{put_behind_sorts, put_behind_is}
use Rattle.pb_core_flat.proofs.Turns.{stops_in_turn}
use Rattle.pb_core_flat.proofs.laws.each_stops.Goals as goal

pub returns-clause-all : goal.returns-clause-all
returns-clause-all c = each_stops

pub returns-clause-few : goal.returns-clause-few
returns-clause-few c = each_few_stops

pub returns-clause-sorted : goal.returns-clause-sorted
returns-clause-sorted c = sorted_by_falling

pub returns-clause-behind : goal.returns-clause-behind
returns-clause-behind c = put_behind_sorts

pub returns-clause-place : goal.returns-clause-place
returns-clause-place c = put_behind_is

pub returns-clause-turn : goal.returns-clause-turn
returns-clause-turn c = stops_in_turn
