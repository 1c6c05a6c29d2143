use Rattle.std.proofs.Common.{rules, ◌≡◌, ◌<◌, ◌-◌, length, get_or}
use Rattle.pb_part_areas.specs.Joins.{blank}
use Rattle.pb_choice_entries.proofs.Halves.{listed}
use Rattle.pb_choice_entries.proofs.pairs.ends_with.Goals as goal

pub returns-then-eq-3 : goal.returns-then-eq-3
returns-then-eq-3 c =
    let i = length c.args.list.now - 1 in
    let lt : i < length c.args.list.now = search rules in
    let er : (get_or c.args.list.now i blank).role ≡ c.args.a.role = search rules in
    let el : (get_or c.args.list.now i blank).low ≡ c.args.a.low = search rules in
    let ee : (get_or c.args.list.now i blank).end ≡ c.args.a.end = search rules in
    let ef : (get_or c.args.list.now i blank).from ≡ c.args.a.from = search rules in
    let eu : (get_or c.args.list.now i blank).until ≡ c.args.a.until = search rules in
    λ _. listed c.args.list.now i c.args.a lt er el ee ef eu
