use Rattle.std.proofs.Common.{◌≡◌, map, true}
use Rattle.std.proofs.lemmas.Result.{on_ok_weaker}
use Rattle.pb_core_language.specs.Plain.{plain_block}
use Rattle.pb_part_visits.specs.Visits.{visit_of, are_narrow, VisitsAmong}
use Rattle.pb_part_firsts.proofs.EachSteps.{each_gives, turns_bounded, each_narrow}
use Rattle.pb_part_visits.proofs.EndFits.{each_among, each_edges}
use Rattle.pb_part_firsts.proofs.FixedStops.{adds_alike}
use Rattle.pb_part_firsts.proofs.each.add_foreach.Goals as goal

pub returns-clause-gives : goal.returns-clause-gives
returns-clause-gives c =
    let vs = map visit_of c.in_ok-visits.visits.items in
    let sorts = rw c.deref.ensures.value at c.in_ok-sorted.ensures.sorted in
    let narrows = rw c.deref.ensures.value at c.in_ok-sorted.ensures.narrow in
    let same = rw c.deref-2.ensures.value at c.in_ok-fresh.ensures.same in
    let fixed = rw c.deref-2.ensures.value at c.in_ok-fresh.ensures.fixed in
    let near = rw c.deref-2.ensures.value at c.in_ok-fresh.ensures.narrow in
    let first = rw c.deref-3.ensures.value at c.in_ok-add_first.ensures.gives in
    let others = rw c.deref-4.ensures.value at c.add_moving.ensures.gives in
    on_ok_weaker c.add_moving.result
    (λ g range roles rows held m k w h.
    let narrow : are_narrow vs ≡ true = each_narrow rows _ c.args.over k _ vs h c.in_ok-visits.ensures in
    let bounded = turns_bounded rows _ c.args.over k _ h in
    each_gives rows held m k c.args.over (plain_block c.args.items.now).block vs (map visit_of c.in_ok-sorted.sorted.items) h c.in_ok-visits.ensures sorts
    (adds_alike c.args.over.low c.args.over.high _ vs (same roles) (fixed roles) (first range roles (near narrow) bounded)) (g range roles w (narrows narrow) bounded))
    others

pub returns-clause-small : goal.returns-clause-small
returns-clause-small c =
    let vs = map visit_of c.in_ok-visits.visits.items in
    let narrows = rw c.deref.ensures.value at c.in_ok-sorted.ensures.narrow in
    let near = rw c.deref-2.ensures.value at c.in_ok-fresh.ensures.narrow in
    let first = rw c.deref-3.ensures.value at c.in_ok-add_first.ensures.small in
    let others = rw c.deref-4.ensures.value at c.add_moving.ensures.small in
    on_ok_weaker c.add_moving.result
    (λ g rows ids k h s.
    let narrow : are_narrow vs ≡ true = each_narrow rows ids c.args.over k _ vs h c.in_ok-visits.ensures in
    g (narrows narrow) (first (near narrow) s))
    others

pub returns-clause-fits : goal.returns-clause-fits
returns-clause-fits c =
    let vs = map visit_of c.in_ok-visits.visits.items in
    let tree = (plain_block c.args.items.now).block in
    let narrows = rw c.deref.ensures.value at c.in_ok-sorted.ensures.narrow in
    let movers = rw c.deref.ensures.value at c.in_ok-sorted.ensures.among in
    let near = rw c.deref-2.ensures.value at c.in_ok-fresh.ensures.narrow in
    let kept = rw c.deref-2.ensures.value at c.in_ok-fresh.ensures.among in
    let first = rw c.deref-3.ensures.value at c.in_ok-add_first.ensures.fits in
    let others = rw c.deref-4.ensures.value at c.add_moving.ensures.fits in
    on_ok_weaker c.add_moving.result
    (λ g range cuts rows ids k h a b s.
    let narrow : are_narrow vs ≡ true = each_narrow rows ids c.args.over k tree vs h c.in_ok-visits.ensures in
    let bounded = turns_bounded rows ids c.args.over k tree h in
    let among : VisitsAmong c.args.over cuts vs = each_among c.args.over cuts tree vs c.in_ok-visits.ensures a in
    g range cuts (narrows narrow) bounded (movers c.args.over cuts among) b (first range cuts (near narrow) bounded (each_edges c.args.over cuts tree a) (kept c.args.over cuts among) s))
    others
