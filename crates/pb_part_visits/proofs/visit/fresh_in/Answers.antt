use Rattle.std.proofs.Common.{◌+◌, map, drop}
use Rattle.pb_core_flat.specs.Stops.{first_of, at_value, has_fixed}
use Rattle.pb_part_visits.specs.Visits.{visit_of}
use Rattle.pb_part_visits.proofs.VisitLists.{blank, none_narrow, narrow_at}
use Rattle.pb_part_visits.proofs.EndFits.{among_at}
use Rattle.pb_part_visits.proofs.Fresh.{fresh_start, fresh_step, fresh_done, fresh_among}
use Rattle.pb_part_visits.proofs.visit.fresh_in.Goals as goal

pub loop-visit-init : goal.loop-visit-init
loop-visit-init c = record {
  same = λ roles n i role x. fresh_start (λ l. first_of (map (at_value roles n i) l) role x) c.args.list.now _ c.new-fresh.ensures.items;
  fixed = λ roles n role x. fresh_start (λ l. has_fixed roles n l role x) c.args.list.now _ c.new-fresh.ensures.items;
  narrow = λ h. none_narrow _ c.new-fresh.ensures.items;
  among = λ h cuts a. fresh_among h cuts _ c.new-fresh.ensures.items;
}

pub loop-visit-preserved : goal.loop-visit-preserved
loop-visit-preserved c = record {
  same = λ roles n i role x.
      fresh_step (λ l. first_of (map (at_value roles n i) l) role x) c.args.list.now c.loop-visit.visit-index blank _ _ _ c.loop-visit-test.true
      (c.in_ok-add_fresh.ensures.same roles n i role x (map visit_of (drop (c.loop-visit.visit-index + 1) c.args.list.now))) (c.loop-visit.invariant.same roles n i role x);
  fixed = λ roles n role x.
      fresh_step (λ l. has_fixed roles n l role x) c.args.list.now c.loop-visit.visit-index blank c.loop-visit.fresh.items c.add_fresh.new.list.items _ c.loop-visit-test.true
      (c.in_ok-add_fresh.ensures.fixed roles n role x (map visit_of (drop (c.loop-visit.visit-index + 1) c.args.list.now))) (c.loop-visit.invariant.fixed roles n role x);
  narrow = λ h. c.in_ok-add_fresh.ensures.narrow (narrow_at c.args.list.now c.loop-visit.visit-index blank c.loop-visit-test.true h) (c.loop-visit.invariant.narrow h);
  among = λ h cuts a. c.in_ok-add_fresh.ensures.among h cuts (among_at h cuts c.args.list.now c.loop-visit.visit-index c.loop-visit-test.true a) (c.loop-visit.invariant.among h cuts a);
}

pub returns-clause-same : goal.returns-clause-same
returns-clause-same c = λ roles n i role x.
    fresh_done (λ l. first_of (map (at_value roles n i) l) role x) c.args.list.now c.loop-visit.visit-index _ _ c.loop-visit-test.false (c.loop-visit.invariant.same roles n i role x)

pub returns-clause-fixed : goal.returns-clause-fixed
returns-clause-fixed c = λ roles n role x.
    fresh_done (λ l. has_fixed roles n l role x) c.args.list.now c.loop-visit.visit-index c.loop-visit.fresh.items _ c.loop-visit-test.false (c.loop-visit.invariant.fixed roles n role x)
