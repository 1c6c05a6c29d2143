use Rattle.std.proofs.Common.{ap, sym, ◌∙◌, ◌||◌, subst, arith}
use Rattle.std.specs.List.{All}
use Rattle.std.proofs.lemmas.List.Elements.{All-push}
use Rattle.pb_part_areas.specs.Areas.{have, IsSomewhere, AreSomewhere}
use Rattle.pb_part_areas.specs.Fits.{Fits}
use Rattle.pb_part_areas.specs.Joins.{IsJoin, HasNoNeighbour}
use Rattle.pb_part_areas.proofs.Joins.{join_is, join_fits, All_removed}
use Rattle.pb_part_areas.proofs.Lists.{have_pushed}
use Rattle.pb_part_areas.proofs.Neighbours.{short_removed, joined_removed, joined_pushed, last_pushed}
use Rattle.pb_part_areas.proofs.Wide.{union_somewhere, removed_somewhere}
use Rattle.pb_part_areas.proofs.join.push.Goals as goal

pub loop-join-preserved : goal.loop-join-preserved
loop-join-preserved c =
    let j : IsJoin c.loop-join.out.items c.loop-join.last c.in-Some.join.place c.in-Some.join.area = rw c.deref.ensures.value at c.in-Some.ensures in
    record {
      is = λ n role x. join_is c.loop-join.out.items c.remove.new.self.items c.in-Some.join.place c.loop-join.last c.in-Some.join.area j c.remove.ensures.items n role x _ (c.loop-join.invariant.is n role x);
      fits = λ range cuts h f. All_removed range cuts c.loop-join.out.items c.remove.new.self.items c.in-Some.join.place c.remove.ensures.items (c.loop-join.invariant.fits range cuts h f);
      own = λ range cuts h f. join_fits range cuts c.loop-join.out.items c.in-Some.join.place c.loop-join.last c.in-Some.join.area j (c.loop-join.invariant.fits range cuts h f) (c.loop-join.invariant.own range cuts h f);
      some = λ h. removed_somewhere c.loop-join.out.items c.remove.new.self.items c.in-Some.join.place c.remove.ensures.items (c.loop-join.invariant.some h);
      last_some = λ h. union_somewhere _ c.loop-join.last c.in-Some.join.area j.union (c.loop-join.invariant.last_some h);
      short = let n = short_removed c.loop-join.out.items c.remove.new.self.items c.in-Some.join.place j.within c.remove.ensures.items in let k = c.loop-join.invariant.short in omega arith;
      joined = λ from h. joined_removed c.loop-join.out.items c.remove.new.self.items c.in-Some.join.place from j.within c.remove.ensures.items (c.loop-join.invariant.joined from h);
    }

pub returns-clause-is : goal.returns-clause-is
returns-clause-is c = λ n role x.
    have_pushed c.loop-join.out.items c.push.new.self.items c.loop-join.last c.in_ok-push.ensures.items n role x
    ∙ c.loop-join.invariant.is n role x
    ∙ ap (λ z. have c.args.out.now.items n role x || z) (c.tightened-last.ensures.is n role x)

pub returns-clause-fits : goal.returns-clause-fits
returns-clause-fits c = λ range cuts h f.
    let g = c.tightened-last.ensures.fits range cuts f in
    subst (All (Fits range cuts)) (sym c.in_ok-push.ensures.items)
    (All-push (Fits range cuts) c.loop-join.out.items c.loop-join.last (c.loop-join.invariant.fits range cuts h g) (c.loop-join.invariant.own range cuts h g))

pub returns-clause-some : goal.returns-clause-some
returns-clause-some c = λ h.
    subst AreSomewhere (sym c.in_ok-push.ensures.items)
    (All-push IsSomewhere c.loop-join.out.items c.loop-join.last (c.loop-join.invariant.some h) (c.loop-join.invariant.last_some (c.is_empty.ensures.some c.if-is_empty.false)))

pub returns-clause-joined : goal.returns-clause-joined
returns-clause-joined c = λ from few h.
    let alone : HasNoNeighbour c.loop-join.out.items c.loop-join.last = rw c.deref.ensures.value at c.in_default.ensures in
    let short = c.loop-join.invariant.short in
    joined_pushed c.loop-join.out.items c.push.new.self.items c.loop-join.last from c.in_ok-push.ensures.items (omega arith) alone (c.loop-join.invariant.joined from h)

pub returns-clause-last : goal.returns-clause-last
returns-clause-last c = λ h.
    let alone : HasNoNeighbour c.loop-join.out.items c.loop-join.last = rw c.deref.ensures.value at c.in_default.ensures in
    last_pushed c.loop-join.out.items c.push.new.self.items c.loop-join.last c.in_ok-push.ensures.items alone
