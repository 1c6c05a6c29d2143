use Rattle.std.proofs.Common.{◌≡◌, ◌<◌, ◌≤◌, length, take, arith}
use Rattle.std.proofs.lemmas.Int.{ints}
use Rattle.std.proofs.lemmas.List.{length-take-le}
use Rattle.pb_diff.proofs.Placed.{put_last, put_stronger, put_weaker, has_room}
use Rattle.pb_diff.proofs.constraint.put.Goals as goal

pub bounds-kept-i : goal.bounds-kept-i
bounds-kept-i c =
    let lt : c.args.count < 16 = has_room _ _ _ c.args.k c.if-i-count.true c.requires.within c.told-kept c.place-i.ensures.before c.requires.room in
    omega arith

pub returns-then-i-count-clause-within : goal.returns-then-i-count-clause-within
returns-then-i-count-clause-within c =
    let lt : c.args.count < 16 = has_room _ _ _ c.args.k c.if-i-count.true c.requires.within c.told-kept c.place-i.ensures.before c.requires.room in
    omega arith

pub returns-then-i-count-clause-kept : goal.returns-then-i-count-clause-kept
returns-then-i-count-clause-kept c =
    let lt : c.args.count < 16 = has_room _ _ _ c.args.k c.if-i-count.true c.requires.within c.told-kept c.place-i.ensures.before c.requires.room in
    put_last _ _ _ c.args.k c.if-i-count.true (omega arith) c.place-i.ensures.before

pub returns-then-k-kept-clause-kept : goal.returns-then-k-kept-clause-kept
returns-then-k-kept-clause-kept c =
    let le : c.args.count ≤ length c.args.kept.now = omega arith in
    let size : length (take c.args.count c.args.kept.now) ≡ c.args.count = length-take-le _ _ le in
    let within : c.place-i.result ≤ length (take c.args.count c.args.kept.now) = c.place-i.ensures.within in
    let lt : c.place-i.result < c.args.count = omega arith in
    put_stronger _ _ _ c.args.k lt le c.place-i.ensures.before (c.place-i.ensures.found (omega arith)) (omega (arith, ints, c.if-k-kept.true))

pub returns-else-k-kept-clause-kept : goal.returns-else-k-kept-clause-kept
returns-else-k-kept-clause-kept c =
    let le : c.args.count ≤ length c.args.kept.now = omega arith in
    let size : length (take c.args.count c.args.kept.now) ≡ c.args.count = length-take-le _ _ le in
    let within : c.place-i.result ≤ length (take c.args.count c.args.kept.now) = c.place-i.ensures.within in
    let lt : c.place-i.result < c.args.count = omega arith in
    put_weaker _ _ _ c.args.k lt le c.place-i.ensures.before (c.place-i.ensures.found (omega arith)) (omega (arith, ints, c.if-k-kept.false))
