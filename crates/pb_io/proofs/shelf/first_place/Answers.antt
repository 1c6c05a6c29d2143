use Rattle.std.proofs.Common.{◌≡◌, ◌∙◌, true, false, rules}
use Rattle.pb_io.proofs.Places.{is_named, first_here, first_behind}
use Rattle.pb_io.proofs.shelf.first_place.Goals as goal

pub returns-then-eq : goal.returns-then-eq
returns-then-eq c =
    let named : is_named c.index-files-place.result c.args.name.now ≡ true = search rules in
    first_here _ _ _ _ c.loop-place-test.true c.index-files-place.is named ∙ c.loop-place.invariant

pub loop-place-preserved : goal.loop-place-preserved
loop-place-preserved c =
    let other : is_named c.index-files-place.result c.args.name.now ≡ false = search rules in
    first_behind _ _ _ _ c.loop-place-test.true c.index-files-place.is other ∙ c.loop-place.invariant
