use Rattle.std.proofs.Common.{◌≡◌, true, false, not, ap, rules}
use Rattle.pb_kernels.specs.Merges.{has_place}
use Rattle.pb_kernels.specs.Names.{names_of}
use Rattle.pb_kernels.proofs.Keys.{found_here, found_later}
use Rattle.pb_kernels.proofs.merging.first_extra.Goals as goal

pub returns-then-not-has_place : goal.returns-then-not-has_place
returns-then-not-has_place c =
    let no : has_place c.args.functions.now c.name_at-name.result ≡ false = search (rules, c.if-not-has_place.ensures) in
    found_here (λ name. not (has_place c.args.functions.now name)) (names_of c.args.file.now) c.loop-place.place c.name_at-name.result c.name_at-name.ensures (ap not no) c.loop-place.invariant

pub loop-place-preserved : goal.loop-place-preserved
loop-place-preserved c =
    let yes : has_place c.args.functions.now c.name_at-name.result ≡ true = search (rules, c.if-not-has_place.ensures) in
    found_later (λ name. not (has_place c.args.functions.now name)) (names_of c.args.file.now) c.loop-place.place c.name_at-name.result c.name_at-name.ensures (ap not yes) c.loop-place.invariant
