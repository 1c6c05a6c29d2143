use Rattle.std.proofs.Common.{◌≡◌, true, false, not, ap, rules}
use Rattle.pb_kernels.specs.Names.{names_of}
use Rattle.pb_kernels.proofs.Keys.{found_here, found_later}
use Rattle.pb_renew_merge.specs.Lost.{is_kept}
use Rattle.pb_renew_merge.proofs.lost.first_lost.Goals as goal

pub returns-then-not-is_kept : goal.returns-then-not-is_kept
returns-then-not-is_kept c =
    let no : is_kept c.name_at-name.result c.args.old.now c.args.text.now c.args.left.now ≡ false = search (rules, c.if-not-is_kept.ensures) in
    found_here (λ name. not (is_kept name c.args.old.now c.args.text.now c.args.left.now)) (names_of c.args.old.now) c.loop-place.place c.name_at-name.result c.name_at-name.ensures (ap not no) c.loop-place.invariant

pub loop-place-preserved : goal.loop-place-preserved
loop-place-preserved c =
    let yes : is_kept c.name_at-name.result c.args.old.now c.args.text.now c.args.left.now ≡ true = search (rules, c.if-not-is_kept.ensures) in
    found_later (λ name. not (is_kept name c.args.old.now c.args.text.now c.args.left.now)) (names_of c.args.old.now) c.loop-place.place c.name_at-name.result c.name_at-name.ensures (ap not yes) c.loop-place.invariant
