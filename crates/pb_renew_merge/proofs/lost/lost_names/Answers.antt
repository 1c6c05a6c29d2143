use Rattle.std.proofs.Common.{not}
use Rattle.pb_kernels.specs.Names.{body_of, names_of}
use Rattle.pb_renew_merge.specs.Lost.{keeps}
use Rattle.pb_renew_merge.proofs.Places.{stepped}
use Rattle.pb_renew_merge.proofs.lost.lost_names.Goals as goal

pub loop-place-preserved : goal.loop-place-preserved
loop-place-preserved c =
    stepped (λ name. not (keeps name (body_of name c.args.old.now) c.args.other.now)) (names_of c.args.old.now) _ _ _ c.loop-place.place c.name_at-name.result c.name_at-name.ensures c.in_ok-push_lost.ensures c.loop-place.invariant
