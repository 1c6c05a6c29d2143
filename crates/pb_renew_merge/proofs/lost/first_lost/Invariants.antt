use Rattle.std.proofs.Common.{◌≡◌, not, drop}
use Rattle.std.specs.Prelude.{find}
use Rattle.pb_kernels.specs.Names.{names_of}
use Rattle.pb_renew_merge.specs.Lost.{first_lost, is_kept}
use Rattle.pb_renew_merge.proofs.lost.first_lost.Given as goal

abbrev pub invariant-loop-place : goal.invariant-loop-place
invariant-loop-place l =
    first_lost l.old l.text l.left ≡ find (λ name. not (is_kept name l.old l.text l.left)) (drop l.place (names_of l.old))
