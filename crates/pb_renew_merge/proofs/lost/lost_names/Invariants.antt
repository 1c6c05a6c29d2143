use Rattle.std.proofs.Common.{◌≡◌, ◌++◌, not, drop}
use Rattle.std.specs.List.{filter}
use Rattle.pb_kernels.specs.Names.{body_of, names_of}
use Rattle.pb_renew_merge.specs.Lost.{keeps, lost_names}
use Rattle.pb_renew_merge.proofs.lost.lost_names.Given as goal

abbrev pub invariant-loop-place : goal.invariant-loop-place
invariant-loop-place l =
    l.list.items ++ filter (λ name. not (keeps name (body_of name l.old) l.other)) (drop l.place (names_of l.old)) ≡ lost_names l.old l.other
