use Rattle.std.proofs.Common.{◌≡◌, not, drop}
use Rattle.std.specs.Prelude.{find}
use Rattle.pb_kernels.specs.Merges.{first_extra, has_place}
use Rattle.pb_kernels.specs.Names.{names_of}
use Rattle.pb_kernels.proofs.merging.first_extra.Given as goal

abbrev pub invariant-loop-place : goal.invariant-loop-place
invariant-loop-place l =
    first_extra l.functions l.file ≡ find (λ name. not (has_place l.functions name)) (drop l.place (names_of l.file))
