use Rattle.std.proofs.Common.{◌≡◌, ◌++◌, drop}
use Rattle.pb_part_firsts.specs.Parts.{flat}
use Rattle.pb_part_firsts.proofs.parts.areas_of.Given as goal

abbrev pub invariant-loop-part : goal.invariant-loop-part
invariant-loop-part l = record { is : l.out.items ++ flat (drop l.part-index l.parts) ≡ flat l.parts }
