use Rattle.std.proofs.Common.{◌≡◌, take}
use Rattle.pb_text.specs.Places.{first_place, place_after}
use Rattle.pb_explain_source.proofs.source.Source.has.Given as goal

abbrev pub invariant-loop-byte : goal.invariant-loop-byte
invariant-loop-byte l = l.here ≡ place_after first_place (take l.byte-index l.byte-items)
