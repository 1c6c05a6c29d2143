use Rattle.std.proofs.Common.{◌≡◌, drop}
use Rattle.pb_text.specs.Places.{place_after}
use Rattle.pb_lex.proofs.place.place_after.Given as goal

abbrev pub invariant-loop-byte : goal.invariant-loop-byte
invariant-loop-byte l = place_after l.fn.place l.bytes ≡ place_after l.place (drop l.byte-index l.bytes)
