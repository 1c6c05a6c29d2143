use Rattle.std.proofs.Common.{◌≡◌, drop}
use Rattle.pb_text.specs.Lexemes.{close_of, later}
use Rattle.pb_lex.proofs.comment.close_of.Given as goal

abbrev pub invariant-loop-at : goal.invariant-loop-at
invariant-loop-at l = close_of l.bytes ≡ later l.at (close_of (drop l.at l.bytes))
