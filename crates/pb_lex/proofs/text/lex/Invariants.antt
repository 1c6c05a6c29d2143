use Rattle.std.proofs.Common.{◌≤◌, ◌-◌, length, drop}
use Rattle.std.specs.List.{All}
use Rattle.pb_text.specs.Tokens.{IsSoundToken}
use Rattle.pb_lex.proofs.Steps.{SoFar}
use Rattle.pb_lex.proofs.text.lex.Given as goal

abbrev pub invariant-loop-at : goal.invariant-loop-at
invariant-loop-at l = record {
  within : l.at ≤ length l.bytes;
  sound : All IsSoundToken l.tokens.items;
  so_far : SoFar l.bytes l.place (drop l.at l.bytes) l.tokens.items;
}

abbrev pub decreases-loop-at : goal.decreases-loop-at
decreases-loop-at l = length l.bytes - l.at
