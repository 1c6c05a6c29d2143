use Rattle.std.proofs.Common.{◌≡◌, ◌≤◌, drop}
use Rattle.pb_text.specs.Lexemes.{value_from}
use Rattle.pb_lex.proofs.number.value_of.Given as goal

abbrev pub invariant-loop-digit : goal.invariant-loop-digit
invariant-loop-digit l = record {
  few : l.value ≤ 2000000000;
  value : value_from 0 l.digits ≡ value_from l.value (drop l.digit-index l.digits);
}
