use Rattle.std.proofs.Common.{◌≡◌, ◌<◌, ◌^◌, drop}
use Rattle.pb_cli_words.specs.Numbers.{number_behind}
use Rattle.pb_cli_words.proofs.number.digits.Given as goal

abbrev pub invariant-loop-at : goal.invariant-loop-at
invariant-loop-at l = record {
  same : number_behind l.n (drop l.at l.text) ≡ number_behind 0 l.text;
  small : l.n < 2 ^ 64;
}
