use Rattle.std.proofs.Common.{◌≡◌, ◌++◌, ◌*◌, ◌≤◌, drop}
use Rattle.pb_cprint.specs.Framed.{words_written, bodies_behind}
use Rattle.pb_cprint.proofs.text.push_words.Given as goal

abbrev pub invariant-loop-label : goal.invariant-loop-label
invariant-loop-label l = record {
  most : l.at ≤ 2 * l.label-index;
  text : l.out.items ++ words_written (drop l.label-index l.labels) (drop l.at l.bodies) ≡ l.initial.out.items ++ words_written l.labels l.bodies;
  behind : bodies_behind (drop l.label-index l.labels) (drop l.at l.bodies) ≡ bodies_behind l.labels l.bodies;
}
