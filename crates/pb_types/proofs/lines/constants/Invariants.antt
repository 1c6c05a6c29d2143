use Rattle.std.proofs.Common.{◌≡◌, ◌-◌}
use Rattle.pb_text.specs.declared.token.Key.TheVariants as keys
use Rattle.pb_syntax.specs.Reading.{repeat_at, with_front}
use Rattle.pb_syntax.specs.Readers.{key_next}
use Rattle.pb_types.specs.Readers.{constant_at}
use Rattle.pb_types.proofs.lines.constants.Given as goal

abbrev pub invariant-loop : goal.invariant-loop
invariant-loop l = record {
  so_far : with_front l.list.items (repeat_at (key_next keys.Const) constant_at (l.end - l.counter) l.cursor.rest.now) ≡ repeat_at (key_next keys.Const) constant_at l.end l.initial.cursor.rest.now;
}
