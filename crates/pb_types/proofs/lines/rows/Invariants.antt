use Rattle.std.proofs.Common.{◌≡◌, ◌-◌}
use Rattle.pb_syntax.specs.Reading.{repeat_at, with_front}
use Rattle.pb_syntax.specs.Readers.{word_next}
use Rattle.pb_types.specs.Readers.{row_at}
use Rattle.pb_types.proofs.lines.rows.Given as goal

abbrev pub invariant-loop : goal.invariant-loop
invariant-loop l = record {
  so_far : with_front l.list.items (repeat_at word_next row_at (l.end - l.counter) l.cursor.rest.now) ≡ repeat_at word_next row_at l.end l.initial.cursor.rest.now;
}
