use Rattle.std.proofs.Common.{◌≡◌, ◌-◌}
use Rattle.pb_text.specs.declared.token.Mark.TheVariants as marks
use Rattle.pb_syntax.specs.Reading.{repeat_at, with_front}
use Rattle.pb_syntax.specs.Readers.{mark_next}
use Rattle.pb_strips_grammar.specs.Readers.{comma_role_at}
use Rattle.pb_strips_parse.proofs.roles.comma_roles.Given as goal

abbrev pub invariant-loop : goal.invariant-loop
invariant-loop l = record {
  so_far : with_front l.list.items (repeat_at (mark_next marks.Comma) comma_role_at (l.end - l.counter) l.cursor.rest.now) ≡ with_front l.initial.list.items (repeat_at (mark_next marks.Comma) comma_role_at l.end l.initial.cursor.rest.now);
}
