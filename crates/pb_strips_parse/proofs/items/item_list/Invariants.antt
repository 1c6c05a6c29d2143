use Rattle.std.proofs.Common.{◌≡◌, ◌-◌}
use Rattle.std.specs.Prelude.{map}
use Rattle.pb_strips_syntax.specs.Plain.{plain_statement}
use Rattle.pb_syntax.specs.Reading.{repeat_at, among, with_front}
use Rattle.pb_syntax.specs.Readers.{item_keys}
use Rattle.pb_strips_grammar.specs.Readers.{item_at}
use Rattle.pb_strips_parse.proofs.items.item_list.Given as goal

abbrev pub invariant-loop : goal.invariant-loop
invariant-loop l = record {
  so_far : with_front (map plain_statement l.list.items) (repeat_at (among item_keys) item_at (l.end - l.counter) l.cursor.rest.now) ≡ repeat_at (among item_keys) item_at l.end l.initial.cursor.rest.now;
}
