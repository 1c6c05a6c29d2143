use Rattle.std.proofs.Common.{◌≡◌, ◌-◌}
use Rattle.std.specs.Prelude.{map}
use Rattle.pb_do_syntax.specs.Plain.{plain_sub}
use Rattle.pb_syntax.specs.Reading.{repeat_at, with_front}
use Rattle.pb_text.specs.declared.token.Key.TheVariants as keys
use Rattle.pb_syntax.specs.Readers.{key_next}
use Rattle.pb_do_grammar.specs.Readers.{subprotocol_at, block_at}
use Rattle.pb_do_parse.proofs.file.subprotocols.Given as goal

abbrev pub invariant-loop : goal.invariant-loop
invariant-loop l = record {
  so_far : with_front (map plain_sub l.list.items) (repeat_at (key_next keys.Protocol) (subprotocol_at (block_at l.depth)) (l.end - l.counter) l.cursor.rest.now) ≡ repeat_at (key_next keys.Protocol) (subprotocol_at (block_at l.depth)) l.end l.initial.cursor.rest.now;
}
