use Rattle.std.proofs.Common.{◌≡◌, ◌+◌, ◌*◌, ◌-◌}
use Rattle.std.specs.Prelude.{map}
use Rattle.pb_text.specs.declared.token.Key.TheVariants as keys
use Rattle.pb_strips_syntax.specs.Plain.{plain_statement, plain_block}
use Rattle.pb_syntax.specs.Reading.{repeat_at, among, with_front}
use Rattle.pb_syntax.specs.Readers.{key_next}
use Rattle.pb_strips_grammar.specs.Readers.{or_block_at}
use Rattle.pb_strips_parse.specs.Blocks.{block_within, keys_within, statement_within}
use Rattle.pb_strips_parse.proofs.blocks.+block.Given as goal

abbrev pub decreases-block : goal.decreases-block
decreases-block l = 8 * l.depth

abbrev pub decreases-or_block : goal.decreases-or_block
decreases-or_block l = 8 * l.depth + 1

abbrev pub decreases-recursion : goal.decreases-recursion
decreases-recursion l = 8 * l.depth + 1

abbrev pub decreases-columns : goal.decreases-columns
decreases-columns l = 8 * l.depth + 1

abbrev pub decreases-or_blocks : goal.decreases-or_blocks
decreases-or_blocks l = 8 * l.depth + 2

abbrev pub decreases-choice : goal.decreases-choice
decreases-choice l = 8 * l.depth + 3

abbrev pub decreases-statement : goal.decreases-statement
decreases-statement l = 8 * l.depth + 4

abbrev pub decreases-statement_or_columns : goal.decreases-statement_or_columns
decreases-statement_or_columns l = 8 * l.depth + 5

abbrev pub decreases-statements : goal.decreases-statements
decreases-statements l = 8 * l.depth + 6

abbrev pub decreases-braces : goal.decreases-braces
decreases-braces l = 8 * l.depth + 7

abbrev pub invariant-or_blocks-loop : goal.invariant-or_blocks-loop
invariant-or_blocks-loop l = record {
  so_far : with_front (map plain_block l.list.items) (repeat_at (key_next keys.Or) (or_block_at (block_within l.around l.depth)) (l.end - l.counter) l.cursor.rest.now) ≡ with_front (map plain_block l.initial.list.items) (repeat_at (key_next keys.Or) (or_block_at (block_within l.around l.depth)) l.end l.initial.cursor.rest.now);
}

abbrev pub invariant-statements-loop : goal.invariant-statements-loop
invariant-statements-loop l = record {
  so_far : with_front (map plain_statement l.list.items) (repeat_at (among (keys_within l.around)) (statement_within l.around l.depth) (l.end - l.counter) l.cursor.rest.now) ≡ repeat_at (among (keys_within l.around)) (statement_within l.around l.depth) l.end l.initial.cursor.rest.now;
}
