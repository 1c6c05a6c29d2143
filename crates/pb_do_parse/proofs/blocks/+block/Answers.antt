use Rattle.std.proofs.Common.{◌≡◌, ◌∷◌, [], length, true, rules}
use Rattle.std.specs.Prelude.{map}
use Rattle.std.proofs.lemmas.Result.{err_from_is_err_and}
use Rattle.std.proofs.lemmas.List.{map-append}
use Rattle.pb_do_syntax.specs.Plain.{plain_statement, plain_block}
use Rattle.pb_syntax.specs.Reading.{starts, among}
use Rattle.pb_syntax.specs.Readers.{key_next}
use Rattle.pb_do_grammar.specs.Readers.{call_keys, statement_at, or_block_at, block_at}
use Rattle.pb_text.specs.declared.token.Key.TheVariants as keys
use Rattle.pb_parse.proofs.Repeat.{read_next, read_fault, read_none, read_all}
use Rattle.pb_do_parse.proofs.blocks.+block.Goals as goal
use Rattle.pb_do_parse.proofs.blocks.+block.Goals.{statements-else-loop-test, statements-then-loop-test+then-not-at_statement, or_blocks-else-loop-test, or_blocks-then-loop-test+then-not-at_key}

pub statements-returns-in_err-statement : goal.statements-returns-in_err-statement
statements-returns-in_err-statement t c =
    let p = err_from_is_err_and c.from_residual.result c.from_residual.ensures.1 in
    let here : starts (among call_keys) c.loop.cursor.rest.now ≡ true = search rules in
    rw (p.1, p.2) (read_fault (among call_keys) (statement_at (block_at c.args.depth)) c.in_err-statement.field-0.0 (map plain_statement c.loop.list.items) (length c.args.cursor.now.rest.now) c.loop.counter c.loop.cursor.rest.now c.statement.new.cursor.rest.now _ c.loop-test.true here c.in_err-statement.ensures c.loop.invariant.so_far)

pub statements-loop-preserved : goal.statements-loop-preserved
statements-loop-preserved t c =
    let here : starts (among call_keys) c.loop.cursor.rest.now ≡ true = search rules in
    let next = read_next (among call_keys) (statement_at (block_at c.args.depth)) (map plain_statement c.loop.list.items) (length c.args.cursor.now.rest.now) c.loop.counter c.loop.cursor.rest.now (plain_statement c.in_ok-statement.statement) c.statement.new.cursor.rest.now _ c.loop-test.true here c.in_ok-statement.ensures c.loop.invariant.so_far in
    record { so_far = rw (c.in_ok-push.ensures.items, map-append plain_statement c.loop.list.items (c.in_ok-statement.statement ∷ [])) next }

pub statements-returns : goal.statements-returns
statements-returns t c =
    elim c.loop-test.branch [
      | statements-else-loop-test w ↦ read_all (among call_keys) (statement_at (block_at c.args.depth)) (map plain_statement c.loop.list.items) (length c.args.cursor.now.rest.now) c.loop.counter c.loop.cursor.rest.now _ w.loop-test.false c.loop.invariant.so_far
      | statements-then-loop-test+then-not-at_statement w ↦ read_none (among call_keys) (statement_at (block_at c.args.depth)) (map plain_statement c.loop.list.items) (length c.args.cursor.now.rest.now) c.loop.counter c.loop.cursor.rest.now _ (search rules) c.loop.invariant.so_far
    ]

pub or_blocks-returns-in_err-branch : goal.or_blocks-returns-in_err-branch
or_blocks-returns-in_err-branch t c =
    let p = err_from_is_err_and c.from_residual.result c.from_residual.ensures.1 in
    let here : starts (key_next keys.Or) c.loop.cursor.rest.now ≡ true = search rules in
    rw (p.1, p.2) (read_fault (key_next keys.Or) (or_block_at (block_at c.args.depth)) c.in_err-branch.field-0.0 (map plain_block c.loop.list.items) (length c.args.cursor.now.rest.now) c.loop.counter c.loop.cursor.rest.now c.or_block.new.cursor.rest.now _ c.loop-test.true here c.in_err-branch.ensures c.loop.invariant.so_far)

pub or_blocks-loop-preserved : goal.or_blocks-loop-preserved
or_blocks-loop-preserved t c =
    let here : starts (key_next keys.Or) c.loop.cursor.rest.now ≡ true = search rules in
    let next = read_next (key_next keys.Or) (or_block_at (block_at c.args.depth)) (map plain_block c.loop.list.items) (length c.args.cursor.now.rest.now) c.loop.counter c.loop.cursor.rest.now (plain_block c.in_ok-branch.branch) c.or_block.new.cursor.rest.now _ c.loop-test.true here c.in_ok-branch.ensures c.loop.invariant.so_far in
    record { so_far = rw (c.in_ok-push.ensures.items, map-append plain_block c.loop.list.items (c.in_ok-branch.branch ∷ [])) next }

pub or_blocks-returns : goal.or_blocks-returns
or_blocks-returns t c =
    elim c.loop-test.branch [
      | or_blocks-else-loop-test w ↦ read_all (key_next keys.Or) (or_block_at (block_at c.args.depth)) (map plain_block c.loop.list.items) (length c.args.cursor.now.rest.now) c.loop.counter c.loop.cursor.rest.now _ w.loop-test.false c.loop.invariant.so_far
      | or_blocks-then-loop-test+then-not-at_key w ↦ read_none (key_next keys.Or) (or_block_at (block_at c.args.depth)) (map plain_block c.loop.list.items) (length c.args.cursor.now.rest.now) c.loop.counter c.loop.cursor.rest.now _ (search rules) c.loop.invariant.so_far
    ]
