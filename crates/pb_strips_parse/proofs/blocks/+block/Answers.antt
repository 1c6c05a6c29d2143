use Rattle.std.proofs.Common.{◌≡◌, ℕ, suc, ◌-◌, ◌∷◌, [], length, true, ap, ◌∙◌, rules, arith}
use Rattle.std.specs.Prelude.{map}
use Rattle.std.proofs.lemmas.Result.{err_from_is_err_and}
use Rattle.std.proofs.lemmas.List.{map-append}
use Rattle.pb_strips_syntax.specs.Plain.{plain_statement, plain_block}
use Rattle.pb_syntax.specs.Reading.{starts, among}
use Rattle.pb_syntax.specs.Readers.{key_next}
use Rattle.pb_strips_grammar.specs.Readers.{or_block_at, braces_at}
use Rattle.pb_strips_parse.specs.Blocks.{block_within, keys_within, statement_within}
use Rattle.pb_text.specs.declared.token.Key.TheVariants as keys
use Rattle.pb_parse.proofs.Repeat.{read_next, read_fault, read_none, read_all}
use Rattle.pb_strips_parse.proofs.Shapes.{block_more}
use Rattle.pb_strips_parse.proofs.blocks.+block.Goals as goal
use Rattle.pb_strips_parse.proofs.blocks.+block.Goals.{statements-else-loop-test, statements-then-loop-test+then-not-at_statement, or_blocks-else-loop-test, or_blocks-then-loop-test+then-not-at_key}

pub statements-returns-in_err-statement : goal.statements-returns-in_err-statement
statements-returns-in_err-statement t c =
    let p = err_from_is_err_and c.from_residual.result c.from_residual.ensures.1 in
    let here : starts (among (keys_within c.args.around)) c.loop.cursor.rest.now ≡ true = search rules in
    rw (p.1, p.2) (read_fault (among (keys_within c.args.around)) (statement_within c.args.around c.args.depth) c.in_err-statement.field-0.0 (map plain_statement c.loop.list.items) (length c.args.cursor.now.rest.now) c.loop.counter c.loop.cursor.rest.now c.statement_or_columns.new.cursor.rest.now _ c.loop-test.true here c.in_err-statement.ensures c.loop.invariant.so_far)

pub statements-loop-preserved : goal.statements-loop-preserved
statements-loop-preserved t c =
    let here : starts (among (keys_within c.args.around)) c.loop.cursor.rest.now ≡ true = search rules in
    let next = read_next (among (keys_within c.args.around)) (statement_within c.args.around c.args.depth) (map plain_statement c.loop.list.items) (length c.args.cursor.now.rest.now) c.loop.counter c.loop.cursor.rest.now (plain_statement c.in_ok-statement.statement) c.statement_or_columns.new.cursor.rest.now _ c.loop-test.true here c.in_ok-statement.ensures c.loop.invariant.so_far in
    record { so_far = rw (c.in_ok-push.ensures.items, map-append plain_statement c.loop.list.items (c.in_ok-statement.statement ∷ [])) next }

pub statements-returns : goal.statements-returns
statements-returns t c =
    elim c.loop-test.branch [
      | statements-else-loop-test w ↦ read_all (among (keys_within c.args.around)) (statement_within c.args.around c.args.depth) (map plain_statement c.loop.list.items) (length c.args.cursor.now.rest.now) c.loop.counter c.loop.cursor.rest.now _ w.loop-test.false c.loop.invariant.so_far
      | statements-then-loop-test+then-not-at_statement w ↦ read_none (among (keys_within c.args.around)) (statement_within c.args.around c.args.depth) (map plain_statement c.loop.list.items) (length c.args.cursor.now.rest.now) c.loop.counter c.loop.cursor.rest.now _ (search rules) c.loop.invariant.so_far
    ]

pub or_blocks-returns-in_err-branch : goal.or_blocks-returns-in_err-branch
or_blocks-returns-in_err-branch t c =
    let p = err_from_is_err_and c.from_residual.result c.from_residual.ensures.1 in
    let here : starts (key_next keys.Or) c.loop.cursor.rest.now ≡ true = search rules in
    rw (p.1, p.2) (read_fault (key_next keys.Or) (or_block_at (block_within c.args.around c.args.depth)) c.in_err-branch.field-0.0 (map plain_block c.loop.list.items) (length c.args.cursor.now.rest.now) c.loop.counter c.loop.cursor.rest.now c.or_block.new.cursor.rest.now _ c.loop-test.true here c.in_err-branch.ensures c.loop.invariant.so_far)

pub or_blocks-loop-preserved : goal.or_blocks-loop-preserved
or_blocks-loop-preserved t c =
    let here : starts (key_next keys.Or) c.loop.cursor.rest.now ≡ true = search rules in
    let next = read_next (key_next keys.Or) (or_block_at (block_within c.args.around c.args.depth)) (map plain_block c.loop.list.items) (length c.args.cursor.now.rest.now) c.loop.counter c.loop.cursor.rest.now (plain_block c.in_ok-branch.branch) c.or_block.new.cursor.rest.now _ c.loop-test.true here c.in_ok-branch.ensures c.loop.invariant.so_far in
    record { so_far = rw (c.in_ok-push.ensures.items, map-append plain_block c.loop.list.items (c.in_ok-branch.branch ∷ [])) next }

pub or_blocks-returns : goal.or_blocks-returns
or_blocks-returns t c =
    elim c.loop-test.branch [
      | or_blocks-else-loop-test w ↦ read_all (key_next keys.Or) (or_block_at (block_within c.args.around c.args.depth)) (map plain_block c.loop.list.items) (length c.args.cursor.now.rest.now) c.loop.counter c.loop.cursor.rest.now _ w.loop-test.false c.loop.invariant.so_far
      | or_blocks-then-loop-test+then-not-at_key w ↦ read_none (key_next keys.Or) (or_block_at (block_within c.args.around c.args.depth)) (map plain_block c.loop.list.items) (length c.args.cursor.now.rest.now) c.loop.counter c.loop.cursor.rest.now _ (search rules) c.loop.invariant.so_far
    ]

pub block-returns : goal.block-returns
block-returns t c =
    let next : c.args.depth ≡ suc (c.args.depth - 1) = omega (arith, c.if-depth-eq0.false) in
    let same : block_within c.args.around c.args.depth c.args.cursor.now.rest.now ≡ braces_at (among (keys_within c.args.around)) (statement_within c.args.around (c.args.depth - 1)) c.args.cursor.now.rest.now = ap (λ (n : ℕ). block_within c.args.around n c.args.cursor.now.rest.now) next ∙ block_more c.args.around (c.args.depth - 1) c.args.cursor.now.rest.now in
    rw same c.braces.ensures
