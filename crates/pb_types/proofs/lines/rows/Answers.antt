use Rattle.std.proofs.Common.{◌≡◌, length, true, rules}
use Rattle.std.proofs.lemmas.Result.{err_from_is_err_and}
use Rattle.pb_syntax.specs.Reading.{starts}
use Rattle.pb_syntax.specs.Readers.{word_next}
use Rattle.pb_types.specs.Readers.{row_at}
use Rattle.pb_parse.proofs.Repeat.{read_next, read_fault, read_none, read_all}
use Rattle.pb_types.proofs.lines.rows.Goals as goal
use Rattle.pb_types.proofs.lines.rows.Goals.{else-loop-test, then-loop-test+then-not-at_word}

pub returns-in_err-one : goal.returns-in_err-one
returns-in_err-one c =
    let p = err_from_is_err_and c.from_residual.result c.from_residual.ensures.1 in
    let here : starts word_next c.loop.cursor.rest.now ≡ true = search rules in
    rw (p.1, p.2) (read_fault word_next row_at c.in_err-one.field-0.0 c.loop.list.items (length c.args.cursor.now.rest.now) c.loop.counter c.loop.cursor.rest.now c.row.new.cursor.rest.now _ c.loop-test.true here c.in_err-one.ensures c.loop.invariant.so_far)

pub loop-preserved : goal.loop-preserved
loop-preserved c =
    let here : starts word_next c.loop.cursor.rest.now ≡ true = search rules in
    let next = read_next word_next row_at c.loop.list.items (length c.args.cursor.now.rest.now) c.loop.counter c.loop.cursor.rest.now c.in_ok-one.one c.row.new.cursor.rest.now _ c.loop-test.true here c.in_ok-one.ensures c.loop.invariant.so_far in
    record { so_far = rw (c.in_ok-push.ensures.items) next }

pub returns : goal.returns
returns c =
    elim c.loop-test.branch [
      | else-loop-test w ↦ read_all word_next row_at c.loop.list.items (length c.args.cursor.now.rest.now) c.loop.counter c.loop.cursor.rest.now _ w.loop-test.false c.loop.invariant.so_far
      | then-loop-test+then-not-at_word w ↦ read_none word_next row_at c.loop.list.items (length c.args.cursor.now.rest.now) c.loop.counter c.loop.cursor.rest.now _ (search rules) c.loop.invariant.so_far
    ]
