use Rattle.std.proofs.Common.{◌≡◌, length, true, rules}
use Rattle.std.proofs.lemmas.Result.{err_from_is_err_and}
use Rattle.pb_text.specs.declared.token.Mark.TheVariants as marks
use Rattle.pb_syntax.specs.Reading.{starts}
use Rattle.pb_syntax.specs.Readers.{mark_next}
use Rattle.pb_strips_grammar.specs.Readers.{comma_role_at}
use Rattle.pb_parse.proofs.Repeat.{read_next, read_fault, read_none, read_all}
use Rattle.pb_strips_parse.proofs.roles.comma_roles.Goals as goal
use Rattle.pb_strips_parse.proofs.roles.comma_roles.Goals.{else-loop-test, then-loop-test+then-not-at_mark}

pub returns-in_err-role : goal.returns-in_err-role
returns-in_err-role c =
    let p = err_from_is_err_and c.from_residual.result c.from_residual.ensures.1 in
    let here : starts (mark_next marks.Comma) c.loop.cursor.rest.now ≡ true = search rules in
    rw (p.1, p.2) (read_fault (mark_next marks.Comma) comma_role_at c.in_err-role.field-0.0 c.loop.list.items (length c.args.cursor.now.rest.now) c.loop.counter c.loop.cursor.rest.now c.comma_role.new.cursor.rest.now _ c.loop-test.true here c.in_err-role.ensures c.loop.invariant.so_far)

pub loop-preserved : goal.loop-preserved
loop-preserved c =
    let here : starts (mark_next marks.Comma) c.loop.cursor.rest.now ≡ true = search rules in
    let next = read_next (mark_next marks.Comma) comma_role_at c.loop.list.items (length c.args.cursor.now.rest.now) c.loop.counter c.loop.cursor.rest.now c.in_ok-role.role c.comma_role.new.cursor.rest.now _ c.loop-test.true here c.in_ok-role.ensures c.loop.invariant.so_far in
    record { so_far = rw (c.in_ok-push.ensures.items) next }

pub returns : goal.returns
returns c =
    elim c.loop-test.branch [
      | else-loop-test w ↦ read_all (mark_next marks.Comma) comma_role_at c.loop.list.items (length c.args.cursor.now.rest.now) c.loop.counter c.loop.cursor.rest.now _ w.loop-test.false c.loop.invariant.so_far
      | then-loop-test+then-not-at_mark w ↦ read_none (mark_next marks.Comma) comma_role_at c.loop.list.items (length c.args.cursor.now.rest.now) c.loop.counter c.loop.cursor.rest.now _ (search rules) c.loop.invariant.so_far
    ]
