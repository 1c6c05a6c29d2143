use Rattle.std.proofs.Common.{◌≡◌, ◌∷◌, [], length, true, rules}
use Rattle.std.specs.Prelude.{map}
use Rattle.std.proofs.lemmas.Result.{err_from_is_err_and}
use Rattle.std.proofs.lemmas.List.{map-append}
use Rattle.pb_strips_syntax.specs.Plain.{plain_statement}
use Rattle.pb_syntax.specs.Reading.{starts, among}
use Rattle.pb_syntax.specs.Readers.{item_keys}
use Rattle.pb_strips_grammar.specs.Readers.{item_at}
use Rattle.pb_parse.proofs.Repeat.{read_next, read_fault, read_none, read_all}
use Rattle.pb_strips_parse.proofs.items.item_list.Goals as goal
use Rattle.pb_strips_parse.proofs.items.item_list.Goals.{else-loop-test, then-loop-test+then-not-at_item}

pub returns-in_err-item : goal.returns-in_err-item
returns-in_err-item c =
    let p = err_from_is_err_and c.from_residual.result c.from_residual.ensures.1 in
    let here : starts (among item_keys) c.loop.cursor.rest.now ≡ true = search rules in
    rw (p.1, p.2) (read_fault (among item_keys) item_at c.in_err-item.field-0.0 (map plain_statement c.loop.list.items) (length c.args.cursor.now.rest.now) c.loop.counter c.loop.cursor.rest.now c.item.new.cursor.rest.now _ c.loop-test.true here c.in_err-item.ensures c.loop.invariant.so_far)

pub loop-preserved : goal.loop-preserved
loop-preserved c =
    let here : starts (among item_keys) c.loop.cursor.rest.now ≡ true = search rules in
    let next = read_next (among item_keys) item_at (map plain_statement c.loop.list.items) (length c.args.cursor.now.rest.now) c.loop.counter c.loop.cursor.rest.now (plain_statement c.in_ok-item.item) c.item.new.cursor.rest.now _ c.loop-test.true here c.in_ok-item.ensures c.loop.invariant.so_far in
    record { so_far = rw (c.in_ok-push.ensures.items, map-append plain_statement c.loop.list.items (c.in_ok-item.item ∷ [])) next }

pub returns : goal.returns
returns c =
    elim c.loop-test.branch [
      | else-loop-test w ↦ read_all (among item_keys) item_at (map plain_statement c.loop.list.items) (length c.args.cursor.now.rest.now) c.loop.counter c.loop.cursor.rest.now _ w.loop-test.false c.loop.invariant.so_far
      | then-loop-test+then-not-at_item w ↦ read_none (among item_keys) item_at (map plain_statement c.loop.list.items) (length c.args.cursor.now.rest.now) c.loop.counter c.loop.cursor.rest.now _ (search rules) c.loop.invariant.so_far
    ]
