use Rattle.pb_core_language.specs.Plain.{plain}
use Rattle.pb_cost_blocks.specs.declared.asked.Asked.{Asked}
use Rattle.pb_cost.proofs.Told.{counted_of, many_told, unfit_never}
use Rattle.pb_cost.proofs.cost.count_of.Goals as goal

pub unreachable-requires : goal.unreachable-requires
unreachable-requires c =
    let asked : Asked = record { way = c.args.way; what = c.args.what; span = c.span_of.result } in
    unfit_never (plain c.args.core.now) asked c.span_of.ensures c.requires.countable c.requires.none c.deref.result.now c.deref.ensures.value c.in-Err-Unfit.field-0 c.in-Err-Unfit.field-0-is c.in-Err-Unfit.ensures

pub returns-in_ok-pieces_of-in-Ok : goal.returns-in_ok-pieces_of-in-Ok
returns-in_ok-pieces_of-in-Ok c =
    let asked : Asked = record { way = c.args.way; what = c.args.what; span = c.span_of.result } in
    counted_of (plain c.args.core.now) asked c.span_of.ensures c.requires.countable c.requires.none c.deref.result.now c.deref.ensures.value c.in-Ok.count c.deref-in-Ok.result.now c.in_ok-pieces_of-in-Ok.field-0.items c.in-Ok.ensures c.deref-in-Ok.ensures.value c.in_ok-pieces_of-in-Ok.ensures

pub returns-in-Err-TooManyPieces : goal.returns-in-Err-TooManyPieces
returns-in-Err-TooManyPieces c =
    let asked : Asked = record { way = c.args.way; what = c.args.what; span = c.span_of.result } in
    many_told (plain c.args.core.now) asked c.span_of.ensures c.requires.countable c.requires.none c.deref.result.now c.deref.ensures.value c.in-Err-TooManyPieces.field-0 c.in-Err-TooManyPieces.field-0-is c.in-Err-TooManyPieces.ensures
