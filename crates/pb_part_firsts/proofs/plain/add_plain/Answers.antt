use Rattle.std.proofs.Common.{sym, ap}
use Rattle.pb_core_language.specs.Plain.{plain_block, plain_stmt}
use Rattle.pb_core_language.proofs.Plains.{plain_message, plain_foreach, plain_run}
use Rattle.pb_part_takers.specs.Loops.{ids_of}
use Rattle.pb_part_firsts.specs.Gathered.{is_plain}
use Rattle.pb_part_firsts.proofs.Singles.{adds_of_stmt}
use Rattle.pb_part_firsts.proofs.Steps.{turned_sound, turned_among}
use Rattle.pb_part_firsts.proofs.plain.add_plain.Goals as goal

pub returns-in_ok-add_message-in-Message-clause-is : goal.returns-in_ok-add_message-in-Message-clause-is
returns-in_ok-add_message-in-Message-clause-is c = sym (ap is_plain (plain_message c.args.stmt.now c.in-Message.label c.in-Message.from c.in-Message.to c.in-Message.is))

pub returns-in_ok-add_message-in-Message-clause-gives : goal.returns-in_ok-add_message-in-Message-clause-gives
returns-in_ok-add_message-in-Message-clause-gives c = λ k range roles rows held w h.
    let m = (plain_stmt c.args.stmt.now).mark in
    let is = plain_message c.args.stmt.now c.in-Message.label c.in-Message.from c.in-Message.to c.in-Message.is in
    adds_of_stmt held m _ _ is (c.in_ok-add_message-in-Message.ensures.gives range roles rows held m (turned_sound rows (ids_of held) _ _ is h))

pub returns-in_ok-add_message-in-Message-clause-small : goal.returns-in_ok-add_message-in-Message-clause-small
returns-in_ok-add_message-in-Message-clause-small c = λ rows ids h s. c.in_ok-add_message-in-Message.ensures.small rows ids (turned_sound rows ids _ _ (plain_message c.args.stmt.now c.in-Message.label c.in-Message.from c.in-Message.to c.in-Message.is) h) s

pub returns-in_ok-add_message-in-Message-clause-fits : goal.returns-in_ok-add_message-in-Message-clause-fits
returns-in_ok-add_message-in-Message-clause-fits c = λ range cuts rows ids h a b s.
    let is = plain_message c.args.stmt.now c.in-Message.label c.in-Message.from c.in-Message.to c.in-Message.is in
    c.in_ok-add_message-in-Message.ensures.fits range cuts rows ids (turned_sound rows ids _ _ is h) (turned_among cuts _ _ is a) s

pub returns-in_ok-add_run-in-Run-clause-is : goal.returns-in_ok-add_run-in-Run-clause-is
returns-in_ok-add_run-in-Run-clause-is c = sym (ap is_plain (plain_run c.args.stmt.now c.in-Run.kernel c.in-Run.at c.in-Run.is))

pub returns-in_ok-add_run-in-Run-clause-gives : goal.returns-in_ok-add_run-in-Run-clause-gives
returns-in_ok-add_run-in-Run-clause-gives c = λ k range roles rows held w h.
    let m = (plain_stmt c.args.stmt.now).mark in
    let is = plain_run c.args.stmt.now c.in-Run.kernel c.in-Run.at c.in-Run.is in
    adds_of_stmt held m _ _ is (c.in_ok-add_run-in-Run.ensures.gives range roles rows held m c.in-Run.kernel (turned_sound rows (ids_of held) _ _ is h))

pub returns-in_ok-add_run-in-Run-clause-small : goal.returns-in_ok-add_run-in-Run-clause-small
returns-in_ok-add_run-in-Run-clause-small c = λ rows ids h s. c.in_ok-add_run-in-Run.ensures.small s

pub returns-in_ok-add_run-in-Run-clause-fits : goal.returns-in_ok-add_run-in-Run-clause-fits
returns-in_ok-add_run-in-Run-clause-fits c = λ range cuts rows ids h a b s.
    let is = plain_run c.args.stmt.now c.in-Run.kernel c.in-Run.at c.in-Run.is in
    c.in_ok-add_run-in-Run.ensures.fits range cuts rows ids c.in-Run.kernel (turned_sound rows ids _ _ is h) (turned_among cuts _ _ is a) s

pub returns-in_ok-add_foreach-in-Foreach-clause-is : goal.returns-in_ok-add_foreach-in-Foreach-clause-is
returns-in_ok-add_foreach-in-Foreach-clause-is c = sym (ap is_plain (plain_foreach c.args.stmt.now c.in-Foreach.low c.in-Foreach.high c.in-Foreach.items c.in-Foreach.is))

pub returns-in_ok-add_foreach-in-Foreach-clause-gives : goal.returns-in_ok-add_foreach-in-Foreach-clause-gives
returns-in_ok-add_foreach-in-Foreach-clause-gives c = λ k range roles rows held w h.
    let m = (plain_stmt c.args.stmt.now).mark in
    let is = plain_foreach c.args.stmt.now c.in-Foreach.low c.in-Foreach.high c.in-Foreach.items c.in-Foreach.is in
    adds_of_stmt held m _ _ is (c.in_ok-add_foreach-in-Foreach.ensures.gives range roles rows held m (plain_block c.in-Foreach.items).mark w (turned_sound rows (ids_of held) _ _ is h))

pub returns-in_ok-add_foreach-in-Foreach-clause-small : goal.returns-in_ok-add_foreach-in-Foreach-clause-small
returns-in_ok-add_foreach-in-Foreach-clause-small c = λ rows ids h s. c.in_ok-add_foreach-in-Foreach.ensures.small rows ids (plain_block c.in-Foreach.items).mark (turned_sound rows ids _ _ (plain_foreach c.args.stmt.now c.in-Foreach.low c.in-Foreach.high c.in-Foreach.items c.in-Foreach.is) h) s

pub returns-in_ok-add_foreach-in-Foreach-clause-fits : goal.returns-in_ok-add_foreach-in-Foreach-clause-fits
returns-in_ok-add_foreach-in-Foreach-clause-fits c = λ range cuts rows ids h a b s.
    let is = plain_foreach c.args.stmt.now c.in-Foreach.low c.in-Foreach.high c.in-Foreach.items c.in-Foreach.is in
    c.in_ok-add_foreach-in-Foreach.ensures.fits range cuts rows ids (plain_block c.in-Foreach.items).mark (turned_sound rows ids _ _ is h) (turned_among cuts _ _ is a) b s
