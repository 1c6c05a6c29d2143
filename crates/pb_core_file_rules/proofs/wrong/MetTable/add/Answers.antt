use Rattle.std.proofs.Common.{◌∙◌, sym, arith}
use Rattle.pb_core_file_rules.proofs.MetRows.{stays, goes_last, just_behind, new_right}
use Rattle.pb_core_file_rules.proofs.wrong.MetTable.add.Goals as goal

pub returns-then-id-len-clause-rows : goal.returns-then-id-len-clause-rows
returns-then-id-len-clause-rows c = sym (stays c.args.self.now.rows.items c.args.one.now c.place-id.result c.place-id.ensures (omega (arith, c.if-id-len.true, c.len.ensures)))

pub push-requires-clause-last : goal.push-requires-clause-last
push-requires-clause-last c = just_behind c.args.self.now.rows.items c.args.one.now.spot.name c.place-id.result c.place-id.ensures (omega (arith, c.if-id-len.false, c.len.ensures))

pub returns-clause-rows : goal.returns-clause-rows
returns-clause-rows c =
    c.in_ok-push.ensures.rows ∙ sym (goes_last c.args.self.now.rows.items c.args.one.now c.place-id.result c.place-id.ensures (omega (arith, c.if-id-len.false, c.len.ensures)))

pub returns-clause-right : goal.returns-clause-right
returns-clause-right c = new_right c.args.self.now.rows.items c.args.one.now c.place-id.result c.place-id.ensures (omega (arith, c.if-id-len.false, c.len.ensures))
