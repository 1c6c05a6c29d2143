use Rattle.std.proofs.Common.{◌∙◌, sym, arith}
use Rattle.pb_core_file_rules.proofs.KernelRows.{stays, goes_last, just_behind}
use Rattle.pb_core_file_rules.proofs.kernel_rows.KernelTable.add.Goals as goal

pub push-requires-clause-last : goal.push-requires-clause-last
push-requires-clause-last c = just_behind c.args.self.now.rows.items c.args.one.now.name c.place-id.result c.place-id.ensures (omega (arith, c.if-id-len.false, c.len.ensures))

pub returns-then-id-len-clause-rows : goal.returns-then-id-len-clause-rows
returns-then-id-len-clause-rows c = sym (stays c.args.self.now.rows.items c.args.one.now c.place-id.result c.place-id.ensures (omega (arith, c.if-id-len.true, c.len.ensures)))

pub returns-clause-rows : goal.returns-clause-rows
returns-clause-rows c =
    c.in_ok-push.ensures.rows ∙ sym (goes_last c.args.self.now.rows.items c.args.one.now c.place-id.result c.place-id.ensures (omega (arith, c.if-id-len.false, c.len.ensures)))
