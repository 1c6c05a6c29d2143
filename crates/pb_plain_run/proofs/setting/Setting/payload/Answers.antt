use Rattle.std.proofs.Common.{sym}
use Rattle.pb_plain_run.proofs.Shares.{payload_is, payload_past}
use Rattle.pb_plain_run.proofs.setting.Setting.payload.Goals as goal

pub returns-then-at-self : goal.returns-then-at-self
returns-then-at-self c = sym (payload_is c.args.self.now.labels.now c.args.label c.index-self-at.result c.if-at-self.true)

pub returns-else-at-self : goal.returns-else-at-self
returns-else-at-self c = sym (payload_past c.args.self.now.labels.now c.args.label c.if-at-self.false)
