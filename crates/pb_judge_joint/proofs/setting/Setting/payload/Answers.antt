use Rattle.pb_judge_joint.proofs.Labels.{payload_found, payload_past}
use Rattle.pb_judge_joint.proofs.setting.Setting.payload.Goals as goal

pub returns-then-at-self : goal.returns-then-at-self
returns-then-at-self c = payload_found c.args.self.now.labels.now c.args.label c.index-self-at.result c.if-at-self.true

pub returns-else-at-self : goal.returns-else-at-self
returns-else-at-self c = payload_past c.args.self.now.labels.now c.args.label c.if-at-self.false
