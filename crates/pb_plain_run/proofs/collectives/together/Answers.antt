use Rattle.std.proofs.Common.{◌∙◌}
use Rattle.pb_plain.specs.View.{collective_of}
use Rattle.pb_plain_run.proofs.Added.{together_adds}
use Rattle.pb_plain_run.proofs.collectives.together.Goals as goal

pub returns : goal.returns
returns c =
    together_adds c.args.setting.now (collective_of c.args.joint.now) c.list.result.now _ _ _ _ _
    c.in_ok-all_enter.ensures (c.list.ensures ∙ c.in_ok-words.ensures) c.in_ok-all_leave.ensures c.use_entries.ensures
