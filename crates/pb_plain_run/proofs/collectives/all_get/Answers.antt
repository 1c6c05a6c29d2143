use Rattle.std.proofs.Common.{◌∙◌, sym, ap}
use Rattle.pb_plain.specs.View.{collective_of}
use Rattle.pb_plain_run.specs.Setting.{shared, entries}
use Rattle.pb_plain_run.specs.View.{remaining}
use Rattle.pb_plain_run.proofs.Added.{if_ok}
use Rattle.pb_plain_run.proofs.collectives.all_get.Goals as goal

pub returns-in-Reduce : goal.returns-in-Reduce
returns-in-Reduce c =
    if_ok c.combined.result _ _
    (λ v e. e ∙ sym (ap (λ j. shared c.args.setting.now.total c.args.setting.now.labels.now (collective_of j) (entries c.args.setting.now (remaining c.args.left.now) (collective_of c.args.joint.now))) c.in-Reduce.is))
    c.combined.ensures

pub returns-in-Allreduce : goal.returns-in-Allreduce
returns-in-Allreduce c =
    if_ok c.combined-in-Allreduce.result _ _
    (λ v e. e ∙ sym (ap (λ j. shared c.args.setting.now.total c.args.setting.now.labels.now (collective_of j) (entries c.args.setting.now (remaining c.args.left.now) (collective_of c.args.joint.now))) c.in-Allreduce.is))
    c.combined-in-Allreduce.ensures
