use Rattle.std.proofs.Common.{ap, ◌∙◌}
use Rattle.pb_core_language.specs.Collectives.{combine}
use Rattle.pb_core_language.specs.FlatOf.{operation_of}
use Rattle.pb_judge_steps.specs.Made.{list_of}
use Rattle.pb_judge_joint.specs.Setting.{operate_with}
use Rattle.pb_judge_joint.proofs.Combining.{combined_more}
use Rattle.pb_judge_joint.proofs.shared.combined.Goals as goal

pub returns : goal.returns
returns c =
    combined_more c.word_by_word.result (operate_with c.args.setting.now.labels.now (operation_of c.args.op) c.args.label) (combine c.payload.result (operation_of c.args.op)) c.deref.result.now c.deref-2.result.now c.args.all.items
    (list_of c.args.words.now) c.args.rank (ap (λ p. combine p (operation_of c.args.op)) c.payload.ensures) c.deref.ensures.value (c.deref-2.ensures.value ∙ c.in_ok-own.ensures) c.if-rank-eq0.false c.word_by_word.ensures
