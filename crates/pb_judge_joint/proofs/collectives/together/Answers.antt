use Rattle.std.proofs.Common.{◌≡◌, None, ap, subst, ◌∙◌, arith}
use Rattle.pb_core_language.specs.Collectives.{payload_of, word_count}
use Rattle.pb_judge_lists.specs.Places.{left_of}
use Rattle.pb_judge_steps.specs.Met.{Met}
use Rattle.pb_judge_joint.specs.Setting.{setting_of, collective_of, operate_with}
use Rattle.pb_judge_joint.specs.Joined.{all_enter, entering, joined}
use Rattle.pb_judge_joint.proofs.Joining.{enter_more, enter_stops, all_done}
use Rattle.pb_judge_joint.proofs.collectives.together.Goals as goal

pub returns-in-Err-clause-met : goal.returns-in-Err-clause-met
returns-in-Err-clause-met c =
    enter_stops (setting_of c.args.setting.now) (collective_of c.args.joint.now) (left_of c.args.lists.now) c.loop-rank.rank (left_of c.loop-rank.lists) (left_of c.enter.new.lists) c.in-Err.difference c.loop-rank-test.true
    c.loop-rank.invariant.met c.in-Err.ensures.enters

pub loop-rank-preserved : goal.loop-rank-preserved
loop-rank-preserved c =
    let s = setting_of c.args.setting.now in
    let joint = collective_of c.args.joint.now in
    let old = left_of c.args.lists.now in
    let m = enter_more s joint old c.loop-rank.rank (left_of c.loop-rank.lists) (left_of c.enter.new.lists) c.in-Ok.words c.loop-rank.invariant.met c.in-Ok.ensures.enters in
    record { met = m.0; words = c.in_ok-all-in-Ok.ensures (entering s joint old) c.loop-rank.invariant.words m.1; log = c.enter.ensures.log ∙ c.loop-rank.invariant.log }

pub returns-clause-met : goal.returns-clause-met
returns-clause-met c =
    let s = setting_of c.args.setting.now in
    let labels = c.args.setting.now.labels.now in
    let joint = collective_of c.args.joint.now in
    let old = left_of c.args.lists.now in
    let mid = left_of c.loop-rank.lists in
    let n : c.loop-rank.rank ≡ c.args.setting.now.total = omega (arith, c.loop-rank-test.false, c.loop-rank.auto.rank-end) in
    all_done c.args.setting.now.total (λ l. word_count (payload_of labels l)) (operate_with labels) joint c.deref.result.now old mid (left_of c.leave_all.new.lists) c.leave_all.result
    (c.deref.ensures.value ∙ c.loop-rank.invariant.words ∙ ap (λ k. joined (operate_with labels) joint k (entering s joint old)) n)
    (subst (λ k. Met (all_enter joint k (entering s joint old)) old None mid) n c.loop-rank.invariant.met)
    c.leave_all.ensures.met
