use Rattle.pb_judge_lists.specs.Places.{left_of}
use Rattle.pb_judge_steps.specs.Made.{list_of}
use Rattle.pb_judge_joint.specs.Setting.{setting_of, collective_of}
use Rattle.pb_judge_joint.proofs.Joining.{entered, enters_ok, enters_not}
use Rattle.pb_judge_joint.proofs.collectives.enter.Goals as goal

pub returns-in-Some-clause-enters : goal.returns-in-Some-clause-enters
returns-in-Some-clause-enters c =
    let old = left_of c.args.lists.now in
    let mid = left_of c.meet.new.lists in
    let same = entered old mid c.args.rank c.known_by-what.result c.weight.result c.first.result (list_of c.first_words-words.result) c.meet.result c.first.ensures c.first_words-words.ensures c.meet.ensures.met in
    enters_not (setting_of c.args.setting.now) (collective_of c.args.joint.now) old mid c.args.rank c.weight.result c.known_by-what.result (list_of c.first_words-words.result) c.meet.result c.in-Some.difference c.known_by-what.ensures c.weight.ensures c.in-Some.is same

pub returns-in-None-clause-enters : goal.returns-in-None-clause-enters
returns-in-None-clause-enters c =
    let old = left_of c.args.lists.now in
    let mid = left_of c.meet.new.lists in
    let same = entered old mid c.args.rank c.known_by-what.result c.weight.result c.first.result (list_of c.first_words-words.result) c.meet.result c.first.ensures c.first_words-words.ensures c.meet.ensures.met in
    enters_ok (setting_of c.args.setting.now) (collective_of c.args.joint.now) old mid c.args.rank c.weight.result c.known_by-what.result c.first_words-words.result c.meet.result c.known_by-what.ensures c.weight.ensures c.in-None.is same
