use Rattle.std.proofs.Common.{ap, ◌∙◌}
use Rattle.pb_choice.specs.Found.{earlier}
use Rattle.pb_choice.proofs.Leasts.{none_told, one_told}
use Rattle.pb_choice.proofs.least.told_kept.Goals as goal

pub returns-in-None : goal.returns-in-None
returns-in-None c = λ roles bad whole are.
    none_told c.args.setting.now.range roles c.args.areas.now c.args.setting.now.whole.now c.in_ok-ranks.ranks.items c.deref.result.now bad c.args.rule _ c.args.best c.first_of.result
    whole are c.in_ok-ranks.ensures.is c.deref.ensures.value c.first_of.ensures c.in-None.is

pub returns : goal.returns
returns c = λ roles bad whole are.
    one_told c.args.setting.now.range roles c.args.areas.now c.args.setting.now.whole.now c.in_ok-ranks.ranks.items c.deref.result.now bad c.args.rule c.args.mark c.args.best c.earlier.result c.first_of.result
    c.in-Some.bad whole are c.in_ok-ranks.ensures.is c.deref.ensures.value c.first_of.ensures c.in-Some.is (c.earlier.ensures ∙ ap (earlier c.args.best) c.told_at.ensures)
