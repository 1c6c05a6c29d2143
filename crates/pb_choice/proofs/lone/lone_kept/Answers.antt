use Rattle.pb_core_language.specs.Plain.{plain_block}
use Rattle.pb_choice.specs.Found.{mark_of}
use Rattle.pb_choice.proofs.Lones.{not_round, lone_kept}
use Rattle.pb_choice.proofs.lone.lone_kept.Goals as goal

pub returns-then-not-round : goal.returns-then-not-round
returns-then-not-round c =
    not_round c.args.setting.now.range c.args.setting.now.whole.now c.args.held.now c.args.id (plain_block c.args.body.now).block (mark_of c.args.mark) c.args.areas.now c.args.best
    c.in_ok-round.round c.in_ok-round.ensures c.if-not-round.true

pub returns : goal.returns
returns c =
    lone_kept c.args.setting.now.range c.args.setting.now.whole.now c.args.held.now c.args.id (plain_block c.args.body.now).block c.args.mark c.args.areas.now c.in_ok-ranks.ranks.items c.deref.result.now
    c.args.best c.lone_if.result c.first_empty-first.result c.in_ok-round.round c.in_ok-round.ensures c.if-not-round.false c.in_ok-ranks.ensures.is c.deref.ensures.value c.first_empty-first.ensures c.lone_if.ensures
