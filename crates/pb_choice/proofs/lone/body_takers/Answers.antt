use Rattle.std.proofs.Common.{ap, ◌∙◌}
use Rattle.pb_core_language.specs.Plain.{plain_block}
use Rattle.pb_part_takers.specs.Loops.{ids_of, held_of}
use Rattle.pb_choice.proofs.Bodies.{in_body_are}
use Rattle.pb_choice.proofs.lone.body_takers.Goals as goal

pub returns : goal.returns
returns c =
    in_body_are c.args.setting.now.range c.args.setting.now.whole.now c.args.held.now c.deref.result.now c.args.id (plain_block c.args.body.now).block
    c.new.result.items c.new-areas.result.items c.takers_in.new.out.items c.new.ensures.items c.new-areas.ensures.items
    (ap ids_of c.deref.ensures.value ∙ c.in_ok-inside.ensures.ids) (λ n role x. ap (λ l. held_of l n role x) c.deref.ensures.value ∙ c.in_ok-inside.ensures.held n role x) c.in_ok-takers_in.ensures
