use Rattle.pb_core_language.specs.Plain.{plain_block}
use Rattle.pb_project_piece.proofs.Loops.{both_there}
use Rattle.pb_project_piece.proofs.foreach.put_both.Goals as goal

pub returns : goal.returns
returns c =
    both_there c.args.setting.now.range c.args.setting.now.roles c.args.setting.now.whole.now c.args.over c.args.fixed.now (plain_block c.args.items.now).block c.args.ends.now c.in_ok-guards.guards c.in_ok-first.first.items c.put_segments.new.out.items c.new-other.result.items c.args.out.now.items c.push.new.self.items c.either.result
    c.in_ok-guards.ensures c.in_ok-first.ensures c.new-other.ensures.items c.in_ok-put_segments.ensures c.either.ensures c.in_ok-push.ensures.items
