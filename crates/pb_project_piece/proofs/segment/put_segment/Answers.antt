use Rattle.pb_core_language.specs.Plain.{plain_block}
use Rattle.pb_project_piece.proofs.Segments.{segment_there, segment_gone}
use Rattle.pb_project_piece.proofs.segment.put_segment.Goals as goal

pub returns-then-not-there : goal.returns-then-not-there
returns-then-not-there c =
    segment_gone c.args.setting.now.range c.args.setting.now.roles c.args.setting.now.whole.now c.args.over c.args.less.now (plain_block c.args.items.now).block c.args.segment.role c.args.segment.off c.in_ok-there.there c.args.out.now.items
    c.in_ok-there.ensures c.if-not-there.true

pub returns : goal.returns
returns c =
    segment_there c.args.setting.now.range c.args.setting.now.roles c.args.setting.now.whole.now c.args.over c.args.less.now (plain_block c.args.items.now).block c.args.segment.role c.args.segment.off c.in_ok-there.there c.args.out.now.items c.push.new.self.items c.in_ok-one.one
    c.in_ok-there.ensures c.if-not-there.false c.in_ok-one.ensures c.in_ok-push.ensures.items
