use Rattle.std.proofs.Common.{ap, ◌∙◌, map}
use Rattle.pb_core_language.specs.Plain.{plain_block}
use Rattle.pb_project_piece.specs.Offsets.{off_of}
use Rattle.pb_project_piece.proofs.Segments.{offs_start, offs_step, offs_done}
use Rattle.pb_project_piece.proofs.segment.put_role.Goals as goal

pub loop-one-init : goal.loop-one-init
loop-one-init c = offs_start c.args.setting.now.range c.args.setting.now.roles c.args.setting.now.whole.now c.args.over c.args.less.now (plain_block c.args.items.now).block c.args.role c.deref-one-items.result.now c.args.out.now.items

pub loop-one-preserved : goal.loop-one-preserved
loop-one-preserved c =
    offs_step c.args.setting.now.range c.args.setting.now.roles c.args.setting.now.whole.now c.args.over c.args.less.now (plain_block c.args.items.now).block c.args.role c.deref-one-items.result.now c.loop-one.one-index _ c.segment_at-segment.result.role c.segment_at-segment.result.off c.args.out.now.items c.loop-one.out.items c.put_segment.new.out.items
    c.loop-one-test.true c.segment_at-segment.ensures.0 c.segment_at-segment.ensures.1 c.in_ok-put_segment.ensures c.loop-one.invariant

pub returns : goal.returns
returns c =
    offs_done c.args.setting.now.range c.args.setting.now.roles c.args.setting.now.whole.now c.args.over c.args.less.now (plain_block c.args.items.now).block c.args.role c.deref-one-items.result.now c.loop-one.one-index c.args.out.now.items c.loop-one.out.items c.loop-one-test.false
    (ap (map off_of) c.deref-one-items.ensures.value ∙ c.in_ok-offs.ensures) c.loop-one.invariant
