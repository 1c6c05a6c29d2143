use Rattle.pb_cost_joins.proofs.Reading.{continues_at, reading_on, reads_on, fewer_left, left_all, right_all}
use Rattle.pb_cost_joins.proofs.merging.merge.Goals as goal

pub parts-init : goal.parts-init
parts-init c = record { reading = c.requires; on = λ from last is. is }

pub add_part-requires : goal.add_part-requires
add_part-requires c = continues_at c.args.join c.args.left.now c.args.right.now c.parts.i c.parts.j c.index-left-i.result c.index-right-j.result c.parts.builder.done.items c.parts.builder.latest c.parts-test.true c.if-j-right.true c.index-left-i.is c.index-right-j.is c.parts.invariant.reading

pub parts-smaller : goal.parts-smaller
parts-smaller c = fewer_left c.args.join c.args.left.now c.args.right.now c.parts.i c.parts.j c.index-left-i.result c.index-right-j.result c.parts.builder.done.items c.parts.builder.latest c.parts-test.true c.if-j-right.true c.index-left-i.is c.index-right-j.is
    c.add_part.new.builder.done.items c.add_part.new.builder.latest c.past-i.result c.past-j.result c.in_ok-add_part.ensures c.past-i.ensures.ended c.past-i.ensures.going c.past-j.ensures.ended c.past-j.ensures.going

pub parts-preserved : goal.parts-preserved
parts-preserved c = record {
  reading = reading_on c.args.join c.args.left.now c.args.right.now c.parts.i c.parts.j c.index-left-i.result c.index-right-j.result c.parts.builder.done.items c.parts.builder.latest c.parts-test.true c.if-j-right.true c.index-left-i.is c.index-right-j.is
      c.add_part.new.builder.done.items c.add_part.new.builder.latest c.past-i.result c.past-j.result c.in_ok-add_part.ensures c.past-i.ensures.ended c.past-i.ensures.going c.past-j.ensures.ended c.past-j.ensures.going c.parts.invariant.reading;
  on = λ from last is. reads_on c.args.join c.args.left.now c.args.right.now c.parts.i c.parts.j c.index-left-i.result c.index-right-j.result c.parts.builder.done.items c.parts.builder.latest c.parts-test.true c.if-j-right.true c.index-left-i.is c.index-right-j.is
      c.add_part.new.builder.done.items c.add_part.new.builder.latest c.past-i.result c.past-j.result c.in_ok-add_part.ensures c.past-i.ensures.ended c.past-i.ensures.going c.past-j.ensures.ended c.past-j.ensures.going from last (c.parts.invariant.on from last is);
}

pub returns-else-j-right : goal.returns-else-j-right
returns-else-j-right c = right_all c.args.join c.args.left.now c.args.right.now c.parts.i c.parts.j c.args.builder.now.done.items c.parts.builder.done.items c.args.builder.now.latest c.parts.builder.latest c.if-j-right.false c.parts.invariant.on

pub returns-after-parts : goal.returns-after-parts
returns-after-parts c = left_all c.args.join c.args.left.now c.args.right.now c.parts.i c.parts.j c.args.builder.now.done.items c.parts.builder.done.items c.args.builder.now.latest c.parts.builder.latest c.parts-test.false c.parts.invariant.on
