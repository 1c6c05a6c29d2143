use Rattle.std.proofs.Common.{rules, ◌∙◌, SFits, w64, to_z-of_z}
use Rattle.pb_cost_pieces.proofs.Words.{apart_words, same_words}
use Rattle.pb_cost_pieces.proofs.Extend.{line_extends, line_leaves}
use Rattle.pb_cost_pieces.proofs.longer.with_slope.Goals as goal

pub returns-then-latest-slope : goal.returns-then-latest-slope
returns-then-latest-slope c =
    line_leaves c.args.latest.now c.args.slope
    (apart_words c.args.latest.now.from c.args.latest.now.to c.if-latest.false)
    (apart_words c.args.latest.now.slope c.args.slope c.if-latest-slope.true)

pub returns : goal.returns
returns c =
    let fits : SFits w64 c.args.latest.now.slope = search rules in
    line_extends c.args.latest.now c.longer.result c.args.to c.args.slope (same_words c.args.latest.now.slope c.args.slope fits c.ranges.slope c.if-latest-slope.false) c.requires.more
    c.longer.ensures.from (c.longer.ensures.to ∙ to_z-of_z c.ranges.to) c.longer.ensures.start c.longer.ensures.slope
