use Rattle.std.proofs.Common.{◌∙◌, refl, arith}
use Rattle.pb_plain.specs.View.{view}
use Rattle.pb_plain_rules.proofs.Envs.{found, passed}
use Rattle.pb_plain_rules.proofs.deserted.has_taker.Goals as goal

pub returns-then-takes_part : goal.returns-then-takes_part
returns-then-takes_part c =
    found c.loop-left.left _ c.args.held.now _ (view c.args.body.now) _ c.loop-left-test.true (omega (arith, c.loop-left-test.true)) refl c.takes_part.ensures c.if-takes_part.true
    ∙ c.loop-left.invariant

pub loop-left-preserved : goal.loop-left-preserved
loop-left-preserved c =
    passed c.loop-left.left _ c.args.held.now _ (view c.args.body.now) _ c.loop-left-test.true (omega (arith, c.loop-left-test.true)) refl c.takes_part.ensures c.if-takes_part.false
    ∙ c.loop-left.invariant
