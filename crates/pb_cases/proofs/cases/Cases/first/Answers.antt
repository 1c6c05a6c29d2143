use Rattle.std.proofs.Common.{◌≤◌, length, arith}
use Rattle.pb_cases.proofs.Parts.{whole_first}
use Rattle.pb_cases.proofs.cases.Cases.first.Goals as goal

pub returns : goal.returns
returns c =
    let le : length c.args.a.now ≤ c.loop-i.i = omega (arith, c.loop-i-test.false) in
    whole_first c.args.self.now.range c.args.wanted c.args.a.now c.args.b.now c.loop-i.i c.loop-i.best le c.loop-i.invariant
