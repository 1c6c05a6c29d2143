use Rattle.pb_cases.specs.Breakpoints.{Division}
use Rattle.pb_cases.proofs.Best.{answered_ok}
use Rattle.pb_cases.proofs.cases.Cases.first_of_one.Goals as goal

pub returns : goal.returns
returns c =
    let d : Division = record { range = c.self.inside.range; cuts = c.self.inside.cuts.items; breakpoints = c.self.inside.breakpoints.items } in
    answered_ok _ d c.args.self.now c.deref.result.now c.args.wanted c.args.a.now c.args.b.now c.first_of_role.result c.self.view_is c.deref.ensures.value c.self.invariant.0 c.requires.a c.requires.b c.first_of_role.ensures
