use Rattle.std.proofs.Common.{◌∙◌, ap, position}
use Rattle.pb_text.specs.Tables.{position_of}
use Rattle.pb_text.proofs.Same.{same_test}
use Rattle.pb_text.proofs.names.Names.find.Goals as goal

pub returns-in-Some-clause-found : goal.returns-in-Some-clause-found
returns-in-Some-clause-found c =
    c.in-Some.ensures.index ∙ ap (λ t. position t c.self.inside.set.keys) (same_test c.args.name.now) ∙ ap (position_of c.args.name.now) c.self.view_is

pub returns-in-None-clause-found : goal.returns-in-None-clause-found
returns-in-None-clause-found c =
    c.in-None.ensures.index ∙ ap (λ t. position t c.self.inside.set.keys) (same_test c.args.name.now) ∙ ap (position_of c.args.name.now) c.self.view_is
