use Rattle.std.proofs.Common.{◌∙◌, ap}
use Rattle.std.specs.List.{list_any}
use Rattle.pb_kernels.specs.Names.{same_name}
use Rattle.pb_kernels.proofs.Keys.{same_test}
use Rattle.pb_kernels.proofs.functions.Functions.has.Goals as goal

pub returns : goal.returns
returns c =
    c.contains.ensures
    ∙ ap (λ t. list_any t c.self.inside.names.keys) (same_test c.args.name.now)
    ∙ c.self.invariant c.args.name.now
    ∙ ap (list_any (λ f. same_name c.args.name.now f)) c.self.view_is
