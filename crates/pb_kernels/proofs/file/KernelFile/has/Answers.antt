use Rattle.std.proofs.Common.{◌∙◌, ap}
use Rattle.pb_kernels.specs.Names.{is_among}
use Rattle.pb_kernels.proofs.Keys.{is_there}
use Rattle.pb_kernels.proofs.file.KernelFile.has.Goals as goal

pub returns : goal.returns
returns c = c.contains_key.ensures ∙ is_there c.args.name.now c.self.inside.bodies.entries ∙ ap (is_among c.args.name.now) c.self.view_is
