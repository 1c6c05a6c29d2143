use Rattle.std.proofs.Common.{◌∙◌, ap, Some, None}
use Rattle.pb_kernels.specs.Names.{body_of}
use Rattle.pb_kernels.proofs.Keys.{found_body}
use Rattle.pb_kernels.proofs.file.KernelFile.bytes_of.Goals as goal

pub returns-in-Some-clause-same : goal.returns-in-Some-clause-same
returns-in-Some-clause-same c =
    c.bytes.ensures.same
    ∙ found_body c.args.name.now c.self.inside.bodies.entries (Some c.in-Some.body.now) c.in-Some.ensures.value
    ∙ ap (body_of c.args.name.now) c.self.view_is

pub returns-in-None-clause-same : goal.returns-in-None-clause-same
returns-in-None-clause-same c =
    found_body c.args.name.now c.self.inside.bodies.entries None c.in-None.ensures.value ∙ ap (body_of c.args.name.now) c.self.view_is
