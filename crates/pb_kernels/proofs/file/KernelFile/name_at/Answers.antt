use Rattle.std.proofs.Common.{◌∙◌, ap, sym, slice_get}
use Rattle.pb_kernels.specs.Names.{names_of}
use Rattle.pb_kernels.proofs.Keys.{name_there}
use Rattle.pb_kernels.proofs.file.KernelFile.name_at.Goals as goal

pub returns : goal.returns
returns c =
    ap (λ l. slice_get (names_of l) c.args.place) (sym c.self.view_is)
    ∙ name_there c.self.inside.bodies.entries c.args.place (c.in-Some.name.now, c.in-Some.field-0-1.now) c.in-Some.ensures.entry
