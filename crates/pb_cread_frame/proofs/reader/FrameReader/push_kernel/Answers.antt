use Rattle.std.proofs.Common.{ap, sym, ◌∙◌}
use Rattle.pb_cread_rows.specs.Spelled.{names_of_kernels}
use Rattle.pb_cread_frame.proofs.Named.{kernel_more}
use Rattle.pb_cread_frame.proofs.reader.FrameReader.push_kernel.Goals as goal

pub returns-clause-reader : goal.returns-clause-reader
returns-clause-reader c = record {
  few = c.requires.reader.few;
  small = c.requires.reader.small;
  body = c.requires.reader.body;
  named_roles = c.requires.reader.named_roles;
  named_labels = c.requires.reader.named_labels;
  named_kernels = kernel_more c.args.self.now.local.kernels.items c.args.kernel c.args.self.now.kernel_names c.intern.new.self c.in_ok-intern.field-0 c.requires.reader.named_kernels c.requires.fresh c.in_ok-intern.ensures.interned ∙ ap names_of_kernels (sym c.in_ok-push.ensures.items);
}
