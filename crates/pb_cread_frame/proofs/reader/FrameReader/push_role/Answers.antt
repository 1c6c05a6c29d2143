use Rattle.std.proofs.Common.{ap, sym, ◌∙◌, subst, length, length-append, arith, ◌∷◌, []}
use Rattle.std.specs.List.{All}
use Rattle.pb_ctree.specs.Sums.{HasSmallEnds}
use Rattle.pb_cread_rows.specs.Spelled.{names_of_roles}
use Rattle.pb_cread_frame.proofs.Named.{role_more}
use Rattle.pb_cread_frame.proofs.Waits.{small_more}
use Rattle.pb_cread_frame.proofs.reader.FrameReader.push_role.Goals as goal

pub returns-clause-reader : goal.returns-clause-reader
returns-clause-reader c = record {
  few = omega (arith, c.requires.few, ap length c.in_ok-push.ensures.items, length-append c.args.self.now.local.roles.items (c.args.role ∷ []));
  small = subst (All HasSmallEnds) (sym c.in_ok-push.ensures.items) (small_more c.args.self.now.local.roles.items c.args.role c.requires.reader.small c.requires.small);
  body = c.requires.reader.body;
  named_roles = role_more c.args.self.now.local.roles.items c.args.role c.args.self.now.role_names c.intern.new.self c.in_ok-intern.field-0 c.requires.reader.named_roles c.requires.fresh c.in_ok-intern.ensures.interned ∙ ap names_of_roles (sym c.in_ok-push.ensures.items);
  named_labels = c.requires.reader.named_labels;
  named_kernels = c.requires.reader.named_kernels;
}
