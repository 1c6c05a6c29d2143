use Rattle.std.specs.Prelude.{codes}
use Rattle.pb_local.specs.Layout.{guard_text}
use Rattle.pb_local.specs.Pieces.{indent}
use Rattle.pb_local.specs.Tables.{kernel_at}
use Rattle.pb_local.specs.Tree.{program_of}
use Rattle.std.proofs.Common.{◌∙◌, ap, ◌++◌, ◌∷◌, []}
use Rattle.pb_local.specs.Pieces.{joined}
use Rattle.pb_local.proofs.Texts.{four_parts}
use Rattle.pb_local.proofs.lines.push_choice.Goals as goal

pub returns : goal.returns
returns c =
    let p = program_of c.args.local.now in
    four_parts c.args.out.now.items c.push_indent.new.out.items c.push_pieces.new.out.items c.push_guard.new.out.items c.push.new.self.items (indent c.args.depth)
    (codes "choice ") (kernel_at p c.args.kernel).name (codes " at ") (guard_text p c.args.who)
    c.in_ok-push_indent.ensures
    (c.in_ok-push_pieces.ensures ∙ ap (λ w. c.push_indent.new.out.items ++ joined (codes "choice " ∷ w ∷ codes " at " ∷ [])) c.kernel_name.ensures)
    c.in_ok-push_guard.ensures c.in_ok-push.ensures.items
