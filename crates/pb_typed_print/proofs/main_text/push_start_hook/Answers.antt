use Rattle.std.proofs.Common.{◌∷◌, [], ◌++◌, ◌∙◌, ap}
use Rattle.std.specs.Prelude.{codes}
use Rattle.pb_local.specs.Pieces.{joined}
use Rattle.pb_cprint_lines.proofs.Steps.{line_of}
use Rattle.pb_typed_print.proofs.main_text.push_start_hook.Goals as goal

pub returns : goal.returns
returns c =
    line_of 1 (codes "PABBLE(start, \"" ∷ c.args.tree.now.local.protocol ∷ codes "\", rank, size);" ∷ []) c.args.out.now.items c.push_indent.new.out.items c.push_pieces.new.out.items c.push.new.self.items
    c.in_ok-push_indent.ensures
    (c.in_ok-push_pieces.ensures ∙ ap (λ w. c.push_indent.new.out.items ++ joined (codes "PABBLE(start, \"" ∷ w ∷ codes "\", rank, size);" ∷ [])) c.bytes.ensures.value)
    c.in_ok-push.ensures.items
