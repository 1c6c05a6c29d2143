use Rattle.std.proofs.Common.{◌∷◌, []}
use Rattle.std.specs.Prelude.{codes, decimal}
use Rattle.std.specs.Fmt.{signed_decimal}
use Rattle.pb_ctree.specs.Frame.{high_text, payload_text, element_text, kernel_letter, kernel_type, above_text}
use Rattle.pb_ctree.specs.Small.{lin_text, sum_text}
use Rattle.pb_ctree.specs.Trees.{sum_of}
use Rattle.pb_cprint.specs.Framed.{place_head}
use Rattle.pb_cprint_lines.proofs.Steps.{done, step, steps, line_of, flat_line}
use Rattle.pb_cprint.proofs.frame.push_place_head.Goals as goal

pub returns : goal.returns
unfolding place_head
returns c =
    flat_line ((codes "static int32_t r_") ∷ (c.args.role.now.name) ∷ (codes "(int32_t N, int32_t x)") ∷ []) c.args.out.now.items c.push_pieces-2.new.out.items c.push.new.self.items
    (steps c.args.out.now.items c.push_pieces.new.out.items c.push_pieces-2.new.out.items ((codes "static int32_t r_") ∷ []) ((c.args.role.now.name) ∷ (codes "(int32_t N, int32_t x)") ∷ []) c.in_ok-push_pieces.ensures
    (step c.push_pieces.new.out.items c.push_name.new.out.items c.push_pieces-2.new.out.items (c.args.role.now.name) ((codes "(int32_t N, int32_t x)") ∷ []) c.in_ok-push_name.ensures
    (steps c.push_name.new.out.items c.push_pieces-2.new.out.items c.push_pieces-2.new.out.items ((codes "(int32_t N, int32_t x)") ∷ []) [] c.in_ok-push_pieces-2.ensures
    (done c.push_pieces-2.new.out.items))))
    c.in_ok-push.ensures.items
