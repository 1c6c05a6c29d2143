use Rattle.std.proofs.Common.{◌≡◌, ℕ, List, false, sym, subst, ◌∙◌, arith}
use Rattle.std.specs.Prelude.{codes}
use Rattle.pb_text.specs.Spellings.{begins_with}
use Rattle.pb_lex.proofs.Closes.{close_next}
use Rattle.pb_lex.proofs.Fronts.{rest_is}
use Rattle.pb_lex.proofs.comment.close_of.Goals as goal

pub loop-at-preserved : goal.loop-at-preserved
loop-at-preserved c =
    let bytes = c.args.bytes.now in
    c.loop-at.invariant ∙ close_next bytes c.loop-at.at (omega arith)
    (subst (λ (l : List ℕ). begins_with (codes "*/") l ≡ false) (rest_is bytes c.loop-at.at) (sym c.if-starts_with.ensures.value))
