use Rattle.std.proofs.Common.{◌∙◌, sym}
use Rattle.pb_explain_source.proofs.Grown.{with_byte, dot}
use Rattle.pb_explain_source.proofs.draft.Draft.push.Goals as goal

-- src/draft.rt:33:5
pub returns-in_ok-push-in-Some : goal.returns-in_ok-push-in-Some
returns-in_ok-push-in-Some c =
    with_byte _ _ c.args.byte c.requires (sym c.after_byte.ensures ∙ c.in-Some.is) c.in_ok-push-in-Some.ensures.items

-- src/draft.rt:33:5
pub returns-in_ok-push-in-None : goal.returns-in_ok-push-in-None
returns-in_ok-push-in-None c =
    with_byte _ _ 46 c.requires (dot _ c.args.byte (sym c.after_byte.ensures ∙ c.in-None.is)) c.in_ok-push-in-None.ensures.items
