use Rattle.std.proofs.Common.{◌≡◌, ◌∙◌, ◌++◌, List, ℕ, sym, ap}
use Rattle.pb_explain_source.proofs.Grown.{with_heading}
use Rattle.pb_explain_source.proofs.draft.Draft.head.Goals as goal

-- src/draft.rt:62:5
pub returns : goal.returns
returns c =
    with_heading _ _ c.args.place c.requires.page c.requires.place c.from.ensures c.from-2.ensures
    (c.in_ok-extend_from_slice.ensures.items ∙ ap (λ (w : List ℕ). c.args.self.now.text.items ++ w) c.as_bytes.ensures.value)
    c.in_ok-push.ensures.items c.in_ok-push_decimal.ensures.ok c.in_ok-push-2.ensures.items
    c.in_ok-push_decimal-2.ensures.ok c.in_ok-extend_from_slice-2.ensures.items
