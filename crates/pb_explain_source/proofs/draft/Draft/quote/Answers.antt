use Rattle.pb_explain_source.proofs.Grown.{with_quote}
use Rattle.pb_explain_source.proofs.draft.Draft.quote.Goals as goal

-- src/draft.rt:78:5
pub returns : goal.returns
returns c =
    with_quote _ _ c.args.place c.requires.page c.requires.place c.from.ensures c.in_ok-push_decimal.ensures.ok
    c.in_ok-extend_from_slice.ensures.items
