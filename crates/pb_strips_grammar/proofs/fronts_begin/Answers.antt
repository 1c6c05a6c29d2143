use Rattle.pb_strips_grammar.proofs.LawfulGrammar.{block_ok, file_ok}
use Rattle.pb_strips_grammar.proofs.fronts_begin.Goals as goal

pub returns : goal.returns
returns c ts = (
  λ h. let g = (file_ok (block_ok h.0)).grows ts h.1 in (g.rest, g.value, (h.0, g.whole)),
  λ h. (h.2.0, (file_ok (block_ok h.2.0)).shrinks ts h.0 h.1 h.2.1),
)
