use Rattle.pb_types.proofs.LawfulGrammar.{file_ok}
use Rattle.pb_types.proofs.fronts_begin.Goals as goal

pub returns : goal.returns
returns c ts = (
  λ h. let g = file_ok.grows ts h in (g.rest, g.value, g.whole),
  λ h. file_ok.shrinks ts h.0 h.1 h.2,
)
