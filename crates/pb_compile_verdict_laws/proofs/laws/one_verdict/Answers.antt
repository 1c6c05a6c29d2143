use Rattle.pb_compile_verdict_laws.proofs.Verdicts as verdicts
use Rattle.pb_compile_verdict_laws.proofs.laws.one_verdict.Goals as goal

pub returns : goal.returns
returns c = verdicts.one_verdict
