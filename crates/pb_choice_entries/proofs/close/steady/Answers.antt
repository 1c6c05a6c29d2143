use Rattle.pb_choice_entries.proofs.Steadies.{wider}
use Rattle.pb_choice_entries.proofs.close.steady.Goals as goal

pub returns : goal.returns
returns c = wider c.args.a c.steady_low.result c.steady_end.result c.steady_low.ensures c.steady_end.ensures
