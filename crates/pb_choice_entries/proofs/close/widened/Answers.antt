use Rattle.std.proofs.lemmas.Option.{IfSome_then}
use Rattle.pb_part_areas.specs.Areas.{has}
use Rattle.pb_choice_entries.proofs.Steadies.{widened_bools}
use Rattle.pb_choice_entries.proofs.close.widened.Goals as goal

pub returns-in-None : goal.returns-in-None
returns-in-None c =
    IfSome_then c.spanned-in-None.result c.spanned-in-None.ensures
    (λ m spans n role x.
    widened_bools (has c.args.a n role x) (has c.args.b n role x) (has c.steady.result n role x) (has c.steady-in-None.result n role x) (has m n role x)
    (c.steady.ensures n role x) (c.steady-in-None.ensures n role x) (spans n role x))
