use Rattle.std.proofs.Common.{sym, ◌∙◌}
use Rattle.std.proofs.lemmas.Bool.{or_left}
use Rattle.std.proofs.lemmas.Result.{on_ok_weaker}
use Rattle.pb_part_areas.specs.Areas.{has, have}
use Rattle.pb_part_areas.proofs.tidy.add_wide.Goals as goal

pub returns-then-is_wide-clause-within : goal.returns-then-is_wide-clause-within
returns-then-is_wide-clause-within c = on_ok_weaker c.add_new.result (λ d n role x h. sym (d n role x) ∙ h) c.add_new.ensures.is

pub returns-else-is_wide-clause-within : goal.returns-else-is_wide-clause-within
returns-else-is_wide-clause-within c = λ n role x h. or_left (have c.args.out.now.items n role x) (has c.args.a n role x) h

pub returns-else-is_wide-clause-fits : goal.returns-else-is_wide-clause-fits
returns-else-is_wide-clause-fits c = λ range cuts h f. h
