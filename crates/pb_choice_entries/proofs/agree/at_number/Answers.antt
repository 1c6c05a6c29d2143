use Rattle.std.proofs.Common.{pos, ◌+◌, refl}
use Rattle.pb_choice_entries.proofs.Meetings.{at_number_has}
use Rattle.pb_choice_entries.proofs.agree.at_number.Goals as goal

pub returns : goal.returns
returns c = λ n role x h. at_number_has c.args.area (pos c.args.t) (pos (c.args.t + 1)) n refl role x h
