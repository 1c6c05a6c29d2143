use Rattle.std.proofs.Common.{◌≡◌, [], subst, MatchOption}
use Rattle.pb_judge_lists.specs.Places.{Begins}
use Rattle.pb_judge_steps.specs.Deeds.{entry_of}
use Rattle.pb_judge_steps.proofs.Meetings.{one_entry}
use Rattle.pb_judge_steps.proofs.meeting.told.Goals as goal

pub returns-in-Some : goal.returns-in-Some
returns-in-Some c = λ entries h.
    one_entry entries (entry_of c.args.rank c.args.deed.now) c.in-Some.entry.now c.differing.result (subst (λ o. MatchOption o (entries ≡ []) (λ entry. Begins entries entry.now)) c.in-Some.is h) c.differing.ensures
