use Rattle.std.proofs.Common.{refl, subst}
use Rattle.pb_judge_lists.specs.Places.{left_of}
use Rattle.pb_judge_steps.specs.Deeds.{entry_of}
use Rattle.pb_judge_steps.specs.Met.{Told}
use Rattle.pb_judge_steps.proofs.Saying.{rank_said}
use Rattle.pb_judge_steps.proofs.Meetings.{met_differs}
use Rattle.pb_judge_steps.proofs.meeting.meet.Goals as goal

pub returns-in-Some-clause-met : goal.returns-in-Some-clause-met
returns-in-Some-clause-met c =
    met_differs (entry_of c.args.rank c.args.deed.now) c.args.rank c.in-Some.line (left_of c.args.lists.now) (left_of c.args.lists.now) (record { rank = c.args.rank; line = c.in-Some.line }) refl refl
    (rank_said c.args.rank c.args.deed.now)
    (subst (λ o. Told ((left_of c.args.lists.now).entries c.args.rank) (entry_of c.args.rank c.args.deed.now) o) c.in-Some.is (c.told.ensures ((left_of c.args.lists.now).entries c.args.rank) c.first.ensures))
