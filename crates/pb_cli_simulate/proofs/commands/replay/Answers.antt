use Rattle.std.proofs.Common.{Err, ap, inl, inr, subst}
use Rattle.pb_sched.specs.Outcomes.{IsSchedule}
use Rattle.pb_cli_simulate.specs.Commands.{OnShort, IsUntaken}
use Rattle.pb_cli_simulate.specs.Sources.{IsNoSchedule}
use Rattle.pb_io.specs.Files.{IsSureOf}
use Rattle.pb_cli_simulate.proofs.Taken.{unread_before}
use Rattle.pb_cli_simulate.proofs.commands.replay.Goals as goal

pub returns-in-Ok-schedule_in-clause-reply : goal.returns-in-Ok-schedule_in-clause-reply
returns-in-Ok-schedule_in-clause-reply g c =
    inr (
      c.in-Ok.tree,
      c.in-Ok.ensures.text,
      inr (
        c.in-Ok-schedule_in.schedule.seed,
        c.in-Ok-schedule_in.schedule.turns.items,
        subst (λ h. OnShort c.args.schedule.now h (λ bytes. IsSchedule bytes c.in-Ok-schedule_in.schedule.seed c.in-Ok-schedule_in.schedule.turns.items)) c.in-Ok.ensures.holds c.in-Ok-schedule_in.ensures.schedule,
        c.replay_tree.ensures.told,
      ),
    )

pub returns-in-Err-schedule_in-clause-reply : goal.returns-in-Err-schedule_in-clause-reply
returns-in-Err-schedule_in-clause-reply g c =
    inr (
      c.in-Ok.tree,
      c.in-Ok.ensures.text,
      inl (
        c.in-Err-schedule_in.why,
        record {
          kind = c.in-Err-schedule_in.ensures.kind;
          read = λ e. unread_before (g.F.Folder.steady c.args.folder.now) (g.F.Folder.holds c.args.folder.now) (g.F.Folder.faults c.args.folder.now) (g.F.Folder.faults c.text_in.new.folder) (g.F.Folder.faults c.schedule_in.new.folder) c.args.schedule.now
              c.in-Ok.ensures.later (c.in-Err-schedule_in.ensures.fault (ap Err e))
              (subst (λ h. IsSureOf (g.F.Folder.steady c.args.folder.now) h c.args.schedule.now → ⊥) c.in-Ok.ensures.holds (subst (λ b. IsSureOf b (g.F.Folder.holds c.text_in.new.folder) c.args.schedule.now → ⊥) c.in-Ok.ensures.steady (c.in-Err-schedule_in.ensures.sure (ap Err e))));
          untaken = subst (λ h. IsUntaken IsNoSchedule c.args.schedule.now h c.in-Err-schedule_in.why) c.in-Ok.ensures.holds c.in-Err-schedule_in.ensures.denied;
        },
        c.refuse.ensures.said,
      ),
    )

pub returns-in-Err-clause-reply : goal.returns-in-Err-clause-reply
returns-in-Err-clause-reply g c =
    inl (
      c.in-Err.why,
      record { kind = c.in-Err.ensures.kind; read = λ e. record { rose = c.in-Err.ensures.fault (ap Err e); unsure = c.in-Err.ensures.sure (ap Err e) }; untaken = c.in-Err.ensures.denied },
      c.refuse-in-Err.ensures.said,
    )
