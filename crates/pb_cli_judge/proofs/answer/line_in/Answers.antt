use Rattle.std.proofs.Common.{ap, sym, subst, Err, Bool, List, Option}
use Rattle.pb_io.specs.Files.{File, IsSureOf}
use Rattle.pb_io.specs.Unread.{IsUnread}
use Rattle.pb_core_language.specs.Plain.{plain}
use Rattle.pb_cli_status.specs.Lines.{line_of, status_of}
use Rattle.pb_cli_status.specs.declared.refusal.Refusal.TheVariants as refusal
use Rattle.pb_cli_status.specs.declared.status.Status.TheVariants as S
use Rattle.pb_cli_judge.proofs.Told.{denied, judged, kernels, labels, rose_before, sound, told_since, why_is}
use Rattle.pb_cli_judge.proofs.answer.line_in.Goals as goal

pub line_at-requires-clause-sound : goal.line_at-requires-clause-sound
line_at-requires-clause-sound g c = sound c.in-Ok.ensures.core.bytes (plain c.in-Ok.core) c.in-Ok.ensures.core.accepted

pub line_at-requires-clause-labels : goal.line_at-requires-clause-labels
line_at-requires-clause-labels g c = labels c.in-Ok.ensures.core.bytes (plain c.in-Ok.core) c.in-Ok.ensures.core.accepted

pub line_at-requires-clause-kernels : goal.line_at-requires-clause-kernels
line_at-requires-clause-kernels g c = kernels c.in-Ok.ensures.core.bytes (plain c.in-Ok.core) c.in-Ok.ensures.core.accepted

pub returns-in-Ok-line_at-clause-done : goal.returns-in-Ok-line_at-clause-done
returns-in-Ok-line_at-clause-done g c =
    told_since (g.F.Folder.steady c.args.folder.now) (g.F.Folder.steady c.core_in.new.folder) (g.F.Folder.holds c.args.folder.now) (g.F.Folder.holds c.core_in.new.folder) (g.F.Folder.faults c.args.folder.now) (g.F.Folder.faults c.core_in.new.folder)
    (g.F.Folder.faults c.line_at.new.folder) c.args.file.now c.args.log.now c.args.n (plain c.in-Ok.core) S.Done c.in-Ok-line_at.line.now c.in-Ok.ensures.later c.in-Ok.ensures.holds c.in-Ok.ensures.steady c.in-Ok.ensures.core c.in-Ok-line_at.ensures.done

pub returns-clause-denied : goal.returns-clause-denied
returns-clause-denied g c =
    told_since (g.F.Folder.steady c.args.folder.now) (g.F.Folder.steady c.core_in.new.folder) (g.F.Folder.holds c.args.folder.now) (g.F.Folder.holds c.core_in.new.folder) (g.F.Folder.faults c.args.folder.now) (g.F.Folder.faults c.core_in.new.folder)
    (g.F.Folder.faults c.line_at.new.folder) c.args.file.now c.args.log.now c.args.n (plain c.in-Ok.core) (status_of c.in-Err-line_at.why) (line_of c.in-Err-line_at.why) c.in-Ok.ensures.later c.in-Ok.ensures.holds c.in-Ok.ensures.steady c.in-Ok.ensures.core
    c.in-Err-line_at.ensures.denied

pub returns-in-Err-clause-denied : goal.returns-in-Err-clause-denied
returns-in-Err-clause-denied g c =
    denied (IsUnread (g.F.Folder.steady c.args.folder.now) (g.F.Folder.holds c.args.folder.now) (g.F.Folder.faults c.args.folder.now) (g.F.Folder.faults c.core_in.new.folder)) c.args.file.now c.args.log.now c.args.n (g.F.Folder.holds c.args.folder.now)
    c.in-Err.why (λ e. record { rose = c.in-Err.ensures.fault (ap Err e); unsure = c.in-Err.ensures.sure (ap Err e) }) c.in-Err.ensures.denied

pub returns-in-Err-clause-late : goal.returns-in-Err-clause-late
returns-in-Err-clause-late g c = λ e s. absurd (c.in-Err.ensures.sure (ap Err (why_is c.in-Err.why refusal.ReadFault e)) s)

pub returns-clause-fault : goal.returns-clause-fault
returns-clause-fault g c = λ e. rose_before (g.F.Folder.faults c.args.folder.now) (g.F.Folder.faults c.core_in.new.folder) (g.F.Folder.faults c.line_at.new.folder) c.in-Ok.ensures.later (c.in-Err-line_at.ensures.fault e)

pub returns-clause-sure : goal.returns-clause-sure
returns-clause-sure g c =
    λ e s t. c.in-Err-line_at.ensures.sure e
    (subst (λ (h : Option (List File)). IsSureOf (g.F.Folder.steady c.core_in.new.folder) h c.args.log.now) (sym c.in-Ok.ensures.holds) (subst (λ (b : Bool). IsSureOf b (g.F.Folder.holds c.args.folder.now) c.args.log.now) (sym c.in-Ok.ensures.steady) t))

pub returns-clause-late : goal.returns-clause-late
returns-clause-late g c = λ e s. judged c.args.file.now c.args.n (g.F.Folder.holds c.args.folder.now) (plain c.in-Ok.core) c.in-Ok.ensures.core (c.in-Err-line_at.ensures.late e)
