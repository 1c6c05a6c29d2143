use Rattle.pb_core_language.specs.Plain.{plain_block}
use Rattle.pb_project_piece.specs.Adding.{Added}
use Rattle.pb_project_piece.proofs.Segments.{RolesSoFar}
use Rattle.pb_project_piece.proofs.segment.put_segments.Given as goal

abbrev pub invariant-loop-role : goal.invariant-loop-role
invariant-loop-role l = Added l.fn.out.items l.out.items (RolesSoFar l.setting.range l.setting.roles l.setting.whole.now l.over l.less (plain_block l.items).block l.role)
