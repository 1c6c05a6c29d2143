use Rattle.pb_core_language.specs.Plain.{plain_block}
use Rattle.pb_project_piece.specs.Adding.{Added}
use Rattle.pb_project_piece.proofs.Segments.{OffsSoFar}
use Rattle.pb_project_piece.proofs.segment.put_role.Given as goal

abbrev pub invariant-loop-one : goal.invariant-loop-one
invariant-loop-one l = Added l.fn.out.items l.out.items (OffsSoFar l.setting.range l.setting.roles l.setting.whole.now l.over l.less (plain_block l.items).block l.role l.one-items l.one-index)
