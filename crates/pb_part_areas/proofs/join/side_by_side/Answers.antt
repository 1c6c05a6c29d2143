use Rattle.std.proofs.Common.{◌≡◌, rules}
use Rattle.pb_part_areas.proofs.Joins.{beside}
use Rattle.pb_part_areas.proofs.Neighbours.{back_or_upright, second_opens}
use Rattle.pb_part_areas.proofs.join.side_by_side.Goals.{else-a-b-via-then-a-b+then-eq+then-a-b-2+then-eq-2+then-is_upright+else-is_upright-2, else-a-b-via-then-a-b+then-eq+then-a-b-2+then-eq-2+else-is_upright, else-a-b-via-then-a-b+then-eq+then-a-b-2+else-eq-2, else-a-b-via-then-a-b+then-eq+else-a-b-2, else-a-b-via-then-a-b+else-eq, else-a-b-via-else-a-b}
use Rattle.pb_part_areas.proofs.join.side_by_side.Goals as goal

pub returns-then-is_upright-2 : goal.returns-then-is_upright-2
returns-then-is_upright-2 c =
    let el : c.args.a.end ≡ c.args.b.low = search rules in
    let eu : c.args.a.until ≡ c.args.b.until = search rules in
    beside c.args.a c.args.b c.if-a-b.true el c.if-a-b-2.true eu (c.is_upright.ensures.upright c.if-is_upright.true) (c.is_upright-then-is_upright.ensures.upright c.if-is_upright-2.true)

pub returns-else-a-b : goal.returns-else-a-b
returns-else-a-b c = λ h. elim c.else-a-b.branch [
  | else-a-b-via-then-a-b+then-eq+then-a-b-2+then-eq-2+then-is_upright+else-is_upright-2 w ↦ back_or_upright c.args.b h.second (w.is_upright-then-is_upright.ensures.back w.if-is_upright-2.false (second_opens c.args.a c.args.b h))
  | else-a-b-via-then-a-b+then-eq+then-a-b-2+then-eq-2+else-is_upright w ↦ back_or_upright c.args.a h.first (w.is_upright.ensures.back w.if-is_upright.false h.opens)
  | else-a-b-via-then-a-b+then-eq+then-a-b-2+else-eq-2 w ↦ let no : c.args.a.until ≡ c.args.b.until → ⊥ = search rules in no h.until
  | else-a-b-via-then-a-b+then-eq+else-a-b-2 w ↦ w.if-a-b-2.false h.from
  | else-a-b-via-then-a-b+else-eq w ↦ let no : c.args.a.end ≡ c.args.b.low → ⊥ = search rules in no h.meet
  | else-a-b-via-else-a-b w ↦ w.if-a-b.false h.role
]
