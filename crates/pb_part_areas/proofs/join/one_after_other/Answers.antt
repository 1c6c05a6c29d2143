use Rattle.std.proofs.Common.{◌≡◌, rules, Some}
use Rattle.pb_part_areas.proofs.Joins.{behind}
use Rattle.pb_part_areas.proofs.Neighbours.{open_or_over}
use Rattle.pb_part_areas.proofs.join.one_after_other.Goals.{else-a-b-via-then-a-b+then-eq+then-eq-2+then-eq-3+then-is_open+else-is_open-2, else-a-b-via-then-a-b+then-eq+then-eq-2+then-eq-3+else-is_open, else-a-b-via-then-a-b+then-eq+then-eq-2+else-eq-3, else-a-b-via-then-a-b+then-eq+else-eq-2, else-a-b-via-then-a-b+else-eq, else-a-b-via-else-a-b}
use Rattle.pb_part_areas.proofs.join.one_after_other.Goals as goal

pub returns-then-is_open-2 : goal.returns-then-is_open-2
returns-then-is_open-2 c =
    let el : c.args.a.low ≡ c.args.b.low = search rules in
    let ee : c.args.a.end ≡ c.args.b.end = search rules in
    let eu : c.args.a.until ≡ Some c.args.b.from = search rules in
    behind c.args.a c.args.b c.if-a-b.true el ee eu (c.is_open.ensures.open c.if-is_open.true) (c.is_open-then-is_open.ensures.open c.if-is_open-2.true)

pub returns-else-a-b : goal.returns-else-a-b
returns-else-a-b c = λ h. elim c.else-a-b.branch [
  | else-a-b-via-then-a-b+then-eq+then-eq-2+then-eq-3+then-is_open+else-is_open-2 w ↦ open_or_over c.args.b.from c.args.b.until h.second (w.is_open-then-is_open.ensures.closed w.if-is_open-2.false)
  | else-a-b-via-then-a-b+then-eq+then-eq-2+then-eq-3+else-is_open w ↦ open_or_over c.args.a.from c.args.a.until h.first (w.is_open.ensures.closed w.if-is_open.false)
  | else-a-b-via-then-a-b+then-eq+then-eq-2+else-eq-3 w ↦ let no : c.args.a.until ≡ Some c.args.b.from → ⊥ = search rules in no h.meet
  | else-a-b-via-then-a-b+then-eq+else-eq-2 w ↦ let no : c.args.a.end ≡ c.args.b.end → ⊥ = search rules in no h.end
  | else-a-b-via-then-a-b+else-eq w ↦ let no : c.args.a.low ≡ c.args.b.low → ⊥ = search rules in no h.low
  | else-a-b-via-else-a-b w ↦ w.if-a-b.false h.role
]
