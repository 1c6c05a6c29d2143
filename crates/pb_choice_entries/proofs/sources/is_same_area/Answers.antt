use Rattle.std.proofs.Common.{rules, ◌≡◌}
use Rattle.pb_choice_entries.proofs.Halves.{same_has}
use Rattle.pb_choice_entries.proofs.sources.is_same_area.Goals as goal

pub returns-then-a-b-2 : goal.returns-then-a-b-2
returns-then-a-b-2 c = λ h.
    let er : c.args.a.role ≡ c.args.b.role = search rules in
    let el : c.args.a.low ≡ c.args.b.low = search rules in
    let ee : c.args.a.end ≡ c.args.b.end = search rules in
    let ef : c.args.a.from ≡ c.args.b.from = search rules in
    let eu : c.args.a.until ≡ c.args.b.until = search rules in
    same_has c.args.a c.args.b er el ee ef eu
