use Rattle.pb_choice_entries.proofs.Adds.{adds_none, adds_same}
use Rattle.pb_choice_entries.proofs.pair.add_unless_same.Goals as goal

pub returns-then-is_same : goal.returns-then-is_same
returns-then-is_same c = λ sa sb. adds_same c.args.a c.args.b c.args.from c.args.second c.args.out.now.items c.is_same.result c.is_same.ensures c.if-is_same.true

pub returns-then-is_apart : goal.returns-then-is_apart
returns-then-is_apart c = λ sa sb. adds_none c.args.a c.args.b c.args.from c.args.second c.args.out.now.items (c.is_apart.ensures c.if-is_apart.true)
