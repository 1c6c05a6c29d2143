use Rattle.std.proofs.Common.{◌∙◌, refl, sym, to_z-of_z}
use Rattle.pb_cost_pieces.proofs.Build.{at_first}
use Rattle.pb_cost_pieces.proofs.Begin.{first_number}
use Rattle.pb_cost_pieces.proofs.builder.Builder.begin.Goals as goal

pub returns-clause-value : goal.returns-clause-value
returns-clause-value c =
    at_first c.new-latest.result c.new-latest.result.to (c.new-latest.ensures.to ∙ sym c.new-latest.ensures.from) ∙ c.new-latest.ensures.start ∙ to_z-of_z c.ranges.value

pub returns-clause-is : goal.returns-clause-is
returns-clause-is c = λ f h.
    first_number f c.new.result.items c.new-latest.result c.args.from c.args.value c.new.ensures.items
    (c.new-latest.ensures.from ∙ to_z-of_z c.ranges.from) (c.new-latest.ensures.to ∙ to_z-of_z c.ranges.from)
    (c.new-latest.ensures.start ∙ to_z-of_z c.ranges.value) (c.new-latest.ensures.single refl) h
