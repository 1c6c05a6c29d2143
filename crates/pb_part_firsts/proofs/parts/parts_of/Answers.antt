use Rattle.std.proofs.Common.{sym, subst}
use Rattle.std.specs.List.{All}
use Rattle.std.proofs.lemmas.List.Elements.{All-nil}
use Rattle.pb_part_areas.specs.Fits.{Fits}
use Rattle.pb_part_firsts.specs.Parts.{flat}
use Rattle.pb_part_firsts.proofs.parts.parts_of.Goals as goal

pub returns-clause-fits : goal.returns-clause-fits
returns-clause-fits c = λ range cuts f. c.in_ok-put_all.ensures.fits range cuts (subst (λ z. All (Fits range cuts) (flat z)) (sym c.new-parts.ensures.items) (All-nil (Fits range cuts))) f
