use Rattle.std.proofs.Common.{rules, ◌≡◌, [], ◌||◌, ap, ap₂, sym, ◌∙◌, subst}
use Rattle.std.specs.List.{All}
use Rattle.std.proofs.Math.Bool.{or-false}
use Rattle.std.proofs.lemmas.List.{nil_from_length}
use Rattle.pb_part_areas.specs.Areas.{have}
use Rattle.pb_part_areas.specs.Fits.{Fits}
use Rattle.pb_part_firsts.specs.Parts.{flat}
use Rattle.pb_part_firsts.proofs.parts.together.Goals as goal

pub returns-then-is_empty-clause-is : goal.returns-then-is_empty-clause-is
returns-then-is_empty-clause-is c = λ n role x.
    let none : c.args.left.items ≡ [] = nil_from_length c.args.left.items (search rules) in
    sym (or-false (have (flat c.args.passed.items) n role x)) ∙ ap (λ z. have (flat c.args.passed.items) n role x || have (flat z) n role x) (sym none)

pub returns-then-is_empty-2-clause-is : goal.returns-then-is_empty-2-clause-is
returns-then-is_empty-2-clause-is c = λ n role x.
    let none : c.args.passed.items ≡ [] = nil_from_length c.args.passed.items (search rules) in
    ap (λ z. have (flat z) n role x || have (flat c.args.left.items) n role x) (sym none)

pub returns-clause-is : goal.returns-clause-is
returns-clause-is c = λ n role x.
    c.in_ok-parts.ensures.is n role x ∙ ap (λ z. have z n role x) c.deref-4.ensures.value ∙ c.in_ok-areas.ensures.is n role x
    ∙ ap₂ (λ y z. have y n role x || have z n role x) (c.in_ok-first.ensures ∙ ap flat c.deref.ensures.value) (c.deref-3.ensures.value ∙ c.in_ok-second.ensures ∙ ap flat c.deref-2.ensures.value)

pub returns-clause-fits : goal.returns-clause-fits
returns-clause-fits c = λ range cuts f g.
    c.in_ok-parts.ensures.fits range cuts (subst (All (Fits range cuts)) (sym c.deref-4.ensures.value)
    (c.in_ok-areas.ensures.fits range cuts (subst (All (Fits range cuts)) (sym (c.in_ok-first.ensures ∙ ap flat c.deref.ensures.value)) f)
    (subst (All (Fits range cuts)) (sym (c.deref-3.ensures.value ∙ c.in_ok-second.ensures ∙ ap flat c.deref-2.ensures.value)) g)))
