use Rattle.std.proofs.Common.{◌∙◌, to_z-of_z, map, ap}
use Rattle.pb_core_language.specs.Ranks.{seats}
use Rattle.pb_core_language.specs.Rules.{empty_roles}
use Rattle.pb_core_language.specs.FlatOf.{flat}
use Rattle.pb_core_language.specs.Plain.{plain_block}
use Rattle.pb_plain.specs.View.{mark_of, seat_of}
use Rattle.pb_plain_rules.proofs.Parts.{same_parts}
use Rattle.pb_plain_rules.proofs.every.breaches.Goals as goal

pub returns : goal.returns
returns c =
    let same = to_z-of_z c.ranges.n in
    c.in_ok-list.ensures
    ∙ same_parts _ _ _ _ _ _
    (ap (λ l. map mark_of l) c.deref-4.ensures.value ∙ c.in_ok-empty.ensures ∙ ap (λ m. empty_roles 0 c.deref-3.result.now m) same ∙ ap (λ l. empty_roles 0 l c.args.n) c.deref-3.ensures.value)
    (ap (λ l. map seat_of l) c.deref-5.ensures.value ∙ c.in_ok-ranks.ensures ∙ ap (λ m. seats c.deref.result.now m) same ∙ ap (λ l. seats l c.args.n) c.deref.ensures.value)
    (c.in_ok-block.ensures ∙ ap (λ m. flat c.args.core.now.roles.items m (plain_block c.args.core.now.body).block) same)
