use Rattle.std.proofs.Common.{◌≡◌, true, ℕ, ℤ, sym, subst, ◌∙◌}
use Rattle.pb_core_language.specs.Plain.{plain}
use Rattle.pb_core_language.specs.Sound.{are_roles}
use Rattle.pb_cases.specs.Breakpoints.{IsInRange}
use Rattle.pb_part_areas.specs.Areas.{have}
use Rattle.pb_core_flat.specs.Seated.{is_rank}
use Rattle.pb_choice.proofs.Tops.{is_answer, few_roles}
use Rattle.pb_choice.proofs.flow.first_flow.Goals as goal

pub areas_of_roles-requires : goal.areas_of_roles-requires
areas_of_roles-requires c = few_roles (plain c.args.core.now) c.deref.result.now c.requires.sound c.deref.ensures.value

pub returns : goal.returns
returns c =
    is_answer (plain c.args.core.now) c.deref-2.result.now c.deref-3.result.now c.in_ok-best.best c.requires.sound c.requires.index (c.deref-3.ensures.value ∙ c.new-held.ensures.items)
    (subst (λ l. (n : ℤ) (role : ℕ) (x : ℤ) → are_roles l ≡ true → IsInRange c.args.core.now.range n → have c.deref-2.result.now n role x ≡ is_rank l n role x) c.deref.ensures.value
    (subst (λ w. (n : ℤ) (role : ℕ) (x : ℤ) → are_roles c.deref.result.now ≡ true → IsInRange c.args.core.now.range n → have w n role x ≡ is_rank c.deref.result.now n role x) (sym c.deref-2.ensures.value) c.in_ok-whole.ensures.is))
    c.in_ok-best.ensures
