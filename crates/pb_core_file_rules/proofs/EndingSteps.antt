-- How what comes next changes what is known of endings.
use Rattle.std.proofs.Common.{◌≡◌, Bool, ◌||◌, ◌&&◌, if◌then◌else◌, Option, Some, None, List, [], ◌∷◌, ◌++◌, refl, sym, ap, ◌∙◌}
use Rattle.pb_text.specs.declared.place.Place.{Place}
use Rattle.pb_core_file_rules.specs.Lowering.{first, or_first}
use Rattle.pb_core_file_rules.proofs.Endless.{and_both, or_both, free_step, branch_step}

pub and_on : (kept new one here rest : Bool) → new ≡ (kept && one) → one ≡ here → (kept && (here && rest)) ≡ (new && rest)
and_on kept new one here rest e f = sym (and_both kept here rest) ∙ ap (λ b. b && rest) (ap (λ o. kept && o) (sym f) ∙ sym e)

pub or_on : (kept new one here rest : Bool) → new ≡ (kept || one) → one ≡ here → (kept || (here || rest)) ≡ (new || rest)
or_on kept new one here rest e f = sym (or_both kept here rest) ∙ ap (λ b. b || rest) (ap (λ o. kept || o) (sym f) ∙ sym e)

pub first_on : (kept new one : Option Place) (here rest : List Place) → new ≡ or_first kept one → one ≡ first here → or_first kept (first (here ++ rest)) ≡ or_first new (first rest)
first_on kept new one here rest e f = sym (branch_step here rest kept) ∙ ap (λ o. or_first o (first rest)) (ap (or_first kept) (sym f) ∙ sym e)

pub free_on : (kept new one found : Option Place) (p q : Place) (last none can can_end loops loops_end : Bool) (here rest : List Place) →
    new ≡ or_first kept one → one ≡ or_first (if last || (can && loops) then None else Some p) found → found ≡ first here → p ≡ q → last ≡ none → can ≡ can_end → loops ≡ loops_end →
    or_first kept (first ((if none || (can_end && loops_end) then [] else q ∷ []) ++ (here ++ rest))) ≡ or_first new (first rest)
free_on kept new one found p q last none can can_end loops loops_end here rest e1 e2 e3 e4 e5 e6 e7 =
    let e : new ≡ or_first kept (or_first (if none || (can_end && loops_end) then None else Some q) (first here)) = rw (e1, e2, e3, e4, e5, e6, e7) refl in
    sym (free_step (none || (can_end && loops_end)) q here rest kept) ∙ sym (ap (λ o. or_first o (first rest)) e)
