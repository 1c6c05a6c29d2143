-- A choice with what stands before it.
use Rattle.std.proofs.Common.{◌≡◌, ◌==◌, ℕ, suc, pos, Bool, false, not, if◌then◌else◌, List, [], ◌∷◌, length, ap, ◌∙◌, refl, arith}
use Rattle.std.proofs.lemmas.Bool.Decides.{nat_tests}
use Rattle.pb_local.specs.declared.stmt.Relay.{Relay}
use Rattle.pb_local.specs.Tree as L
use Rattle.pb_local.specs.Tree.{Code, Codes}
use Rattle.pb_shape.specs.Guards.{alone}
use Rattle.pb_shape.specs.Choices.{told_by}

more_than_none : (n : ℕ) → (suc n == 0) ≡ false
more_than_none n = grind (arith, nat_tests)

told_if : (relays : List Relay) (c : Code) → (if not (length relays == 0) then L.more (L.own (pos 0)) (alone c) else alone c) ≡ told_by relays c
told_if [] c = refl
told_if (r ∷ rs) c = ap (λ b. if not b then L.more (L.own (pos 0)) (alone c) else alone c) (more_than_none (length rs))

pub told_is : (owns : Bool) (relays : List Relay) (made c : Code) (codes : Codes) → owns ≡ not (length relays == 0) → made ≡ c →
    codes ≡ (if owns then L.more (L.own (pos 0)) (alone made) else alone made) → codes ≡ told_by relays c
told_is owns relays made c codes e m is = is ∙ ap (λ b. if b then L.more (L.own (pos 0)) (alone made) else alone made) e ∙ told_if relays made ∙ ap (told_by relays) m
