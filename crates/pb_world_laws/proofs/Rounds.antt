-- The rounds of all ranks.
use Rattle.std.proofs.Common.{◌≡◌, ℕ, List, [], ◌∷◌, map, refl, ap, ◌∙◌}
use Rattle.pb_world.specs.Actions.{Collective}
use Rattle.pb_world.specs.Family.{Family}
use Rattle.pb_world.proofs.Sequential as sequential
use Rattle.pb_world.proofs.Sequential.{entry_of, exit_of, rounds}
use Rattle.pb_world_laws.specs.Laws.{Round, CollectivesMatch}

abbrev as_round : sequential.Round → Round
as_round x = record { collective = x.0; words = x.1 }

entries : (r : ℕ) (list : List sequential.Round) → map (entry_of r) list ≡ map (λ (round : Round). (round.collective, round.words r)) (map as_round list)
entries r [] = refl
entries r (x ∷ list) = ap (λ (l : List (Collective × List ℕ)). (x.0, x.1 r) ∷ l) (entries r list)

module _ {S : Type 0} where
  exits : (F : Family S) (r : ℕ) (list : List sequential.Round) → map (exit_of F r) list ≡ map (λ (round : Round). (round.collective, F.outcome round.collective r round.words)) (map as_round list)
  exits F r [] = refl
  exits F r (x ∷ list) = ap (λ (l : List (Collective × List ℕ)). (x.0, F.outcome x.0 r x.1) ∷ l) (exits F r list)

  pub collectives_match : CollectivesMatch S
  collectives_match F laws A m =
      let all = rounds F laws A m in (
        map as_round all.0,
        λ r h. record { enters = (all.1 r h).enters ∙ entries r all.0; leaves = (all.1 r h).leaves ∙ exits F r all.0 },
      )
