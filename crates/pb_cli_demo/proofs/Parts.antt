-- The parts of a summary.
use Rattle.std.proofs.Common.{◌≡◌, ℕ, List, [], ◌∷◌}
use Rattle.std.specs.Prelude.{codes, decimal}
use Rattle.std.specs.List.{flat_map}
use Rattle.pb_sim.specs.declared.counts.Counts.{Counts}
use Rattle.pb_cli_demo.specs.Demo.{summary}

pub parts_are : (count : ℕ) (c : Counts) (k s r u e l w : List ℕ) → k ≡ decimal count → s ≡ decimal c.sends → r ≡ decimal c.receives → u ≡ decimal c.runs → e ≡ decimal c.enters → l ≡ decimal c.leaves → w ≡ decimal c.words
    → flat_map (λ part. part) (codes "demo " ∷ k ∷ codes "\nsends " ∷ s ∷ codes "\nreceives " ∷ r ∷ codes "\nruns " ∷ u ∷ codes "\nenters " ∷ e ∷ codes "\nleaves " ∷ l ∷ codes "\nwords " ∷ w ∷ codes "\n" ∷ []) ≡ summary count c
parts_are count c k s r u e l w k_is s_is r_is u_is e_is l_is w_is = λ i.
    flat_map (λ part. part)
    (codes "demo " ∷ k_is i ∷ codes "\nsends " ∷ s_is i ∷ codes "\nreceives " ∷ r_is i ∷ codes "\nruns " ∷ u_is i ∷ codes "\nenters " ∷ e_is i ∷ codes "\nleaves " ∷ l_is i ∷ codes "\nwords " ∷ w_is i ∷ codes "\n" ∷ [])
