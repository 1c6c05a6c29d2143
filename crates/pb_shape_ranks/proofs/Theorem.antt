-- The ranks of a program of the shape do the protocol's run.
use Rattle.std.proofs.Common.{◌≡◌, ◌≤◌, ℕ, ℤ, Bool, true, List, [], ap, ◌∙◌, subst}
use Rattle.pb_world.specs.Actions.{Action, Collective}
use Rattle.pb_world.specs.Counted.{Counted, counted, counted_start}
use Rattle.pb_world.specs.Family.{Family, Laws}
use Rattle.pb_world.specs.Carry.{lowered}
use Rattle.pb_world.proofs.CarryLaws.{carried}
use Rattle.pb_world.proofs.Theorem.{all_ranks}
use Rattle.pb_core_language.specs.Collectives.{setting_of}
use Rattle.pb_core_language.specs.Laws.{Numbered, Totalled}
use Rattle.pb_core_language.specs.Plain.{Protocol}
use Rattle.pb_core_language.specs.Ranks.{total}
use Rattle.pb_core_language.specs.Rules.{breaches, flat_at}
use Rattle.pb_core_language.specs.Sound.{is_sound}
use Rattle.pb_core_language.specs.Verdict.{IsIn}
use Rattle.pb_core_endpoint.specs.Core.{IsProper}
use Rattle.pb_core_endpoint.specs.Once.{once_family}
use Rattle.pb_core_endpoint.proofs.CoreDone.{core_ranks}
use Rattle.pb_local.specs.Family.{most_silent, family}
use Rattle.pb_local.specs.Machine.{Rank, machine, start}
use Rattle.pb_local.specs.Tree.{Program}
use Rattle.pb_local.specs.WellMade.{IsWellMade}
use Rattle.pb_shape.specs.Shape.{HasShape}
use Rattle.pb_shape.specs.Theorem.{sequence_of, DoesRun}
use Rattle.pb_shape_ranks.specs.Ranks.{TextRanks}
use Rattle.pb_shape_follow.proofs.Fronts.{Rel}
use Rattle.pb_shape_follow.proofs.Starts.{total_same, me_at, rank_simulates, rank_begins}
use Rattle.pb_shape_ranks.proofs.Families.{allowed_same, needs_same, outcome_same}

module _ (numbered : Numbered) (totalled : Totalled) where
  module _ (p : Protocol) (l : Program) (n : ℤ) (sound : is_sound p ≡ true) (proper : IsProper p) (shape : HasShape p l) (made : IsWellMade l) (within : IsIn p.range n) (few : total p.roles n ≤ 2000000000) (keeps : breaches p n ≡ []) where
    low_family : Laws (lowered (once_family (setting_of p n) (flat_at p n)) (machine l n) (most_silent l) (start l n))
    low_family =
        carried (once_family (setting_of p n) (flat_at p n)) (machine l n) (most_silent l) (start l n) (λ r. Rel p l n (me_at numbered totalled p l n sound proper shape made within few keeps r))
        (λ r lt. rank_simulates numbered totalled p l n sound proper shape made within few keeps r lt ((once_family (setting_of p n) (flat_at p n)).allowed r)) (rank_begins numbered totalled p l n sound proper shape made within few keeps)
        (core_ranks p n proper keeps).0

    abbrev mixed : ℕ → (ℕ → Action → Bool) → (Collective → ℕ → ℕ → Bool) → (Collective → ℕ → (ℕ → List ℕ) → List ℕ) → Family (Counted Rank)
    mixed size allowed needs outcome = record {
      total = size;
      machine = counted (most_silent l) (machine l n);
      start = λ r. counted_start (start l n r);
      allowed = allowed;
      needs = needs;
      outcome = outcome;
      run = (sequence_of p n).run;
      over = (sequence_of p n).over;
    }

    family_same : lowered (once_family (setting_of p n) (flat_at p n)) (machine l n) (most_silent l) (start l n) ≡ family l n (sequence_of p n)
    family_same =
        let w = setting_of p n in
        let f = family l n (sequence_of p n) in
        ap (λ t. mixed t (once_family w (flat_at p n)).allowed w.needs w.outcome) (total_same p l n shape)
        ∙ ap (λ x. mixed f.total x w.needs w.outcome) (allowed_same p l n shape)
        ∙ ap (λ x. mixed f.total f.allowed x w.outcome) (needs_same p l n shape)
        ∙ ap (λ x. mixed f.total f.allowed f.needs x) (outcome_same p l n shape)

    does_run : DoesRun p l n
    does_run = let laws = subst (λ F. Laws F) family_same low_family in (laws, all_ranks (family l n (sequence_of p n)) laws)

  pub text_ranks : TextRanks
  text_ranks p l n sound proper shape made within few keeps = does_run p l n sound proper shape made within few keeps
