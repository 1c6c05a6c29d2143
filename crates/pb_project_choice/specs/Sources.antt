-- From whom the ranks hear of a choice.
use Rattle.std.specs.Prelude.{◌≡◌, ℕ, ℤ, pos, Bool, true, false, ◌&&◌, not, nat_eq, List, [], ◌∷◌}
use Rattle.std.specs.List.{list_any}
use Rattle.std.specs.Ordering.{int_eq}
use Rattle.pb_part_areas.specs.Areas.{has}
use Rattle.pb_choice_entries.specs.Clashes.{same_base}
use Rattle.pb_core_language.specs.declared.tree.CoreEnd.{CoreEnd}
use Rattle.pb_core_language.specs.Flat.{takes_part_among}
use Rattle.pb_core_language.specs.FlatOf.{flat_branches}
use Rattle.pb_core_language.specs.Outcomes.{firsts_among, comes_from_one}
use Rattle.pb_core_language.specs.Ranks.{seats}
use Rattle.pb_core_language.specs.Rules.{strays, each_origin_among}
use Rattle.pb_core_language.specs.Tree.{BranchTrees}
use Rattle.pb_core_language.specs.Verdict.{IsIn}
use Rattle.pb_part_firsts.specs.declared.firsts.Entry.{Entry}
use Rattle.pb_part_firsts.specs.declared.firsts.Kind.{Kind}
use Rattle.pb_part_firsts.specs.declared.firsts.Kind.TheVariants.{Receive, Other, Again}
use Rattle.pb_part_firsts.specs.declared.firsts.Source.{Source}
use Rattle.pb_core_flat.specs.Seated.{rank, is_rank}
use Rattle.pb_shape.specs.Places.{Scope, is_end}
use Rattle.pb_shape.specs.Loops.{Around}

-- each rank but the chooser that takes part in a branch receives first from one rank alone, and all ends in the branches are ranks
pub record OneSource (sc : Scope) (a : Around) (at : CoreEnd) (bs : BranchTrees) : Type 0 where
  pub one : (n : ℤ) (role : ℕ) (x : ℤ) → IsIn sc.range n → is_rank sc.roles n role x ≡ true → is_end at n (pos 0) role x ≡ false →
      takes_part_among (a.held n role x) (rank sc.roles n role x) (flat_branches sc.roles n a.opens (pos 0) bs) ≡ true →
      comes_from_one (firsts_among (a.held n role x) (rank sc.roles n role x) (flat_branches sc.roles n a.opens (pos 0) bs)) ≡ true
  pub seated : (n : ℤ) → IsIn sc.range n → each_origin_among (strays (seats sc.roles n)) (flat_branches sc.roles n a.opens (pos 0) bs) ≡ []

abbrev pub same_source : Source → Source → Bool
same_source a b = nat_eq a.role b.role && same_base a.at.base b.at.base && int_eq a.at.off b.at.off

-- a receive from this source
abbrev pub is_from : Source → Kind → Bool
is_from s (Receive t l) = same_source s t
is_from s Other = false
is_from s Again = false

abbrev pub is_listed : Source → List Source → Bool
is_listed s list = list_any (same_source s) list

-- no source is twice in the list
abbrev pub are_once : List Source → Bool
are_once [] = true
are_once (s ∷ list) = not (is_listed s list) && are_once list

-- the rank may receive first from this source
abbrev pub hears : Source → List Entry → ℤ → ℕ → ℤ → Bool
hears s es n role x = list_any (λ e. is_from s e.kind && has e.area n role x) es

abbrev pub source_at : CoreEnd → Source
source_at e = record { role = e.role; at = e.at }
