-- Who is told of a choice.
use Rattle.std.proofs.Common.{◌≡◌, ◌<◌, ◌≤◌, ◌+◌, ℕ, ℤ, pos, ◌==◌, ◌≤ℤ◌, Bool, true, false, not, ◌&&◌, ◌||◌, List, [], map, drop, get_or, length, sym, ap, ◌∙◌, subst, drop_of_length-le, arith}
use Rattle.std.proofs.lemmas.Bool.{and_parts}
use Rattle.std.proofs.lemmas.Bool.Decides.{nat_tests}
use Rattle.std.proofs.lemmas.Int.{ints}
use Rattle.std.proofs.Math.Bool.{or-false}
use Rattle.pb_affine.specs.declared.range.NRange.{NRange}
use Rattle.pb_core_language.specs.declared.protocol.CoreRole.{CoreRole}
use Rattle.pb_core_language.specs.declared.tree.CoreBlock.{CoreBlock}
use Rattle.pb_core_language.specs.declared.tree.CoreEnd.{CoreEnd}
use Rattle.pb_core_language.specs.Tree.{BranchTrees, branch}
use Rattle.pb_core_language.specs.Plain.{plain_block, branches_of}
use Rattle.pb_core_language.specs.Flat.{stop, takes_part, takes_part_among}
use Rattle.pb_core_language.specs.FlatOf.{rank_of, flat_block, flat_branches}
use Rattle.pb_core_language.specs.Run.{Env, at_rank}
use Rattle.pb_core_language.specs.Sound.{Rows, is_over_n, is_small, is_end}
use Rattle.pb_core_language.specs.Verdict.{IsIn}
use Rattle.pb_part_areas.specs.declared.area.Area.{Area}
use Rattle.pb_part_areas.specs.Areas.{has, have}
use Rattle.pb_core_flat.specs.Seated.{rank, is_rank}
use Rattle.pb_core_flat.proofs.Seats.{end_is_at}
use Rattle.pb_part_takers.specs.declared.held.Held.{Held}
use Rattle.pb_part_takers.specs.Loops.{ids_of}
use Rattle.pb_part_takers.specs.Pieces.{IsAdded, block_piece}
use Rattle.pb_part_takers.specs.Ends.{IsEndArea}
use Rattle.pb_choice.specs.Scenes.{Stands, IsFair, AreFair}
use Rattle.pb_choice.specs.Told.{AreTold, AreAmong}
use Rattle.pb_choice.proofs.Fairs.{fair_branches, fair_branch, fair_others}
use Rattle.pb_choice.proofs.Lists.{drop_is}

or_step : (w1 w t p q : Bool) → w1 ≡ w || p → w || (p || q) ≡ t → w1 || q ≡ t
or_step w1 w t p q e h = grind (arith, nat_tests)

-- the branches from here on, and who takes part in these or was found before
pub record TakersNow (range : NRange) (roles : List CoreRole) (rows : Rows) (env : ℤ → Env) (opens : List ℕ) (all now : BranchTrees) (areas : List Area) : Type 0 where
  pub fair : AreFair range roles rows opens now
  pub so_far : (n : ℤ) (role : ℕ) (x : ℤ) → IsIn range n → is_rank roles n role x ≡ true →
      have areas n role x || takes_part_among (at_rank (rank roles n role x) (env n)) (rank roles n role x) (flat_branches roles n opens (pos 0) now)
      ≡ takes_part_among (at_rank (rank roles n role x) (env n)) (rank roles n role x) (flat_branches roles n opens (pos 0) all)

pub record TakersSoFar (range : NRange) (whole : List Area) (held : List Held) (items : List CoreBlock) (i : ℕ) (areas : List Area) : Type 0 where
  pub is : (roles : List CoreRole) (rows : Rows) (env : ℤ → Env) → Stands range roles env whole held → AreFair range roles rows (ids_of held) (branches_of (map plain_block items)) →
      TakersNow range roles rows env (ids_of held) (branches_of (map plain_block items)) (branches_of (map plain_block (drop i items))) areas

pub takers_start : (range : NRange) (whole : List Area) (held : List Held) (items : List CoreBlock) (areas : List Area) → areas ≡ [] → TakersSoFar range whole held items 0 areas
takers_start range whole held items areas none = record {
  is = λ roles rows env stands fair. record {
    fair = fair;
    so_far = λ n role x within r. ap (λ l. have l n role x || takes_part_among (at_rank (rank roles n role x) (env n)) (rank roles n role x) (flat_branches roles n (ids_of held) (pos 0) (branches_of (map plain_block items)))) none;
  };
}

pub takers_step : (range : NRange) (whole : List Area) (held : List Held) (items : List CoreBlock) (i : ℕ) (x : CoreBlock) (areas next : List Area) → i < length items → x ≡ get_or items i x →
    IsAdded whole held (block_piece held (plain_block x).block) areas next → TakersSoFar range whole held items i areas → TakersSoFar range whole held items (i + 1) next
takers_step range whole held items i x areas next lt is takers so_far = record {
  is = λ roles rows env stands fair.
      let others : BranchTrees = branches_of (map plain_block (drop (i + 1) items)) in
      let t : TakersNow range roles rows env (ids_of held) (branches_of (map plain_block items)) (branch (plain_block x).mark (plain_block x).block others) areas =
      subst (λ b. TakersNow range roles rows env (ids_of held) (branches_of (map plain_block items)) b areas) (ap (λ l. branches_of (map plain_block l)) (drop_is items i x lt is)) (so_far.is roles rows env stands fair) in
      let here : IsFair range roles rows (ids_of held) (plain_block x).block = fair_branch range roles rows (ids_of held) (plain_block x).mark (plain_block x).block others t.fair in
      record {
        fair = fair_others range roles rows (ids_of held) (plain_block x).mark (plain_block x).block others t.fair;
        so_far = λ n role y within r.
            or_step (have next n role y) (have areas n role y) (takes_part_among (at_rank (rank roles n role y) (env n)) (rank roles n role y) (flat_branches roles n (ids_of held) (pos 0) (branches_of (map plain_block items))))
            (takes_part (at_rank (rank roles n role y) (env n)) (rank roles n role y) (flat_block roles n (ids_of held) (pos 0) (plain_block x).block stop))
            (takes_part_among (at_rank (rank roles n role y) (env n)) (rank roles n role y) (flat_branches roles n (ids_of held) (pos 0) others))
            (takers.is rows roles n role y here.sound r (stands.whole_is.is n role y within ∙ r) ∙ ap (λ h. have areas n role y || takes_part h (rank roles n role y) (flat_block roles n (ids_of held) (pos 0) (plain_block x).block stop)) (stands.held_is n role y within r))
            (t.so_far n role y within r);
      };
}

pub takers_done : (range : NRange) (whole : List Area) (held : List Held) (items : List CoreBlock) (i : ℕ) (areas : List Area) → length items ≤ i →
    TakersSoFar range whole held items i areas → AreAmong range whole held (branches_of (map plain_block items)) areas
takers_done range whole held items i areas le so_far = record {
  is = λ roles rows env stands fair. record {
    is = λ n role x within r.
        let t : TakersNow range roles rows env (ids_of held) (branches_of (map plain_block items)) (branches_of (map plain_block (drop i items))) areas = so_far.is roles rows env stands fair in
        sym (or-false (have areas n role x))
        ∙ ap (λ l. have areas n role x || takes_part_among (at_rank (rank roles n role x) (env n)) (rank roles n role x) (flat_branches roles n (ids_of held) (pos 0) (branches_of (map plain_block l)))) (sym (drop_of_length-le items le))
        ∙ t.so_far n role x within r;
  };
}

from_zero : (low : ℕ) (n : ℤ) → pos low ≤ℤ n → pos 0 ≤ℤ n
from_zero low n h = omega (arith, ints)

told_bools : (a b c p t : Bool) → b ≡ p → c ≡ t → a ≡ b && not c → a ≡ not t && p
told_bools a b c p t e f h = grind (arith, nat_tests)

pub told_are : (range : NRange) (whole : List Area) (held : List Held) (at : CoreEnd) (bs : BranchTrees) (takers chooser told : List Area) (end_area : Area) →
    AreAmong range whole held bs takers →
    IsEndArea at end_area →
    ((n : ℤ) (role : ℕ) (x : ℤ) → have chooser n role x ≡ has end_area n role x) →
    ((n : ℤ) (role : ℕ) (x : ℤ) → have told n role x ≡ have takers n role x && not (have chooser n role x)) → AreTold range whole held at bs told
told_are range whole held at bs takers chooser told end_area among is_end_area alone without = record {
  is = λ roles rows env m kernel stands fair.
      let bs_fair : AreFair range roles rows (ids_of held) bs = fair_branches range roles rows (ids_of held) m kernel at bs fair in
      let ends = and_parts (is_end rows false at) _ (and_parts _ _ fair.sound).1 in
      let lin = and_parts (is_over_n at.at.base) (is_small at.at.off) (and_parts _ _ ends.0).1 in
      record {
        is = λ n role x within r.
            told_bools (have told n role x) (have takers n role x) (have chooser n role x)
            (takes_part_among (at_rank (rank roles n role x) (env n)) (rank roles n role x) (flat_branches roles n (ids_of held) (pos 0) bs)) (rank_of roles n at (pos 0) == rank roles n role x)
            ((among.is roles rows env stands bs_fair).is n role x within r)
            (alone n role x ∙ is_end_area.is n role x (from_zero range.low n within.low) lin.1 ∙ sym (end_is_at roles n (pos 0) at role x r))
            (without n role x);
      };
}

and_true : (a b : Bool) → b ≡ true → a && b ≡ a
and_true a b h = grind (arith, nat_tests)

pub told_within : (range : NRange) (whole : List Area) (held : List Held) (at : CoreEnd) (bs : BranchTrees) (told within : List Area) → AreTold range whole held at bs told →
    ((n : ℤ) (role : ℕ) (x : ℤ) → have within n role x ≡ have told n role x && have whole n role x) → AreTold range whole held at bs within
told_within range whole held at bs told within anywhere both = record {
  is = λ roles rows env m kernel stands fair. record {
    is = λ n role x inside r.
        both n role x ∙ and_true (have told n role x) (have whole n role x) (stands.whole_is.is n role x inside ∙ r) ∙ (anywhere.is roles rows env m kernel stands fair).is n role x inside r;
  };
}
