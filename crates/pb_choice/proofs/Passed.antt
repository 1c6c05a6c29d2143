-- Branches at which no breach of the rules 10 to 12 is before the best so far, and what is inside branches.
use Rattle.std.proofs.Common.{◌≡◌, inl, inr, ◌<◌, ◌≤◌, ◌+◌, ℕ, ℤ, Bool, true, false, if◌then◌else◌, Option, List, [], ◌∷◌, ◌++◌, map, drop, get_or, length, refl, sym, ap, subst, drop_of_length-le}
use Rattle.pb_affine.specs.declared.range.NRange.{NRange}
use Rattle.pb_core_language.specs.declared.protocol.CoreRole.{CoreRole}
use Rattle.pb_core_language.specs.declared.tree.CoreBlock.{CoreBlock, out-CoreBlock}
use Rattle.pb_core_language.specs.declared.tree.CoreEnd.{CoreEnd}
use Rattle.pb_core_language.specs.Tree.{Mark, BranchTrees, no_branch, branch}
use Rattle.pb_core_language.specs.Plain.{plain_block, branches_of}
use Rattle.pb_core_language.specs.Outcomes.{Outcome}
use Rattle.pb_core_language.specs.Run.{Env}
use Rattle.pb_core_language.specs.Sound.{Rows}
use Rattle.pb_core_language.specs.Verdict.{Broken}
use Rattle.pb_core_language.proofs.Plains.{block_mark}
use Rattle.pb_part_areas.specs.declared.area.Area.{Area}
use Rattle.pb_part_takers.specs.declared.held.Held.{Held}
use Rattle.pb_part_takers.specs.Loops.{ids_of}
use Rattle.pb_part_firsts.specs.declared.firsts.Entry.{Entry}
use Rattle.pb_rules.proofs.Lists.{Has, has}
use Rattle.pb_choice.specs.declared.found.Found.{Found}
use Rattle.pb_choice.specs.declared.rule.ChoiceRule.{ChoiceRule}
use Rattle.pb_choice.specs.Flaws.{IsFlaw, lonely, misled, no_flaws, of_rules, of_block, of_tellings, of_insides, is_told, found_in, misses}
use Rattle.pb_choice.specs.Found.{IsNotBefore, Improves}
use Rattle.pb_choice.specs.Scenes.{Stands, IsFair, AreFair}
use Rattle.pb_choice.specs.Settled.{IsSettled, AreSettled, FirstTold, FirstInside}
use Rattle.pb_choice.specs.Walks.{FirstIn, FirstAmong}
use Rattle.pb_choice.proofs.Branching.{AmongNow, AmongSoFar}
use Rattle.pb_choice.proofs.Fairs.{fair_branch, fair_others}
use Rattle.pb_choice.proofs.FlawSteps.{SameFlaws, either, improves_both, improves_empty}
use Rattle.pb_choice.proofs.Improving.{improves_late}
use Rattle.pb_choice.proofs.Lists.{drop_is}

-- ---- breaches of the rules 10 to 12 at a settled branch

pub settled_end : (items : List CoreBlock) (i : ℕ) (best : Option Found) → length items ≤ i → AreSettled best (branches_of (map plain_block (drop i items)))
settled_end items i best le = subst (λ l. AreSettled best (branches_of (map plain_block l))) (sym (drop_of_length-le items le)) tt

pub settled_step : (items : List CoreBlock) (i : ℕ) (x : CoreBlock) (best : Option Found) → i < length items → x ≡ get_or items i x → IsSettled best (out-CoreBlock (get_or items i x)).number →
    AreSettled best (branches_of (map plain_block (drop (i + 1) items))) → AreSettled best (branches_of (map plain_block (drop i items)))
settled_step items i x best lt is here rest =
    subst (λ l. AreSettled best (branches_of (map plain_block l))) (sym (drop_is items i x lt is))
    (subst (λ m. IsSettled best m.number × AreSettled best (branches_of (map plain_block (drop (i + 1) items)))) (sym (block_mark x)) (subst (λ z. IsSettled best (out-CoreBlock z).number) (sym is) here, rest))

only_one : (b : Bool) (m x : Mark) → Has (if b then m ∷ [] else []) x → m ≡ x
only_one true m x (inl e) = e
only_one true m x (inr h) = absurd h
only_one false m x h = absurd h

rules_later : (range : NRange) (roles : List CoreRole) (best : Option Found) (m : Mark) (miss : ChoiceRule → ℤ → ℕ → ℤ → Bool) (c : Broken) →
    IsSettled best m.number → IsFlaw range roles (of_rules m miss) c → IsNotBefore c best
rules_later range roles best m miss c h (lonely x within is there) = absurd (has [] x there)
rules_later range roles best m miss c h (misled k x role y within rank is there) =
    h.is c k x (record { role = role; index = y }) is (ap (λ z. z.number) (sym (only_one (miss k c.n role y) m x (has _ x there))))

-- ---- the rules at settled branches find nothing new

module _ (range : NRange) (roles : List CoreRole) (env : ℤ → Env) (opens : List ℕ) (test : ℤ → ℕ → ℤ → Bool) where
  branches_later : (best : Option Found) (before : ℤ → ℕ → ℤ → List Outcome) (bs : BranchTrees) (c : Broken) → AreSettled best bs →
      IsFlaw range roles (of_tellings roles env opens test before bs) c → IsNotBefore c best
  branches_later best before no_branch c h (lonely m within is there) = absurd (has [] m there)
  branches_later best before no_branch c h (misled k m role x within rank is there) = absurd (has [] m there)
  branches_later best before (branch m b bs) c h f =
      elim (either range roles (of_rules m (λ k n role x. misses test (before n role x) (found_in roles env opens b n role x) k n role x))
      (of_tellings roles env opens test (λ n role x. before n role x ++ found_in roles env opens b n role x) bs) c f) [
        | inl here ↦ rules_later range roles best m (λ k n role x. misses test (before n role x) (found_in roles env opens b n role x) k n role x) c h.0 here
        | inr rest ↦ branches_later best (λ n role x. before n role x ++ found_in roles env opens b n role x) bs c h.1 rest
      ]

  improves_settled : (before : ℤ → ℕ → ℤ → List Outcome) (bs : BranchTrees) (best : Option Found) → AreSettled best bs →
      Improves (IsFlaw range roles (of_tellings roles env opens test before bs)) best best
  improves_settled before bs best h = improves_late (IsFlaw range roles (of_tellings roles env opens test before bs)) best (λ c f. branches_later best before bs c h f)

pub among_passed : (range : NRange) (whole : List Area) (held : List Held) (told : List Area) (items : List CoreBlock) (i : ℕ)
    (entries : List Entry) (mixed : List Area) (old best : Option Found) → AreSettled best (branches_of (map plain_block (drop i items))) →
    AmongSoFar range whole held told items i entries mixed old best → FirstAmong range whole held told (branches_of (map plain_block items)) old best
among_passed range whole held told items i entries mixed old best h so_far = record {
  is = λ roles rows env test stands fair are.
      let bs : BranchTrees = branches_of (map plain_block (drop i items)) in
      let t : AmongNow range roles rows env (ids_of held) test (branches_of (map plain_block items)) bs entries mixed old best = so_far.is roles rows env test stands fair are in
      t.rest best (improves_settled range roles env (ids_of held) test t.before bs best h);
}

pub told_passed : (range : NRange) (whole : List Area) (held : List Held) (at : CoreEnd) (bs : BranchTrees) (best : Option Found) → AreSettled best bs →
    FirstTold range whole held at bs best best
told_passed range whole held at bs best h = record {
  is = λ roles rows env m k stands fair. improves_settled range roles env (ids_of held) (is_told roles env (ids_of held) at bs) (λ n role x. []) bs best h;
}

-- ---- what is inside branches, a branch at a time

pub record InsideNow (range : NRange) (roles : List CoreRole) (rows : Rows) (env : ℤ → Env) (opens : List ℕ) (all now : BranchTrees) (old best : Option Found) : Type 0 where
  pub fair : AreFair range roles rows opens now
  pub rest : (new : Option Found) → Improves (IsFlaw range roles (of_insides roles env opens now)) best new → Improves (IsFlaw range roles (of_insides roles env opens all)) old new

pub record InsideSoFar (range : NRange) (whole : List Area) (held : List Held) (items : List CoreBlock) (i : ℕ) (old best : Option Found) : Type 0 where
  pub is : (roles : List CoreRole) (rows : Rows) (env : ℤ → Env) → Stands range roles env whole held → AreFair range roles rows (ids_of held) (branches_of (map plain_block items)) →
      InsideNow range roles rows env (ids_of held) (branches_of (map plain_block items)) (branches_of (map plain_block (drop i items))) old best

pub inside_start : (range : NRange) (whole : List Area) (held : List Held) (items : List CoreBlock) (best : Option Found) → InsideSoFar range whole held items 0 best best
inside_start range whole held items best = record { is = λ roles rows env stands fair. record { fair = fair; rest = λ new h. h } }

pub inside_step : (range : NRange) (whole : List Area) (held : List Held) (items : List CoreBlock) (i : ℕ) (x : CoreBlock) (old best next : Option Found) →
    i < length items → x ≡ get_or items i x → FirstIn range whole held (plain_block x).block best next → InsideSoFar range whole held items i old best → InsideSoFar range whole held items (i + 1) old next
inside_step range whole held items i x old best next lt is here so_far = record {
  is = λ roles rows env stands fair.
      let all : BranchTrees = branches_of (map plain_block items) in
      let others : BranchTrees = branches_of (map plain_block (drop (i + 1) items)) in
      let these : branches_of (map plain_block (drop i items)) ≡ branch (plain_block x).mark (plain_block x).block others = ap (λ l. branches_of (map plain_block l)) (drop_is items i x lt is) in
      let t : InsideNow range roles rows env (ids_of held) all (branch (plain_block x).mark (plain_block x).block others) old best =
      subst (λ b. InsideNow range roles rows env (ids_of held) all b old best) these (so_far.is roles rows env stands fair) in
      let b_fair : IsFair range roles rows (ids_of held) (plain_block x).block = fair_branch range roles rows (ids_of held) (plain_block x).mark (plain_block x).block others t.fair in
      record {
        fair = fair_others range roles rows (ids_of held) (plain_block x).mark (plain_block x).block others t.fair;
        rest = λ new h. t.rest new
            (improves_both range roles (of_block roles env (ids_of held) (plain_block x).block) (of_insides roles env (ids_of held) others)
            (of_insides roles env (ids_of held) (branch (plain_block x).mark (plain_block x).block others)) best next new
            (record { lone = λ n. refl; told = λ k n role y. refl }) (here.is roles rows env stands b_fair) h);
      };
}

pub inside_done : (range : NRange) (whole : List Area) (held : List Held) (items : List CoreBlock) (i : ℕ) (old best : Option Found) → length items ≤ i →
    InsideSoFar range whole held items i old best → FirstInside range whole held (branches_of (map plain_block items)) old best
inside_done range whole held items i old best le so_far = record {
  is = λ roles rows env stands fair.
      let t : InsideNow range roles rows env (ids_of held) (branches_of (map plain_block items)) (branches_of (map plain_block (drop i items))) old best = so_far.is roles rows env stands fair in
      t.rest best (improves_empty range roles (of_insides roles env (ids_of held) (branches_of (map plain_block (drop i items)))) best
      (subst (λ l. SameFlaws (of_insides roles env (ids_of held) (branches_of (map plain_block l))) no_flaws) (sym (drop_of_length-le items le)) (record { lone = λ n. refl; told = λ k n role x. refl })));
}
