-- The first breach in the branches of a choice, a branch at a time.
use Rattle.std.proofs.Common.{◌≡◌, ◌<◌, ◌≤◌, ◌+◌, ℕ, ℤ, Bool, Option, List, [], ◌++◌, map, drop, get_or, length, refl, sym, ap, ◌∙◌, subst, drop_of_length-le}
use Rattle.std.proofs.Math.Bool.{and-false}
use Rattle.pb_affine.specs.declared.range.NRange.{NRange}
use Rattle.pb_core_language.specs.declared.protocol.CoreRole.{CoreRole}
use Rattle.pb_core_language.specs.declared.tree.CoreBlock.{CoreBlock}
use Rattle.pb_core_language.specs.declared.tree.CoreEnd.{CoreEnd}
use Rattle.pb_core_language.specs.Tree.{Mark, StmtTree, choice, BranchTrees, branch}
use Rattle.pb_core_language.specs.Plain.{plain_block, branches_of}
use Rattle.pb_core_language.specs.Outcomes.{Outcome}
use Rattle.pb_core_language.specs.Run.{Env}
use Rattle.pb_core_language.specs.Sound.{Rows}
use Rattle.pb_part_areas.specs.declared.area.Area.{Area}
use Rattle.pb_part_takers.specs.declared.held.Held.{Held}
use Rattle.pb_part_firsts.specs.declared.firsts.Entry.{Entry}
use Rattle.pb_part_takers.specs.Loops.{ids_of}
use Rattle.pb_choice.specs.declared.found.Found.{Found}
use Rattle.pb_choice.specs.Flaws.{Flaws, IsFlaw, no_flaws, both, of_rules, of_stmt, of_branches, of_tellings, of_insides, is_told, found_in, misses}
use Rattle.pb_choice.specs.Found.{Improves}
use Rattle.pb_choice.specs.Scenes.{Stands, IsFair, AreFair, Are}
use Rattle.pb_choice.specs.Settled.{FirstTold, FirstInside, FirstChoice}
use Rattle.pb_choice.specs.Told.{AreTold}
use Rattle.pb_choice.specs.Walks.{FirstAt, FirstAmong, FirstWithin, IsPast}
use Rattle.pb_choice.proofs.FlawSteps.{SameFlaws, same_back, improves_both, improves_same, improves_empty}
use Rattle.pb_choice.proofs.Improving.{improves_as}
use Rattle.pb_choice.proofs.Fairs.{fair_branches, fair_branch, fair_others}
use Rattle.pb_choice.proofs.Parts.{choice_parts}
use Rattle.pb_choice.proofs.Insides.{to_parts, from_parts}
use Rattle.pb_choice.proofs.Lists.{drop_is}

-- the branches from here on, what was found before them, and what is left to find in them
pub record AmongNow (range : NRange) (roles : List CoreRole) (rows : Rows) (env : ℤ → Env) (opens : List ℕ) (test : ℤ → ℕ → ℤ → Bool) (all now : BranchTrees)
    (entries : List Entry) (mixed : List Area) (old best : Option Found) : Type 0 where
  pub before : ℤ → ℕ → ℤ → List Outcome
  pub past : IsPast range roles test before entries mixed
  pub fair : AreFair range roles rows opens now
  pub rest : (new : Option Found) → Improves (IsFlaw range roles (of_tellings roles env opens test before now)) best new →
      Improves (IsFlaw range roles (of_tellings roles env opens test (λ n role x. []) all)) old new

pub record AmongSoFar (range : NRange) (whole : List Area) (held : List Held) (told : List Area) (items : List CoreBlock) (i : ℕ)
    (entries : List Entry) (mixed : List Area) (old best : Option Found) : Type 0 where
  pub is : (roles : List CoreRole) (rows : Rows) (env : ℤ → Env) (test : ℤ → ℕ → ℤ → Bool) → Stands range roles env whole held →
      AreFair range roles rows (ids_of held) (branches_of (map plain_block items)) → Are range roles told test →
      AmongNow range roles rows env (ids_of held) test (branches_of (map plain_block items)) (branches_of (map plain_block (drop i items))) entries mixed old best

no_past : (range : NRange) (roles : List CoreRole) (test : ℤ → ℕ → ℤ → Bool) → IsPast range roles test (λ n role x. []) [] []
no_past range roles test = record {
  small = refl;
  found = λ n role x within r s l. sym (and-false (test n role x));
  mixed_is = record { is = λ n role x within r. sym (and-false (test n role x)) };
}

pub among_start : (range : NRange) (whole : List Area) (held : List Held) (told : List Area) (items : List CoreBlock) (entries : List Entry) (mixed : List Area) (best : Option Found) →
    entries ≡ [] → mixed ≡ [] → AmongSoFar range whole held told items 0 entries mixed best best
among_start range whole held told items entries mixed best no_entries no_mixed = record {
  is = λ roles rows env test stands fair are. record {
    before = λ n role x. [];
    past = subst (λ z. IsPast range roles test (λ n role x. []) z mixed) (sym no_entries) (subst (λ z. IsPast range roles test (λ n role x. []) [] z) (sym no_mixed) (no_past range roles test));
    fair = fair;
    rest = λ new h. h;
  };
}

pub among_step : (range : NRange) (whole : List Area) (held : List Held) (told : List Area) (items : List CoreBlock) (i : ℕ) (x : CoreBlock)
    (entries : List Entry) (mixed : List Area) (now : List Entry) (now_mixed : List Area) (old best next : Option Found) →
    i < length items → x ≡ get_or items i x →
    FirstWithin range whole held told (plain_block x).mark (plain_block x).block entries mixed now now_mixed best next →
    AmongSoFar range whole held told items i entries mixed old best → AmongSoFar range whole held told items (i + 1) now now_mixed old next
among_step range whole held told items i x entries mixed now now_mixed old best next lt is here so_far = record {
  is = λ roles rows env test stands fair are.
      let others : BranchTrees = branches_of (map plain_block (drop (i + 1) items)) in
      let these : branches_of (map plain_block (drop i items)) ≡ branch (plain_block x).mark (plain_block x).block others = ap (λ l. branches_of (map plain_block l)) (drop_is items i x lt is) in
      let t : AmongNow range roles rows env (ids_of held) test (branches_of (map plain_block items)) (branch (plain_block x).mark (plain_block x).block others) entries mixed old best =
      subst (λ b. AmongNow range roles rows env (ids_of held) test (branches_of (map plain_block items)) b entries mixed old best) these (so_far.is roles rows env test stands fair are) in
      let b_fair : IsFair range roles rows (ids_of held) (plain_block x).block = fair_branch range roles rows (ids_of held) (plain_block x).mark (plain_block x).block others t.fair in
      record {
        before = λ n role y. t.before n role y ++ found_in roles env (ids_of held) (plain_block x).block n role y;
        past = here.past roles rows env test t.before stands b_fair are t.past;
        fair = fair_others range roles rows (ids_of held) (plain_block x).mark (plain_block x).block others t.fair;
        rest = λ new h. t.rest new
            (improves_both range roles
            (of_rules (plain_block x).mark (λ k n role y. misses test (t.before n role y) (found_in roles env (ids_of held) (plain_block x).block n role y) k n role y))
            (of_tellings roles env (ids_of held) test (λ n role y. t.before n role y ++ found_in roles env (ids_of held) (plain_block x).block n role y) others)
            (of_tellings roles env (ids_of held) test t.before (branch (plain_block x).mark (plain_block x).block others)) best next new
            (record { lone = λ n. refl; told = λ k n role y. refl })
            (here.is roles rows env test t.before stands b_fair are t.past) h);
      };
}

pub among_done : (range : NRange) (whole : List Area) (held : List Held) (told : List Area) (items : List CoreBlock) (i : ℕ)
    (entries : List Entry) (mixed : List Area) (old best : Option Found) → length items ≤ i →
    AmongSoFar range whole held told items i entries mixed old best → FirstAmong range whole held told (branches_of (map plain_block items)) old best
among_done range whole held told items i entries mixed old best le so_far = record {
  is = λ roles rows env test stands fair are.
      let t : AmongNow range roles rows env (ids_of held) test (branches_of (map plain_block items)) (branches_of (map plain_block (drop i items))) entries mixed old best = so_far.is roles rows env test stands fair are in
      t.rest best (improves_empty range roles (of_tellings roles env (ids_of held) test t.before (branches_of (map plain_block (drop i items)))) best
      (subst (λ l. SameFlaws (of_tellings roles env (ids_of held) test t.before (branches_of (map plain_block l))) no_flaws) (sym (drop_of_length-le items le)) (record { lone = λ n. refl; told = λ k n role x. refl })));
}

pub told_first : (range : NRange) (whole : List Area) (held : List Held) (at : CoreEnd) (bs : BranchTrees) (told seen : List Area) (old new : Option Found) → seen ≡ told →
    AreTold range whole held at bs told → FirstAmong range whole held seen bs old new → FirstTold range whole held at bs old new
told_first range whole held at bs told seen old new seen_is told_is among = record {
  is = λ roles rows env m k stands fair.
      among.is roles rows env (is_told roles env (ids_of held) at bs) stands (fair_branches range roles rows (ids_of held) m k at bs fair)
      (subst (λ l. Are range roles l (is_told roles env (ids_of held) at bs)) (sym seen_is) (told_is.is roles rows env m k stands fair));
}

-- ---- a choice

-- the rules at the branches, and then what is inside them
pub choice_first : (range : NRange) (whole : List Area) (held : List Held) (at : CoreEnd) (bs : BranchTrees) (old mid new : Option Found) →
    FirstTold range whole held at bs old mid → FirstInside range whole held bs mid new → FirstChoice range whole held at bs old new
choice_first range whole held at bs old mid new told inside = record {
  is = λ m k. record {
    is = λ roles rows env stands fair.
        let opens : List ℕ = ids_of held in
        let test : ℤ → ℕ → ℤ → Bool = is_told roles env opens at bs in
        let tellings : Flaws = of_tellings roles env opens test (λ n role x. []) bs in
        let insides : Flaws = of_insides roles env opens bs in
        let branches : Flaws = of_branches roles env opens test (λ n role x. []) bs in
        improves_same range roles branches (of_stmt roles env opens m (choice k at bs)) old new
        (same_back (of_stmt roles env opens m (choice k at bs)) branches (choice_parts roles env opens m k at bs))
        (improves_as (IsFlaw range roles (both tellings insides)) (IsFlaw range roles branches) old new
        (from_parts range roles env opens test (λ n role x. []) bs) (to_parts range roles env opens test (λ n role x. []) bs)
        (improves_both range roles tellings insides (both tellings insides) old mid new (record { lone = λ n. refl; told = λ j n role x. refl })
        (told.is roles rows env m k stands fair) (inside.is roles rows env stands (fair_branches range roles rows opens m k at bs fair))));
  };
}

pub choice_at : (range : NRange) (whole : List Area) (held : List Held) (m : Mark) (k : ℕ) (at : CoreEnd) (items branches : List CoreBlock) (old new : Option Found) (s : StmtTree) →
    s ≡ choice k at (branches_of (map plain_block items)) → branches ≡ items → FirstChoice range whole held at (branches_of (map plain_block branches)) old new → FirstAt range whole held m s old new
choice_at range whole held m k at items branches old new s is same first =
    subst (λ z. FirstAt range whole held m z old new) (ap (λ l. choice k at (branches_of (map plain_block l))) same ∙ sym is) (first.is m k)
