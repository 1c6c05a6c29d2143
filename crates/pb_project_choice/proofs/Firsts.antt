-- What the entries of a branch, and of all branches, find.
use Rattle.std.proofs.Common.{◌≡◌, ◌<◌, ◌≤◌, ◌+◌, ℕ, zero, suc, ℤ, pos, true, ◌&&◌, ◌||◌, List, [], ◌∷◌, ◌++◌, drop, get_or, length, refl, sym, ap, ◌∙◌, subst, arith, drop_of_length-le}
use Rattle.std.specs.List.{All}
use Rattle.pb_affine.specs.declared.lin.Lin.{Lin}
use Rattle.pb_part_areas.specs.declared.area.Area.{Area}
use Rattle.pb_part_areas.specs.Areas.{have}
use Rattle.pb_cases.specs.Breakpoints.{IsCut}
use Rattle.pb_core_language.specs.declared.tree.CoreBlock.{CoreBlock}
use Rattle.pb_core_language.specs.Flat.{stop, branch_at}
use Rattle.pb_core_language.specs.FlatOf.{flat_block, flat_branches}
use Rattle.pb_core_language.specs.Outcomes.{receives, firsts}
use Rattle.pb_core_language.specs.Plain.{plain_block}
use Rattle.pb_core_language.specs.Tree.{BlockTree, BranchTrees, no_branch, branch}
use Rattle.pb_core_language.specs.Verdict.{IsIn}
use Rattle.pb_core_flat.specs.OutcomeSets.{is_outcome}
use Rattle.pb_core_flat.specs.Seated.{rank, is_rank}
use Rattle.pb_part_takers.specs.declared.held.Held.{Held}
use Rattle.pb_part_takers.specs.Loops.{ids_of}
use Rattle.pb_part_firsts.specs.declared.firsts.Entry.{Entry}
use Rattle.pb_part_firsts.specs.Firsts.{finds, are_small, Gives, first_in}
use Rattle.pb_part_firsts.specs.Fitting.{EntriesFit}
use Rattle.pb_part_firsts.specs.Takers.{IsWhole}
use Rattle.pb_part_firsts.proofs.Steps.{trees_of}
use Rattle.pb_choice.proofs.Lists.{drop_is}
use Rattle.pb_shape.specs.Places.{Scope}
use Rattle.pb_shape.specs.Loops.{Around}
use Rattle.pb_shape.specs.Tabled.{count}
use Rattle.pb_project_choice.specs.declared.entries.Branch.{Branch}
use Rattle.pb_project_choice.specs.Found.{entries_at, IsAround, IsFirstIn, IsFoundIn}

-- ---- a branch

pub first_found : (sc : Scope) (a : Around) (held : List Held) (whole reach left : List Area) (b : BlockTree) (cuts : List Lin) (old new : List Entry) → old ≡ [] →
    ((n : ℤ) (role : ℕ) (x : ℤ) → have reach n role x ≡ have whole n role x) → IsWhole sc.range sc.roles whole → IsAround sc a held →
    Gives sc.range sc.roles reach left old new (first_in sc.roles held b) → are_small new ≡ true → EntriesFit sc.range cuts new → IsFirstIn sc a b cuts new
first_found sc a held whole reach left b cuts old new no_old same w around gives small fit = record {
  finds_is = λ n role x s l within r.
      gives.out n role x (receives s l) within r refl
      ∙ ap (λ z. finds sc.roles z n role x (receives s l) || (have reach n role x && is_outcome (receives s l) (first_in sc.roles held b n role x))) no_old
      ∙ ap (λ z. z && is_outcome (receives s l) (first_in sc.roles held b n role x)) (same n role x ∙ w.is n role x within ∙ r)
      ∙ ap (λ z. is_outcome (receives s l) (firsts z (rank sc.roles n role x) (flat_block sc.roles n (ids_of held) (pos 0) b stop))) (around.within n role x within r)
      ∙ ap (λ z. is_outcome (receives s l) (firsts (a.held n role x) (rank sc.roles n role x) (flat_block sc.roles n z (pos 0) b stop))) (sym around.opens);
  small = small;
  fit = fit;
}

-- ---- all branches

abbrev pub AreFirst : Scope → Around → List Lin → BranchTrees → List Branch → Type 0
AreFirst sc a cuts no_branch [] = Unit {0}
AreFirst sc a cuts no_branch (b ∷ bs) = ⊥
AreFirst sc a cuts (branch m t ts) [] = ⊥
AreFirst sc a cuts (branch m t ts) (b ∷ bs) = IsFirstIn sc a t cuts b.entries.items × AreFirst sc a cuts ts bs

count_first : (sc : Scope) (a : Around) (cuts : List Lin) (ts : BranchTrees) (bs : List Branch) → AreFirst sc a cuts ts bs → length bs ≡ count ts
count_first sc a cuts no_branch [] h = refl
count_first sc a cuts no_branch (b ∷ bs) h = absurd h
count_first sc a cuts (branch m t ts) [] h = absurd h
count_first sc a cuts (branch m t ts) (b ∷ bs) h = let e = count_first sc a cuts ts bs h.1 in omega (arith, e)

finds_first : (sc : Scope) (a : Around) (cuts : List Lin) (ts : BranchTrees) (bs : List Branch) → AreFirst sc a cuts ts bs → (k : ℕ) (n : ℤ) (role : ℕ) (x : ℤ) (s l : ℕ) → IsIn sc.range n → is_rank sc.roles n role x ≡ true →
    finds sc.roles (entries_at k bs) n role x (receives s l) ≡ is_outcome (receives s l) (firsts (a.held n role x) (rank sc.roles n role x) (branch_at k (flat_branches sc.roles n a.opens (pos 0) ts)))
finds_first sc a cuts no_branch [] h k n role x s l within r = refl
finds_first sc a cuts no_branch (b ∷ bs) h k n role x s l within r = absurd h
finds_first sc a cuts (branch m t ts) [] h k n role x s l within r = absurd h
finds_first sc a cuts (branch m t ts) (b ∷ bs) h zero n role x s l within r = h.0.finds_is n role x s l within r
finds_first sc a cuts (branch m t ts) (b ∷ bs) h (suc k) n role x s l within r = finds_first sc a cuts ts bs h.1 k n role x s l within r

small_first : (sc : Scope) (a : Around) (cuts : List Lin) (ts : BranchTrees) (bs : List Branch) → AreFirst sc a cuts ts bs → (k : ℕ) → are_small (entries_at k bs) ≡ true
small_first sc a cuts no_branch [] h k = refl
small_first sc a cuts no_branch (b ∷ bs) h k = absurd h
small_first sc a cuts (branch m t ts) [] h k = absurd h
small_first sc a cuts (branch m t ts) (b ∷ bs) h zero = h.0.small
small_first sc a cuts (branch m t ts) (b ∷ bs) h (suc k) = small_first sc a cuts ts bs h.1 k

fit_first : (sc : Scope) (a : Around) (cuts : List Lin) (ts : BranchTrees) (bs : List Branch) → AreFirst sc a cuts ts bs → (k : ℕ) → EntriesFit sc.range cuts (entries_at k bs)
fit_first sc a cuts no_branch [] h k = tt
fit_first sc a cuts no_branch (b ∷ bs) h k = absurd h
fit_first sc a cuts (branch m t ts) [] h k = absurd h
fit_first sc a cuts (branch m t ts) (b ∷ bs) h zero = h.0.fit
fit_first sc a cuts (branch m t ts) (b ∷ bs) h (suc k) = fit_first sc a cuts ts bs h.1 k

pub are_found : (sc : Scope) (a : Around) (cuts : List Lin) (ts : BranchTrees) (bs : List Branch) → All IsCut cuts → AreFirst sc a cuts ts bs → IsFoundIn sc a ts bs
are_found sc a cuts ts bs are_cuts h = record {
  count_is = count_first sc a cuts ts bs h;
  finds_is = finds_first sc a cuts ts bs h;
  small = small_first sc a cuts ts bs h;
  cuts = cuts;
  are_cuts = are_cuts;
  fit = fit_first sc a cuts ts bs h;
}

-- ---- a branch at a time

-- whatever the branches from here on add makes the list one of all branches
abbrev pub FirstSoFar : Scope → Around → List Lin → List CoreBlock → ℕ → List Branch → Type 0
FirstSoFar sc a cuts items i list = (rest : List Branch) → AreFirst sc a cuts (trees_of (drop i items)) rest → AreFirst sc a cuts (trees_of items) (list ++ rest)

append_append : (xs : List Branch) (b : Branch) (ys : List Branch) → (xs ++ b ∷ []) ++ ys ≡ xs ++ b ∷ ys
append_append [] b ys = refl
append_append (x ∷ xs) b ys = ap (λ z. x ∷ z) (append_append xs b ys)

append_nil : (xs : List Branch) → xs ++ [] ≡ xs
append_nil [] = refl
append_nil (x ∷ xs) = ap (λ z. x ∷ z) (append_nil xs)

pub first_step : (sc : Scope) (a : Around) (cuts : List Lin) (items : List CoreBlock) (i : ℕ) (b : CoreBlock) (list now : List Branch) (one : Branch) → i < length items → b ≡ get_or items i b →
    now ≡ list ++ one ∷ [] → IsFirstIn sc a (plain_block b).block cuts one.entries.items → FirstSoFar sc a cuts items i list → FirstSoFar sc a cuts items (i + 1) now
first_step sc a cuts items i b list now one lt is pushed it h = λ rest more.
    let these : AreFirst sc a cuts (trees_of (drop i items)) (one ∷ rest) =
    subst (λ z. AreFirst sc a cuts (trees_of z) (one ∷ rest)) (sym (drop_is items i b lt is)) (it, more) in
    subst (λ z. AreFirst sc a cuts (trees_of items) z) (sym (ap (λ z. z ++ rest) pushed ∙ append_append list one rest)) (h (one ∷ rest) these)

pub first_done : (sc : Scope) (a : Around) (cuts : List Lin) (items : List CoreBlock) (i : ℕ) (list : List Branch) → length items ≤ i → FirstSoFar sc a cuts items i list → AreFirst sc a cuts (trees_of items) list
first_done sc a cuts items i list le h =
    subst (λ z. AreFirst sc a cuts (trees_of items) z) (append_nil list) (h [] (subst (λ z. AreFirst sc a cuts (trees_of z) []) (sym (drop_of_length-le items le)) tt))
