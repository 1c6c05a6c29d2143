-- What a rank that is told of a choice finds first over all branches.
use Rattle.std.proofs.Common.{◌≡◌, ℕ, ℤ, pos, Bool, true, false, not, ◌&&◌, ◌||◌, if◌then◌else◌, List, [], ◌∷◌, ◌++◌, refl, sym, ap, ◌∙◌, subst, append-nil, append_assoc}
use Rattle.pb_affine.specs.declared.lin.Lin.{Lin}
use Rattle.pb_choice.specs.declared.rule.ChoiceRule.TheVariants.{OneSource as FromOne}
use Rattle.pb_choice.specs.Flaws.{fits_of}
use Rattle.pb_choice.proofs.Origins.{none_left, none_right}
use Rattle.pb_core_language.specs.declared.tree.CoreEnd.{CoreEnd}
use Rattle.pb_core_language.specs.Flat.{Branches, no_branch, branch, takes_part_among}
use Rattle.pb_core_language.specs.FlatOf.{flat_branches}
use Rattle.pb_core_language.specs.Outcomes.{Outcome, firsts, firsts_among, comes_from_one}
use Rattle.pb_core_language.specs.Plain.{Protocol}
use Rattle.pb_core_language.specs.Rules.{misfits, misfits_among}
use Rattle.pb_core_language.specs.Tree.{Mark, choice, BranchTrees}
use Rattle.pb_core_flat.specs.Seated.{rank, is_rank, is_at}
use Rattle.pb_core_flat.proofs.Seats.{end_is_at}
use Rattle.pb_shape.specs.Places.{scope_of}
use Rattle.pb_shape.specs.Loops.{Around}
use Rattle.pb_project_choice.specs.Sources.{OneSource}
use Rattle.pb_project.specs.Places.{IsGoodStmt}
use Rattle.pb_project.proofs.GoodParts.{is_told_at, choice_keeps, good_choice}

not_listed : (t : Bool) (x : Mark) → (if true && not t then x ∷ [] else []) ≡ [] → t ≡ true
not_listed true x h = refl
not_listed false x h = cc

keeps_one : (now before : Bool) → now || not before ≡ true → before ≡ true → now ≡ true
keeps_one true before h k = refl
keeps_one false before h k = cc

one_of_all : (held : List Bool) (r : ℕ) (before : List Outcome) (bs : Branches) → comes_from_one before ≡ true → misfits_among (fits_of FromOne) held r true before bs ≡ [] → comes_from_one (before ++ firsts_among held r bs) ≡ true
one_of_all held r before no_branch c h = ap comes_from_one (append-nil before) ∙ c
one_of_all held r before (branch m b bs) c h =
    let here = firsts held r b in
    ap comes_from_one (sym (append_assoc before here (firsts_among held r bs)))
    ∙ one_of_all held r (before ++ here) bs
    (keeps_one (comes_from_one (before ++ here)) (comes_from_one before) (not_listed (comes_from_one (before ++ here) || not (comes_from_one before)) m (none_left _ _ h)) c)
    (none_right (misfits (fits_of FromOne) held r b) _ (none_right _ _ h))

told_true : (p t : Bool) → p ≡ false → t ≡ true → not p && t ≡ true
told_true p t e f = cc

pub one_source : (p : Protocol) (cuts : List Lin) (a : Around) (m : Mark) (k : ℕ) (at : CoreEnd) (bs : BranchTrees) → IsGoodStmt p cuts a m (choice k at bs) → OneSource (scope_of p) a at bs
one_source p cuts a m k at bs h =
    let told : (n : ℤ) (role : ℕ) (x : ℤ) → is_rank p.roles n role x ≡ true → is_at at n (pos 0) role x ≡ false →
    takes_part_among (a.held n role x) (rank p.roles n role x) (flat_branches p.roles n a.opens (pos 0) bs) ≡ true → is_told_at p cuts a at bs n role x ≡ true
    = λ n role x r other takes. told_true _ _ (end_is_at p.roles n (pos 0) at role x r ∙ other) takes in
    record {
      seated = (good_choice p cuts a m k at bs h).branches.seated;
      one = λ n role x within r other takes. one_of_all (a.held n role x) (rank p.roles n role x) [] (flat_branches p.roles n a.opens (pos 0) bs) refl
          (subst (λ t. misfits_among (fits_of FromOne) (a.held n role x) (rank p.roles n role x) t [] (flat_branches p.roles n a.opens (pos 0) bs) ≡ []) (told n role x r other takes)
          (choice_keeps p cuts a m k at bs h FromOne n role x within r));
    }
