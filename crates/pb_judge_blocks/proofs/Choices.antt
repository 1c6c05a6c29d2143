-- The branch that is taken, and the walk into it.
use Rattle.std.proofs.Common.{◌≡◌, ◌<◌, ◌≤◌, ℕ, zero, suc, true, false, ◌&&◌, List, [], ◌∷◌, length, map, get_or, Result, Ok, Err, IfOk, refl, sym, ap, subst, ◌∙◌, ℤ, arith, Vec, Global}
use Rattle.std.specs.Prelude.{nat_lt}
use Rattle.std.proofs.lemmas.Bool.{and_parts}
use Rattle.pb_core_language.specs.declared.tree.CoreBlock.{CoreBlock}
use Rattle.pb_core_language.specs.declared.tree.CoreStmt.{CoreStmt}
use Rattle.pb_core_language.specs.declared.tree.CoreEnd.{CoreEnd}
use Rattle.pb_core_language.specs.declared.tree.CoreKind.TheVariants.{Choice}
use Rattle.pb_core_language.specs.Plain.{plain_block, plain_stmt, branches_of}
use Rattle.pb_core_language.proofs.Plains.{plain_choice}
use Rattle.pb_core_language.specs.Sound.{Rows, is_stmt, is_block, is_end, has_branch, are_branches}
use Rattle.pb_core_language.specs.Flat as F
use Rattle.pb_core_language.specs.Flat.{Block, stop}
use Rattle.pb_core_language.specs.FlatOf.{rank_of, flat_stmt, flat_block, flat_branches, from_one}
use Rattle.pb_core_language.specs.Run.{branch_now}
use Rattle.pb_judge_endings.specs.Endings.{first_ending}
use Rattle.pb_judge_endings.proofs.Flattened.{endings_are_flat}
use Rattle.pb_judge_follow.specs.Follow.{Left, answers_left}
use Rattle.pb_judge_steps.specs.declared.meeting.Difference.{Difference}
use Rattle.pb_judge_steps.specs.Met.{Chosen, branch_taken}
use Rattle.pb_judge_walks.specs.declared.flow.Flow.{Flow}
use Rattle.pb_judge_walks.specs.declared.flow.Flow.TheVariants.{Passed}
use Rattle.pb_judge_walks.specs.Walks.{Walked}
use Rattle.pb_judge_walks.proofs.Blocks.{steps_are_walked, choices_are_walked}
use Rattle.pb_judge_blocks.specs.declared.site.Site.{Site}
use Rattle.pb_judge_blocks.specs.Flows.{differing}
use Rattle.pb_judge_blocks.specs.Places.{IsTurn, IsSite, setting_at}
use Rattle.pb_judge_blocks.specs.Steps.{StmtWalks, BlockWalks, Takes}

module _ (site : Site) (i : ℤ) where
  abbrev flats : List ℕ → List CoreBlock → F.Branches
  flats opens bs = flat_branches site.roles.now site.n opens i (branches_of (map plain_block bs))

  many : (opens : List ℕ) (bs : List CoreBlock) → F.count (flats opens bs) ≡ length bs
  many opens [] = refl
  many opens (b ∷ bs) = ap suc (many opens bs)

  branch_is : (opens : List ℕ) (bs : List CoreBlock) (k : ℕ) (z : CoreBlock) → k < length bs → F.branch_at k (flats opens bs) ≡ flat_block site.roles.now site.n opens i (plain_block (get_or bs k z)).block stop
  branch_is opens [] k z lt = absurd (omega (arith, lt))
  branch_is opens (b ∷ bs) zero z lt = refl
  branch_is opens (b ∷ bs) (suc k) z lt = branch_is opens bs k z (omega (arith, lt))

  branch_none : (opens : List ℕ) (bs : List CoreBlock) (k : ℕ) → length bs ≤ k → F.branch_at k (flats opens bs) ≡ stop
  branch_none opens [] k le = none k
    where
      none : (n : ℕ) → F.branch_at n F.no_branch ≡ stop
      none zero = refl
      none (suc n) = refl
  branch_none opens (b ∷ bs) zero le = absurd (omega (arith, le))
  branch_none opens (b ∷ bs) (suc k) le = branch_none opens bs k (omega (arith, le))

  branch_fine : (rows : Rows) (opens : List ℕ) (bs : List CoreBlock) (k : ℕ) (z : CoreBlock) → k < length bs → are_branches rows opens (branches_of (map plain_block bs)) ≡ true → is_block rows false opens (plain_block (get_or bs k z)).block ≡ true
  branch_fine rows opens [] k z lt h = absurd (omega (arith, lt))
  branch_fine rows opens (b ∷ bs) zero z lt h = (and_parts _ _ h).0
  branch_fine rows opens (b ∷ bs) (suc k) z lt h = branch_fine rows opens bs k z (omega (arith, lt)) (and_parts _ _ h).1

  -- ---- which branch

  pub takes : (kernel : ℕ) (at : CoreEnd) (bs : List CoreBlock) (old mid : Left) (rank count otherwise : ℕ) (r : Result ℕ Difference) → (IsSite site → IsTurn i → rank ≡ rank_of site.roles.now site.n at i) → count ≡ length bs →
      otherwise ≡ first_ending (branches_of (map plain_block bs)) → Chosen rank kernel (branch_taken old rank count otherwise) old r mid → Takes site i kernel at (branches_of (map plain_block bs)) old r mid
  takes kernel at bs old mid rank count otherwise r er ec eo h = λ rows opens st tu fine.
      let there = rank_of site.roles.now site.n at i in
      let first : F.first_ending (flats opens bs) ≡ first_ending (branches_of (map plain_block bs)) = endings_are_flat rows opens site.roles.now site.n i opens (branches_of (map plain_block bs)) fine in
      let a : Chosen there kernel (branch_taken old there count otherwise) old r mid = subst (λ x. Chosen x kernel (branch_taken old x count otherwise) old r mid) (er st tu) h in
      let b : Chosen there kernel (branch_taken old there (F.count (flats opens bs)) otherwise) old r mid = subst (λ x. Chosen there kernel (branch_taken old there x otherwise) old r mid) (ec ∙ sym (many opens bs)) a in
      subst (λ x. Chosen there kernel (branch_taken old there (F.count (flats opens bs)) x) old r mid) (eo ∙ sym first) b

  -- ---- the statement

  module _ (s : CoreStmt) (kernel : ℕ) (at : CoreEnd) (bs : Vec CoreBlock Global) (is : s.what ≡ Choice kernel at bs) where
    abbrev there : ℕ
    there = rank_of site.roles.now site.n at i

    -- what holds of the choice holds of the statement
    as_choice : (old new : Left) (flow : Flow) →
        ((rows : Rows) (opens : List ℕ) → IsSite site → IsTurn i → are_branches rows opens (branches_of (map plain_block bs.items)) ≡ true → Walked (setting_at site) (λ after. F.choice (from_one (plain_stmt s).mark at site.n i) there kernel (flats opens bs.items) after) opens old flow new) →
        StmtWalks site i (plain_stmt s) old flow new
    as_choice old new flow h = λ rows varies opens st tu fine.
        let e = plain_choice s kernel at bs is in
        let first = and_parts (nat_lt kernel rows.kernels) (is_end rows false at && (has_branch (branches_of (map plain_block bs.items)) && are_branches rows opens (branches_of (map plain_block bs.items)))) (subst (λ x. is_stmt rows varies opens x ≡ true) e fine) in
        let second = and_parts (is_end rows false at) (has_branch (branches_of (map plain_block bs.items)) && are_branches rows opens (branches_of (map plain_block bs.items))) first.1 in
        let third = and_parts (has_branch (branches_of (map plain_block bs.items))) (are_branches rows opens (branches_of (map plain_block bs.items))) second.1 in
        subst (λ x. Walked (setting_at site) (flat_stmt site.roles.now site.n opens i (plain_stmt s).mark x) opens old flow new) (sym e) (h rows opens st tu third.1)

    pub choice_differs : (old new : Left) (d : Difference) (flow : Flow) → Takes site i kernel at (branches_of (map plain_block bs.items)) old (Err d) new → flow ≡ differing d → StmtWalks site i (plain_stmt s) old flow new
    choice_differs old new d flow t e =
        as_choice old new flow (λ rows opens st tu fine. subst (λ f. Walked (setting_at site) (λ after. F.choice (from_one (plain_stmt s).mark at site.n i) there kernel (flats opens bs.items) after) opens old f new) (sym e)
        (choices_are_walked.misfits (setting_at site) (from_one (plain_stmt s).mark at site.n i) there kernel (flats opens bs.items) opens old new d.rank d.line (t rows opens st tu fine)))

    pub choice_goes : (old mid new : Left) (k : ℕ) (b : CoreBlock) (flow : Flow) → k < length bs.items → b ≡ get_or bs.items k b → Takes site i kernel at (branches_of (map plain_block bs.items)) old (Ok k) mid → BlockWalks site i (plain_block b).block mid flow new →
        StmtWalks site i (plain_stmt s) old flow new
    choice_goes old mid new k b flow lt is_b t w =
        as_choice old new flow (λ rows opens st tu fine.
        let taken = t rows opens st tu fine in
        let same : F.branch_at (branch_now (setting_at site) (answers_left old) there kernel (flats opens bs.items)) (flats opens bs.items) ≡ flat_block site.roles.now site.n opens i (plain_block b).block stop =
        ap (λ n. F.branch_at n (flats opens bs.items)) (sym taken.0) ∙ branch_is opens bs.items k b lt ∙ ap (λ x. flat_block site.roles.now site.n opens i (plain_block x).block stop) (sym is_b) in
        let good = subst (λ x. is_block rows false opens (plain_block x).block ≡ true) (sym is_b) (branch_fine rows opens bs.items k b lt fine) in
        choices_are_walked.branch (setting_at site) (from_one (plain_stmt s).mark at site.n i) there kernel (flats opens bs.items) (flat_block site.roles.now site.n opens i (plain_block b).block) opens old mid new flow taken.1 taken.2 same (w rows false opens st tu good))

    pub choice_past : (old mid : Left) (k : ℕ) → length bs.items ≤ k → Takes site i kernel at (branches_of (map plain_block bs.items)) old (Ok k) mid → StmtWalks site i (plain_stmt s) old Passed mid
    choice_past old mid k le t =
        as_choice old mid Passed (λ rows opens st tu fine.
        let taken = t rows opens st tu fine in
        let same : F.branch_at (branch_now (setting_at site) (answers_left old) there kernel (flats opens bs.items)) (flats opens bs.items) ≡ stop = ap (λ n. F.branch_at n (flats opens bs.items)) (sym taken.0) ∙ branch_none opens bs.items k le in
        choices_are_walked.branch (setting_at site) (from_one (plain_stmt s).mark at site.n i) there kernel (flats opens bs.items) (λ after. after) opens old mid mid Passed taken.1 taken.2 same (steps_are_walked.nothing (setting_at site) opens mid))

    pub choice_result : {X : Type 0} (old mid new : Left) (k : ℕ) (b : CoreBlock) (r : Result Flow X) → k < length bs.items → b ≡ get_or bs.items k b → Takes site i kernel at (branches_of (map plain_block bs.items)) old (Ok k) mid →
        IfOk r (λ flow. BlockWalks site i (plain_block b).block mid flow new) → IfOk r (λ flow. StmtWalks site i (plain_stmt s) old flow new)
    choice_result old mid new k b (Err e) lt is_b t h = tt
    choice_result old mid new k b (Ok flow) lt is_b t h = choice_goes old mid new k b flow lt is_b t h
