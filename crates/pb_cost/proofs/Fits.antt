-- What a sound block without loops has.
use Rattle.std.proofs.Common.{◌≡◌, ℕ, Bool, true, false, ◌&&◌, ◌||◌, not, nat_lt, Option, Some, None, List, [], ◌∷◌, length, refl, ap₂}
use Rattle.std.proofs.lemmas.Bool.{and_parts}
use Rattle.pb_text.specs.declared.place.Place.{Place}
use Rattle.pb_core_language.specs.Sound.{Rows, is_bound, is_item, is_end, has_branch, is_stmt, is_block, are_branches}
use Rattle.pb_core_language.specs.Tree.{Mark, StmtTree, message, foreach, loop, again, choice, run, barrier, broadcast, reduce, allreduce, BlockTree, nothing, more, BranchTrees, no_branch, branch}
use Rattle.pb_cost_laws.specs.Trees.{is_straight_stmt, is_straight, are_straight}
use Rattle.pb_cost_blocks.specs.Fit.{is_fit_stmt, is_fit, are_fit, are_items}
use Rattle.pb_cost.specs.Costs.{or_later, loop_in, first_loop, first_among}

both_true : (a b : Bool) → a ≡ true → b ≡ true → (a && b) ≡ true
both_true a b ea eb = ap₂ (λ x y. x && y) ea eb

no_stmt : {A : Type 0} → false ≡ true → A
no_stmt e = absurd cc

module _ (rows : Rows) where
  pub items_of : (opens : List ℕ) (b : BlockTree) → is_block rows true opens b ≡ true → are_items b ≡ true
  items_of opens nothing h = refl
  items_of opens (more mark first rest) h =
      let parts = and_parts (is_item first) (is_stmt rows true opens first && is_block rows true opens rest) h in
      both_true (is_item first) (are_items rest) parts.0 (items_of opens rest (and_parts (is_stmt rows true opens first) (is_block rows true opens rest) parts.1).1)

  mutual
    fit_stmt : (varies : Bool) (opens : List ℕ) (s : StmtTree) → is_stmt rows varies opens s ≡ true → is_fit_stmt s ≡ true
    fit_stmt varies opens (message label from to) h = refl
    fit_stmt varies opens (foreach bounds mark items) h =
        let low = and_parts (is_bound bounds.low) (is_bound bounds.high && is_block rows true opens items) h in
        let high = and_parts (is_bound bounds.high) (is_block rows true opens items) low.1 in
        both_true (is_bound bounds.low) (is_bound bounds.high && are_items items) low.0 (both_true (is_bound bounds.high) (are_items items) high.0 (items_of opens items high.1))
    fit_stmt varies opens (loop id mark body) h = fit_block false (id ∷ opens) body (and_parts (nat_lt (length opens) 64) (is_block rows false (id ∷ opens) body) h).1
    fit_stmt varies opens (again id) h = refl
    fit_stmt varies opens (choice kernel at branches) h =
        let a = (and_parts (nat_lt kernel rows.kernels) (is_end rows false at && (has_branch branches && are_branches rows opens branches)) h).1 in
        let b = (and_parts (is_end rows false at) (has_branch branches && are_branches rows opens branches) a).1 in
        fit_branches opens branches (and_parts (has_branch branches) (are_branches rows opens branches) b).1
    fit_stmt varies opens (run kernel at) h = refl
    fit_stmt varies opens barrier h = refl
    fit_stmt varies opens (broadcast label root) h = refl
    fit_stmt varies opens (reduce label op root) h = refl
    fit_stmt varies opens (allreduce label op) h = refl

    pub fit_block : (varies : Bool) (opens : List ℕ) (b : BlockTree) → is_block rows varies opens b ≡ true → is_fit b ≡ true
    fit_block varies opens nothing h = refl
    fit_block varies opens (more mark first rest) h =
        let parts = (and_parts (not varies || is_item first) (is_stmt rows varies opens first && is_block rows varies opens rest) h).1 in
        let both = and_parts (is_stmt rows varies opens first) (is_block rows varies opens rest) parts in
        both_true (is_fit_stmt first) (is_fit rest) (fit_stmt varies opens first both.0) (fit_block varies opens rest both.1)

    fit_branches : (opens : List ℕ) (bs : BranchTrees) → are_branches rows opens bs ≡ true → are_fit bs ≡ true
    fit_branches opens no_branch h = refl
    fit_branches opens (branch mark first rest) h =
        let both = and_parts (is_block rows false opens first) (are_branches rows opens rest) h in
        both_true (is_fit first) (are_fit rest) (fit_block false opens first both.0) (fit_branches opens rest both.1)

  neither : (a b : Option Place) → or_later a b ≡ None → (a ≡ None) × (b ≡ None)
  neither None b e = (refl, e)
  neither (Some place) b e = absurd (let f : Some place ≡ None = e in cc)

  mutual
    straight_stmt : (varies : Bool) (own : Mark) (s : StmtTree) → is_stmt rows varies [] s ≡ true → loop_in own s ≡ None → is_straight_stmt s ≡ true
    straight_stmt varies own (message label from to) h e = refl
    straight_stmt varies own (foreach bounds mark items) h e =
        let low = and_parts (is_bound bounds.low) (is_bound bounds.high && is_block rows true [] items) h in
        straight_block true items (and_parts (is_bound bounds.high) (is_block rows true [] items) low.1).1 e
    straight_stmt varies own (loop id mark body) h e = absurd (let f : Some own.place ≡ None = e in cc)
    straight_stmt varies own (again id) h e = no_stmt h
    straight_stmt varies own (choice kernel at branches) h e =
        let a = (and_parts (nat_lt kernel rows.kernels) (is_end rows false at && (has_branch branches && are_branches rows [] branches)) h).1 in
        let b = and_parts (has_branch branches) (are_branches rows [] branches) (and_parts (is_end rows false at) (has_branch branches && are_branches rows [] branches) a).1 in
        both_true (has_branch branches) (are_straight branches) b.0 (straight_branches branches b.1 e)
    straight_stmt varies own (run kernel at) h e = refl
    straight_stmt varies own barrier h e = refl
    straight_stmt varies own (broadcast label root) h e = refl
    straight_stmt varies own (reduce label op root) h e = refl
    straight_stmt varies own (allreduce label op) h e = refl

    pub straight_block : (varies : Bool) (b : BlockTree) → is_block rows varies [] b ≡ true → first_loop b ≡ None → is_straight b ≡ true
    straight_block varies nothing h e = refl
    straight_block varies (more mark first rest) h e =
        let parts = (and_parts (not varies || is_item first) (is_stmt rows varies [] first && is_block rows varies [] rest) h).1 in
        let both = and_parts (is_stmt rows varies [] first) (is_block rows varies [] rest) parts in
        let none = neither (loop_in mark first) (first_loop rest) e in
        both_true (is_straight_stmt first) (is_straight rest) (straight_stmt varies mark first both.0 none.0) (straight_block varies rest both.1 none.1)

    straight_branches : (bs : BranchTrees) → are_branches rows [] bs ≡ true → first_among bs ≡ None → are_straight bs ≡ true
    straight_branches no_branch h e = refl
    straight_branches (branch mark first rest) h e =
        let both = and_parts (is_block rows false [] first) (are_branches rows [] rest) h in
        let none = neither (first_loop first) (first_among rest) e in
        both_true (is_straight first) (are_straight rest) (straight_block false first both.0 none.0) (straight_branches rest both.1 none.1)
