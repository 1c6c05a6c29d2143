-- What breaks the rules 9 to 12, one statement at a time.
use Rattle.std.proofs.Common.{◌≡◌, ℕ, suc, ◌==◌, ℤ, Bool, true, false, not, ◌||◌, ◌&&◌, if◌then◌else◌, List, [], ◌∷◌, ◌++◌, refl, ap, ap₂, sym, ◌∙◌, append_assoc, append-nil}
use Rattle.std.proofs.lemmas.Bool.{and_parts, false≢true}
use Rattle.std.proofs.Math.Bool.{or-false, or_assoc}
use Rattle.pb_affine.specs.Values.{value, range}
use Rattle.pb_core_language.specs.declared.protocol.CoreRole.{CoreRole}
use Rattle.pb_core_language.specs.Tree.{Mark, StmtTree, message, foreach, loop, again, choice, run, barrier, broadcast, reduce, allreduce, BlockTree, nothing, more, BranchTrees, is_again}
use Rattle.pb_core_language.specs.Tree as T
use Rattle.pb_core_language.specs.Flat as F
use Rattle.pb_core_language.specs.Flat.{Origin, Block, stop, takes_part, takes_part_among}
use Rattle.pb_core_language.specs.FlatOf.{for_each, rank_of, flat_stmt, flat_block, flat_branches}
use Rattle.pb_core_language.specs.Outcomes.{Outcome}
use Rattle.pb_core_language.specs.Run.{Env, at_rank}
use Rattle.pb_core_language.specs.Lists.{some_below}
use Rattle.pb_core_language.specs.Rules.{holds_again, holds_again_among, deserted, deserted_among, misfits, misfits_among}
use Rattle.pb_core_language.specs.Sound.{Rows, is_item, is_bound, is_end, has_branch, are_branches, is_stmt, is_block}
use Rattle.pb_core_flat.specs.GoesOn.{goes_on, are_items, has_again, have_again, some_have_again}
use Rattle.pb_core_flat.specs.Laws.{MisfitsOneByOne, MisfitsFirst, DesertedOneByOne, DesertedFirst, HoldsAgainOneByOne, EachKeepsRules, HoldsAgainIs}
use Rattle.pb_core_flat.proofs.Adding.{Adds, is_single, stmt_adds, first_adds}
use Rattle.pb_core_flat.proofs.SoundOnes.{sound_items, sound_goes_on, dropped}
use Rattle.pb_core_flat.proofs.TakersAdd.{or_first}

append_first : {A : Type 0} (xs ys : List A) → xs ++ ys ≡ (xs ++ []) ++ ys
append_first xs ys = ap (λ z. z ++ ys) (sym (append-nil xs))

append_second : {A : Type 0} (xs ys zs : List A) → xs ++ (ys ++ zs) ≡ (xs ++ (ys ++ [])) ++ zs
append_second xs ys zs = ap (λ z. xs ++ (z ++ zs)) (sym (append-nil ys)) ∙ sym (append_assoc xs (ys ++ []) zs)

-- ---- misfits

single_misfits : (fits : List Outcome → List Outcome → Bool) (held : List Bool) (r : ℕ) (roles : List CoreRole) (n : ℤ) (opens : List ℕ) (i : ℤ) (m : Mark) (s : StmtTree) → is_single s ≡ true →
    Adds (misfits fits held r) ◌++◌ (λ x. refl) append_assoc (flat_stmt roles n opens i m s)
single_misfits fits held r roles n opens i m (message l f t) h g = refl
single_misfits fits held r roles n opens i m (foreach b k items) h g = absurd (false≢true h)
single_misfits fits held r roles n opens i m (loop id k body) h g =
    append_first (misfits fits (takes_part (false ∷ held) r (flat_block roles n (id ∷ opens) i body stop) ∷ held) r (flat_block roles n (id ∷ opens) i body stop)) (misfits fits held r g)
single_misfits fits held r roles n opens i m (again id) h g = absurd (false≢true h)
single_misfits fits held r roles n opens i m (choice k at bs) h g =
    append_first (misfits_among fits held r (not (rank_of roles n at i == r) && takes_part_among held r (flat_branches roles n opens i bs)) [] (flat_branches roles n opens i bs)) (misfits fits held r g)
single_misfits fits held r roles n opens i m (run k at) h g = refl
single_misfits fits held r roles n opens i m barrier h g = refl
single_misfits fits held r roles n opens i m (broadcast l root) h g = refl
single_misfits fits held r roles n opens i m (reduce l op root) h g = refl
single_misfits fits held r roles n opens i m (allreduce l op) h g = refl

pub misfits_one_by_one : MisfitsOneByOne
misfits_one_by_one fits roles n i r held opens m s rest h =
    stmt_adds (misfits fits held r) ◌++◌ (λ x. refl) append_assoc roles n (single_misfits fits held r roles n) opens i m s h rest

pub misfits_first : MisfitsFirst
misfits_first fits rows varies ids roles n i r held opens m s b h =
    first_adds (misfits fits held r) ◌++◌ (λ x. refl) append_assoc roles n (single_misfits fits held r roles n) append-nil rows varies ids opens i m s b h

-- ---- loops with nobody in them

single_deserted : (T : ℕ) (env : Env) (roles : List CoreRole) (n : ℤ) (opens : List ℕ) (i : ℤ) (m : Mark) (s : StmtTree) → is_single s ≡ true →
    Adds (deserted T env) ◌++◌ (λ x. refl) append_assoc (flat_stmt roles n opens i m s)
single_deserted T env roles n opens i m (message l f t) h g = refl
single_deserted T env roles n opens i m (foreach b k items) h g = absurd (false≢true h)
single_deserted T env roles n opens i m (loop id k body) h g =
    append_second (if holds_again 0 (flat_block roles n (id ∷ opens) i body stop) && not (some_below T (λ r. takes_part (false ∷ at_rank r env) r (flat_block roles n (id ∷ opens) i body stop))) then m ∷ [] else [])
    (deserted T ((λ r. takes_part (false ∷ at_rank r env) r (flat_block roles n (id ∷ opens) i body stop)) ∷ env) (flat_block roles n (id ∷ opens) i body stop)) (deserted T env g)
single_deserted T env roles n opens i m (again id) h g = absurd (false≢true h)
single_deserted T env roles n opens i m (choice k at bs) h g = append_first (deserted_among T env (flat_branches roles n opens i bs)) (deserted T env g)
single_deserted T env roles n opens i m (run k at) h g = refl
single_deserted T env roles n opens i m barrier h g = refl
single_deserted T env roles n opens i m (broadcast l root) h g = refl
single_deserted T env roles n opens i m (reduce l op root) h g = refl
single_deserted T env roles n opens i m (allreduce l op) h g = refl

pub deserted_one_by_one : DesertedOneByOne
deserted_one_by_one T env roles n i opens m s rest h =
    stmt_adds (deserted T env) ◌++◌ (λ x. refl) append_assoc roles n (single_deserted T env roles n) opens i m s h rest

pub deserted_first : DesertedFirst
deserted_first T env rows varies ids roles n i opens m s b h =
    first_adds (deserted T env) ◌++◌ (λ x. refl) append_assoc roles n (single_deserted T env roles n) append-nil rows varies ids opens i m s b h

-- ---- continues

single_holds : (k : ℕ) (roles : List CoreRole) (n : ℤ) (opens : List ℕ) (i : ℤ) (m : Mark) (s : StmtTree) → is_single s ≡ true →
    Adds (holds_again k) ◌||◌ (λ x. refl) or_assoc (flat_stmt roles n opens i m s)
single_holds k roles n opens i m (message l f t) h g = refl
single_holds k roles n opens i m (foreach b j items) h g = absurd (false≢true h)
single_holds k roles n opens i m (loop id j body) h g = or_first (holds_again (suc k) (flat_block roles n (id ∷ opens) i body stop)) (holds_again k g)
single_holds k roles n opens i m (again id) h g = absurd (false≢true h)
single_holds k roles n opens i m (choice j at bs) h g = or_first (holds_again_among k (flat_branches roles n opens i bs)) (holds_again k g)
single_holds k roles n opens i m (run j at) h g = refl
single_holds k roles n opens i m barrier h g = refl
single_holds k roles n opens i m (broadcast l root) h g = refl
single_holds k roles n opens i m (reduce l op root) h g = refl
single_holds k roles n opens i m (allreduce l op) h g = refl

pub holds_again_one_by_one : HoldsAgainOneByOne
holds_again_one_by_one k roles n i opens m s rest h =
    stmt_adds (holds_again k) ◌||◌ (λ x. refl) or_assoc roles n (single_holds k roles n) opens i m s h rest

-- ---- a foreach has none of these

module _ {X : Type 0} (give : Block → X) (over_message : (a : Origin) (p q l : ℕ) (g : Block) → give (F.message a p q l g) ≡ give g) (over_compute : (a : Origin) (p k : ℕ) (g : Block) → give (F.compute a p k g) ≡ give g)
    (roles : List CoreRole) (n : ℤ) (opens : List ℕ) where
  item_passes : (i : ℤ) (m : Mark) (s : StmtTree) (g : Block) → is_item s ≡ true → give (flat_stmt roles n opens i m s g) ≡ give g
  item_passes i m (message l f t) g h = over_message _ _ _ _ g
  item_passes i m (foreach b k items) g h = absurd (false≢true h)
  item_passes i m (loop id k body) g h = absurd (false≢true h)
  item_passes i m (again id) g h = absurd (false≢true h)
  item_passes i m (choice k at bs) g h = absurd (false≢true h)
  item_passes i m (run k at) g h = over_compute _ _ _ g
  item_passes i m barrier g h = absurd (false≢true h)
  item_passes i m (broadcast l root) g h = absurd (false≢true h)
  item_passes i m (reduce l op root) g h = absurd (false≢true h)
  item_passes i m (allreduce l op) g h = absurd (false≢true h)

  items_pass : (i : ℤ) (b : BlockTree) (g : Block) → are_items b ≡ true → give (flat_block roles n opens i b g) ≡ give g
  items_pass i nothing g h = refl
  items_pass i (more m s b) g h =
      let hs = and_parts (is_item s) (are_items b) h in
      item_passes i m s (flat_block roles n opens i b g) hs.0 ∙ items_pass i b g hs.1

  pub each_passes : (b : BlockTree) (ys : List ℤ) (g : Block) → are_items b ≡ true → give (for_each ys (λ y g. flat_block roles n opens y b g) g) ≡ give g
  each_passes b [] g h = refl
  each_passes b (y ∷ ys) g h = items_pass y b (for_each ys (λ y g. flat_block roles n opens y b g) g) h ∙ each_passes b ys g h

pub each_keeps_rules : EachKeepsRules
each_keeps_rules fits T env j roles n i r held opens m b k items h = (
  each_passes (misfits fits held r) (λ a p q l g. refl) (λ a p k g. refl) roles n opens items (range (value b.low n i) (value b.high n i)) stop h,
  each_passes (deserted T env) (λ a p q l g. refl) (λ a p k g. refl) roles n opens items (range (value b.low n i) (value b.high n i)) stop h,
  each_passes (holds_again j) (λ a p q l g. refl) (λ a p k g. refl) roles n opens items (range (value b.low n i) (value b.high n i)) stop h,
)

-- ---- whether a block has a continue is read off the tree

module _ (rows : Rows) (roles : List CoreRole) (n : ℤ) where
  behind : (k : ℕ) (opens : List ℕ) (i : ℤ) (m : Mark) (s : StmtTree) (b : BlockTree) (p q a : Bool) → is_again s ≡ a → goes_on s ≡ not (is_again s) →
      holds_again k (flat_stmt roles n opens i m s stop) ≡ p → holds_again k (flat_block roles n opens i b stop) ≡ q → holds_again k (flat_stmt roles n opens i m s (flat_block roles n opens i b stop)) ≡ p || (not a && q)
  behind k opens i m s b p q true e f g h = ap (holds_again k) (dropped roles n opens i m s (flat_block roles n opens i b stop) e) ∙ g ∙ sym (or-false p)
  behind k opens i m s b p q false e f g h =
      holds_again_one_by_one k roles n i opens m s (flat_block roles n opens i b stop) (f ∙ ap not e) ∙ ap₂ (λ y z. y || z) g h

  mutual
    stmt_has : (k : ℕ) (varies : Bool) (ids opens : List ℕ) (i : ℤ) (m : Mark) (s : StmtTree) → is_stmt rows varies ids s ≡ true → holds_again k (flat_stmt roles n opens i m s stop) ≡ has_again k opens s
    stmt_has k varies ids opens i m (message l f t) h = refl
    stmt_has k varies ids opens i m (foreach b j items) h =
        let hs = and_parts (is_bound b.low) (is_bound b.high && is_block rows true ids items) h in
        let ks = and_parts (is_bound b.high) (is_block rows true ids items) hs.1 in
        each_passes (holds_again k) (λ a p q l g. refl) (λ a p k g. refl) roles n opens items (range (value b.low n i) (value b.high n i)) stop (sound_items rows ids items ks.1)
    stmt_has k varies ids opens i m (loop id j body) h =
        let hs = and_parts _ (is_block rows false (id ∷ ids) body) h in
        or-false (holds_again (suc k) (flat_block roles n (id ∷ opens) i body stop)) ∙ block_has (suc k) false (id ∷ ids) (id ∷ opens) i body hs.1
    stmt_has k varies ids opens i m (again id) h = refl
    stmt_has k varies ids opens i m (choice j at bs) h =
        let hs = and_parts _ (is_end rows false at && (has_branch bs && are_branches rows ids bs)) h in
        let ks = and_parts (is_end rows false at) (has_branch bs && are_branches rows ids bs) hs.1 in
        let ls = and_parts (has_branch bs) (are_branches rows ids bs) ks.1 in
        or-false (holds_again_among k (flat_branches roles n opens i bs)) ∙ some_has k ids opens i bs ls.1
    stmt_has k varies ids opens i m (run j at) h = refl
    stmt_has k varies ids opens i m barrier h = refl
    stmt_has k varies ids opens i m (broadcast l root) h = refl
    stmt_has k varies ids opens i m (reduce l op root) h = refl
    stmt_has k varies ids opens i m (allreduce l op) h = refl

    block_has : (k : ℕ) (varies : Bool) (ids opens : List ℕ) (i : ℤ) (b : BlockTree) → is_block rows varies ids b ≡ true → holds_again k (flat_block roles n opens i b stop) ≡ have_again k opens b
    block_has k varies ids opens i nothing h = refl
    block_has k varies ids opens i (more m s b) h =
        let hs = and_parts (not varies || is_item s) (is_stmt rows varies ids s && is_block rows varies ids b) h in
        let ks = and_parts (is_stmt rows varies ids s) (is_block rows varies ids b) hs.1 in
        behind k opens i m s b (has_again k opens s) (have_again k opens b) (is_again s) refl (sound_goes_on rows varies ids s ks.0)
        (stmt_has k varies ids opens i m s ks.0) (block_has k varies ids opens i b ks.1)

    some_has : (k : ℕ) (ids opens : List ℕ) (i : ℤ) (bs : BranchTrees) → are_branches rows ids bs ≡ true → holds_again_among k (flat_branches roles n opens i bs) ≡ some_have_again k opens bs
    some_has k ids opens i T.no_branch h = refl
    some_has k ids opens i (T.branch m b bs) h =
        let hs = and_parts (is_block rows false ids b) (are_branches rows ids bs) h in
        ap₂ (λ y z. y || z) (block_has k false ids opens i b hs.0) (some_has k ids opens i bs hs.1)

pub holds_again_is : HoldsAgainIs
holds_again_is rows varies ids k roles n i opens b h = block_has rows roles n k varies ids opens i b h
