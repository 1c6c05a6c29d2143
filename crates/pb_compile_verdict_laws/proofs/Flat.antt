-- The marks of a flat protocol are marks of its core.
use Rattle.std.proofs.Common.{◌≡◌, ℕ, ℤ, Bool, false, ◌&&◌, not, if◌then◌else◌, inl, inr, List, [], ◌∷◌, ◌++◌, refl, ap, subst}
use Rattle.pb_affine.specs.Values.{value, range}
use Rattle.pb_core_language.specs.declared.protocol.CoreRole.{CoreRole}
use Rattle.pb_core_language.specs.declared.tree.CoreEnd.{CoreEnd}
use Rattle.pb_core_language.specs.Ranks.{Seat, seat_eq}
use Rattle.pb_core_language.specs.Tree as T
use Rattle.pb_core_language.specs.Tree.{Mark, StmtTree, foreach, loop, run, barrier, broadcast, reduce, allreduce, BlockTree, nothing, more, BranchTrees}
use Rattle.pb_core_language.specs.Flat.{Asked, Origin, Block, stop, message, compute, together, choice, looped, again, Branches, no_branch, branch, takes_part}
use Rattle.pb_core_language.specs.FlatOf.{from_none, from_one, from_two, for_each, flat_stmt, flat_block, flat_branches}
use Rattle.pb_core_language.specs.Run.{Env, at_rank}
use Rattle.pb_core_language.specs.Lists.{some_below}
use Rattle.pb_core_language.specs.Outcomes.{Outcome, firsts}
use Rattle.pb_core_language.specs.Rules.{each_origin, each_origin_among, is_seat, strays, alike, loners, holds_again, deserted, deserted_among, misfits, misfits_among}
use Rattle.pb_rules.proofs.Lists.{Has, has_cases}
use Rattle.pb_compile_verdict_laws.proofs.Lists.{Sub, sub_left, sub_right, has_filter, has_where}
use Rattle.pb_compile_verdict_laws.proofs.Marks.{Found, both, bare, with_one, with_two, of_branch, of_stmt, of_block, of_branches, first_end, second_end}

module _ (all : Found) where
  -- these marks are of them
  abbrev pub Within : Found → Type 0
  Within x = Sub x.owns all.owns × Sub x.ends all.ends × Sub x.branches all.branches

  in_left : (x y : Found) → Within (both x y) → Within x
  in_left x y h = (sub_left x.owns y.owns all.owns h.0, sub_left x.ends y.ends all.ends h.1, sub_left x.branches y.branches all.branches h.2)

  in_right : (x y : Found) → Within (both x y) → Within y
  in_right x y h = (sub_right x.owns y.owns all.owns h.0, sub_right x.ends y.ends all.ends h.1, sub_right x.branches y.branches all.branches h.2)

  -- the ends of a statement, and the statement, are marked so
  abbrev pub AreAsked : List Asked → Type 0
  AreAsked [] = Unit {0}
  AreAsked (a ∷ others) = Has all.ends a.mark × AreAsked others

  abbrev pub IsOf : Origin → Type 0
  IsOf origin = Has all.owns origin.mark × AreAsked origin.ends

  abbrev mutual
    pub From : Block → Type 0
    From stop = Unit {0}
    From (message origin from to label rest) = IsOf origin × From rest
    From (compute origin at kernel rest) = IsOf origin × From rest
    From (together origin joint rest) = IsOf origin × From rest
    From (choice origin at kernel branches rest) = IsOf origin × FromAmong branches × From rest
    From (looped origin body rest) = IsOf origin × From body × From rest
    From (again between) = Unit {0}

    pub FromAmong : Branches → Type 0
    FromAmong no_branch = Unit {0}
    FromAmong (branch mark first rest) = Has all.branches mark × From first × FromAmong rest

  each_from : (values : List ℤ) (items : ℤ → Block → Block) → ((j : ℤ) (g : Block) → From g → From (items j g)) → (after : Block) → From after → From (for_each values items after)
  each_from [] items h after a = a
  each_from (v ∷ values) items h after a = h v (for_each values items after) (each_from values items h after a)

  is_bare : (own : Mark) → Within (bare own) → IsOf (from_none own)
  is_bare own h = (h.0 own (inl refl), tt)

  module _ (roles : List CoreRole) (n : ℤ) where
    is_one : (own : Mark) (end : CoreEnd) (i : ℤ) → Within (with_one own end) → IsOf (from_one own end n i)
    is_one own end i h = (h.0 own (inl refl), (h.1 (first_end own end) (inl refl), tt))

    is_two : (own : Mark) (from to : CoreEnd) (i : ℤ) → Within (with_two own from to) → IsOf (from_two own from to n i)
    is_two own from to i h = (h.0 own (inl refl), (h.1 (first_end own from) (inl refl), (h.1 (second_end own to) (inr (inl refl)), tt)))

    mutual
      from_stmt : (opens : List ℕ) (i : ℤ) (own : Mark) (s : StmtTree) (after : Block) → Within (of_stmt own s) → From after → From (flat_stmt roles n opens i own s after)
      from_stmt opens i own (T.message label from to) after h a = (is_two own from to i h, a)
      from_stmt opens i own (foreach bounds mark items) after h a =
          each_from (range (value bounds.low n i) (value bounds.high n i)) (λ j g. flat_block roles n opens j items g)
          (λ j g k. from_block opens j items g (in_right (bare own) (of_block items) h) k) after a
      from_stmt opens i own (loop id mark body) after h a =
          (is_bare own (in_left (bare own) (of_block body) h), from_block (id ∷ opens) i body stop (in_right (bare own) (of_block body) h) tt, a)
      from_stmt opens i own (T.again id) after h a = tt
      from_stmt opens i own (T.choice kernel at branches) after h a =
          (is_one own at i (in_left (with_one own at) (of_branches branches) h), from_branches opens i branches (in_right (with_one own at) (of_branches branches) h), a)
      from_stmt opens i own (run kernel at) after h a = (is_one own at i h, a)
      from_stmt opens i own barrier after h a = (is_bare own h, a)
      from_stmt opens i own (broadcast label root) after h a = (is_one own root i h, a)
      from_stmt opens i own (reduce label op root) after h a = (is_one own root i h, a)
      from_stmt opens i own (allreduce label op) after h a = (is_bare own h, a)

      pub from_block : (opens : List ℕ) (i : ℤ) (tree : BlockTree) (after : Block) → Within (of_block tree) → From after → From (flat_block roles n opens i tree after)
      from_block opens i nothing after h a = a
      from_block opens i (more mark first rest) after h a =
          from_stmt opens i mark first (flat_block roles n opens i rest after) (in_left (of_stmt mark first) (of_block rest) h)
          (from_block opens i rest after (in_right (of_stmt mark first) (of_block rest) h) a)

      from_branches : (opens : List ℕ) (i : ℤ) (trees : BranchTrees) → Within (of_branches trees) → FromAmong (flat_branches roles n opens i trees)
      from_branches opens i T.no_branch h = tt
      from_branches opens i (T.branch mark first rest) h =
          let others = in_right (of_branch mark) (both (of_block first) (of_branches rest)) h in
          (h.2 mark (inl refl), from_block opens i first stop (in_left (of_block first) (of_branches rest) others) tt, from_branches opens i rest (in_right (of_block first) (of_branches rest) others))

  -- ---- what the rules name

  end_of_asked : (list : List Asked) (a : Asked) → AreAsked list → Has list a → Has all.ends a.mark
  end_of_asked [] a h k = absurd k
  end_of_asked (b ∷ others) a h (inl e) = subst (λ (x : Asked). Has all.ends x.mark) e h.0
  end_of_asked (b ∷ others) a h (inr k) = end_of_asked others a h.1 k

  -- something of each origin, whose mark is one of these
  module _ (of_origin : Origin → List Asked) (marks : List Mark) (here : (origin : Origin) (a : Asked) → IsOf origin → Has (of_origin origin) a → Has marks a.mark) where
    mutual
      pub each_is : (g : Block) (a : Asked) → From g → Has (each_origin of_origin g) a → Has marks a.mark
      each_is stop a h k = absurd k
      each_is (message origin from to label rest) a h k =
          elim (has_cases (of_origin origin) (each_origin of_origin rest) a k) [ inl x ↦ here origin a h.0 x | inr y ↦ each_is rest a h.1 y ]
      each_is (compute origin at kernel rest) a h k =
          elim (has_cases (of_origin origin) (each_origin of_origin rest) a k) [ inl x ↦ here origin a h.0 x | inr y ↦ each_is rest a h.1 y ]
      each_is (together origin joint rest) a h k =
          elim (has_cases (of_origin origin) (each_origin of_origin rest) a k) [ inl x ↦ here origin a h.0 x | inr y ↦ each_is rest a h.1 y ]
      each_is (choice origin at kernel branches rest) a h k =
          elim (has_cases (of_origin origin) (each_origin_among of_origin branches ++ each_origin of_origin rest) a k) [
            | inl x ↦ here origin a h.0 x
            | inr y ↦ elim (has_cases (each_origin_among of_origin branches) (each_origin of_origin rest) a y) [ inl x ↦ each_is_among branches a h.1 x | inr z ↦ each_is rest a h.2 z ]
          ]
      each_is (looped origin body rest) a h k =
          elim (has_cases (of_origin origin) (each_origin of_origin body ++ each_origin of_origin rest) a k) [
            | inl x ↦ here origin a h.0 x
            | inr y ↦ elim (has_cases (each_origin of_origin body) (each_origin of_origin rest) a y) [ inl x ↦ each_is body a h.1 x | inr z ↦ each_is rest a h.2 z ]
          ]
      each_is (again between) a h k = absurd k

      each_is_among : (bs : Branches) (a : Asked) → FromAmong bs → Has (each_origin_among of_origin bs) a → Has marks a.mark
      each_is_among no_branch a h k = absurd k
      each_is_among (branch mark first rest) a h k =
          elim (has_cases (each_origin of_origin first) (each_origin_among of_origin rest) a k) [ inl x ↦ each_is first a h.1 x | inr y ↦ each_is_among rest a h.2 y ]

  stray_is : (ranks : List Seat) (origin : Origin) (a : Asked) → IsOf origin → Has (strays ranks origin) a → Has all.ends a.mark
  stray_is ranks origin a h k = end_of_asked origin.ends a h.1 (has_filter (λ (x : Asked). not (is_seat x.seat ranks)) origin.ends a k)

  alike_is : (mark : Mark) (list : List Asked) (a : Asked) → Has (alike mark list) a → mark ≡ a.mark
  alike_is mark [] a k = absurd k
  alike_is mark (from ∷ []) a k = absurd k
  alike_is mark (from ∷ to ∷ others) a k = ap (λ (x : Asked). x.mark) (has_where (seat_eq from.seat to.seat) a (record { mark = mark; seat = from.seat }) k)

  loner_is : (origin : Origin) (a : Asked) → IsOf origin → Has (loners origin) a → Has all.owns a.mark
  loner_is origin a h k = subst (λ (m : Mark). Has all.owns m) (alike_is origin.mark origin.ends a k) h.0

  pub strays_are : (ranks : List Seat) (g : Block) (a : Asked) → From g → Has (each_origin (strays ranks) g) a → Has all.ends a.mark
  strays_are ranks g a h k = each_is (strays ranks) all.ends (stray_is ranks) g a h k

  pub loners_are : (g : Block) (a : Asked) → From g → Has (each_origin loners g) a → Has all.owns a.mark
  loners_are g a h k = each_is loners all.owns loner_is g a h k

  module _ (T : ℕ) where
    mutual
      pub deserted_are : (env : Env) (g : Block) (m : Mark) → From g → Has (deserted T env g) m → Has all.owns m
      deserted_are env stop m h k = absurd k
      deserted_are env (message origin from to label rest) m h k = deserted_are env rest m h.1 k
      deserted_are env (compute origin at kernel rest) m h k = deserted_are env rest m h.1 k
      deserted_are env (together origin joint rest) m h k = deserted_are env rest m h.1 k
      deserted_are env (choice origin at kernel branches rest) m h k =
          elim (has_cases (deserted_among T env branches) (deserted T env rest) m k) [ inl x ↦ deserted_among_are env branches m h.1 x | inr y ↦ deserted_are env rest m h.2 y ]
      deserted_are env (looped origin body rest) m h k =
          elim (has_cases _ (deserted T ((λ r. takes_part (false ∷ at_rank r env) r body) ∷ env) body ++ deserted T env rest) m k) [
            | inl x ↦ subst (λ (q : Mark). Has all.owns q) (has_where (holds_again 0 body && not (some_below T (λ r. takes_part (false ∷ at_rank r env) r body))) m origin.mark x) h.0.0
            | inr y ↦ elim (has_cases (deserted T ((λ r. takes_part (false ∷ at_rank r env) r body) ∷ env) body) (deserted T env rest) m y) [
              | inl x ↦ deserted_are ((λ r. takes_part (false ∷ at_rank r env) r body) ∷ env) body m h.1 x
              | inr z ↦ deserted_are env rest m h.2 z
            ]
          ]
      deserted_are env (again between) m h k = absurd k

      deserted_among_are : (env : Env) (bs : Branches) (m : Mark) → FromAmong bs → Has (deserted_among T env bs) m → Has all.owns m
      deserted_among_are env no_branch m h k = absurd k
      deserted_among_are env (branch mark first rest) m h k =
          elim (has_cases (deserted T env first) (deserted_among T env rest) m k) [ inl x ↦ deserted_are env first m h.1 x | inr y ↦ deserted_among_are env rest m h.2 y ]

  module _ (fits : (before here : List Outcome) → Bool) (r : ℕ) where
    mutual
      pub misfits_are : (held : List Bool) (g : Block) (m : Mark) → From g → Has (misfits fits held r g) m → Has all.branches m
      misfits_are held stop m h k = absurd k
      misfits_are held (message origin from to label rest) m h k = misfits_are held rest m h.1 k
      misfits_are held (compute origin at kernel rest) m h k = misfits_are held rest m h.1 k
      misfits_are held (together origin joint rest) m h k = misfits_are held rest m h.1 k
      misfits_are held (choice origin at kernel branches rest) m h k =
          elim (has_cases _ (misfits fits held r rest) m k) [ inl x ↦ misfits_among_are held _ [] branches m h.1 x | inr y ↦ misfits_are held rest m h.2 y ]
      misfits_are held (looped origin body rest) m h k =
          elim (has_cases (misfits fits (takes_part (false ∷ held) r body ∷ held) r body) (misfits fits held r rest) m k) [
            | inl x ↦ misfits_are (takes_part (false ∷ held) r body ∷ held) body m h.1 x
            | inr y ↦ misfits_are held rest m h.2 y
          ]
      misfits_are held (again between) m h k = absurd k

      misfits_among_are : (held : List Bool) (is_told : Bool) (before : List Outcome) (bs : Branches) (m : Mark) → FromAmong bs → Has (misfits_among fits held r is_told before bs) m → Has all.branches m
      misfits_among_are held is_told before no_branch m h k = absurd k
      misfits_among_are held is_told before (branch mark first rest) m h k =
          elim (has_cases (if is_told && not (fits before (firsts held r first)) then mark ∷ [] else []) (misfits fits held r first ++ misfits_among fits held r is_told (before ++ firsts held r first) rest) m k) [
            | inl x ↦ subst (λ (q : Mark). Has all.branches q) (has_where (is_told && not (fits before (firsts held r first))) m mark x) h.0
            | inr y ↦ elim (has_cases (misfits fits held r first) (misfits_among fits held r is_told (before ++ firsts held r first) rest) m y) [
              | inl x ↦ misfits_are held first m h.1 x
              | inr z ↦ misfits_among_are held is_told (before ++ firsts held r first) rest m h.2 z
            ]
          ]
