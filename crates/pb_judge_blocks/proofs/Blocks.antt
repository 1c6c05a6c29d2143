-- One statement behind the other.
use Rattle.std.proofs.Common.{◌≡◌, ◌<◌, ◌≤◌, ℕ, suc, ◌+◌, ◌-◌, Bool, true, false, List, [], ◌∷◌, length, map, drop, get_or, refl, sym, ap, subst, ◌∙◌, ℤ, pos, ◌+ℤ◌, arith}
use Rattle.std.specs.List.{AllByRecursion}
use Rattle.std.proofs.lemmas.Bool.{and_parts}
use Rattle.std.proofs.lemmas.List.{drop_all}
use Rattle.pb_affine.specs.Values.{count_from}
use Rattle.pb_core_language.specs.declared.tree.CoreStmt.{CoreStmt}
use Rattle.pb_core_language.specs.Tree.{BlockTree, nothing, more}
use Rattle.pb_core_language.specs.Plain.{plain_stmt, block_of}
use Rattle.pb_core_language.specs.Sound.{is_block}
use Rattle.pb_core_language.specs.Flat.{Block}
use Rattle.pb_core_language.specs.FlatOf.{flat_stmt, flat_block}
use Rattle.pb_judge_endings.proofs.Steps.{from_place}
use Rattle.pb_judge_follow.specs.Follow.{Left}
use Rattle.pb_judge_walks.specs.declared.flow.Flow.{Flow}
use Rattle.pb_judge_walks.specs.declared.flow.Flow.TheVariants.{Passed, Back, Differs, Endless}
use Rattle.pb_judge_walks.specs.Walks.{Walked, IsStop}
use Rattle.pb_judge_walks.proofs.Blocks.{steps_are_walked}
use Rattle.pb_judge_blocks.specs.declared.site.Site.{Site}
use Rattle.pb_judge_blocks.specs.Flows.{is_passed}
use Rattle.pb_judge_blocks.specs.Places.{IsTurn, setting_at}
use Rattle.pb_judge_blocks.specs.Steps.{StmtWalks, BlockWalks, BlockGoesOn, TurnsWalk, TurnsGoOn, items_for}

pub passes : (flow : Flow) (b : Bool) → b ≡ is_passed flow → b ≡ true → flow ≡ Passed
passes Passed b e h = refl
passes (Back id) b e h = absurd (let w : false ≡ true = sym e ∙ h in cc)
passes (Differs r line) b e h = absurd (let w : false ≡ true = sym e ∙ h in cc)
passes Endless b e h = absurd (let w : false ≡ true = sym e ∙ h in cc)

pub stops : (flow : Flow) (b : Bool) → b ≡ is_passed flow → b ≡ false → IsStop flow
stops Passed b e h = absurd (let w : true ≡ false = sym e ∙ h in cc)
stops (Back id) b e h = tt
stops (Differs r line) b e h = tt
stops Endless b e h = tt

module _ (site : Site) (i : ℤ) (whole : BlockTree) (old : Left) (list : List CoreStmt) where
  abbrev rest : ℕ → BlockTree
  rest k = block_of (map plain_stmt (drop k list))

  abbrev GoesOn : ℕ → Left → Type 0
  GoesOn k mid = BlockGoesOn site i whole old (rest k) mid

  abbrev meaning : List ℕ → BlockTree → Block → Block
  meaning opens b = flat_block site.roles.now site.n opens i b

  abbrev first : List ℕ → CoreStmt → Block → Block
  first opens s = flat_stmt site.roles.now site.n opens i (plain_stmt s).mark (plain_stmt s).stmt

  pub block_begins : block_of (map plain_stmt list) ≡ whole → GoesOn 0 old
  block_begins e = λ rows varies opens st tu fine. (
    subst (λ b. is_block rows varies opens b ≡ true) (sym e) fine,
    λ flow new w. subst (λ b. Walked (setting_at site) (meaning opens b) opens old flow new) e w,
  )

  module _ (k : ℕ) (s : CoreStmt) (mid next : Left) (lt : k < length list) (is : s ≡ get_or list k s) (h : GoesOn k mid) where
    from : rest k ≡ more (plain_stmt s).mark (plain_stmt s).stmt (rest (k + 1))
    from = ap (λ l. block_of (map plain_stmt l)) (from_place list k s lt is)

    pub block_goes : (flow : Flow) → flow ≡ Passed → StmtWalks site i (plain_stmt s) mid flow next → GoesOn (k + 1) next
    block_goes flow e w = λ rows varies opens st tu fine.
        let t = h rows varies opens st tu fine in
        let q = and_parts _ _ (and_parts _ _ (subst (λ b. is_block rows varies opens b ≡ true) from t.0)).1 in
        let one : Walked (setting_at site) (first opens s) opens mid Passed next = subst (λ f. Walked (setting_at site) (first opens s) opens mid f next) e (w rows varies opens st tu q.0) in (
          q.1,
          λ last new v. t.1 last new
              (subst (λ b. Walked (setting_at site) (meaning opens b) opens mid last new) (sym from) (steps_are_walked.then (setting_at site) (first opens s) (meaning opens (rest (k + 1))) opens mid next new last one v)),
        )

    pub block_stops : (flow : Flow) → IsStop flow → StmtWalks site i (plain_stmt s) mid flow next → BlockWalks site i whole old flow next
    block_stops flow e w = λ rows varies opens st tu fine.
        let t = h rows varies opens st tu fine in
        let q = and_parts _ _ (and_parts _ _ (subst (λ b. is_block rows varies opens b ≡ true) from t.0)).1 in
        t.1 flow next
        (subst (λ b. Walked (setting_at site) (meaning opens b) opens mid flow next) (sym from) (steps_are_walked.stops (setting_at site) (first opens s) (meaning opens (rest (k + 1))) opens mid next flow e (w rows varies opens st tu q.0)))

  pub block_ends : (k : ℕ) (mid : Left) → length list ≤ k → GoesOn k mid → BlockWalks site i whole old Passed mid
  block_ends k mid le h = λ rows varies opens st tu fine.
      let none : rest k ≡ nothing = ap (λ l. block_of (map plain_stmt l)) (drop_all k list le) in
      (h rows varies opens st tu fine).1 Passed mid (subst (λ b. Walked (setting_at site) (meaning opens b) opens mid Passed mid) (sym none) (steps_are_walked.nothing (setting_at site) opens mid))

-- ---- the items of a foreach

pub turns_begin : (site : Site) (turns : List ℤ) (items : BlockTree) (old : Left) → TurnsGoOn site turns items old turns old
turns_begin site turns items old = λ rows opens st ts fine. (ts, λ flow new w. w)

module _ (site : Site) (turns : List ℤ) (items : BlockTree) (old mid next : Left) (left : ℕ) (turn : ℤ) (some : 0 < left) (h : TurnsGoOn site turns items old (count_from left turn) mid) where
  one_more : (n : ℕ) → n ≡ suc (left - 1) → count_from n turn ≡ turn ∷ count_from (left - 1) (turn +ℤ pos 1)
  one_more n e = ap (λ k. count_from k turn) e

  from_turn : count_from left turn ≡ turn ∷ count_from (left - 1) (turn +ℤ pos 1)
  from_turn = one_more left (omega (arith, some))

  pub turns_go : (flow : Flow) (after : ℤ) → flow ≡ Passed → (IsTurn turn → after ≡ turn +ℤ pos 1) → BlockWalks site turn items mid flow next → TurnsGoOn site turns items old (count_from (left - 1) after) next
  turns_go flow after e n w = λ rows opens st ts fine.
      let t = h rows opens st ts fine in
      let all = subst (λ l. AllByRecursion IsTurn l) from_turn t.0 in
      let same : count_from (left - 1) (turn +ℤ pos 1) ≡ count_from (left - 1) after = ap (λ x. count_from (left - 1) x) (sym (n all.0)) in
      let one : Walked (setting_at site) (flat_block site.roles.now site.n opens turn items) opens mid Passed next =
      subst (λ f. Walked (setting_at site) (flat_block site.roles.now site.n opens turn items) opens mid f next) e (w rows true opens st all.0 fine) in (
        subst (λ l. AllByRecursion IsTurn l) same all.1,
        λ last new v. t.1 last new
            (subst (λ l. Walked (setting_at site) (items_for site opens l items) opens mid last new) (sym from_turn)
            (steps_are_walked.then (setting_at site) (flat_block site.roles.now site.n opens turn items) (items_for site opens (count_from (left - 1) (turn +ℤ pos 1)) items) opens mid next new last one
            (subst (λ l. Walked (setting_at site) (items_for site opens l items) opens next last new) (sym same) v))),
      )

  pub turns_stop : (flow : Flow) → IsStop flow → BlockWalks site turn items mid flow next → TurnsWalk site turns items old flow next
  turns_stop flow e w = λ rows opens st ts fine.
      let t = h rows opens st ts fine in
      let all = subst (λ l. AllByRecursion IsTurn l) from_turn t.0 in
      t.1 flow next
      (subst (λ l. Walked (setting_at site) (items_for site opens l items) opens mid flow next) (sym from_turn)
      (steps_are_walked.stops (setting_at site) (flat_block site.roles.now site.n opens turn items) (items_for site opens (count_from (left - 1) (turn +ℤ pos 1)) items) opens mid next flow e (w rows true opens st all.0 fine)))

pub turns_end : (site : Site) (turns : List ℤ) (items : BlockTree) (old mid : Left) (left : ℕ) (turn : ℤ) → left ≤ 0 → TurnsGoOn site turns items old (count_from left turn) mid → TurnsWalk site turns items old Passed mid
turns_end site turns items old mid left turn le h = λ rows opens st ts fine.
    let none : count_from left turn ≡ [] = ap (λ k. count_from k turn) (zero_is left le) in
    (h rows opens st ts fine).1 Passed mid (subst (λ l. Walked (setting_at site) (items_for site opens l items) opens mid Passed mid) (sym none) (steps_are_walked.nothing (setting_at site) opens mid))
  where
    zero_is : (n : ℕ) → n ≤ 0 → n ≡ 0
    zero_is n l = omega (arith, l)
