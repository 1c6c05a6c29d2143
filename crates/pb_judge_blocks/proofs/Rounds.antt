-- One round of a loop behind the other.
use Rattle.std.proofs.Common.{◌≡◌, ◌≢◌, ◌≤◌, ℕ, Bool, true, false, List, [], ◌∷◌, sym, ap, subst, ◌∙◌, ℤ, arith}
use Rattle.std.specs.Prelude.{nat_eq}
use Rattle.std.proofs.lemmas.Bool.Decides.{nat_tests}
use Rattle.pb_core_language.specs.Tree.{BlockTree}
use Rattle.pb_core_language.specs.Flat.{Block, stop}
use Rattle.pb_core_language.specs.FlatOf.{flat_block}
use Rattle.pb_core_language.specs.Run.{Top}
use Rattle.pb_judge_follow.specs.Follow.{Left}
use Rattle.pb_judge_follow.proofs.Following.{goes_used}
use Rattle.pb_judge_walks.specs.declared.flow.Flow.{Flow}
use Rattle.pb_judge_walks.specs.declared.flow.Flow.TheVariants.{Passed, Back, Differs, Endless}
use Rattle.pb_judge_walks.specs.Walks.{Walked}
use Rattle.pb_judge_walks.proofs.Loops.{loops_are_walked}
use Rattle.pb_judge_blocks.specs.declared.site.Site.{Site}
use Rattle.pb_judge_blocks.specs.Flows.{is_back}
use Rattle.pb_judge_blocks.specs.Places.{setting_at}
use Rattle.pb_judge_blocks.specs.Steps.{BlockWalks, RoundsWalk, RoundWalked}

same_id : (x y : ℕ) → nat_eq x y ≡ true → x ≡ y
same_id x y h = grind (arith, nat_tests)

self_id : (x : ℕ) → nat_eq x x ≡ true
self_id x = grind (arith, nat_tests)

pub goes_back : (flow : Flow) (id : ℕ) (b : Bool) → b ≡ is_back flow id → b ≡ true → flow ≡ Back id
goes_back Passed id b e h = absurd (let w : false ≡ true = sym e ∙ h in cc)
goes_back (Back other) id b e h = ap Back (same_id other id (sym e ∙ h))
goes_back (Differs r line) id b e h = absurd (let w : false ≡ true = sym e ∙ h in cc)
goes_back Endless id b e h = absurd (let w : false ≡ true = sym e ∙ h in cc)

pub goes_elsewhere : (flow : Flow) (id : ℕ) (b : Bool) → b ≡ is_back flow id → b ≡ false → flow ≢ Back id
goes_elsewhere flow id b e h same = absurd (let w : true ≡ false = sym (self_id id) ∙ ap (λ f. is_back f id) (sym same) ∙ sym e ∙ h in cc)

module _ (site : Site) (i : ℤ) (id : ℕ) (body : BlockTree) (old : Left) where
  abbrev meaning : List ℕ → Block → Block
  meaning opens = flat_block site.roles.now site.n (id ∷ opens) i body

  pub round_begins : (used : ℕ) (flow : Flow) (new : Left) → used ≡ old.used → BlockWalks site i body old flow new → RoundWalked site i id body old used flow new
  round_begins used flow new e w = λ rows opens origin st tu fine.
      (old, loops_are_walked.begins (setting_at site) origin (meaning opens) opens old, w rows false (id ∷ opens) st tu fine, e)

  module _ (used : ℕ) (flow : Flow) (mid : Left) (back : flow ≡ Back id) (h : RoundWalked site i id body old used flow mid) where
    pub round_again : (now : ℕ) (next : Flow) (new : Left) → now ≡ mid.used → BlockWalks site i body mid next new → RoundWalked site i id body old now next new
    round_again now next new e w = λ rows opens origin st tu fine.
        let t = h rows opens origin st tu fine in (
          mid,
          loops_are_walked.again (setting_at site) origin (meaning opens) opens id old t.0 mid t.1 (subst (λ f. Walked (setting_at site) (meaning opens) (id ∷ opens) t.0 f mid) back t.2),
          w rows false (id ∷ opens) st tu fine,
          e,
        )

    pub round_endless : (now : ℕ) → now ≡ mid.used → now ≤ used → RoundsWalk site i id body old Endless mid
    round_endless now e le = λ rows opens origin st tu fine.
        let t = h rows opens origin st tu fine in
        let w : Walked (setting_at site) (meaning opens) (id ∷ opens) t.0 (Back id) mid = subst (λ f. Walked (setting_at site) (meaning opens) (id ∷ opens) t.0 f mid) back t.2 in
        let most = goes_used (setting_at site) (w Top stop []).1 in
        let was = t.3 in
        loops_are_walked.endless (setting_at site) origin (meaning opens) opens id old t.0 mid t.1 w (same mid.used t.0.used now used e le was most)
      where
        same : (a b now used : ℕ) → now ≡ a → now ≤ used → used ≡ b → b ≤ a → a ≡ b
        same a b now used e le was most = omega (arith, e, le, was, most)

  pub round_ends : (used : ℕ) (flow : Flow) (new : Left) → flow ≢ Back id → RoundWalked site i id body old used flow new → RoundsWalk site i id body old flow new
  round_ends used flow new apart h = λ rows opens origin st tu fine.
      let t = h rows opens origin st tu fine in loops_are_walked.ends (setting_at site) origin (meaning opens) opens id old t.0 new flow t.1 t.2 apart
