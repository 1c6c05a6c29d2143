-- Walks one behind the other, and in a choice.
use Rattle.std.proofs.Common.{◌≡◌, ℕ, suc, ◌+◌, List, [], ◌∷◌, refl, sym, ap, subst, ◌∙◌, arith}
use Rattle.pb_text.specs.declared.action.Action.{Action}
use Rattle.pb_text.specs.declared.action.Action.TheVariants as E
use Rattle.pb_core_language.specs.Flat.{Origin, Block, stop, choice, again, Branches, branch_at}
use Rattle.pb_core_language.specs.FlatOf.{between}
use Rattle.pb_core_language.specs.Run.{Setting, Opener, Chosen, Frame, back, back_over, branch_now}
use Rattle.pb_judge_follow.specs.Follow.{Left, AllFit, all_passed, Misfits, answers_left, doing, moved, Goes, here, step, Breaks, Circles}
use Rattle.pb_judge_follow.proofs.Following.{goes_then}
use Rattle.pb_judge_walks.specs.declared.flow.Flow.{Flow}
use Rattle.pb_judge_walks.specs.declared.flow.Flow.TheVariants.{Passed, Back, Differs, Endless}
use Rattle.pb_judge_walks.specs.Walks.{frame, Walked, IsStop}
use Rattle.pb_judge_walks.specs.Laws.{Does, StepsAreWalked, ChoicesAreWalked}

module _ (s : Setting) where
  -- ---- ways

  pub one_step : (K L : List Frame) (old new : Left) (g : List Action) → doing s K old ≡ g → moved s K old ≡ L → AllFit g old → new ≡ all_passed g old → Goes s 1 K old L new
  one_step K L old new g does moves fits is =
      subst (λ x. Goes s 1 K old x new) moves
      (subst (λ l. Goes s 1 K old (moved s K old) l) (sym (is ∙ ap (λ h. all_passed h old) (sym does))) (step (subst (λ h. AllFit h old) (sym does) fits) here))

  pub silent : (K L : List Frame) (left : Left) → doing s K left ≡ [] → moved s K left ≡ L → Goes s 1 K left L left
  silent K L left does moves = one_step K L left left [] does moves tt refl

  -- one way behind another, which has a step at least
  pub then_more : {m n : ℕ} {K L M : List Frame} {left mid end : Left} → Goes s m K left L mid → Goes s (suc n) L mid M end → (k : ℕ) × Goes s (suc k) K left M end
  then_more {m = m} {n = n} {K = K} {M = M} {left = left} {end = end} g h = let t = goes_then s g h in let e = t.1 in (m + n, subst (λ k. Goes s k K left M end) (omega (arith, e)) t.2)

  pub breaks_behind : {n : ℕ} {K L : List Frame} {left mid : Left} {r line : ℕ} → Goes s n K left L mid → Breaks s L mid r line → Breaks s K left r line
  breaks_behind g b = let t = goes_then s g b.goes in record { steps = t.0; stack = b.stack; there = b.there; goes = t.2; misfits = b.misfits }

  pub circles_behind : {n : ℕ} {K L : List Frame} {left mid end : Left} → Goes s n K left L mid → Circles s L mid end → Circles s K left end
  circles_behind g c =
      let t = goes_then s g c.goes in
      record { steps = t.0; stack = c.stack; there = c.there; goes = t.2; goes_on = c.goes_on; round = c.round; again = c.again; same = c.same }

  pub breaks_here : (K : List Frame) (left : Left) (g : List Action) (r line : ℕ) → doing s K left ≡ g → Misfits g left r line → Breaks s K left r line
  breaks_here K left g r line does m = record { steps = 0; stack = K; there = left; goes = here; misfits = subst (λ h. Misfits h left r line) (sym does) m }

  -- ---- statements

  walked_fits : (f : Block → Block) (opens : List ℕ) (old new : Left) (g : List Action) → Does s f old g → AllFit g old → new ≡ all_passed g old → Walked s f opens old Passed new
  walked_fits f opens old new g does fits is opener after around =
      let d = does opener after around in (1, one_step (frame opener (f after) ∷ around) (frame opener after ∷ around) old new g d.0 d.1 fits is)

  walked_misfits : (f : Block → Block) (opens : List ℕ) (old new : Left) (g : List Action) (r line : ℕ) → Does s f old g → Misfits g old r line → Walked s f opens old (Differs r line) new
  walked_misfits f opens old new g r line does m opener after around = breaks_here (frame opener (f after) ∷ around) old g r line (does opener after around).0 m

  walked_back : (opens : List ℕ) (id : ℕ) (left : Left) → Walked s (λ after. again (between id opens)) opens left (Back id) left
  walked_back opens id left opener after around = (0, silent (frame opener (again (between id opens)) ∷ around) (back_over opener (between id opens) around (back around)) left refl refl)

  walked_then : (f g : Block → Block) (opens : List ℕ) (old mid new : Left) (flow : Flow) → Walked s f opens old Passed mid → Walked s g opens mid flow new → Walked s (λ after. f (g after)) opens old flow new
  walked_then f g opens old mid new Passed a b = λ opener after around. let t = goes_then s (a opener (g after) around).1 (b opener after around).1 in (t.0, t.2)
  walked_then f g opens old mid new (Back id) a b = λ opener after around. then_more (a opener (g after) around).1 (b opener after around).1
  walked_then f g opens old mid new (Differs r line) a b = λ opener after around. breaks_behind (a opener (g after) around).1 (b opener after around)
  walked_then f g opens old mid new Endless a b = λ opener after around. circles_behind (a opener (g after) around).1 (b opener after around)

  walked_stops : (f g : Block → Block) (opens : List ℕ) (old new : Left) (flow : Flow) → IsStop flow → Walked s f opens old flow new → Walked s (λ after. f (g after)) opens old flow new
  walked_stops f g opens old new Passed i a = absurd i
  walked_stops f g opens old new (Back id) i a = λ opener after around. a opener (g after) around
  walked_stops f g opens old new (Differs r line) i a = λ opener after around. a opener (g after) around
  walked_stops f g opens old new Endless i a = λ opener after around. a opener (g after) around

  -- ---- choices

  -- past the end of a branch
  past_branch : (at : ℕ) (branches : Branches) (opener : Opener) (after : Block) (around : List Frame) (left : Left) → Goes s 1 (frame (Chosen at branches) stop ∷ frame opener after ∷ around) left (frame opener after ∷ around) left
  past_branch at branches opener after around left = silent (frame (Chosen at branches) stop ∷ frame opener after ∷ around) (frame opener after ∷ around) left refl refl

  module _ (origin : Origin) (at kernel : ℕ) (branches : Branches) (f : Block → Block) (opens : List ℕ) (old mid new : Left) where
    abbrev taken : ℕ
    taken = branch_now s (answers_left old) at kernel branches

    into_branch : AllFit (E.Choose at kernel taken ∷ []) old → mid ≡ all_passed (E.Choose at kernel taken ∷ []) old → branch_at taken branches ≡ f stop → (opener : Opener) (after : Block) (around : List Frame) →
        Goes s 1 (frame opener (choice origin at kernel branches after) ∷ around) old (frame (Chosen at branches) (f stop) ∷ frame opener after ∷ around) mid
    into_branch fits is e opener after around =
        one_step (frame opener (choice origin at kernel branches after) ∷ around) (frame (Chosen at branches) (f stop) ∷ frame opener after ∷ around) old mid (E.Choose at kernel taken ∷ []) refl
        (ap (λ b. frame (Chosen at branches) b ∷ frame opener after ∷ around) e) fits is

    walked_branch : (flow : Flow) → AllFit (E.Choose at kernel taken ∷ []) old → mid ≡ all_passed (E.Choose at kernel taken ∷ []) old → branch_at taken branches ≡ f stop → Walked s f opens mid flow new → Walked s (λ after. choice origin at kernel branches after) opens old flow new
    walked_branch Passed fits is e a = λ opener after around.
        let t = goes_then s (into_branch fits is e opener after around) (a (Chosen at branches) stop (frame opener after ∷ around)).1 in
        let u = goes_then s t.2 (past_branch at branches opener after around new) in (u.0, u.2)
    walked_branch (Back id) fits is e a = λ opener after around. then_more (into_branch fits is e opener after around) (a (Chosen at branches) stop (frame opener after ∷ around)).1
    walked_branch (Differs r line) fits is e a = λ opener after around. breaks_behind (into_branch fits is e opener after around) (a (Chosen at branches) stop (frame opener after ∷ around))
    walked_branch Endless fits is e a = λ opener after around. circles_behind (into_branch fits is e opener after around) (a (Chosen at branches) stop (frame opener after ∷ around))

pub steps_are_walked : StepsAreWalked
steps_are_walked = record {
  nothing = λ s opens left opener after around. (0, here);
  fits = λ s f opens old new g does fits is. walked_fits s f opens old new g does fits is;
  misfits = λ s f opens old new g r line does m. walked_misfits s f opens old new g r line does m;
  goes_back = λ s opens id left. walked_back s opens id left;
  then = λ s f g opens old mid new flow a b. walked_then s f g opens old mid new flow a b;
  stops = λ s f g opens old new flow i a. walked_stops s f g opens old new flow i a;
}

pub choices_are_walked : ChoicesAreWalked
choices_are_walked = record {
  branch = λ s origin at kernel branches f opens old mid new flow fits is e a. walked_branch s origin at kernel branches f opens old mid new flow fits is e a;
  misfits = λ s origin at kernel branches opens old new r line m opener after around. breaks_here s (frame opener (choice origin at kernel branches after) ∷ around) old _ r line refl m;
}
