-- Walks round by round.
use Rattle.std.proofs.Common.{◌≡◌, ◌≢◌, ℕ, suc, true, false, List, ◌∷◌, refl, ap, subst, arith, if◌then◌else◌}
use Rattle.std.specs.Prelude.{nat_eq}
use Rattle.std.proofs.lemmas.Bool.Decides.{nat_tests}
use Rattle.pb_core_language.specs.Flat.{Origin, Block, stop, looped}
use Rattle.pb_core_language.specs.FlatOf.{between}
use Rattle.pb_core_language.specs.Run.{Setting, Opener, Body, Frame, back, back_over}
use Rattle.pb_judge_follow.specs.Follow.{Left, Goes}
use Rattle.pb_judge_follow.proofs.Following.{goes_then, goes_same}
use Rattle.pb_judge_walks.specs.declared.flow.Flow.{Flow}
use Rattle.pb_judge_walks.specs.declared.flow.Flow.TheVariants.{Passed, Back, Differs, Endless}
use Rattle.pb_judge_walks.specs.Walks.{frame, Walked, AtRound}
use Rattle.pb_judge_walks.specs.Laws.{LoopsAreWalked}
use Rattle.pb_judge_walks.proofs.Blocks.{silent, then_more, breaks_behind, circles_behind}

self_id : (id : ℕ) → nat_eq id id ≡ true
self_id id = grind (arith, nat_tests)

other_id : (id own : ℕ) → id ≢ own → nat_eq id own ≡ false
other_id id own h = grind (arith, nat_tests)

own_loop : (id : ℕ) (opens : List ℕ) → between id (id ∷ opens) ≡ 0
own_loop id opens = ap (λ b. if b then 0 else suc (between id opens)) (self_id id)

outer_loop : (id own : ℕ) (opens : List ℕ) → id ≢ own → between id (own ∷ opens) ≡ suc (between id opens)
outer_loop id own opens h = ap (λ b. if b then 0 else suc (between id opens)) (other_id id own h)

module _ (s : Setting) (origin : Origin) (f : Block → Block) (opens : List ℕ) where
  abbrev body : Block
  body = f stop

  abbrev meaning : Block → Block
  meaning after = looped origin body after

  -- where a round begins
  abbrev start : Opener → Block → List Frame → List Frame
  start opener after around = frame (Body body) body ∷ frame opener after ∷ around

  begins : (left : Left) → AtRound s meaning opens left body left
  begins left opener after around = (1, silent s (frame opener (meaning after) ∷ around) (start opener after around) left refl refl)

  past_body : (opener : Opener) (after : Block) (around : List Frame) (left : Left) → Goes s 1 (frame (Body body) stop ∷ frame opener after ∷ around) left (frame opener after ∷ around) left
  past_body opener after around left = silent s (frame (Body body) stop ∷ frame opener after ∷ around) (frame opener after ∷ around) left refl refl

  -- one round
  round : (id : ℕ) (mid new : Left) → Walked s f (id ∷ opens) mid (Back id) new → (opener : Opener) (after : Block) (around : List Frame) → (n : ℕ) × Goes s (suc n) (start opener after around) mid (start opener after around) new
  round id mid new w opener after around =
      let t = w (Body body) stop (frame opener after ∷ around) in
      (t.0, subst (λ k. Goes s (suc t.0) (start opener after around) mid (back_over (Body body) k (frame opener after ∷ around) (back (frame opener after ∷ around))) new) (own_loop id opens) t.1)

  again : (id : ℕ) (old mid new : Left) → AtRound s meaning opens old body mid → Walked s f (id ∷ opens) mid (Back id) new → AtRound s meaning opens old body new
  again id old mid new a w opener after around = let t = goes_then s (a opener after around).1 (round id mid new w opener after around).1 in (t.0, t.2)

  endless : (id : ℕ) (old mid new : Left) → AtRound s meaning opens old body mid → Walked s f (id ∷ opens) mid (Back id) new → new.used ≡ mid.used → Walked s meaning opens old Endless new
  endless id old mid new a w same opener after around =
      let t = round id mid new w opener after around in
      record {
        steps = (a opener after around).0;
        stack = start opener after around;
        there = mid;
        goes = (a opener after around).1;
        goes_on = refl;
        round = t.0;
        again = t.1;
        same = goes_same s t.1 same;
      }

  ends : (id : ℕ) (old mid new : Left) (flow : Flow) → AtRound s meaning opens old body mid → Walked s f (id ∷ opens) mid flow new → flow ≢ Back id → Walked s meaning opens old flow new
  ends id old mid new Passed a w h = λ opener after around.
      let t = goes_then s (a opener after around).1 (w (Body body) stop (frame opener after ∷ around)).1 in
      let u = goes_then s t.2 (past_body opener after around new) in (u.0, u.2)
  ends id old mid new (Back other) a w h = λ opener after around.
      let t = w (Body body) stop (frame opener after ∷ around) in
      let apart : other ≢ id = λ e. h (ap Back e) in
      let g = subst (λ k. Goes s (suc t.0) (start opener after around) mid (back_over (Body body) k (frame opener after ∷ around) (back (frame opener after ∷ around))) new) (outer_loop other id opens apart) t.1 in
      then_more s (a opener after around).1 g
  ends id old mid new (Differs r line) a w h = λ opener after around. breaks_behind s (a opener after around).1 (w (Body body) stop (frame opener after ∷ around))
  ends id old mid new Endless a w h = λ opener after around. circles_behind s (a opener after around).1 (w (Body body) stop (frame opener after ∷ around))

pub loops_are_walked : LoopsAreWalked
loops_are_walked = record {
  begins = λ s origin f opens left. begins s origin f opens left;
  again = λ s origin f opens id old mid new a w. again s origin f opens id old mid new a w;
  endless = λ s origin f opens id old mid new a w same. endless s origin f opens id old mid new a w same;
  ends = λ s origin f opens id old mid new flow a w h. ends s origin f opens id old mid new flow a w h;
}
