-- A loop, and a loop that nobody takes part in.
use Rattle.std.proofs.Common.{◌≡◌, ◌≤◌, ◌+◌, ◌*◌, ℕ, suc, pos, max, true, false, List, [], ◌∷◌, refl, sym, ap, ◌∙◌, subst, arith}
use Rattle.std.proofs.Math.Bool.{or-false}
use Rattle.pb_affine.specs.declared.guard.Guard.{Guard}
use Rattle.pb_affine.specs.declared.lin.Lin.{Lin}
use Rattle.pb_part_areas.specs.declared.area.Area.{Area}
use Rattle.pb_core_language.specs.Parts.{is_in_body}
use Rattle.pb_core_language.specs.Plain.{Protocol}
use Rattle.pb_core_language.specs.Tree as T
use Rattle.pb_core_language.specs.Tree.{Mark, StmtTree, BlockTree}
use Rattle.pb_core_flat.specs.Seated.{rank}
use Rattle.pb_local.specs.Tree.{Code, Program, nothing}
use Rattle.pb_local.specs.WellMade.{AreMade, loops_in}
use Rattle.pb_part_takers.specs.declared.held.Held.{Held}
use Rattle.pb_part_takers.specs.Loops.{IsInside, held_of}
use Rattle.pb_project_piece.specs.Ones.{only_when}
use Rattle.pb_project_piece.specs.Ranked.{IsThere}
use Rattle.pb_shape.specs.Guards as G
use Rattle.pb_shape.specs.Shape as S
use Rattle.pb_shape.specs.Places.{scope_of, inside}
use Rattle.pb_shape.specs.Guards.{One, alone}
use Rattle.pb_shape.specs.Loops.{Around, takers, in_loop}
use Rattle.pb_shape.specs.Shape.{Shape}
use Rattle.pb_project.specs.Blocks.{behind, entered, IsStmtOf, IsLoopOf}
use Rattle.pb_project.specs.Places.{Known, IsPlace, IsGoodStmt}
use Rattle.pb_project.specs.Takers.{AreTakers}
use Rattle.pb_project.proofs.GoodParts.{good_body}
use Rattle.pb_project.proofs.Reaching.{body_reached}
use Rattle.pb_project.proofs.Guarding.{AreGuardsOf, areas_are, areas_fit, names, somebody, nobody, guards_made, nobody_inside}

-- ---- inside the loop

pub entered_place : (k : Known) (p : Protocol) (l : Program) (cuts : List Lin) (a : Around) (m mark : Mark) (id number : ℕ) (body : BlockTree) (areas : List Area) (inner : List Held) → IsPlace k p l cuts a →
    IsGoodStmt p cuts a m (T.loop id mark body) → AreTakers k.whole k.held m (T.loop id mark body) areas → IsInside k.held id areas inner → IsPlace (entered k inner number) p l cuts (in_loop (scope_of p) a id number body)
entered_place k p l cuts a m mark id number body areas inner place fair taken within_loop = record {
  stands = place.stands;
  around = record {
    opens = ap (λ o. id ∷ o) place.around.opens ∙ sym within_loop.ids;
    within = λ n role x within r.
        within_loop.held n role x
        ∙ ap (λ b. b ∷ held_of k.held n role x) (areas_are k p l cuts a place m (T.loop id mark body) fair areas taken n (pos 0) role x within r ∙ or-false (is_in_body p.roles n (rank p.roles n role x) a.opens (a.held n role x) id body))
        ∙ ap (λ h. is_in_body p.roles n (rank p.roles n role x) a.opens (a.held n role x) id body ∷ h) (place.around.within n role x within r);
  };
  numbers_are = ap (λ ns. number ∷ ns) place.numbers_are;
  as_many = ap suc place.as_many;
  tabled = place.tabled;
  range_is = place.range_is;
  small = place.small;
  whole_fits = place.whole_fits;
  held_fits = within_loop.fits k.range cuts (areas_fit k p l cuts a place m (T.loop id mark body) fair areas taken) place.held_fits;
}

-- ---- numbers

next_is : (n : ℕ) → suc n ≡ n + 1
next_is n = omega arith

more_loops : (before after l t : ℕ) → suc before + l ≡ after → before + ((suc l + 0) + 0 + t) ≡ after + t
more_loops before after l t e = omega (arith, e)

same_place : (before after l : ℕ) → suc before + l ≡ after → after ≡ before + ((suc l + 0) + 0)
same_place before after l e = omega (arith, e)

more_room : (s r t : ℕ) → s ≤ r → suc (suc s + 0 + 0) + t ≤ 2 + r + t
more_room s r t h = omega (arith, h)

more_braces : (b d t : ℕ) → b ≤ 2 * d + 1 → max (suc (max (max (suc b) 0) 0)) t ≤ max (2 * suc d + 1) t
more_braces b d t h = omega (arith, h)

-- ---- the loop

pub loop_there : (k : Known) (before after : ℕ) (m mark : Mark) (id : ℕ) (body : BlockTree) (areas : List Area) (gs : List Guard) (c : Code) → IsThere k.range k.whole areas true → AreGuardsOf k.range k.roles areas gs →
    IsLoopOf k id areas before after body c → AreTakers k.whole k.held m (T.loop id mark body) areas → IsStmtOf k before after m (T.loop id mark body) (only_when gs (alone c) ∷ [])
loop_there k before after m mark id body areas gs c ranked of made taken =
    subst (λ d. IsStmtOf k before after m (T.loop id mark body) (only_when gs (alone d) ∷ [])) (sym made.is) (record {
      shape = λ p l cuts a h place fair reached rest tail others.
          let who = takers (scope_of p) a m (T.loop id mark body) in
          let some = somebody k p l cuts a place m (T.loop id mark body) fair areas taken h reached ranked in
          S.loop {inner = made.codes} reached.some (G.there (names k p l cuts a place m (T.loop id mark body) fair areas taken gs of h) some)
          (made.block.shape p l cuts (in_loop (scope_of p) a id before body) (inside h who) (entered_place k p l cuts a m mark id before body areas made.inner place fair taken made.inside)
          (good_body p cuts a m mark id before body fair) (body_reached (scope_of p) a h m mark id before body reached some)) others;
      made = λ p l cuts a place fair tail others. (
        (
          guards_made k p l cuts a place m (T.loop id mark body) fair areas taken gs of ranked,
          (
            (
              refl,
              subst (λ n. AreMade l (behind n (before ∷ k.numbers)) made.codes) (next_is before)
                  (made.block.made p l cuts (in_loop (scope_of p) a id before body) (entered_place k p l cuts a m mark id before body areas made.inner place fair taken made.inside) (good_body p cuts a m mark id before body fair)),
            ),
            tt,
          ),
          tt,
        ),
        subst (λ n. AreMade l (behind n k.numbers) tail) (same_place before after (loops_in made.codes) made.block.loops) others,
      );
      loops = λ tail. more_loops before after (loops_in made.codes) (loops_in tail) made.block.loops;
      size = λ tail. more_room _ _ _ made.block.size;
      braces = λ tail. more_braces _ _ _ made.block.braces;
    })

pub no_less : (r t : ℕ) → t ≤ r + t
no_less r t = omega arith

pub no_deeper : (d t : ℕ) → t ≤ max d t
no_deeper d t = omega arith

-- where nobody takes part nothing is added
pub loop_gone : (k : Known) (before : ℕ) (m mark : Mark) (id : ℕ) (body : BlockTree) (areas : List Area) → IsThere k.range k.whole areas false → AreTakers k.whole k.held m (T.loop id mark body) areas → IsStmtOf k before before m (T.loop id mark body) []
loop_gone k before m mark id body areas none taken = record {
  shape = λ p l cuts a h place fair reached rest tail others.
      S.loop {number = 0} {inner = nothing} reached.some (G.gone (nobody k p l cuts a place m (T.loop id mark body) fair areas taken none h)) (S.unreached (nobody_inside k p l cuts a place m (T.loop id mark body) fair areas taken none h)) others;
  made = λ p l cuts a place fair tail others. others;
  loops = λ tail. refl;
  size = λ tail. no_less _ _;
  braces = λ tail. no_deeper _ _;
}
