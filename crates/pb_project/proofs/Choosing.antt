-- A choice, and a choice that nobody takes part in.
use Rattle.std.proofs.Common.{◌≡◌, ◌<◌, ◌≤◌, ◌+◌, ◌*◌, ◌==◌, ℕ, zero, suc, ℤ, pos, max, Bool, true, false, not, ◌&&◌, ◌||◌, nat_lt, List, [], ◌∷◌, length, get_or, refl, sym, ap, ◌∙◌, subst, arith}
use Rattle.std.specs.List.{All}
use Rattle.std.proofs.lemmas.Bool.{and_parts, and_from, or_parts, or_left, or_right, false≢true, ltb-true}
use Rattle.std.proofs.lemmas.List.Elements.{All-nil, All-weaker}
use Rattle.std.proofs.lemmas.Int.{ints}
use Rattle.pb_affine.specs.declared.guard.Guard.{Guard}
use Rattle.pb_affine.specs.declared.lin.Base.{Base}
use Rattle.pb_affine.specs.declared.lin.Base.TheVariants.{Fixed, Param, Var}
use Rattle.pb_affine.specs.declared.lin.Lin.{Lin}
use Rattle.pb_affine.specs.Values.{IsSmall, hold}
use Rattle.pb_part_areas.specs.declared.area.Area.{Area}
use Rattle.pb_part_areas.specs.Fits.{Fits}
use Rattle.pb_core_language.specs.declared.tree.CoreEnd.{CoreEnd}
use Rattle.pb_core_language.specs.Flat.{Branches, no_branch, branch, branch_at, takes_part_among}
use Rattle.pb_core_language.specs.FlatOf.{rank_of, flat_branches}
use Rattle.pb_core_language.specs.Lists.{is_among}
use Rattle.pb_core_language.specs.Outcomes.{firsts, labels_of}
use Rattle.pb_core_language.specs.Plain.{Protocol}
use Rattle.pb_core_language.specs.Sound.{rows_of, is_end, is_over_n, is_small, are_branches}
use Rattle.pb_core_language.specs.Tree as T
use Rattle.pb_core_language.specs.Tree.{Mark, StmtTree, BlockTree, BranchTrees}
use Rattle.pb_core_language.specs.Ranks.{total}
use Rattle.pb_core_language.specs.Verdict.{IsIn}
use Rattle.pb_part_firsts.specs.Takers.{IsWhole}
use Rattle.pb_core_flat.specs.Seated.{rank, is_rank, is_at}
use Rattle.pb_core_flat.proofs.OutcomesAdd.{bystander_finds}
use Rattle.pb_local.specs.declared.stmt.Relay.{Relay}
use Rattle.pb_local.specs.declared.stmt.Test.{Test}
use Rattle.pb_local.specs.Tree as L
use Rattle.pb_local.specs.Tree.{Code, Codes, Parts, Program, nothing, more, no_part, part, size, size_all}
use Rattle.pb_local.specs.WellMade.{IsMade, AreMade, IsChoice, IsToldIf, IsTest, loops_at, loops_in, loops_among, count_parts}
use Rattle.pb_part_takers.specs.Loops.{HeldFit}
use Rattle.pb_project_piece.specs.Ones.{end_guard, only_when}
use Rattle.pb_project_piece.specs.Ranked.{IsThere}
use Rattle.pb_project_piece.specs.Standing.{IsOpen}
use Rattle.pb_project_piece.proofs.Ones.{guard_holds}
use Rattle.pb_shape.specs.Guards as G
use Rattle.pb_shape.specs.Shape as S
use Rattle.pb_shape.specs.Places.{Scope, Who, Here, everyone, scope_of, inside, peer_of}
use Rattle.pb_shape.specs.Guards.{Someone, Somebody, Nobody, alone}
use Rattle.pb_shape.specs.Loops.{Around, takers}
use Rattle.pb_shape.specs.Choices.{Tests, AreHeld, Relays, is_chooser, AreCalled, is_told, told_by}
use Rattle.pb_shape.specs.Shape.{Shapes}
use Rattle.pb_shape.specs.Sizes.{braces, braces_all}
use Rattle.pb_shape.specs.Tabled.{count}
use Rattle.pb_syntax.specs.declared.core_label.CoreKernel.{CoreKernel}
use Rattle.pb_syntax.specs.declared.core_label.KernelKind.{KernelKind}
use Rattle.pb_syntax.specs.declared.core_label.KernelKind.TheVariants.{Compute}
use Rattle.pb_project_choice.specs.Found.{IsFoundIn}
use Rattle.pb_project_choice.specs.Tested.{HasHolder}
use Rattle.pb_project_choice.specs.Relayed.{HasCaller}
use Rattle.pb_project.specs.Learning.{Told}
use Rattle.pb_project.specs.Blocks.{behind, IsStmtOf, IsChoiceOf}
use Rattle.pb_project.specs.Places.{Known, IsPlace, IsGoodStmt, IsReached}
use Rattle.pb_project.specs.Takers.{AreTakers}
use Rattle.pb_project.proofs.GoodParts.{good_choice, good_branches}
use Rattle.pb_project.proofs.Guarding.{AreGuardsOf, areas_are, names, somebody, nobody, guards_made, nobody_inside, whole_has, in_range, of_range, roles_are}
use Rattle.pb_project.proofs.Looping.{no_less, no_deeper}
use Rattle.pb_project.proofs.Reaching.{branches_reached}
use Rattle.pb_project.proofs.Sources.{one_source}

-- ---- the chooser

-- an end that is no variable, of a role of the table
record IsEndOf (l : Program) (e : CoreEnd) : Type 0 where
  role : e.role < length l.roles
  fixed : e.at.base ≡ Var → ⊥
  small : IsSmall e.at.off
  low : is_small e.at.off ≡ true

no_var : (b : Base) → false || is_over_n b ≡ true → b ≡ Var → ⊥
no_var Fixed h e = cc
no_var Param h e = cc
no_var Var h e = false≢true h

small_of : (x : ℤ) → is_small x ≡ true → IsSmall x
small_of x h = record { low = grind (arith, ints, h); high = grind (arith, ints, h) }

end_of : (p : Protocol) (l : Program) (e : CoreEnd) → length l.roles ≡ length p.roles → is_end (rows_of p) false e ≡ true → IsEndOf l e
end_of p l e same h =
    let first = and_parts (nat_lt e.role (length p.roles)) _ h in
    let second = and_parts (false || is_over_n e.at.base) (is_small e.at.off) first.1 in
    record { role = subst (λ n. e.role < n) (sym same) (ltb-true e.role (length p.roles) first.0); fixed = no_var e.at.base second.0; small = small_of e.at.off second.1; low = second.1 }

-- ---- what stands before the choice

own_small : IsSmall (pos 0)
own_small = record { low = omega (arith, ints); high = omega (arith, ints) }

none_more : (n : ℕ) → n ≡ n + 0
none_more n = omega arith

told_made : (l : Program) (before : ℕ) (numbers : List ℕ) (relays : List Relay) (c : Code) → IsMade l (behind before numbers) c → AreMade l (behind before numbers) (told_by relays c)
told_made l before numbers [] c h = (h, tt)
told_made l before numbers (r ∷ rs) c h = (own_small, (subst (λ n. IsMade l (behind n numbers) c) (none_more before) h, tt))

nothing_more : (n : ℕ) → 0 + (n + 0) ≡ n
nothing_more n = omega arith

told_loops : (relays : List Relay) (c : Code) → loops_in (told_by relays c) ≡ loops_at c
told_loops [] c = sym (none_more (loops_at c))
told_loops (r ∷ rs) c = nothing_more (loops_at c)

told_size : (relays : List Relay) (c : Code) → size_all (told_by relays c) ≤ suc (size c)
told_size [] c = omega arith
told_size (r ∷ rs) c = omega arith

told_braces : (relays : List Relay) (c : Code) → braces_all (told_by relays c) ≤ braces c
told_braces [] c = omega arith
told_braces (r ∷ rs) c = omega arith

-- ---- numbers

more_loops : (before after i l t : ℕ) → i ≡ l → before + l ≡ after → before + ((i + 0) + t) ≡ after + t
more_loops before after i l t e f = omega (arith, e, f)

same_place : (before after i l : ℕ) → i ≡ l → before + l ≡ after → after ≡ before + (i + 0)
same_place before after i l e f = omega (arith, e, f)

more_room : (i s r t : ℕ) → i ≤ suc (suc s) → s ≤ r → suc (i + 0) + t ≤ 3 + r + t
more_room i s r t h k = omega (arith, h, k)

more_braces : (i b d t : ℕ) → i ≤ max 2 (suc b) → b ≤ 2 * d + 1 → max (suc (max i 0)) t ≤ max (2 * suc d + 1) t
more_braces i b d t h k = omega (arith, h, k)

-- ---- who is told takes part

untold : (held : List Bool) (r : ℕ) (bs : Branches) (j l : ℕ) → takes_part_among held r bs ≡ false → is_among l (labels_of (firsts held r (branch_at j bs))) ≡ false
untold held r no_branch j l h = refl
untold held r (branch m b bs) zero l h = ap (λ os. is_among l (labels_of os)) (bystander_finds held r b (or_parts _ (takes_part_among held r bs) h).0)
untold held r (branch m b bs) (suc j) l h = untold held r bs j l (or_parts _ (takes_part_among held r bs) h).1

told_takes : (held : List Bool) (r : ℕ) (bs : Branches) (j l : ℕ) → is_among l (labels_of (firsts held r (branch_at j bs))) ≡ true → takes_part_among held r bs ≡ true
told_takes held r bs j l h = at (takes_part_among held r bs) refl
  where
    at : (t : Bool) → takes_part_among held r bs ≡ t → takes_part_among held r bs ≡ true
    at true e = e
    at false e = absurd (false≢true (sym (untold held r bs j l e) ∙ h))

-- those that take part in a branch
abbrev part_in : Scope → Around → BranchTrees → ℤ → ℕ → ℤ → Bool
part_in sc a bs n role x = takes_part_among (a.held n role x) (rank sc.roles n role x) (flat_branches sc.roles n a.opens (pos 0) bs)

part_told : (sc : Scope) (a : Around) (bs : BranchTrees) → Told sc a bs (part_in sc a bs)
part_told sc a bs j l n role x within is told = told_takes (a.held n role x) (rank sc.roles n role x) (flat_branches sc.roles n a.opens (pos 0) bs) j l told

-- ---- the choice

abbrev kind_in : List CoreKernel → ℕ → KernelKind
kind_in ks n = (get_or {A = CoreKernel} ks n (record { name = []; kind = Compute })).kind

module _ (k : Known) (before after : ℕ) (m : Mark) (kernel : ℕ) (at : CoreEnd) (bs : BranchTrees) (codes : Codes) (made : IsChoiceOf k kernel at before after bs codes) where
  abbrev text : Code
  text = L.choice (end_guard at) kernel made.relays (peer_of at) made.tests made.parts

  module _ (p : Protocol) (l : Program) (cuts : List Lin) (a : Around) (place : IsPlace k p l cuts a) (fair : IsGoodStmt p cuts a m (T.choice kernel at bs)) where
    found_is : IsFoundIn (scope_of p) a bs made.found
    found_is =
        let c = good_choice p cuts a m kernel at bs fair in
        made.found_are.is (scope_of p) a (rows_of p) cuts (subst (λ r. IsWhole r p.roles k.whole) (sym place.stands.range_is) place.stands.whole_is) place.around
        (subst (λ o. are_branches (rows_of p) o bs ≡ true) place.around.opens c.branches.sound) c.among place.small
        (subst (λ r. All (Fits r cuts) k.whole) (sym place.stands.range_is) place.whole_fits) (subst (λ r. HeldFit r cuts k.held) (sym place.stands.range_is) place.held_fits)

    few : length made.found ≤ 64
    few = subst (λ n. n ≤ 64) (sym found_is.count_is) fair.goes.2

    end_is : IsEndOf l at
    end_is = end_of p l at place.tabled.roles (good_choice p cuts a m kernel at bs fair).end

    pub tests_are : (h : Here) → IsOpen h → Tests (scope_of p) h a bs made.tests
    tests_are h free = made.tests_are.is (scope_of p) h a bs place.stands free place.range_is few found_is

    pub relays_are : (h : Here) → IsOpen h → Relays (scope_of p) a at bs made.relays
    relays_are h free =
        made.relays_are.is (scope_of p) h a bs place.stands free place.range_is end_is.low found_is (one_source p cuts a m kernel at bs fair) (tests_are h free)

    -- a rank of which guards hold comes to the choice
    holder_comes : (h : Here) → IsReached (scope_of p) h (takers (scope_of p) a m (T.choice kernel at bs)) → (n : ℤ) (role : ℕ) (x : ℤ) → IsIn k.range n → is_rank p.roles n role x ≡ true → part_in (scope_of p) a bs n role x ≡ true →
        (h.at n (pos 0) ≡ true) × ((inside h (takers (scope_of p) a m (T.choice kernel at bs))).comes n (pos 0) role x ≡ true)
    holder_comes h reached n role x within is in_part =
        let takes : takers (scope_of p) a m (T.choice kernel at bs) n (pos 0) role x ≡ true = or_left _ _ (or_right _ _ in_part) in
        (reached.free.at n (pos 0), and_from _ _ takes (reached.come.come n (pos 0) role x (of_range k p l cuts a place n within) is takes))

    pub tests_held : (h : Here) → IsReached (scope_of p) h (takers (scope_of p) a m (T.choice kernel at bs)) → AreHeld (scope_of p) (inside h (takers (scope_of p) a m (T.choice kernel at bs))) made.tests
    tests_held h reached =
        All-weaker (λ t. HasHolder k.range p.roles (part_in (scope_of p) a bs) t.guards) (λ t. Somebody (scope_of p) (inside h (takers (scope_of p) a m (T.choice kernel at bs))) (λ n i role x. hold t.guards n i role x))
        (λ t s.
        let c = holder_comes h reached s.n s.role s.index s.within s.rank s.is in
        record { n = s.n; i = pos 0; role = s.role; index = s.index; within = of_range k p l cuts a place s.n s.within; few = s.few; rank = s.rank; at = c.0; comes = c.1; is = s.holds (pos 0) }) made.tests
        (made.tests_are.held (scope_of p) a bs (part_in (scope_of p) a bs) place.stands place.range_is few found_is (part_told (scope_of p) a bs))

    pub relays_called : (h : Here) → IsReached (scope_of p) h (takers (scope_of p) a m (T.choice kernel at bs)) → AreCalled (scope_of p) (inside h (takers (scope_of p) a m (T.choice kernel at bs))) at made.relays
    relays_called h reached =
        All-weaker (λ r. HasCaller k.range p.roles (part_in (scope_of p) a bs) at r)
        (λ r. Someone (scope_of p) (inside h (takers (scope_of p) a m (T.choice kernel at bs))) (λ n i role x. hold r.guards n x role x && not (is_chooser r.from at n x || is_at at n (pos 0) role x)))
        (λ r s.
        let c = holder_comes h reached s.n s.role s.index s.within s.rank s.is in
        record { n = s.n; i = pos 0; role = s.role; index = s.index; within = of_range k p l cuts a place s.n s.within; rank = s.rank; at = c.0; comes = c.1; is = and_from _ _ (s.holds s.index) s.apart }) made.relays
        (made.relays_are.called (scope_of p) a bs (part_in (scope_of p) a bs) place.stands place.range_is end_is.low found_is (one_source p cuts a m kernel at bs fair) (part_told (scope_of p) a bs))

    told_if : (ts : List Test) → (ts ≡ [] → made.relays ≡ []) → IsToldIf (end_guard at) made.relays (peer_of at) ts
    told_if [] f = (f refl, refl, refl)
    told_if (t ∷ ts) f = tt

    choice_made : IsChoice l (end_guard at) kernel made.relays (peer_of at) made.tests (count_parts made.parts)
    choice_made =
        let e = end_is in
        let c = good_choice p cuts a m kernel at bs fair in
        let many : count bs ≡ count_parts made.parts = sym made.parts_are.many in
        let same : length l.roles ≡ k.roles = sym (roles_are k p l cuts a place) in
        record {
          guard = record { role = e.role; small = record { low = e.small; high = e.small }; from = tt; to = tt };
          chooser = record { one = (refl, e.fixed); from = refl; to = refl };
          known = subst (λ ks. kernel < length ks) (sym place.tabled.kernels) (ltb-true kernel (length p.kernels) c.kernel);
          chooses = ap (λ ks. kind_in ks kernel) place.tabled.kernels ∙ fair.goes.0;
          each_relay = made.relays_are.each l (scope_of p) a bs place.stands place.range_is e.low found_is (one_source p cuts a m kernel at bs fair) same;
          source = record { role = e.role; off = e.small };
          each_test = subst (λ n. All (IsTest l n) made.tests) (found_is.count_is ∙ many)
              (made.tests_are.each l (scope_of p) a bs (rows_of p) place.stands place.range_is few found_is c.branches.sound (ap length (sym place.tabled.labels)) same);
          ascend = made.tests_are.ascend few;
          told = told_if made.tests made.relays_are.told;
          some = subst (λ n. 2 ≤ n) many fair.goes.1;
          most = subst (λ n. n ≤ 64) many fair.goes.2;
        }

  there_with : (areas : List Area) (gs : List Guard) → IsThere k.range k.whole areas true → AreGuardsOf k.range k.roles areas gs → AreTakers k.whole k.held m (T.choice kernel at bs) areas →
      IsStmtOf k before after m (T.choice kernel at bs) (only_when gs (told_by made.relays text) ∷ [])
  there_with areas gs ranked of taken = record {
    shape = λ p l cuts a h place fair reached rest tail others.
        let who = takers (scope_of p) a m (T.choice kernel at bs) in
        let some = somebody k p l cuts a place m (T.choice kernel at bs) fair areas taken h reached ranked in
        S.choice {parts = made.parts} (end_guard at) made.relays made.tests reached.some
        (G.there (names k p l cuts a place m (T.choice kernel at bs) fair areas taken gs of h) some)
        (λ n i role x within r here. guard_holds at n i role x)
        (tests_are p l cuts a place fair h reached.free) (tests_held p l cuts a place fair h reached)
        (relays_are p l cuts a place fair h reached.free) (relays_called p l cuts a place fair h reached)
        (made.parts_are.shape p l cuts a (inside h who) place (good_branches p cuts a m kernel at bs fair) (branches_reached (scope_of p) a h m kernel at bs reached some)) others;
    made = λ p l cuts a place fair tail others. (
      (
        guards_made k p l cuts a place m (T.choice kernel at bs) fair areas taken gs of ranked,
        told_made l before k.numbers made.relays text (choice_made p l cuts a place fair, made.parts_are.made p l cuts a place (good_branches p cuts a m kernel at bs fair)),
        tt,
      ),
      subst (λ n. AreMade l (behind n k.numbers) tail) (same_place before after _ (loops_among made.parts) (told_loops made.relays text) made.parts_are.loops) others,
    );
    loops = λ tail. more_loops before after _ (loops_among made.parts) (loops_in tail) (told_loops made.relays text) made.parts_are.loops;
    size = λ tail. more_room _ _ _ _ (told_size made.relays text) made.parts_are.size;
    braces = λ tail. more_braces _ _ _ _ (told_braces made.relays text) made.parts_are.braces;
  }

  pub choice_there : (areas : List Area) (gs : List Guard) → IsThere k.range k.whole areas true → AreGuardsOf k.range k.roles areas gs → AreTakers k.whole k.held m (T.choice kernel at bs) areas →
      IsStmtOf k before after m (T.choice kernel at bs) (only_when gs codes ∷ [])
  choice_there areas gs ranked of taken = subst (λ cs. IsStmtOf k before after m (T.choice kernel at bs) (only_when gs cs ∷ [])) (sym made.is) (there_with areas gs ranked of taken)

-- ---- where nobody takes part

nobody_told : (sc : Scope) (a : Around) (m : Mark) (kernel : ℕ) (at : CoreEnd) (bs : BranchTrees) (n i : ℤ) (role : ℕ) (x : ℤ) (j l : ℕ) → takers sc a m (T.choice kernel at bs) n i role x ≡ false → is_told sc a bs j l n i role x ≡ false
nobody_told sc a m kernel at bs n i role x j l h =
    untold (a.held n role x) (rank sc.roles n role x) (flat_branches sc.roles n a.opens (pos 0) bs) j l
    (or_parts (rank_of sc.roles n at (pos 0) == rank sc.roles n role x) _ (or_parts _ false h).0).1

-- branches without a statement
abbrev blanks : BranchTrees → Parts
blanks T.no_branch = no_part
blanks (T.branch m b bs) = part nothing (blanks bs)

unreached : (sc : Scope) (h : Here) (a : Around) → Nobody sc h everyone → (bs : BranchTrees) → Shapes sc h a bs (blanks bs)
unreached sc h a none T.no_branch = S.no_shape
unreached sc h a none (T.branch m b bs) = S.branch (S.unreached none) (unreached sc h a none bs)

pub choice_gone : (k : Known) (before : ℕ) (m : Mark) (kernel : ℕ) (at : CoreEnd) (bs : BranchTrees) (areas : List Area) → IsThere k.range k.whole areas false → AreTakers k.whole k.held m (T.choice kernel at bs) areas →
    IsStmtOf k before before m (T.choice kernel at bs) []
choice_gone k before m kernel at bs areas none taken = record {
  shape = λ p l cuts a h place fair reached rest tail others.
      let s = T.choice kernel at bs in
      let takes : (n i : ℤ) (role : ℕ) (x : ℤ) → IsIn p.range n → is_rank p.roles n role x ≡ true → takers (scope_of p) a m s n i role x ≡ false
      = λ n i role x within r. sym (areas_are k p l cuts a place m s fair areas taken n i role x within r) ∙ none n role x (in_range k p l cuts a place n within) (whole_has k p l cuts a place n role x within ∙ r) in
      S.choice {parts = blanks bs} (end_guard at) [] [] reached.some (G.gone (nobody k p l cuts a place m s fair areas taken none h))
      (λ n i role x within r here. guard_holds at n i role x)
      (λ j lab n i role x within r here. sym (nobody_told (scope_of p) a m kernel at bs n i role x j lab (takes n i role x within r)))
      (All-nil (λ (t : Test). Somebody (scope_of p) (inside h (takers (scope_of p) a m s)) (λ n i role x. hold t.guards n i role x)))
      (λ n role x j lab within r other told. absurd (false≢true (sym (nobody_told (scope_of p) a m kernel at bs n (pos 0) role x j lab (takes n (pos 0) role x within r)) ∙ told)))
      (All-nil (λ (q : Relay). Someone (scope_of p) (inside h (takers (scope_of p) a m s)) (λ n i role x. hold q.guards n x role x && not (is_chooser q.from at n x || is_at at n (pos 0) role x))))
      (unreached (scope_of p) (inside h (takers (scope_of p) a m s)) a (nobody_inside k p l cuts a place m s fair areas taken none h) bs) others;
  made = λ p l cuts a place fair tail others. others;
  loops = λ tail. refl;
  size = λ tail. no_less _ _;
  braces = λ tail. no_deeper _ _;
}
