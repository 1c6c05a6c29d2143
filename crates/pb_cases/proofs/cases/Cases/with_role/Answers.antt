use Rattle.std.proofs.Common.{◌≡◌, ◌∙◌, sym, subst, List, ◌+◌, MatchOption}
use Rattle.std.specs.List.{All}
use Rattle.pb_affine.specs.declared.guard.Guard.{Guard}
use Rattle.pb_affine.specs.Values.{IsSmallGuard}
use Rattle.pb_cases.specs.Bounds.{IsAligned}
use Rattle.pb_cases.specs.Regions.{IsFirst, IsNowhere, is_wanted}
use Rattle.pb_cases.specs.Search.{IsOfRole}
use Rattle.pb_cases.specs.Roles.{IsSoFar, guard_at, of_role}
use Rattle.pb_cases.proofs.Parts.{all_of_role, own_of_role, part_of, earlier_step}
use Rattle.pb_cases.proofs.cases.Cases.with_role.Goals as goal

pub first_of_one-requires-clause-a : goal.first_of_one-requires-clause-a
first_of_one-requires-clause-a c = subst (λ (l : List Guard). All (IsAligned c.args.self.now) l) (sym (c.deref.ensures.value ∙ c.in_ok-own_a.ensures)) (all_of_role (IsAligned c.args.self.now) (guard_at c.args.a.now c.args.i).role c.args.a.now c.requires.a)

pub first_of_one-requires-clause-b : goal.first_of_one-requires-clause-b
first_of_one-requires-clause-b c = subst (λ (l : List Guard). All (IsAligned c.args.self.now) l) (sym (c.deref-2.ensures.value ∙ c.in_ok-own_b.ensures)) (all_of_role (IsAligned c.args.self.now) (guard_at c.args.a.now c.args.i).role c.args.b.now c.requires.b)

pub first_of_one-requires-clause-a_small : goal.first_of_one-requires-clause-a_small
first_of_one-requires-clause-a_small c = subst (λ (l : List Guard). All IsSmallGuard l) (sym (c.deref.ensures.value ∙ c.in_ok-own_a.ensures)) (all_of_role IsSmallGuard (guard_at c.args.a.now c.args.i).role c.args.a.now c.requires.a_small)

pub first_of_one-requires-clause-b_small : goal.first_of_one-requires-clause-b_small
first_of_one-requires-clause-b_small c = subst (λ (l : List Guard). All IsSmallGuard l) (sym (c.deref-2.ensures.value ∙ c.in_ok-own_b.ensures)) (all_of_role IsSmallGuard (guard_at c.args.a.now c.args.i).role c.args.b.now c.requires.b_small)

pub first_of_one-requires-clause-a_own : goal.first_of_one-requires-clause-a_own
first_of_one-requires-clause-a_own c = subst (λ (l : List Guard). All (IsOfRole (guard_at c.args.a.now c.args.i).role) l) (sym (c.deref.ensures.value ∙ c.in_ok-own_a.ensures)) (own_of_role (guard_at c.args.a.now c.args.i).role c.args.a.now)

pub first_of_one-requires-clause-b_own : goal.first_of_one-requires-clause-b_own
first_of_one-requires-clause-b_own c = subst (λ (l : List Guard). All (IsOfRole (guard_at c.args.a.now c.args.i).role) l) (sym (c.deref-2.ensures.value ∙ c.in_ok-own_b.ensures)) (own_of_role (guard_at c.args.a.now c.args.i).role c.args.b.now)

pub returns : goal.returns
returns c =
    let role = (guard_at c.args.a.now c.args.i).role in
    let a = c.args.a.now in
    let b = c.args.b.now in
    let range = c.args.self.now.range in
    let w = c.args.wanted in
    let in_a : c.deref.result.now ≡ of_role role a = c.deref.ensures.value ∙ c.in_ok-own_a.ensures in
    let in_b : c.deref-2.result.now ≡ of_role role b = c.deref-2.ensures.value ∙ c.in_ok-own_b.ensures in
    let found : MatchOption c.in_ok-found.found (IsNowhere range (is_wanted w (of_role role a) (of_role role b))) (λ bad. IsFirst range (is_wanted w (of_role role a) (of_role role b)) bad.n bad.role bad.index) =
    subst (λ (l : List Guard). MatchOption c.in_ok-found.found (IsNowhere range (is_wanted w l (of_role role b))) (λ bad. IsFirst range (is_wanted w l (of_role role b)) bad.n bad.role bad.index)) in_a
    (subst (λ (l : List Guard). MatchOption c.in_ok-found.found (IsNowhere range (is_wanted w c.deref.result.now l)) (λ bad. IsFirst range (is_wanted w c.deref.result.now l) bad.n bad.role bad.index)) in_b c.in_ok-found.ensures) in
    subst (λ o. IsSoFar range w a b (c.args.i + 1) o) (sym c.earlier.ensures) (earlier_step range w a b c.args.i c.args.best c.in_ok-found.found c.requires.so_far (part_of range w a b role c.in_ok-found.found found))
