use Rattle.std.proofs.Common.{rules, ◌≡◌, ℕ, suc, ◌-◌, ◌*◌, ◌<◌, pos, None, get_or, subst, arith, w64, to_z-of_z, SFits, refl, [], ◌∷◌, zero}
use Rattle.pb_diff.specs.Tables.{Holds}
use Rattle.pb_diff.specs.Systems.{number}
use Rattle.pb_diff.proofs.Elimination.{none_here, none_down, near_more, reach_most, near_eliminated, lows_eliminated, extended, first_least}
use Rattle.pb_diff.proofs.table.+solved.Goals as goal

-- six zeros
zeros : (v : ℕ) → number (pos 0 ∷ pos 0 ∷ pos 0 ∷ pos 0 ∷ pos 0 ∷ pos 0 ∷ []) v ≡ pos 0
zeros zero = refl
zeros (suc zero) = refl
zeros (suc (suc zero)) = refl
zeros (suc (suc (suc zero))) = refl
zeros (suc (suc (suc (suc zero)))) = refl
zeros (suc (suc (suc (suc (suc v))))) = last v where
  last : (v : ℕ) → number (pos 0 ∷ []) v ≡ pos 0
  last zero = refl
  last (suc v) = refl

pub returns-then-not-allows_zero : goal.returns-then-not-allows_zero
returns-then-not-allows_zero t c =
    let e : suc (c.args.vars - 1) ≡ c.args.vars = omega arith in
    none_here _ _ (c.args.vars - 1) e (search (rules, c.if-not-allows_zero.ensures))

pub returns-then-last-eq0 : goal.returns-then-last-eq0
returns-then-last-eq0 t c =
    let e : 1 ≡ c.args.vars = omega arith in
    let last : c.args.vars - 1 ≡ 0 = omega arith in
    let here : Holds (get_or c.args.table.now (7 * (c.args.vars - 1)) None) (pos 0) = search (rules, c.if-not-allows_zero.ensures) in
    first_least _ _ _ e refl (subst (λ k. Holds (get_or c.args.table.now (7 * k) None) (pos 0)) last here) zeros

pub eliminated-smaller-requires-clause-near : goal.eliminated-smaller-requires-clause-near
eliminated-smaller-requires-clause-near t c = near_more _ _ _ (reach_most _ c.requires.some) c.requires.near

pub raised-requires-clause-near : goal.raised-requires-clause-near
raised-requires-clause-near t c = near_more _ _ _ (reach_most _ c.requires.some) c.requires.near

pub solved-requires : goal.solved-requires
solved-requires t c =
    let e : suc (c.args.vars - 1) ≡ c.args.vars = omega arith in
    (omega arith, (omega arith, (omega arith, (near_eliminated _ _ _ _ e c.requires.few c.eliminated-smaller.ensures c.requires.near, lows_eliminated _ _ _ _ e c.requires.few c.eliminated-smaller.ensures c.requires.lows))))

pub returns-in-None : goal.returns-in-None
returns-in-None t c =
    let e : suc (c.args.vars - 1) ≡ c.args.vars = omega arith in
    none_down _ _ _ (c.args.vars - 1) e (omega arith) c.eliminated-smaller.ensures c.in-None.ensures

pub returns-in-Some : goal.returns-in-Some
returns-in-Some t c =
    let e : suc (c.args.vars - 1) ≡ c.args.vars = omega arith in
    let some : 0 < c.args.vars - 1 = omega arith in
    let here : Holds (get_or c.args.table.now (7 * (c.args.vars - 1)) None) (pos 0) = search (rules, c.if-not-allows_zero.ensures) in
    let fits : SFits w64 c.raised.result = search rules in
    simp to_z-of_z (extended _ _ _ (c.args.vars - 1) c.in-Some.numbers c.raised.result e c.requires.few some c.eliminated-smaller.ensures c.requires.near here c.in-Some.ensures c.raised.ensures.above c.raised.ensures.met)
