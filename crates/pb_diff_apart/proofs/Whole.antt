-- The system of all that is asked of N and the index.
use Rattle.std.proofs.Common.{◌≡◌, ◌↔◌, ℕ, zero, suc, ◌<◌, ℤ, pos, ◌+ℤ◌, ◌≤ℤ◌, Some, [], true, int_le, sym, ap, ◌∙◌, subst, arith}
use Rattle.std.proofs.lemmas.Int.{ints}
use Rattle.std.proofs.lemmas.List.Elements.{All-nil}
use Rattle.pb_affine.specs.declared.lin.Base.{Base}
use Rattle.pb_affine.specs.declared.lin.Base.TheVariants.{Fixed, Param, Var}
use Rattle.pb_affine.specs.declared.lin.Lin.{Lin}
use Rattle.pb_affine.specs.declared.guard.Guard.{Guard}
use Rattle.pb_affine.specs.declared.range.NRange.{NRange}
use Rattle.pb_affine.specs.Values.{value, base_value, holds, is_at_least}
use Rattle.pb_cases.specs.Breakpoints.{IsInRange}
use Rattle.pb_diff.specs.Systems.{Differences, Satisfies, Keeps, IsBoundedBelow, has_pair}
use Rattle.pb_diff_apart.specs.Adding.{Adds}
use Rattle.pb_diff_apart.specs.Apart.{IsPlace}
use Rattle.pb_diff_apart.proofs.Meanings.{low_of}

-- the low end grows with N
grows : (b : Base) (off a n : ℤ) → a ≤ℤ n → (off +ℤ base_value b a (pos 0)) ≤ℤ (off +ℤ base_value b n (pos 0))
grows Fixed off a n le = omega (arith, ints)
grows Param off a n le = omega (arith, ints)
grows Var off a n le = omega (arith, ints)

-- what the guard says of its low end
low_holds : (g : Guard) (low : Lin) (n x : ℤ) → g.low ≡ Some low → holds g n (pos 0) g.role x ≡ true → value low n (pos 0) ≤ℤ x
low_holds g low n x is h =
    let test : int_le (value low n (pos 0)) x ≡ true = subst (λ o. is_at_least x o n (pos 0) ≡ true) is (low_of g n x h) in
    le_of (value low n (pos 0)) x test
  where
    le_of : (a b : ℤ) → int_le a b ≡ true → a ≤ℤ b
    le_of a b t = grind (arith, ints)

least_holds : (range : NRange) (g : Guard) (low : Lin) (n x : ℤ) → g.low ≡ Some low → IsInRange range n → holds g n (pos 0) g.role x ≡ true → value low (pos range.low) (pos 0) ≤ℤ x
least_holds range g low n x is n_in h =
    let up : value low (pos range.low) (pos 0) ≤ℤ value low n (pos 0) = grows low.base low.off (pos range.low) n n_in.low in
    let le : value low n (pos 0) ≤ℤ x = low_holds g low n x is h in
    omega (arith, ints, up, le)

pub record IsWhole (range : NRange) (g h : Guard) (p q : Lin) (d : Differences) : Type 0 where
  pub vars : d.vars ≡ 3
  pub bounded : IsBoundedBelow d
  pub solutions : (s : ℕ → ℤ) → Satisfies d s ↔ ((s 0 ≡ pos 0) × IsPlace range g h p q (s 1) (s 2))

two_lows : (d : Differences) → d.vars ≡ 3 → has_pair 0 1 d.list ≡ true → has_pair 0 2 d.list ≡ true → IsBoundedBelow d
two_lows d vars one two = record { lows = λ v some lt. at v some (omega (arith, vars)) } where
  at : (v : ℕ) → 0 < v → v < 3 → has_pair 0 v d.list ≡ true
  at zero some lt = absurd (omega arith)
  at (suc zero) some lt = one
  at (suc (suc zero)) some lt = two
  at (suc (suc (suc v))) some lt = absurd (omega arith)

pub whole : (range : NRange) (g h : Guard) (low p q : Lin) (d0 d1 d2 d3 d4 d5 : Differences) → d0 ≡ record { vars = 3; list = [] } → g.low ≡ Some low
    → Adds d0 d1 2 (λ s. IsInRange range (s 1)) → has_pair 0 1 d1.list ≡ true
    → Adds d1 d2 1 (λ s. value low (pos range.low) (pos 0) ≤ℤ s 2) → has_pair 0 2 d2.list ≡ true
    → Adds d2 d3 4 (λ s. holds g (s 1) (pos 0) g.role (s 2) ≡ true)
    → Adds d3 d4 4 (λ s. holds h (s 1) (pos 0) h.role (s 2) ≡ true)
    → Adds d4 d5 1 (λ s. (value p (s 1) (s 2) +ℤ pos 1) ≤ℤ value q (s 1) (s 2))
    → IsWhole range g h p q d5
whole range g h low p q d0 d1 d2 d3 d4 d5 start low_is a one b two c d e = record {
  vars = vars;
  bounded = two_lows d5 vars (e.pairs 1 (d.pairs 1 (c.pairs 1 (b.pairs 1 one)))) (e.pairs 2 (d.pairs 2 (c.pairs 2 two)));
  solutions = λ s. (there s, back s);
} where
  vars : d5.vars ≡ 3
  vars = e.vars ∙ d.vars ∙ c.vars ∙ b.vars ∙ a.vars ∙ ap (λ x. x.vars) start

  there : (s : ℕ → ℤ) → Satisfies d5 s → (s 0 ≡ pos 0) × IsPlace range g h p q (s 1) (s 2)
  there s sat =
      let p5 = (e.solutions s).0 sat in
      let p4 = (d.solutions s).0 p5.0 in
      let p3 = (c.solutions s).0 p4.0 in
      let p2 = (b.solutions s).0 p3.0 in
      let p1 = (a.solutions s).0 p2.0 in
      (p1.0.zero_first, record { in_range = p1.1; in_g = p3.1; in_h = p4.1; less = p5.1 })

  back : (s : ℕ → ℤ) → (s 0 ≡ pos 0) × IsPlace range g h p q (s 1) (s 2) → Satisfies d5 s
  back s p0 =
      let place : IsPlace range g h p q (s 1) (s 2) = p0.1 in
      let none : Satisfies d0 s = subst (λ x. Satisfies x s) (sym start) (record { zero_first = p0.0; all = All-nil (Keeps s) }) in
      let s1 = (a.solutions s).1 (none, place.in_range) in
      let s2 = (b.solutions s).1 (s1, least_holds range g low (s 1) (s 2) low_is place.in_range place.in_g) in
      let s3 = (c.solutions s).1 (s2, place.in_g) in
      let s4 = (d.solutions s).1 (s3, place.in_h) in
      (e.solutions s).1 (s4, place.less)
