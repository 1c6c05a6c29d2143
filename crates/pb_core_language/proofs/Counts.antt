-- How many names a lin and a range visit, and how many statements and blocks a message is.
use Rattle.std.proofs.Common.{◌≤◌, Bool, true, false, if◌then◌else◌, Option, Some, None, length, length-append, arith}
use Rattle.pb_text.specs.declared.place.Spot.{Spot}
use Rattle.pb_syntax.specs.declared.tree.LinText.{LinText}
use Rattle.pb_syntax.specs.declared.tree.RangeText.{RangeText}
use Rattle.pb_core_language.specs.Names.{Name, Scope, lin_visits, range_visits}

pub lin_few : (c : Name) (scope : Scope) (l : LinText) → length (lin_visits c scope l) ≤ 1
lin_few c scope l = at l.base
  where
    at : (b : Option Spot) → length (lin_visits c scope (record { base = b; off = l.off; place = l.place })) ≤ 1
    at None = omega arith
    at (Some x) = omega arith

pub range_few : (c : Name) (scope : Scope) (over : RangeText) → length (range_visits c scope over) ≤ 2
range_few c scope over =
    let e = length-append (lin_visits c scope over.low) (lin_visits c scope over.high) in
    omega (arith, e, lin_few c scope over.low, lin_few c scope over.high)

pub two_at_most : (a b : Bool) → (if a then 2 else (if b then 2 else 1)) ≤ 2
two_at_most true b = omega arith
two_at_most false true = omega arith
two_at_most false false = omega arith

pub one_at_most : (a b : Bool) → (if a then 1 else (if b then 1 else 0)) ≤ 1
one_at_most true b = omega arith
one_at_most false true = omega arith
one_at_most false false = omega arith
