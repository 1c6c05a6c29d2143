-- The last of some tests.
use Rattle.std.proofs.Common.{◌≡◌, ℕ, suc, ◌-◌, ◌≤◌, Bool, true, List, [], ◌∷◌, length, get_or, Some, refl, ap, sym, ◌∙◌, arith}
use Rattle.std.specs.Prelude.{nat_eq, nat_lt, ◌&&◌, ◌||◌}
use Rattle.pb_local.specs.declared.stmt.Test.{Test}
use Rattle.pb_ctree.specs.Rules.{comes_after}
use Rattle.pb_cread_statements.specs.Reading.{last_of}

pub first_in_order : (ts : List Test) → ts ≡ [] → (t : Test) → comes_after (last_of ts) t ≡ true
first_in_order ts none t = ap (λ x. comes_after (last_of x) t) none

last_got : (t : Test) (ts : List Test) (d : Test) → last_of (t ∷ ts) ≡ Some (get_or (t ∷ ts) (length ts) d)
last_got t [] d = refl
last_got t (u ∷ us) d = last_got u us d

last_is : (ts : List Test) (d : Test) → 1 ≤ length ts → d ≡ get_or ts (length ts - 1) d → last_of ts ≡ Some d
last_is [] d some is = absurd (omega (arith, some))
last_is (t ∷ ts) d some is =
    let e : length ts ≡ suc (length ts) - 1 = omega arith in
    last_got t ts d ∙ ap (λ k. Some (get_or (t ∷ ts) k d)) e ∙ ap (λ x. Some x) (sym is)

pub in_order : (ts : List Test) (b : Test) (branch label : ℕ) (r : Bool) → 1 ≤ length ts → b ≡ get_or ts (length ts - 1) b → r ≡ (nat_lt b.branch branch || (nat_eq b.branch branch && nat_lt b.label label))
    → (t : Test) → t.branch ≡ branch → t.label ≡ label → comes_after (last_of ts) t ≡ r
in_order ts b branch label r some is says t e f =
    ap (λ x. comes_after x t) (last_is ts b some is) ∙ ap (λ x. nat_lt b.branch x || (nat_eq b.branch x && nat_lt b.label t.label)) e
    ∙ ap (λ x. nat_lt b.branch branch || (nat_eq b.branch branch && nat_lt b.label x)) f ∙ sym says
