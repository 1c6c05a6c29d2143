-- Terms of a system: a variable's number, plus an offset.
use Rattle.std.specs.Prelude.{ℕ, ◌^◌, ◌<◌, ℤ, ◌+ℤ◌}
use Rattle.pb_affine.specs.declared.lin.Base.{Base}
use Rattle.pb_affine.specs.declared.lin.Base.TheVariants.{Fixed, Param, Var}
use Rattle.pb_diff.specs.Systems.{IsWithin}
use Rattle.pb_diff_apart.specs.declared.term.Term.{Term}

abbrev pub term_value : Term → (ℕ → ℤ) → ℤ
term_value t s = s t.variable +ℤ t.offset

-- one of three variables, and an offset within 2 ^ 34 of zero
pub record IsTerm (t : Term) : Type 0 where
  pub variable : t.variable < 3
  pub near : IsWithin (2 ^ 34) t.offset

-- 0, N, or the variable that a lin is over
abbrev pub variable_of : Base → ℕ → ℕ
variable_of Fixed own = 0
variable_of Param own = 1
variable_of Var own = own
