-- The sender's index, from the receiver's.
use Rattle.std.proofs.Common.{◌≡◌, ℤ, ◌+ℤ◌, ◌-ℤ◌, neg_ℤ, true, refl, ap, sym, ◌∙◌, arith}
use Rattle.std.proofs.lemmas.Bool.{false≢true}
use Rattle.std.proofs.lemmas.Int.{ints}
use Rattle.pb_affine.specs.declared.lin.Base.{Base}
use Rattle.pb_affine.specs.declared.lin.Base.TheVariants.{Fixed, Param, Var}
use Rattle.pb_affine.specs.declared.lin.Lin.{Lin}
use Rattle.pb_affine.specs.Values.{value, base_value, put_base}
use Rattle.pb_core_language.specs.Sound.{is_over_n}
use Rattle.pb_core_flat.specs.Seated.{rank}
use Rattle.pb_core_flat.specs.Laws.{PutIs, SourceAtFirst, SourceAtSome}

sum_turned : (a b c : ℤ) → b +ℤ a +ℤ c ≡ a +ℤ (b +ℤ c)
sum_turned a b c = omega (arith, ints)

put_is_by : (base : Base) (off : ℤ) (by : Lin) (n i : ℤ) → value (put_base base (record { base = base; off = off }) by) n i ≡ off +ℤ base_value base n (value by n i)
put_is_by Fixed off by n i = refl
put_is_by Param off by n i = refl
put_is_by Var off by n i = sum_turned off by.off (base_value by.base n i)

pub put_is : PutIs
put_is l by n i = put_is_by l.base l.off by n i

no_var : (base : Base) (off n i j : ℤ) → is_over_n base ≡ true → off +ℤ base_value base n i ≡ off +ℤ base_value base n j
no_var Fixed off n i j h = refl
no_var Param off n i j h = refl
no_var Var off n i j h = absurd (false≢true h)

-- a lin over N is the same whatever the variable
pub over_n_is : (l : Lin) (n i j : ℤ) → is_over_n l.base ≡ true → value l n i ≡ value l n j
over_n_is l n i j h = no_var l.base l.off n i j h

pub source_at_first : SourceAtFirst
source_at_first roles n f low i x h =
    ap (λ z. rank roles n f.role z) (ap (λ z. value f.at n z) (over_n_is low n i x h) ∙ sym (put_is f.at low n x))

back : (a b x : ℤ) → x -ℤ a ≡ neg_ℤ a +ℤ x
back a b x = omega (arith, ints)

pub source_at_some : SourceAtSome
source_at_some roles n f off x =
    ap (λ z. rank roles n f.role z) (ap (λ z. value f.at n z) (back off off x) ∙ sym (put_is f.at (record { base = Var; off = neg_ℤ off }) n x))
