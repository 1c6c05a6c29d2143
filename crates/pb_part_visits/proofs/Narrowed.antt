-- Lins with small offsets.
use Rattle.std.proofs.Common.{◌≡◌, ℤ, pos, true, refl, ap₂, sym, ◌∙◌, subst}
use Rattle.pb_affine.specs.declared.lin.Base.{Base}
use Rattle.pb_affine.specs.declared.lin.Lin.{Lin}
use Rattle.pb_part_visits.specs.Visits.{is_small_off}

pub zero_is_small : is_small_off (pos 0) ≡ true
zero_is_small = refl

pub narrow_is : (r : Lin) (b c : Base) (o p : ℤ) → r.base ≡ c → c ≡ b → p ≡ o → (is_small_off p ≡ true → r.off ≡ p) → is_small_off o ≡ true → r ≡ record { base = b; off = o }
narrow_is r b c o p eb ec eo h k =
    let off : r.off ≡ o = h (subst (λ z. is_small_off z ≡ true) (sym eo) k) ∙ eo in
    ap₂ (λ y z. let l : Lin = record { base = y; off = z } in l) (eb ∙ ec) off
