-- Two ways to cut a list.
use Rattle.std.proofs.Common.{◌≡◌, List, [], ◌∷◌, ◌++◌, ◌⊎◌, inl, inr, refl, sym}
use Rattle.pb_text.specs.declared.token.Token.{Token}

-- the first way cuts inside the head of the second, or inside its tail
pub record InHead (xs ys head tail : List Token) : Type 0 where
  pub mid : List Token
  pub longer : head ≡ xs ++ mid
  pub back : ys ≡ mid ++ tail

pub record InTail (xs ys head tail : List Token) : Type 0 where
  pub mid : List Token
  pub front : xs ≡ head ++ mid
  pub left : tail ≡ mid ++ ys

pub cuts : (xs ys head tail : List Token) → xs ++ ys ≡ head ++ tail → InHead xs ys head tail ⊎ InTail xs ys head tail
cuts [] ys head tail e = inl (record { mid = head; longer = refl; back = e })
cuts (x ∷ xs) ys [] tail e = inr (record { mid = x ∷ xs; front = refl; left = sym e })
cuts (x ∷ xs) ys (h ∷ head) tail e =
    let same : x ≡ h = cc in
    let rest : xs ++ ys ≡ head ++ tail = cc in
    elim (cuts xs ys head tail rest) [
      | inl p ↦ inl (record { mid = p.mid; longer = cc (p.longer, same); back = p.back })
      | inr p ↦ inr (record { mid = p.mid; front = cc (p.front, same); left = p.left })
    ]

pub nil_front : (xs ys : List Token) → xs ++ ys ≡ [] → xs ≡ []
nil_front [] ys e = refl
nil_front (x ∷ xs) ys e = cc
