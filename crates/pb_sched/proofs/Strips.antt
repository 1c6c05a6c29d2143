-- A value with the bytes behind it.
use Rattle.std.proofs.Common.{◌≡◌, ℕ, List, Option, Some, None, ap}
use Rattle.std.specs.Option.{unwrap_or}
use Rattle.pb_sched.specs.Parts.{with}

pub some_pair : {A B : Type 0} {a c : A} {b d : B} → ◌≡◌ {A = Option (A × B)} (Some (a, b)) (Some (c, d)) → (a ≡ c) × (b ≡ d)
some_pair {A} {B} {a} {c} {b} {d} h =
    let e : ◌≡◌ {A = A × B} (a, b) (c, d) = ap (λ (o : Option (A × B)). unwrap_or o (a, b)) h in
    (ap (λ (z : A × B). z.0) e, ap (λ (z : A × B). z.1) e)

pub no_pair : {A B : Type 0} {a : A} {b : B} → ◌≡◌ {A = Option (A × B)} None (Some (a, b)) → ⊥
no_pair h = absurd cc

pub with_sound : {A : Type 0} (x y : A) (o : Option (List ℕ)) (rest : List ℕ) → with x o ≡ Some (y, rest) → (x ≡ y) × (o ≡ Some rest)
with_sound x y None rest h = absurd cc
with_sound x y (Some r) rest h = let p = some_pair h in (p.0, ap (λ xs. Some xs) p.1)
