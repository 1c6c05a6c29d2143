-- The test of whether two names are the same.
use Rattle.std.proofs.Common.{◌≡◌, ◌≢◌, ℕ, Bool, true, false, List, nat_eq, refl}
use Rattle.std.specs.Cmp.Lexicographic.{pointwise}
use Rattle.std.proofs.lemmas.Slice.Eq.{bytes_eq-Decides}

pub same_name : (a b : List ℕ) → a ≡ b → pointwise nat_eq a b ≡ true
same_name a b e = (bytes_eq-Decides a b).1 e

pub named_so : (a b : List ℕ) → pointwise nat_eq a b ≡ true → a ≡ b
named_so a b e = (bytes_eq-Decides a b).0 e

pub other_name : (a b : List ℕ) → a ≢ b → pointwise nat_eq a b ≡ false
other_name a b ne = by_test (pointwise nat_eq a b) refl where
  by_test : (test : Bool) → pointwise nat_eq a b ≡ test → test ≡ false
  by_test true e = absurd (ne (named_so a b e))
  by_test false e = refl
