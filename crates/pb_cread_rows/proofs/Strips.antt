-- What a name is.
use Rattle.std.proofs.Common.{◌≡◌, ℕ, Bool, true, false, List, [], ◌∷◌, length, refl}
use Rattle.std.specs.Prelude.{◌&&◌, nat_lt, not}
use Rattle.pb_local.specs.Names.{is_word, is_keyword, is_name}
use Rattle.std.proofs.Common.{ltb-true, ◌<◌, arith}

name_parts : (a b c : Bool) → ((a && b) && c) ≡ true → (a ≡ true) × (b ≡ true)
name_parts true true c e = (refl, refl)
name_parts true false c e = absurd cc
name_parts false b c e = absurd cc

-- a name has 1 to 64 bytes
pub name_some : (w : List ℕ) → is_name w ≡ true → 0 < length w
name_some w e = some w (name_parts (is_word w) (nat_lt (length w) 65) (not (is_keyword w)) e).0 where
  some : (w : List ℕ) → is_word w ≡ true → 0 < length w
  some [] e = absurd cc
  some (c ∷ cs) e = omega arith

pub name_short : (w : List ℕ) → is_name w ≡ true → length w < 65
name_short w e = ltb-true (length w) 65 (name_parts (is_word w) (nat_lt (length w) 65) (not (is_keyword w)) e).1
