-- How the parts of a line are read.
use Rattle.std.specs.Prelude.{◌≡◌, ℕ, ℤ, pos, ◌^◌, neg_ℤ, nat_le, Bool, ◌||◌, cond, List, Option, Some, None, codes, take, drop}
use Rattle.std.specs.List.{prefix_len}
use Rattle.pb_text_read.specs.Fronts.{◌>>=◌, strip, after, number_below}
use Rattle.pb_affine.specs.declared.lin.Base.{Base}
use Rattle.pb_affine.specs.declared.lin.Base.TheVariants.{Fixed, Param}
use Rattle.pb_affine.specs.declared.lin.Lin.{Lin}
use Rattle.pb_local.specs.Names.{is_letter, is_digit, is_name}

-- a number that fits 32 bits, and the bytes behind it
abbrev pub number_at : List ℕ → Option (ℕ × List ℕ)
number_at bytes = number_below (2 ^ 32) bytes

-- a number that an offset may be
abbrev pub small_at : List ℕ → Option (ℕ × List ℕ)
small_at bytes = number_at bytes >>= λ n. cond (nat_le n.0 1000000) (Some n) None

abbrev pub minus : ℕ → ℤ
minus n = neg_ℤ (pos n)

abbrev pub plus_at : List ℕ → Option (ℤ × List ℕ)
plus_at bytes = small_at bytes >>= λ n. Some (pos n.0, n.1)

abbrev pub minus_at : List ℕ → Option (ℤ × List ℕ)
minus_at bytes = small_at bytes >>= λ n. Some (minus n.0, n.1)

abbrev pub signed_at : List ℕ → Option (ℤ × List ℕ)
signed_at bytes = after (strip (codes "-") bytes) minus_at (plus_at bytes)

-- what stands behind N
abbrev pub offset_at : List ℕ → Option (ℤ × List ℕ)
offset_at bytes = after (strip (codes " + ") bytes) plus_at (after (strip (codes " - ") bytes) minus_at (Some (pos 0, bytes)))

abbrev pub lin_of : Base → ℤ → Lin
lin_of base off = record { base = base; off = off }

-- a lin without the variable
abbrev pub lin_at : List ℕ → Option (Lin × List ℕ)
lin_at bytes = after (strip (codes "N") bytes) (λ b. offset_at b >>= λ z. Some (lin_of Param z.0, z.1)) (signed_at bytes >>= λ z. Some (lin_of Fixed z.0, z.1))

abbrev pub goes_on_name : ℕ → Bool
goes_on_name c = is_letter c || is_digit c

abbrev pub word_of : List ℕ → List ℕ
word_of bytes = take (prefix_len goes_on_name bytes) bytes

abbrev pub behind_word : List ℕ → List ℕ
behind_word bytes = drop (prefix_len goes_on_name bytes) bytes

-- a name, and the bytes behind it
abbrev pub name_at : List ℕ → Option (List ℕ × List ℕ)
name_at bytes = cond (is_name (word_of bytes)) (Some (word_of bytes, behind_word bytes)) None

-- what a function returned, and what it left, is what reading gives
abbrev pub GivesTo : {X : Type 0} → Option X → List ℕ → Option (X × List ℕ) → Type 0
GivesTo None rest read = read ≡ None
GivesTo (Some x) rest read = read ≡ Some (x, rest)
