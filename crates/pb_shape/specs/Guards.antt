-- Guards that hold of exactly the ranks that are meant, and an `If` of these ranks.
use Rattle.std.specs.Prelude.{◌≡◌, ◌≤◌, ℕ, ℤ, true, false, List}
use Rattle.pb_text.specs.declared.limits.TheConstants.{MOST_NUMBER}
use Rattle.pb_affine.specs.declared.guard.Guard.{Guard}
use Rattle.pb_affine.specs.Values.{hold}
use Rattle.pb_core_language.specs.Ranks.{total}
use Rattle.pb_core_language.specs.Verdict.{IsIn}
use Rattle.pb_core_flat.specs.Seated.{is_rank}
use Rattle.pb_local.specs.Tree.{Code, Codes, nothing, more}
use Rattle.pb_local.specs.Tree as L
use Rattle.pb_shape.specs.Places.{Scope, Who, Here}

-- one statement alone
abbrev pub alone : Code → Codes
alone c = more c nothing

module _ (sc : Scope) (h : Here) where
  -- the guards hold of exactly these ranks, be the variable what it may here
  abbrev pub Names : List Guard → Who → Type 0
  Names gs who = (n i : ℤ) (role : ℕ) (x : ℤ) → IsIn sc.range n → is_rank sc.roles n role x ≡ true → h.at n i ≡ true → hold gs n i role x ≡ who n i role x

  -- some N of the range has such a rank, which comes here
  pub record Someone (who : Who) : Type 0 where
    pub n : ℤ
    pub i : ℤ
    pub role : ℕ
    pub index : ℤ
    pub within : IsIn sc.range n
    pub rank : is_rank sc.roles n role index ≡ true
    pub at : h.at n i ≡ true
    pub comes : h.comes n i role index ≡ true
    pub is : who n i role index ≡ true

  -- the same, of an N with at most 2,000,000,000 ranks
  pub record Somebody (who : Who) : Type 0 where
    pub n : ℤ
    pub i : ℤ
    pub role : ℕ
    pub index : ℤ
    pub within : IsIn sc.range n
    pub few : total sc.roles n ≤ MOST_NUMBER
    pub rank : is_rank sc.roles n role index ≡ true
    pub at : h.at n i ≡ true
    pub comes : h.comes n i role index ≡ true
    pub is : who n i role index ≡ true

  -- none of these ranks comes here
  abbrev pub Nobody : Who → Type 0
  Nobody who = (n i : ℤ) (role : ℕ) (x : ℤ) → IsIn sc.range n → is_rank sc.roles n role x ≡ true → h.at n i ≡ true → h.comes n i role x ≡ true → who n i role x ≡ false

  -- An `If` of these ranks, before what follows. It is there exactly where one of them comes here, for some N of the range
  pub data One (who : Who) (first tail : Codes) : Codes → Type 0 where
    there : {gs : List Guard} → Names gs who → Somebody who → One who first tail (more (L.when gs first nothing) tail)
    gone : Nobody who → One who first tail tail
