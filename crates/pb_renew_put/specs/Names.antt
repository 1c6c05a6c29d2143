-- The files beside OUT.
use Rattle.std.specs.Prelude.{◌≡◌, ℕ, Bool, ◌||◌, List, ◌++◌, codes, decimal, nat_eq, if◌then◌else◌}
use Rattle.std.specs.Cmp.Lexicographic.{pointwise}
use Rattle.std.specs.List.{starts_with}

-- the bodies that have no function
abbrev pub left_name : List ℕ → List ℕ
left_name out = out ++ codes ".left"

-- a new OUT, before it has its name
abbrev pub new_name : List ℕ → List ℕ
new_name out = out ++ codes ".new"

-- a new OUT.left, before it has its name
abbrev pub spare_name : List ℕ → List ℕ
spare_name out = out ++ codes ".left.new"

-- how the name of an old OUT begins that is kept
abbrev pub old_name : List ℕ → List ℕ
old_name out = out ++ codes ".old"

-- OUT.old, or OUT.old with a point and more behind it, as OUT.old.2
abbrev pub is_old_name : List ℕ → List ℕ → Bool
is_old_name out name =
    pointwise nat_eq name (old_name out) || starts_with nat_eq name (old_name out ++ codes ".")

-- OUT.old, OUT.old.2, OUT.old.3, and so on
abbrev pub old_file : List ℕ → ℕ → List ℕ
old_file out number = if nat_eq number 1 then old_name out else old_name out ++ codes "." ++ decimal number

pub record AreNames (out behind fresh extra : List ℕ) : Type 0 where
  pub left : behind ≡ left_name out
  pub new : fresh ≡ new_name out
  pub spare : extra ≡ spare_name out

-- the name of OUT or of a file beside it that is written
abbrev pub is_written : List ℕ → List ℕ → Bool
is_written out name = pointwise nat_eq name out || pointwise nat_eq name (left_name out) || pointwise nat_eq name (new_name out) || pointwise nat_eq name (spare_name out)
