-- The ranks at the ends of a foreach's items, for some value of its variable.
use Rattle.std.specs.Prelude.{ℕ, ℤ, pos, ◌+ℤ◌, int_le, Bool, true, false, ◌||◌, ◌&&◌, nat_eq, if◌then◌else◌}
use Rattle.std.specs.Ordering.{int_eq}
use Rattle.pb_affine.specs.declared.lin.Base.{Base}
use Rattle.pb_affine.specs.declared.lin.Base.TheVariants.{Fixed, Param, Var}
use Rattle.pb_affine.specs.Values.{value}
use Rattle.pb_core_language.specs.declared.tree.CoreEnd.{CoreEnd}
use Rattle.pb_core_language.specs.Tree.{StmtTree, message, foreach, loop, again, choice, run, barrier, broadcast, reduce, allreduce, BlockTree, nothing, more}

-- the end moves with the variable
abbrev pub is_var : Base → Bool
is_var Fixed = false
is_var Param = false
is_var Var = true

abbrev pub is_moving : CoreEnd → Bool
is_moving e = is_var e.at.base

-- An offset and an index: the index is that of i + offset for some i from low to high.
abbrev pub is_passed : ℤ → ℤ → ℤ → ℤ → Bool
is_passed off low high x = int_le (low +ℤ off) x && int_le x (high +ℤ off)

-- the end asks for this role and index for some value of the variable from low to high
abbrev pub is_met : CoreEnd → ℤ → ℤ → ℤ → ℕ → ℤ → Bool
is_met e low high n role x = nat_eq e.role role && (if is_moving e then is_passed e.at.off low high x else int_le low high && int_eq (value e.at n (pos 0)) x)

-- some end of a message or of a compute does, and some end of these
abbrev pub meets : StmtTree → ℤ → ℤ → ℤ → ℕ → ℤ → Bool
meets (message l f t) low high n role x = is_met f low high n role x || is_met t low high n role x
meets (foreach h m items) low high n role x = false
meets (loop id m body) low high n role x = false
meets (again id) low high n role x = false
meets (choice k at bs) low high n role x = false
meets (run k at) low high n role x = is_met at low high n role x
meets barrier low high n role x = false
meets (broadcast l root) low high n role x = false
meets (reduce l op root) low high n role x = false
meets (allreduce l op) low high n role x = false

abbrev pub meet : BlockTree → ℤ → ℤ → ℤ → ℕ → ℤ → Bool
meet nothing low high n role x = false
meet (more m s rest) low high n role x = meets s low high n role x || meet rest low high n role x
