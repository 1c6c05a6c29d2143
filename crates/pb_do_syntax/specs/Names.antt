-- Names, and where one stands among others.
use Rattle.std.specs.Prelude.{ℕ, Bool, true, false, ◌||◌, nat_eq, Option, Some, None, List, [], ◌∷◌, slice_get, slice_index_or}
use Rattle.std.specs.Cmp.Lexicographic.{pointwise}
use Rattle.pb_text.specs.declared.place.Place.{Place}
use Rattle.pb_text.specs.declared.place.Spot.{Spot}
use Rattle.pb_text.specs.Tables.{position_of}
use Rattle.pb_syntax.specs.declared.tree.RoleText.{RoleText}
use Rattle.pb_do_syntax.specs.Calls.{PlainSub}

abbrev pub Name : Type 0
Name = List ℕ

abbrev pub same : Name → Name → Bool
same a b = pointwise nat_eq a b

abbrev pub is_named : Name → List Name → Bool
is_named x [] = false
is_named x (y ∷ ys) = same x y || is_named x ys

abbrev pub names : List Spot → List Name
names [] = []
names (s ∷ ss) = s.name ∷ names ss

abbrev pub role_names : List RoleText → List Name
role_names [] = []
role_names (r ∷ rs) = r.role.name ∷ role_names rs

abbrev pub sub_names : List PlainSub → List Name
sub_names [] = []
sub_names (s ∷ ss) = s.name.name ∷ sub_names ss

-- the subprotocol at a position that was looked for
abbrev pub sub_at : List PlainSub → Option ℕ → Option PlainSub
sub_at subs (Some i) = slice_get subs i
sub_at subs None = None

-- the first subprotocol with this name
abbrev pub sub_named : List PlainSub → Name → Option PlainSub
sub_named subs x = sub_at subs (position_of x (sub_names subs))

abbrev pub params_of : Option PlainSub → List Name
params_of None = []
params_of (Some sub) = names sub.params
