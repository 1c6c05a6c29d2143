-- The names of bodies.
use Rattle.std.specs.Prelude.{◌≡◌, ℕ, Bool, true, false, not, ◌&&◌, List, [], ◌∷◌, ◌++◌, Option, None, Some, map, nat_eq, if◌then◌else◌}
use Rattle.std.specs.List.{list_any}
use Rattle.std.specs.Cmp.Lexicographic.{pointwise}
use Rattle.pb_ctree.specs.declared.kernel.Kind.{Kind}
use Rattle.pb_ctree.specs.declared.kernel.Kind.TheVariants.{Prelude, Compute, Choice, Make, Take, Room}
use Rattle.pb_ctree.specs.declared.kernel.KName.{KName}
use Rattle.pb_kernels.specs.declared.file.NamedBody.{NamedBody}

abbrev pub kind_number : Kind → ℕ
kind_number Prelude = 0
kind_number Compute = 1
kind_number Choice = 2
kind_number Make = 3
kind_number Take = 4
kind_number Room = 5

abbrev pub same_words : Option (List ℕ) → Option (List ℕ) → Bool
same_words None None = true
same_words None (Some other) = false
same_words (Some word) None = false
same_words (Some word) (Some other) = pointwise nat_eq word other

-- the two names are the same
abbrev pub same_name : KName → KName → Bool
same_name a b = nat_eq (kind_number a.kind) (kind_number b.kind) && same_words a.name b.name

-- entries as bodies with their names
abbrev pub named_bodies : List (KName × List ℕ) → List NamedBody
named_bodies entries = map (λ e. record { name = e.0; body = e.1 }) entries

abbrev pub names_of : List NamedBody → List KName
names_of list = map (λ b. b.name) list

-- a body has this name
abbrev pub is_among : KName → List NamedBody → Bool
is_among name list = list_any (λ b. same_name name b.name) list

-- the bytes of the body with this name; none where there is no such body
abbrev pub body_of : KName → List NamedBody → List ℕ
body_of name [] = []
body_of name (b ∷ bs) = if same_name name b.name then b.body else body_of name bs

abbrev pub are_new : List NamedBody → List NamedBody → Bool
are_new before [] = true
are_new before (b ∷ bs) = not (is_among b.name before) && are_new (before ++ b ∷ []) bs

-- no body has the name of one before it
abbrev pub are_distinct : List NamedBody → Bool
are_distinct list = are_new [] list

-- a name is among the second where it is among the first
abbrev pub HasNames : List KName → List KName → Type 0
HasNames list names = (name : KName) → list_any (λ f. same_name name f) names ≡ list_any (λ f. same_name name f) list
