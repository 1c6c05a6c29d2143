-- A kernel file with more bodies behind its own.
use Rattle.std.specs.Prelude.{ℕ, ◌==◌, ◌&&◌, ◌||◌, not, List, [], ◌++◌, codes, length, Option, None, Some, find, nat_eq, if◌then◌else◌}
use Rattle.std.specs.List.{ends_with, flat_map}
use Rattle.pb_ctree.specs.declared.kernel.KName.{KName}
use Rattle.pb_ctree.specs.declared.kernel.Kind.{Kind}
use Rattle.pb_ctree.specs.declared.kernel.Kind.TheVariants.{Prelude, Compute, Choice, Make, Take, Room}
use Rattle.pb_kernels.specs.declared.file.NamedBody.{NamedBody}
use Rattle.pb_kernels.specs.Names.{body_of, is_among}
use Rattle.pb_renew_merge.specs.Lost.{keeps}

-- how the marker that opens a body of this kind begins
abbrev pub front_of : Kind → List ℕ
front_of Prelude = codes "/*@ prelude"
front_of Compute = codes "/*@ kernel k_"
front_of Choice = codes "/*@ kernel c_"
front_of Make = codes "/*@ kernel make_"
front_of Take = codes "/*@ kernel take_"
front_of Room = codes "/*@ kernel room_"

abbrev pub word_of : Option (List ℕ) → List ℕ
word_of None = []
word_of (Some word) = word

-- a body between its markers
unfoldable pub body_text : KName → List ℕ → List ℕ
body_text name body = front_of name.kind ++ word_of name.name ++ codes " */\n" ++ body ++ codes "/*@ end */\n"

-- the line feed that the last line lacks
abbrev pub line_end : List ℕ → List ℕ
line_end bytes = if length bytes == 0 || ends_with nat_eq bytes (codes "\n") then [] else codes "\n"

-- a body that the list has already isn't put there again
abbrev pub text_for : List NamedBody → List NamedBody → KName → List ℕ
text_for left old name = if is_among name left then [] else body_text name (body_of name old)

-- the bodies of these names behind the bytes of a kernel file with this list
abbrev pub left_text : List ℕ → List NamedBody → List NamedBody → List KName → List ℕ
left_text before left old names = before ++ line_end before ++ flat_map (λ name. text_for left old name) names

-- the first of these names of which the list has another body
abbrev pub first_twice : List NamedBody → List NamedBody → List KName → Option KName
first_twice left old names = find (λ name. is_among name left && not (keeps name (body_of name old) left)) names
