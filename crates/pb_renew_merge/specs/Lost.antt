-- Whether bodies of a kernel file stand in others, with their names and byte for byte.
use Rattle.std.specs.Prelude.{◌≡◌, ◌⊎◌, ℕ, Bool, true, not, ◌&&◌, ◌||◌, List, [], ◌∷◌, Option, None, Some, Ok, find, nat_eq, if◌then◌else◌}
use Rattle.std.specs.Cmp.Lexicographic.{pointwise}
use Rattle.std.specs.List.{filter}
use Rattle.pb_ctree.specs.declared.kernel.KName.{KName}
use Rattle.pb_kernels.specs.declared.file.NamedBody.{NamedBody}
use Rattle.pb_kernels.specs.Files.{program_file}
use Rattle.pb_kernels.specs.Names.{body_of, is_among, names_of}

-- a list has a body with this name and these bytes
abbrev pub keeps : KName → List ℕ → List NamedBody → Bool
keeps name body list = is_among name list && pointwise nat_eq (body_of name list) body

-- one of two lists keeps the old body with this name
abbrev pub is_kept : KName → List NamedBody → List NamedBody → List NamedBody → Bool
is_kept name old text left = keeps name (body_of name old) text || keeps name (body_of name old) left

-- the name, where another list doesn't keep its old body
abbrev pub lost_of : KName → List NamedBody → List NamedBody → List KName
lost_of name old other = if not (keeps name (body_of name old) other) then name ∷ [] else []

-- the names of the old bodies that another list doesn't keep
abbrev pub lost_names : List NamedBody → List NamedBody → List KName
lost_names old other = filter (λ name. not (keeps name (body_of name old) other)) (names_of old)

-- the first name of an old body that neither of two lists keeps
abbrev pub first_lost : List NamedBody → List NamedBody → List NamedBody → Option KName
first_lost old text left = find (λ name. not (is_kept name old text left)) (names_of old)

abbrev pub or_next : Option KName → Option KName → Option KName
or_next (Some name) next = Some name
or_next None next = next

-- the name of the first body that isn't where it should be, where a list was made of another one and bodies of an old text: an old one
-- that neither the new text nor the list keeps, one that the other list had and this one doesn't keep, or one of this list that
-- neither that one had nor the old text
abbrev pub first_misplaced : List NamedBody → List NamedBody → List NamedBody → List NamedBody → Option KName
first_misplaced old text before made =
    or_next (first_lost old text made) (or_next (first_lost before made made) (first_lost made before old))

-- the bytes are a kernel file with a body of this name and these bytes
pub record Keeps (name : KName) (body bytes : List ℕ) : Type 0 where
  pub list : List NamedBody
  pub read : program_file bytes ≡ Ok list
  pub there : is_among name list ≡ true
  pub same : body_of name list ≡ body

-- each body of an old kernel file stands, with its name and byte for byte, in one of two others
abbrev pub NothingLost : List ℕ → List ℕ → List ℕ → Type 0
NothingLost old text left =
    (list : List NamedBody) → program_file old ≡ Ok list → (name : KName) → is_among name list ≡ true
    → Keeps name (body_of name list) text ⊎ Keeps name (body_of name list) left
