-- What a folder holds, what of its open file is left, and what opening and reading do to that.
use Rattle.std.specs.Prelude.{◌≡◌, ℕ, Bool, true, if◌then◌else◌, List, [], ◌∷◌, Option, Some, None, IsSome, IfSome, unwrap_or, nat_eq, Result, MatchResult}
use Rattle.std.specs.Cmp.Lexicographic.{pointwise}

pub record File : Type 0 where
  pub name : List ℕ
  pub bytes : List ℕ

-- the bytes of the first file with this name
abbrev pub file_of : List File → List ℕ → Option (List ℕ)
file_of [] name = None
file_of (file ∷ files) name = if pointwise nat_eq file.name name then Some file.bytes else file_of files name

-- the bytes that opening this name gives: none, where no file has it
abbrev pub content_of : List File → List ℕ → List ℕ
content_of files name = unwrap_or (file_of files name) []

-- of a folder that tells what it holds: these are the bytes of the name
abbrev pub IsContent : Option (List File) → List ℕ → List ℕ → Type 0
IsContent holds name bytes = IfSome holds (λ files. bytes ≡ content_of files name)

-- opening leaves the whole content, and a failure leaves all as before
abbrev pub Opens : {T E : Type 0} → Option (List File) → List ℕ → Option (List ℕ) → Option (List ℕ) → Result T E → Type 0
Opens holds name old new result = MatchResult result (λ _. IfSome holds (λ files. new ≡ Some (content_of files name))) (λ _. new ≡ old)

-- a steady folder that tells what it holds
abbrev pub IsSure : Bool → Option (List File) → Type 0
IsSure steady holds = (steady ≡ true) × IsSome holds

-- a steady folder that holds this name
abbrev pub IsSureOf : Bool → Option (List File) → List ℕ → Type 0
IsSureOf steady None name = ⊥
IsSureOf steady (Some files) name = (steady ≡ true) × IsSome (file_of files name)
