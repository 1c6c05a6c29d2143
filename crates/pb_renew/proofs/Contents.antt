-- The bytes of a file of which it is told whether it is there.
use Rattle.std.proofs.Common.{◌≡◌, ℕ, Bool, true, false, List, [], Option, None, Some, is_some, unwrap_or, refl, sym, ap, ◌∙◌, true≢false}
use Rattle.std.specs.Prelude.{IfSome}
use Rattle.pb_io.specs.Files.{File, IsContent, file_of}
use Rattle.pb_renew.specs.Places.{IsThere}

content_some : (bytes : List ℕ) (o : Option (List ℕ)) → true ≡ is_some o → bytes ≡ unwrap_or o [] → Some bytes ≡ o
content_some bytes None there is = absurd (true≢false there)
content_some bytes (Some had) there is = ap Some is

content_none : (o : Option (List ℕ)) → false ≡ is_some o → None ≡ o
content_none None there = refl
content_none (Some had) there = absurd (true≢false (sym there))

pub content_there : (h : Option (List File)) (name bytes : List ℕ) (it : Bool) → it ≡ true → IsContent h name bytes → IfSome h (λ files. IsThere name it files → Some bytes ≡ file_of files name)
content_there None name bytes it e is = tt
content_there (Some files) name bytes it e is = λ there. content_some bytes (file_of files name) (sym e ∙ there) is

pub content_missing : (h : Option (List File)) (name : List ℕ) (it : Bool) → it ≡ false → IfSome h (λ files. IsThere name it files → None ≡ file_of files name)
content_missing None name it e = tt
content_missing (Some files) name it e = λ there. content_none (file_of files name) (sym e ∙ there)
