-- Changes one after the other, where the store tells its files, and counts that rise.
use Rattle.std.proofs.Common.{◌≡◌, ℕ, ◌≤◌, List, Option, None, Some, sym, subst, ◌∙◌, arith}
use Rattle.std.specs.Prelude.{IfSome}
use Rattle.pb_io.specs.Faults.{Rose}
use Rattle.pb_io.specs.Files.{File}
use Rattle.pb_renew_store.specs.Changes.{Turns}
use Rattle.pb_renew_store.specs.Deeds.{Deed, DidNothing}

-- what is so of the files before gives more of what they turn into
pub given : (G : List File → Type 0) (P Q : List File → List File → Type 0) → ((a b : List File) → G a → P a b → Q a b) → (h0 h1 : Option (List File)) → IfSome h0 G → Turns h0 h1 P → Turns h0 h1 Q
given G P Q give None h1 is turns = tt
given G P Q give (Some a) None is turns = absurd turns
given G P Q give (Some a) (Some b) is turns = give a b is turns

pub weaken : (P Q : List File → List File → Type 0) → ((a b : List File) → P a b → Q a b) → (h0 h1 : Option (List File)) → Turns h0 h1 P → Turns h0 h1 Q
weaken P Q give None h1 turns = tt
weaken P Q give (Some a) None turns = absurd turns
weaken P Q give (Some a) (Some b) turns = give a b turns

still_at : (P : List File → List File → Type 0) → ((a : List File) → P a a) → (h : Option (List File)) → Turns h h P
still_at P give None = tt
still_at P give (Some a) = give a

pub still : (P : List File → List File → Type 0) → ((a : List File) → P a a) → (h0 h1 : Option (List File)) → h1 ≡ h0 → Turns h0 h1 P
still P give h0 h1 e = subst (λ (h : Option (List File)). Turns h h1 P) e (still_at P give h1)

pub sooner : (P : List File → List File → Type 0) (h0 h1 h2 : Option (List File)) → h1 ≡ h0 → Turns h1 h2 P → Turns h0 h2 P
sooner P h0 h1 h2 e is = subst (λ (h : Option (List File)). Turns h h2 P) e is

pub later : (P : List File → List File → Type 0) (h0 h1 h2 : Option (List File)) → h2 ≡ h1 → Turns h0 h1 P → Turns h0 h2 P
later P h0 h1 h2 e is = subst (λ (h : Option (List File)). Turns h0 h P) (sym e) is

pub both_nothing : {d0 d1 d2 : Option (List Deed)} {h0 h1 h2 : Option (List File)} → DidNothing d0 d1 h0 h1 → DidNothing d1 d2 h1 h2 → DidNothing d0 d2 h0 h2
both_nothing a b = record { told = b.told ∙ a.told; files = b.files ∙ a.files }

pub rose_sooner : (a b c : ℕ) → a ≤ b → Rose b c → Rose a c
rose_sooner a b c le is = omega (arith, le, is)

pub rose_later : (a b c : ℕ) → b ≤ c → Rose a b → Rose a c
rose_later a b c le is = omega (arith, le, is)
