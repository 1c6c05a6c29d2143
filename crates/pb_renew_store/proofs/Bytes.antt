-- Known bytes that are read in turns, and compared with others on the way: what is left with the rest, as the whole with all.
use Rattle.std.proofs.Common.{◌≡◌, ℕ, Bool, true, false, ◌&&◌, List, [], ◌∷◌, ◌++◌, length, take, drop, Option, None, Some, IfSome, nat_eq, refl, sym, ap, ◌∙◌}
use Rattle.std.specs.Cmp.Lexicographic.{pointwise}
use Rattle.std.specs.Io.KnownBytes.{Consumes}
use Rattle.std.specs.List.{starts_with}

abbrev pub Compares : Option (List ℕ) → Option (List ℕ) → List ℕ → List ℕ → Type 0
Compares None now bytes rest = Unit {0}
Compares (Some xs) None bytes rest = ⊥
Compares (Some xs) (Some ys) bytes rest = pointwise nat_eq xs bytes ≡ pointwise nat_eq ys rest

and_three : (a b c : Bool) → (a && (b && c)) ≡ ((a && b) && c)
and_three true b c = refl
and_three false b c = refl

halves : (front behind other : List ℕ) → pointwise nat_eq (front ++ behind) other ≡ (pointwise nat_eq front (take (length front) other) && pointwise nat_eq behind (drop (length front) other))
halves [] behind other = refl
halves (x ∷ front) behind [] = refl
halves (x ∷ front) behind (y ∷ other) =
    ap (λ (b : Bool). nat_eq x y && b) (halves front behind other) ∙ and_three (nat_eq x y) (pointwise nat_eq front (take (length front) other)) _

pub compares_all : (h : Option (List ℕ)) (bytes : List ℕ) → Compares h h bytes bytes
compares_all None bytes = tt
compares_all (Some xs) bytes = refl

pub compares_on : (start now after : Option (List ℕ)) (bytes rest piece : List ℕ) → Compares start now bytes rest → Consumes now after piece → starts_with nat_eq rest piece ≡ true
    → Compares start after bytes (drop (length piece) rest)
compares_on None now after bytes rest piece so_far read fits = tt
compares_on (Some xs) None after bytes rest piece so_far read fits = absurd so_far
compares_on (Some xs) (Some ys) None bytes rest piece so_far read fits = absurd read
compares_on (Some xs) (Some ys) (Some zs) bytes rest piece so_far read fits =
    so_far ∙ ap (λ (l : List ℕ). pointwise nat_eq l rest) read ∙ halves piece zs rest ∙ ap (λ (b : Bool). b && pointwise nat_eq zs (drop (length piece) rest)) fits

pub compares_not : (start now after : Option (List ℕ)) (bytes rest piece : List ℕ) → Compares start now bytes rest → Consumes now after piece → starts_with nat_eq rest piece ≡ false
    → IfSome start (λ left. false ≡ pointwise nat_eq left bytes)
compares_not None now after bytes rest piece so_far read differs = tt
compares_not (Some xs) None after bytes rest piece so_far read differs = absurd so_far
compares_not (Some xs) (Some ys) None bytes rest piece so_far read differs = absurd read
compares_not (Some xs) (Some ys) (Some zs) bytes rest piece so_far read differs =
    sym (so_far ∙ ap (λ (l : List ℕ). pointwise nat_eq l rest) read ∙ halves piece zs rest ∙ ap (λ (b : Bool). b && pointwise nat_eq zs (drop (length piece) rest)) differs)
