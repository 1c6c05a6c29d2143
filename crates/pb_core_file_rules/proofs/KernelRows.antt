-- A table of kernels with one kernel more.
use Rattle.std.proofs.Common.{◌≡◌, ℕ, suc, ◌<◌, ◌≤◌, Bool, true, false, if◌then◌else◌, List, [], ◌∷◌, ◌++◌, length, refl, ap, arith}
use Rattle.pb_syntax.specs.declared.core_label.CoreKernel.{CoreKernel}
use Rattle.pb_core_language.specs.Names.{Name, same}
use Rattle.pb_core_language.specs.Meaning.{position_of, kernel_names, has_kernel}
use Rattle.pb_core_file_rules.specs.Tables.{with_kernel}
use Rattle.pb_core_file_rules.proofs.Positions.{within}

pub as_many : (rows : List CoreKernel) → length (kernel_names rows) ≡ length rows
as_many [] = refl
as_many (r ∷ rs) = ap suc (as_many rs)

pub names_last : (rows : List CoreKernel) (r : CoreKernel) → kernel_names (rows ++ r ∷ []) ≡ kernel_names rows ++ r.name ∷ []
names_last [] r = refl
names_last (q ∷ rs) r = ap (λ xs. q.name ∷ xs) (names_last rs r)

is_there : (x : Name) (rows : List CoreKernel) → position_of x (kernel_names rows) < length rows → has_kernel x rows ≡ true
is_there x [] h = absurd (omega arith)
is_there x (r ∷ rs) h = at (same x r.name) (is_there x rs) h
  where
    at : (b : Bool) → (position_of x (kernel_names rs) < length rs → has_kernel x rs ≡ true) → (if b then 0 else suc (position_of x (kernel_names rs))) < suc (length rs) →
        (if b then true else has_kernel x rs) ≡ true
    at true rest h = refl
    at false rest h = rest (omega (arith, h))

is_lacking : (x : Name) (rows : List CoreKernel) → length rows ≤ position_of x (kernel_names rows) → has_kernel x rows ≡ false
is_lacking x [] h = refl
is_lacking x (r ∷ rs) h = at (same x r.name) (is_lacking x rs) h
  where
    at : (b : Bool) → (length rs ≤ position_of x (kernel_names rs) → has_kernel x rs ≡ false) → suc (length rs) ≤ (if b then 0 else suc (position_of x (kernel_names rs))) →
        (if b then true else has_kernel x rs) ≡ false
    at true rest h = absurd (omega arith)
    at false rest h = rest (omega (arith, h))

pub stays : (rows : List CoreKernel) (one : CoreKernel) (k : ℕ) → k ≡ position_of one.name (kernel_names rows) → k < length rows → with_kernel rows one ≡ rows
stays rows one k e h = ap (λ b. if b then rows else rows ++ one ∷ []) (is_there one.name rows (omega (arith, e, h)))

pub goes_last : (rows : List CoreKernel) (one : CoreKernel) (k : ℕ) → k ≡ position_of one.name (kernel_names rows) → length rows ≤ k → with_kernel rows one ≡ rows ++ (one ∷ [])
goes_last rows one k e h = ap (λ b. if b then rows else rows ++ one ∷ []) (is_lacking one.name rows (omega (arith, e, h)))

pub just_behind : (rows : List CoreKernel) (x : Name) (k : ℕ) → k ≡ position_of x (kernel_names rows) → length rows ≤ k → length rows ≡ position_of x (kernel_names rows)
just_behind rows x k e h = let w = within x (kernel_names rows) in let n = as_many rows in omega (arith, e, h, w, n)
