-- Names that are found: of labels and kernels in their tables, of roles among the roles.
use Rattle.std.proofs.Common.{◌≡◌, ℕ, suc, ◌<◌, Bool, true, false, ◌||◌, nat_lt, if◌then◌else◌, List, [], ◌∷◌, ◌++◌, length, refl, ap, arith}
use Rattle.std.proofs.lemmas.Bool.Decides.{nat_tests}
use Rattle.std.proofs.lemmas.Slice.Eq.{bytes_eq-Decides}
use Rattle.pb_syntax.specs.declared.core_label.CoreKernel.{CoreKernel}
use Rattle.pb_syntax.specs.declared.core_label.CoreLabel.{CoreLabel}
use Rattle.pb_core_language.specs.Names.{Name, same, is_named}
use Rattle.pb_core_language.specs.FileRules.{Labelled}
use Rattle.pb_core_language.specs.Meaning.{position_of, has_label, label_names, labels_after, has_kernel, kernel_names, kernels_after}

pub self : (x : Name) → same x x ≡ true
self x = (bytes_eq-Decides x x).1 refl

pub below : (k n : ℕ) → k < n → nat_lt k n ≡ true
below k n h = grind (arith, nat_tests)

pub named_below : (x : Name) (ys : List Name) → is_named x ys ≡ true → position_of x ys < length ys
named_below x [] h = absurd (grind arith)
named_below x (y ∷ ys) h = at (same x y) (named_below x ys) h
  where
    at : (b : Bool) → (is_named x ys ≡ true → position_of x ys < length ys) → (b || is_named x ys) ≡ true → (if b then 0 else suc (position_of x ys)) < suc (length ys)
    at true rest h = omega arith
    at false rest h = omega (arith, rest h)

-- ---- labels

pub label_below : (x : Name) (rows : List CoreLabel) → has_label x rows ≡ true → position_of x (label_names rows) < length rows
label_below x [] h = absurd (grind arith)
label_below x (r ∷ rs) h = at (same x r.name) (label_below x rs) h
  where
    at : (b : Bool) → (has_label x rs ≡ true → position_of x (label_names rs) < length rs) → (if b then true else has_label x rs) ≡ true → (if b then 0 else suc (position_of x (label_names rs))) < suc (length rs)
    at true rest h = omega arith
    at false rest h = omega (arith, rest h)

label_kept : (x : Name) (rows others : List CoreLabel) → has_label x rows ≡ true → has_label x (rows ++ others) ≡ true
label_kept x [] others h = absurd (grind arith)
label_kept x (r ∷ rs) others h = at (same x r.name) (label_kept x rs others) h
  where
    at : (b : Bool) → (has_label x rs ≡ true → has_label x (rs ++ others) ≡ true) → (if b then true else has_label x rs) ≡ true → (if b then true else has_label x (rs ++ others)) ≡ true
    at true rest h = refl
    at false rest h = rest h

label_last : (r : CoreLabel) (rows : List CoreLabel) → has_label r.name (rows ++ r ∷ []) ≡ true
label_last r [] = ap (λ b. if b then true else false) (self r.name)
label_last r (q ∷ rs) = at (same r.name q.name) (label_last r rs)
  where
    at : (b : Bool) → has_label r.name (rs ++ r ∷ []) ≡ true → (if b then true else has_label r.name (rs ++ r ∷ [])) ≡ true
    at true h = refl
    at false h = h

abbrev with_label : List CoreLabel → Labelled → List CoreLabel
with_label there l = if has_label l.label.name there then there else there ++ record { name = l.label.name; payload = l.payload } ∷ []

labels_kept : (x : Name) (there : List CoreLabel) (ls : List Labelled) → has_label x there ≡ true → has_label x (labels_after there ls) ≡ true
labels_kept x there [] h = h
labels_kept x there (l ∷ ls) h = labels_kept x (with_label there l) ls (at (has_label l.label.name there))
  where
    at : (b : Bool) → has_label x (if b then there else there ++ record { name = l.label.name; payload = l.payload } ∷ []) ≡ true
    at true = h
    at false = label_kept x there _ h

-- each label has a row
abbrev pub HaveRows : List CoreLabel → List Labelled → Type 0
HaveRows rows [] = Unit {0}
HaveRows rows (l ∷ ls) = (has_label l.label.name rows ≡ true) × HaveRows rows ls

pub have_rows : (there : List CoreLabel) (ls : List Labelled) → HaveRows (labels_after there ls) ls
have_rows there [] = tt
have_rows there (l ∷ ls) = (labels_kept l.label.name (with_label there l) ls (at (has_label l.label.name there) refl), have_rows (with_label there l) ls)
  where
    at : (b : Bool) → has_label l.label.name there ≡ b → has_label l.label.name (if b then there else there ++ record { name = l.label.name; payload = l.payload } ∷ []) ≡ true
    at true e = e
    at false e = label_last (record { name = l.label.name; payload = l.payload }) there

pub rows_both : (rows : List CoreLabel) (xs ys : List Labelled) → HaveRows rows (xs ++ ys) → HaveRows rows xs × HaveRows rows ys
rows_both rows [] ys h = (tt, h)
rows_both rows (x ∷ xs) ys h = let g = rows_both rows xs ys h.1 in ((h.0, g.0), g.1)

-- ---- kernels

pub kernel_below : (x : Name) (rows : List CoreKernel) → has_kernel x rows ≡ true → position_of x (kernel_names rows) < length rows
kernel_below x [] h = absurd (grind arith)
kernel_below x (r ∷ rs) h = at (same x r.name) (kernel_below x rs) h
  where
    at : (b : Bool) → (has_kernel x rs ≡ true → position_of x (kernel_names rs) < length rs) → (if b then true else has_kernel x rs) ≡ true → (if b then 0 else suc (position_of x (kernel_names rs))) < suc (length rs)
    at true rest h = omega arith
    at false rest h = omega (arith, rest h)

kernel_kept : (x : Name) (rows others : List CoreKernel) → has_kernel x rows ≡ true → has_kernel x (rows ++ others) ≡ true
kernel_kept x [] others h = absurd (grind arith)
kernel_kept x (r ∷ rs) others h = at (same x r.name) (kernel_kept x rs others) h
  where
    at : (b : Bool) → (has_kernel x rs ≡ true → has_kernel x (rs ++ others) ≡ true) → (if b then true else has_kernel x rs) ≡ true → (if b then true else has_kernel x (rs ++ others)) ≡ true
    at true rest h = refl
    at false rest h = rest h

kernel_last : (r : CoreKernel) (rows : List CoreKernel) → has_kernel r.name (rows ++ r ∷ []) ≡ true
kernel_last r [] = ap (λ b. if b then true else false) (self r.name)
kernel_last r (q ∷ rs) = at (same r.name q.name) (kernel_last r rs)
  where
    at : (b : Bool) → has_kernel r.name (rs ++ r ∷ []) ≡ true → (if b then true else has_kernel r.name (rs ++ r ∷ [])) ≡ true
    at true h = refl
    at false h = h

abbrev with_kernel : List CoreKernel → CoreKernel → List CoreKernel
with_kernel there k = if has_kernel k.name there then there else there ++ k ∷ []

kernels_kept : (x : Name) (there ks : List CoreKernel) → has_kernel x there ≡ true → has_kernel x (kernels_after there ks) ≡ true
kernels_kept x there [] h = h
kernels_kept x there (k ∷ ks) h = kernels_kept x (with_kernel there k) ks (at (has_kernel k.name there))
  where
    at : (b : Bool) → has_kernel x (if b then there else there ++ k ∷ []) ≡ true
    at true = h
    at false = kernel_kept x there _ h

-- each kernel has a row
abbrev pub HaveKernels : List CoreKernel → List CoreKernel → Type 0
HaveKernels rows [] = Unit {0}
HaveKernels rows (k ∷ ks) = (has_kernel k.name rows ≡ true) × HaveKernels rows ks

pub have_kernels : (there ks : List CoreKernel) → HaveKernels (kernels_after there ks) ks
have_kernels there [] = tt
have_kernels there (k ∷ ks) = (kernels_kept k.name (with_kernel there k) ks (at (has_kernel k.name there) refl), have_kernels (with_kernel there k) ks)
  where
    at : (b : Bool) → has_kernel k.name there ≡ b → has_kernel k.name (if b then there else there ++ k ∷ []) ≡ true
    at true e = e
    at false e = kernel_last k there

pub kernels_both : (rows xs ys : List CoreKernel) → HaveKernels rows (xs ++ ys) → HaveKernels rows xs × HaveKernels rows ys
kernels_both rows [] ys h = (tt, h)
kernels_both rows (x ∷ xs) ys h = let g = kernels_both rows xs ys h.1 in ((h.0, g.0), g.1)
