-- The table of names, a row on.
use Rattle.std.proofs.Common.{◌≡◌, ℕ, ◌-◌, ◌^◌, ◌<◌, Bool, true, false, cond, nat_eq, nat_lt, Some, None, MatchOption, List, [], ◌∷◌, ◌++◌, map, length, refl, sym, ap, subst, ◌∙◌, arith}
use Rattle.std.specs.Cmp.Lexicographic.{pointwise}
use Rattle.std.specs.List.{position_or_len}
use Rattle.pb_syntax.specs.declared.core_label.CoreLabel.{CoreLabel}
use Rattle.pb_syntax.specs.declared.core_label.CoreKernel.{CoreKernel}
use Rattle.pb_local.specs.declared.tables.Role.{Role}
use Rattle.pb_text.specs.Tables.{IsInterned}
use Rattle.pb_ctree.specs.Rules.{is_among}
use Rattle.pb_cread_rows.specs.Spelled.{names_of_roles, names_of_labels, names_of_kernels, IsFresh}
use Rattle.pb_cread_rows.proofs.Found.{any_within}

map_last : {A : Type 0} (f : A → List ℕ) (rows : List A) (row : A) → map f (rows ++ row ∷ []) ≡ map f rows ++ f row ∷ []
map_last f [] row = refl
map_last f (r ∷ rs) row = ap (λ names. f r ∷ names) (map_last f rs row)

last_by : (b : Bool) (place id : ℕ) (old new : List (List ℕ)) (name : List ℕ) → b ≡ false
    → MatchOption (cond b (Some place) None) ((id ≡ length old) × (new ≡ old ++ name ∷ [])) (λ place. (id ≡ place) × (new ≡ old)) → new ≡ old ++ name ∷ []
last_by true place id old new name test put = absurd cc
last_by false place id old new name test put = put.1

-- a new name goes last
goes_last : (old new : List (List ℕ)) (name : List ℕ) (id : ℕ) → is_among name old ≡ false → IsInterned old name id new → new ≡ old ++ name ∷ []
goes_last old new name id absent put =
    last_by (nat_lt (position_or_len (pointwise nat_eq name) old) (length old)) (position_or_len (pointwise nat_eq name) old) id old new name (any_within (pointwise nat_eq name) old ∙ absent) put

row_more : {A : Type 0} (f : A → List ℕ) (rows : List A) (row : A) (old new : List (List ℕ)) (id : ℕ) → old ≡ map f rows → is_among (f row) (map f rows) ≡ false
    → IsInterned old (f row) id new → new ≡ map f (rows ++ row ∷ [])
row_more f rows row old new id named absent put =
    goes_last old new (f row) id (subst (λ names. is_among (f row) names ≡ false) (sym named) absent) put ∙ ap (λ names. names ++ f row ∷ []) named ∙ sym (map_last f rows row)

pub role_more : (rows : List Role) (row : Role) (old new : List (List ℕ)) (id : ℕ) → old ≡ names_of_roles rows → IsFresh 64 (names_of_roles rows) row.name → IsInterned old row.name id new → new ≡ names_of_roles (rows ++ row ∷ [])
role_more rows row old new id named fresh put = row_more (λ r. r.name) rows row old new id named fresh.absent put

pub label_more : (rows : List CoreLabel) (row : CoreLabel) (old new : List (List ℕ)) (id : ℕ) → old ≡ names_of_labels rows → IsFresh 4000 (names_of_labels rows) row.name → IsInterned old row.name id new → new ≡ names_of_labels (rows ++ row ∷ [])
label_more rows row old new id named fresh put = row_more (λ l. l.name) rows row old new id named fresh.absent put

pub kernel_more : (rows : List CoreKernel) (row : CoreKernel) (old new : List (List ℕ)) (id : ℕ) → old ≡ names_of_kernels rows → IsFresh 4000 (names_of_kernels rows) row.name → IsInterned old row.name id new → new ≡ names_of_kernels (rows ++ row ∷ [])
kernel_more rows row old new id named fresh put = row_more (λ k. k.name) rows row old new id named fresh.absent put

-- there is room for a name more
room_for : (most : ℕ) (old names : List (List ℕ)) (name : List ℕ) → most < 2 ^ 16 → old ≡ names → IsFresh most names name → length old < 2 ^ 32 - 1
room_for most old names name small named fresh = omega (arith, small, ap length named, fresh.few)

pub room_role : (rows : List Role) (old : List (List ℕ)) (name : List ℕ) → old ≡ names_of_roles rows → IsFresh 64 (names_of_roles rows) name → length old < 2 ^ 32 - 1
room_role rows old name named fresh = room_for 64 old (names_of_roles rows) name (omega arith) named fresh

pub room_label : (rows : List CoreLabel) (old : List (List ℕ)) (name : List ℕ) → old ≡ names_of_labels rows → IsFresh 4000 (names_of_labels rows) name → length old < 2 ^ 32 - 1
room_label rows old name named fresh = room_for 4000 old (names_of_labels rows) name (omega arith) named fresh

pub room_kernel : (rows : List CoreKernel) (old : List (List ℕ)) (name : List ℕ) → old ≡ names_of_kernels rows → IsFresh 4000 (names_of_kernels rows) name → length old < 2 ^ 32 - 1
room_kernel rows old name named fresh = room_for 4000 old (names_of_kernels rows) name (omega arith) named fresh
