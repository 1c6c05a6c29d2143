-- The roles of the flat file are said, and their ranges are small.
use Rattle.std.proofs.Common.{◌≡◌, ℕ, zero, suc, ◌-◌, ◌<◌, ◌≤◌, false, inl, inr, Option, Some, None, List, [], ◌∷◌, ◌++◌, length, length-append, refl, arith}
use Rattle.pb_text.specs.declared.place.Spot.{Spot}
use Rattle.pb_text.specs.declared.token.Mark.TheVariants as marks
use Rattle.pb_text.specs.declared.token.Key.TheVariants as keys
use Rattle.pb_syntax.specs.declared.tree.RangeText.{RangeText}
use Rattle.pb_syntax.specs.declared.tree.RoleText.{RoleText}
use Rattle.pb_syntax.specs.Bare.{nowhere}
use Rattle.pb_syntax.specs.Grammar.{role, comma_role, roles, role_range}
use Rattle.pb_do_text_laws.specs.Limits as flat
use Rattle.pb_do_text_laws.specs.Limits.{IsSmallOver}
use Rattle.pb_do_text_laws.proofs.Said.{Said, AllSaid, said_done, said_then, said_mark, said_key, said_name, said_many}
use Rattle.pb_do_text_laws.proofs.Renamed.{IsWord}
use Rattle.pb_strips_syntax.specs.declared.tree.StripRole.{StripRole}
use Rattle.pb_strips_syntax.specs.Columns.{up_from, numbers}
use Rattle.pb_strips_syntax.specs.Flattening.{column_spot, column_roles, roles_with, flat_roles}
use Rattle.pb_strips_faults.specs.Faults.{is_wide}
use Rattle.pb_strips_flatten.specs.Excess.{is_long}
use Rattle.pb_strips_text_laws.specs.Limits.{AreSmallRoles}
use Rattle.pb_strips_text_laws.proofs.Named.{column_word}
use Rattle.pb_strips_text_laws.proofs.Sound.{IsIn, in_most, AreNarrow, narrow, short_name}
use Rattle.pb_strips_text_laws.proofs.Spoken.{AreSpokenRoles}

-- ---- said

role_said : (s : Spot) (rows : Option RangeText) → IsWord s.name → Said role_range rows → Said role (record { role = s; range = rows })
role_said s rows is said = said_then _ (said_key keys.Role nowhere) (said_then _ (said_name s is) (said_then _ said (said_done _)))

columns_said : (strip : Spot) (rows : Option RangeText) (cs : List ℕ) → IsWord strip.name → length strip.name ≤ 60 → Said role_range rows → ((c : ℕ) → IsIn c cs → c ≤ 63) → AllSaid role (column_roles strip rows cs)
columns_said strip rows [] is short said few = tt
columns_said strip rows (c ∷ cs) is short said few =
    (role_said (column_spot strip c) rows (column_word strip.name c is short (few c (inl refl))) said, columns_said strip rows cs is short said (λ d in_it. few d (inr in_it)))

all_both : (xs ys : List RoleText) → AllSaid role xs → AllSaid role ys → AllSaid role (xs ++ ys)
all_both [] ys a b = b
all_both (x ∷ xs) ys a b = (a.0, all_both xs ys a.1 b)

with_said : (r : StripRole) (o : Option (ℕ × ℕ)) → r.columns ≡ o → IsWord r.role.name → Said role_range r.range → is_wide r.columns ≡ false → is_long r ≡ false → AllSaid role (roles_with r.role r.range o)
with_said r None e is said wide long = (role_said r.role r.range is said, tt)
with_said r (Some ends) e is said wide long =
    let most = narrow r.columns ends e wide in
    columns_said r.role r.range (numbers ends.0 ends.1) is (short_name r.columns ends (length r.role.name) e long) said (λ c in_it. let up = in_most c ends.0 ends.1 in_it in omega (arith, most.1, up.1))

all_said : (rs : List StripRole) → AreNarrow rs → AreSpokenRoles rs → AllSaid role (flat_roles rs)
all_said [] lawful said = tt
all_said (r ∷ rs) lawful said =
    all_both (roles_with r.role r.range r.columns) (flat_roles rs) (with_said r r.columns refl said.0.0 said.0.1 lawful.0.0 lawful.0.1) (all_said rs lawful.1 said.1)

commas_said : (xs : List RoleText) → AllSaid role xs → AllSaid comma_role xs
commas_said [] all = tt
commas_said (x ∷ xs) all = (said_then _ (said_mark marks.Comma nowhere) all.0, commas_said xs all.1)

some_said : (xs : List RoleText) → 0 < length xs → AllSaid role xs → Said roles xs
some_said [] some all = absurd (omega (arith, some))
some_said (x ∷ xs) some all = said_then _ all.0 (said_then _ (said_many comma_role xs (commas_said xs all.1)) (said_done _))

-- ---- there is one

column_there : (strip : Spot) (rows : Option RangeText) (low n : ℕ) → 0 < n → 0 < length (column_roles strip rows (up_from low n))
column_there strip rows low zero some = absurd (omega (arith, some))
column_there strip rows low (suc n) some = omega arith

one_there : (r : StripRole) (o : Option (ℕ × ℕ)) → r.columns ≡ o → is_wide r.columns ≡ false → 0 < length (roles_with r.role r.range o)
one_there r None e wide = omega arith
one_there r (Some ends) e wide = let most = narrow r.columns ends e wide in column_there r.role r.range ends.0 (suc ends.1 - ends.0) (omega (arith, most.0))

some_there : (rs : List StripRole) → AreNarrow rs → 0 < length rs → 0 < length (flat_roles rs)
some_there [] lawful some = absurd (omega (arith, some))
some_there (r ∷ rs) lawful some = omega (arith, one_there r r.columns refl lawful.0.0, length-append (roles_with r.role r.range r.columns) (flat_roles rs))

pub roles_said : (rs : List StripRole) → AreNarrow rs → AreSpokenRoles rs → 0 < length rs → Said roles (flat_roles rs)
roles_said rs lawful said some = some_said (flat_roles rs) (some_there rs lawful some) (all_said rs lawful said)

-- ---- and small

small_both : (xs ys : List RoleText) → flat.AreSmallRoles xs → flat.AreSmallRoles ys → flat.AreSmallRoles (xs ++ ys)
small_both [] ys a b = b
small_both (x ∷ xs) ys a b = (a.0, small_both xs ys a.1 b)

columns_small : (strip : Spot) (rows : Option RangeText) (cs : List ℕ) → IsSmallOver rows → flat.AreSmallRoles (column_roles strip rows cs)
columns_small strip rows [] small = tt
columns_small strip rows (c ∷ cs) small = (small, columns_small strip rows cs small)

with_small : (s : Spot) (rows : Option RangeText) (o : Option (ℕ × ℕ)) → IsSmallOver rows → flat.AreSmallRoles (roles_with s rows o)
with_small s rows None small = (small, tt)
with_small s rows (Some ends) small = columns_small s rows (numbers ends.0 ends.1) small

pub roles_small : (rs : List StripRole) → AreSmallRoles rs → flat.AreSmallRoles (flat_roles rs)
roles_small [] small = tt
roles_small (r ∷ rs) small = small_both (roles_with r.role r.range r.columns) (flat_roles rs) (with_small r.role r.range r.columns small.0) (roles_small rs small.1)
