-- An end's cell has the number among the cells that its seat has among the seats of the flat file.
use Rattle.std.proofs.Common.{◌≡◌, ℕ, suc, ◌+◌, ◌≤◌, ℤ, Bool, true, false, ◌&&◌, ◌||◌, nat_eq, if◌then◌else◌, Option, None, Some, List, [], ◌∷◌, ◌++◌, map, refl, sym, ap, ap₂, ◌∙◌, subst, arith, eqb-true, eq-eqb, inl, inr}
use Rattle.std.specs.List.{flat_map}
use Rattle.std.specs.Ordering.{int_eq}
use Rattle.std.proofs.lemmas.Bool.{true≢false, and_parts, and_left, and_right, or_left, or_right, or_cases, or_parts, false_from_ne_true}
use Rattle.std.proofs.lemmas.Bool.Decides.{nat_tests}
use Rattle.pb_text.specs.declared.place.Spot.{Spot}
use Rattle.pb_syntax.specs.declared.tree.RangeText.{RangeText}
use Rattle.pb_core_language.specs.FileRules.{role_names}
use Rattle.pb_core_language.specs.Meaning.{position_of, roles_of}
use Rattle.pb_core_language.specs.Names.{Name, same, is_named}
use Rattle.pb_core_language.specs.Ranks as R
use Rattle.pb_core_language.specs.Ranks.{Seat, seats}
use Rattle.pb_strips_syntax.specs.declared.tree.StripRole.{StripRole}
use Rattle.pb_strips_syntax.specs.Columns.{column_name, numbers}
use Rattle.pb_strips_syntax.specs.Flattening.{flat_roles}
use Rattle.pb_strips_faults.specs.Faults.{columns_at, is_one_of, is_column, is_column_of_some}
use Rattle.pb_strips_laws.specs.Cells.{Cell, column_eq, cells_in, cells, number_in, role_at, flat_name}
use Rattle.pb_strips_laws.specs.Flat.{names_of}
use Rattle.pb_strips_laws.proofs.Each.{Each, each_both}
use Rattle.pb_strips_laws.proofs.Naming.{AreUnlike, AreApart, AreAt, all_at, same_itself, same_is, swapped, same_flips}
use Rattle.pb_strips_laws.proofs.Lanes.{Lane, lanes_over, lanes_of, lanes, role_text, roles_by_lanes, IsNamed, named, lane_cells, cells_by_lanes, seats_in, lane_seats, seats_by_lanes}

-- the role and the column of a cell are those of the lane
abbrev tells : ℕ → Option ℕ → Lane → Bool
tells p column l = nat_eq p l.role && column_eq column l.column

-- and so they are just where this is the lane's name
abbrev IsTold : ℕ → Option ℕ → Name → Lane → Type 0
IsTold p column y l = tells p column l ≡ same y l.spot.name

abbrev names_in : List Lane → List Name
names_in ls = role_names (map role_text ls)

-- ---- the numbers

seat_test : (role row column seat : Bool) → (role && column) ≡ seat → (role && (row && column)) ≡ (seat && row)
seat_test true true column seat h = grind arith
seat_test true false column seat h = grind arith
seat_test false row column seat h = grind arith

module _ (constant : Name) (n x : ℤ) where
  number_in_rows : (p s : ℕ) (column : Option ℕ) (k q : ℕ) (own : Option ℕ) → (nat_eq p k && column_eq column own) ≡ nat_eq s q →
      (ys : List ℤ) (cs : List Cell) (ss : List Seat) →
      number_in (record { role = p; row = x; column = column }) cs ≡ R.number_in (record { role = s; index = x }) ss →
      number_in (record { role = p; row = x; column = column }) (cells_in constant n k own ys ++ cs) ≡ R.number_in (record { role = s; index = x }) (seats_in constant n q ys ++ ss)
  number_in_rows p s column k q own h [] cs ss rest = rest
  number_in_rows p s column k q own h (y ∷ ys) cs ss rest =
      ap₂ (λ t m. if t then 0 else suc m) (seat_test (nat_eq p k) (int_eq x y) (column_eq column own) (nat_eq s q) h) (number_in_rows p s column k q own h ys cs ss rest)

  number_in_lanes : (p : ℕ) (column : Option ℕ) (y : Name) (names : List Name) (q : ℕ) (ls : List Lane) → Each (IsTold p column y) ls → AreAt names q (names_in ls) →
      number_in (record { role = p; row = x; column = column }) (flat_map (lane_cells constant n) ls) ≡ R.number_in (record { role = position_of y names; index = x }) (lane_seats constant n q ls)
  number_in_lanes p column y names q [] told at = refl
  number_in_lanes p column y names q (l ∷ ls) told at =
      number_in_rows p (position_of y names) column l.role q l.column (told.0 ∙ sym (at.0 y)) _ (flat_map (lane_cells constant n) ls) (lane_seats constant n (suc q) ls)
      (number_in_lanes p column y names (suc q) ls told.1 at.1)

-- ---- where some lane has the cell's role and column

abbrev some_tell : ℕ → Option ℕ → List Lane → Bool
some_tell p column [] = false
some_tell p column (l ∷ ls) = tells p column l || some_tell p column ls

-- only a lane of this name does
abbrev IsSure : ℕ → Option ℕ → Name → Lane → Type 0
IsSure p column y l = tells p column l ≡ true → l.spot.name ≡ y

module _ (p : ℕ) (column : Option ℕ) (y : Name) where
  none_told : (ls : List Lane) → AreUnlike y (names_in ls) → Each (IsSure p column y) ls → Each (IsTold p column y) ls
  none_told [] other sure = tt
  none_told (l ∷ ls) other sure =
      let no : tells p column l ≡ false =
      false_from_ne_true (tells p column l) (λ e. true≢false (sym (subst (λ z. same z y ≡ true) (sym (sure.0 e)) (same_itself y)) ∙ other.0)) in
      (no ∙ sym (swapped l.spot.name y other.0), none_told ls other.1 sure.1)

  other_name : (w : Name) (ls : List Lane) → AreUnlike w (names_in ls) → Each (IsSure p column y) ls → some_tell p column ls ≡ true → same y w ≡ false
  other_name w [] other sure some = absurd (true≢false (sym some))
  other_name w (l ∷ ls) other sure some =
      elim (or_cases (tells p column l) (some_tell p column ls) some) [ inl e ↦ subst (λ z. same z w ≡ false) (sure.0 e) other.0 | inr h ↦ other_name w ls other.1 sure.1 h ]

  told : (ls : List Lane) → AreApart (names_in ls) → Each (IsSure p column y) ls → some_tell p column ls ≡ true → Each (IsTold p column y) ls
  told [] apart sure some = tt
  told (l ∷ ls) apart sure some = by (tells p column l) refl some (told ls apart.1 sure.1)
    where
      by : (b : Bool) → tells p column l ≡ b → (b || some_tell p column ls) ≡ true → (some_tell p column ls ≡ true → Each (IsTold p column y) ls) → Each (IsTold p column y) (l ∷ ls)
      by true e h rest =
          let is = sure.0 e in
          (e ∙ sym (subst (λ z. same y z ≡ true) (sym is) (same_itself y)), none_told ls (subst (λ z. AreUnlike z (names_in ls)) is apart.0) sure.1)
      by false e h rest = (e ∙ sym (other_name l.spot.name ls apart.0 sure.1 h), rest h)

column_is : (a b : Option ℕ) → column_eq a b ≡ true → a ≡ b
column_is None None h = refl
column_is None (Some d) h = absurd (true≢false (sym h))
column_is (Some c) None h = absurd (true≢false (sym h))
column_is (Some c) (Some d) h = ap Some (eqb-true c d h)

-- where role p has the name x, only lanes of x's column do
all_sure : (f : ℕ → Name) (p : ℕ) (column : Option ℕ) (ls : List Lane) → Each (IsNamed f) ls → Each (IsSure p column (flat_name (f p) column)) ls
all_sure f p column [] h = tt
all_sure f p column (l ∷ ls) h = (sure, all_sure f p column ls h.1)
  where
    sure : IsSure p column (flat_name (f p) column) l
    sure e =
        let both = and_parts (nat_eq p l.role) (column_eq column l.column) e in
        sym h.0 ∙ ap₂ (λ k c. flat_name (f k) c) (sym (eqb-true p l.role both.0)) (sym (column_is column l.column both.1))

role_found : (x : Name) (roles : List StripRole) → is_named x (names_of roles) ≡ true → role_at roles (position_of x (names_of roles)) ≡ x
role_found x [] h = absurd (true≢false (sym h))
role_found x (r ∷ rs) h = by (same x r.role.name) refl h (role_found x rs)
  where
    by : (b : Bool) → same x r.role.name ≡ b → (b || is_named x (names_of rs)) ≡ true → (is_named x (names_of rs) ≡ true → role_at rs (position_of x (names_of rs)) ≡ x) →
        role_at (r ∷ rs) (if b then 0 else suc (position_of x (names_of rs))) ≡ x
    by true e g rest = sym (same_is x r.role.name e)
    by false e g rest = rest g

-- ---- the column is one of the role's

abbrev pub is_in : ℕ → List ℕ → Bool
is_in c [] = false
is_in c (d ∷ ds) = nat_eq c d || is_in c ds

-- an end without a column is of a role that is no strip, and another one's column is one of its strip's
abbrev pub HasColumn : Option (ℕ × ℕ) → Option ℕ → Type 0
HasColumn None None = Unit {0}
HasColumn (Some ends) (Some c) = is_in c (numbers ends.0 ends.1) ≡ true
HasColumn None (Some c) = ⊥
HasColumn (Some ends) None = ⊥

tell_first : (p : ℕ) (column : Option ℕ) (xs ys : List Lane) → some_tell p column xs ≡ true → some_tell p column (xs ++ ys) ≡ true
tell_first p column [] ys h = absurd (true≢false (sym h))
tell_first p column (l ∷ xs) ys h =
    elim (or_cases (tells p column l) (some_tell p column xs) h) [
      | inl e ↦ or_left (tells p column l) (some_tell p column (xs ++ ys)) e
      | inr g ↦ or_right (tells p column l) (some_tell p column (xs ++ ys)) (tell_first p column xs ys g)
    ]

tell_later : (p : ℕ) (column : Option ℕ) (xs ys : List Lane) → some_tell p column ys ≡ true → some_tell p column (xs ++ ys) ≡ true
tell_later p column [] ys h = h
tell_later p column (l ∷ xs) ys h = or_right (tells p column l) (some_tell p column (xs ++ ys)) (tell_later p column xs ys h)

own : (k : ℕ) (b : Bool) → (nat_eq k k && b) ≡ b
own k b = ap (λ t. t && b) (eq-eqb k k refl)

tell_over : (k c : ℕ) (role : Spot) (rows : Option RangeText) (cs : List ℕ) → some_tell k (Some c) (lanes_over k role rows cs) ≡ is_in c cs
tell_over k c role rows [] = refl
tell_over k c role rows (d ∷ cs) = ap₂ (λ a b. a || b) (own k (nat_eq c d)) (tell_over k c role rows cs)

tell_here : (k : ℕ) (role : Spot) (rows : Option RangeText) (columns : Option (ℕ × ℕ)) (column : Option ℕ) → HasColumn columns column → some_tell k column (lanes_of k role rows columns) ≡ true
tell_here k role rows None None h = or_left (nat_eq k k && true) false (own k true)
tell_here k role rows (Some ends) (Some c) h = tell_over k c role rows (numbers ends.0 ends.1) ∙ h
tell_here k role rows None (Some c) h = absurd h
tell_here k role rows (Some ends) None h = absurd h

tell : (x : Name) (column : Option ℕ) (k : ℕ) (rs : List StripRole) → is_named x (names_of rs) ≡ true → HasColumn (columns_at rs x) column →
    some_tell (k + position_of x (names_of rs)) column (lanes k rs) ≡ true
tell x column k [] h has = absurd (true≢false (sym h))
tell x column k (r ∷ rs) h has = by (same x r.role.name) h (subst (λ b. HasColumn (if b then r.columns else columns_at rs x) column) (same_flips r.role.name x) has) (tell x column (suc k) rs)
  where
    by : (b : Bool) → (b || is_named x (names_of rs)) ≡ true → HasColumn (if b then r.columns else columns_at rs x) column →
        (is_named x (names_of rs) ≡ true → HasColumn (columns_at rs x) column → some_tell (suc k + position_of x (names_of rs)) column (lanes (suc k) rs) ≡ true) →
        some_tell (k + (if b then 0 else suc (position_of x (names_of rs)))) column (lanes k (r ∷ rs)) ≡ true
    by true g here rest =
        let e : k ≡ k + 0 = omega arith in
        subst (λ p. some_tell p column (lanes k (r ∷ rs)) ≡ true) e
        (tell_first k column (lanes_of k r.role r.range r.columns) (lanes (suc k) rs) (tell_here k r.role r.range r.columns column here))
    by false g there rest =
        let m : ℕ = position_of x (names_of rs) in
        let e : suc k + m ≡ k + suc m = omega arith in
        subst (λ p. some_tell p column (lanes k (r ∷ rs)) ≡ true) e
        (tell_later (suc k + m) column (lanes_of k r.role r.range r.columns) (lanes (suc k) rs) (rest g there))

-- ---- a name that is no role

less_not : (p k m : ℕ) → k + suc m ≤ p → nat_eq p k ≡ false
less_not p k m h = grind (arith, nat_tests)

lost_over : (x : Name) (p k : ℕ) (role : Spot) (rows : Option RangeText) (cs : List ℕ) → is_one_of role.name cs x ≡ false → Each (IsTold p None x) (lanes_over k role rows cs)
lost_over x p k role rows [] h = tt
lost_over x p k role rows (c ∷ cs) h =
    let both = or_parts (same (column_name role.name c) x) (is_one_of role.name cs x) h in
    (and_right (nat_eq p k) false refl ∙ sym (swapped (column_name role.name c) x both.0), lost_over x p k role rows cs both.1)

lost_here : (x : Name) (p k : ℕ) (role : Spot) (rows : Option RangeText) (columns : Option (ℕ × ℕ)) → nat_eq p k ≡ false → same x role.name ≡ false → is_column role columns x ≡ false →
    Each (IsTold p None x) (lanes_of k role rows columns)
lost_here x p k role rows None e other own_name = (and_left (nat_eq p k) true e ∙ sym other, tt)
lost_here x p k role rows (Some ends) e other own_name = lost_over x p k role rows (numbers ends.0 ends.1) own_name

lost : (x : Name) (p k : ℕ) (rs : List StripRole) → is_named x (names_of rs) ≡ false → is_column_of_some rs x ≡ false → k + position_of x (names_of rs) ≤ p → Each (IsTold p None x) (lanes k rs)
lost x p k [] h no_column le = tt
lost x p k (r ∷ rs) h no_column le =
    let parts = or_parts (same x r.role.name) (is_named x (names_of rs)) h in
    let columns = or_parts (is_column r.role r.columns x) (is_column_of_some rs x) no_column in
    let m : ℕ = position_of x (names_of rs) in
    let le' : k + suc m ≤ p = subst (λ b. k + (if b then 0 else suc m) ≤ p) parts.0 le in
    each_both (IsTold p None x) (lanes_of k r.role r.range r.columns) (lanes (suc k) rs)
    (lost_here x p k r.role r.range r.columns (less_not p k m le') parts.0 columns.0)
    (lost x p (suc k) rs parts.1 columns.1 (omega (arith, le')))

-- ---- all together

not_there : (x : Name) (rs : List StripRole) → is_named x (names_of rs) ≡ false → columns_at rs x ≡ None
not_there x [] h = refl
not_there x (r ∷ rs) h =
    let parts = or_parts (same x r.role.name) (is_named x (names_of rs)) h in
    ap (λ b. if b then r.columns else columns_at rs x) (same_flips r.role.name x ∙ parts.0) ∙ not_there x rs parts.1

module _ (roles : List StripRole) (x : Name) where
  all_told : (column : Option ℕ) → HasColumn (columns_at roles x) column → is_column_of_some roles x ≡ false → AreApart (names_in (lanes 0 roles)) →
      (b : Bool) → is_named x (names_of roles) ≡ b → Each (IsTold (position_of x (names_of roles)) column (flat_name x column)) (lanes 0 roles)
  all_told column has no_column apart true e =
      let p : ℕ = position_of x (names_of roles) in
      let at_zero : 0 + p ≡ p = omega arith in
      told p column (flat_name x column) (lanes 0 roles) apart
      (subst (λ z. Each (IsSure p column (flat_name z column)) (lanes 0 roles)) (role_found x roles e) (all_sure (role_at roles) p column (lanes 0 roles) (named roles)))
      (subst (λ k. some_tell k column (lanes 0 roles) ≡ true) at_zero (tell x column 0 roles e has))
  all_told None has no_column apart false e =
      let p : ℕ = position_of x (names_of roles) in
      lost x p 0 roles e no_column (omega arith)
  all_told (Some c) has no_column apart false e = absurd (subst (λ o. HasColumn o (Some c)) (not_there x roles e) has)

  pub number_same : (constant : Name) (n row : ℤ) (column : Option ℕ) → HasColumn (columns_at roles x) column → is_column_of_some roles x ≡ false → AreApart (role_names (flat_roles roles)) →
      number_in (record { role = position_of x (names_of roles); row = row; column = column }) (cells constant n roles)
      ≡ R.number_in (record { role = position_of (flat_name x column) (role_names (flat_roles roles)); index = row }) (seats (roles_of constant (flat_roles roles)) n)
  number_same constant n row column has no_column apart =
      let ls : List Lane = lanes 0 roles in
      let p : ℕ = position_of x (names_of roles) in
      let y : Name = flat_name x column in
      let e = roles_by_lanes 0 roles in
      let apart' = subst (λ rs. AreApart (role_names rs)) e apart in
      ap (λ cs. number_in (record { role = p; row = row; column = column }) cs) (cells_by_lanes constant n 0 roles)
      ∙ number_in_lanes constant n row p column y (names_in ls) 0 ls (all_told column has no_column apart' (is_named x (names_of roles)) refl) (all_at (names_in ls) apart')
      ∙ ap (λ ss. R.number_in (record { role = position_of y (names_in ls); index = row }) ss) (sym (seats_by_lanes constant n 0 ls))
      ∙ ap (λ rs. R.number_in (record { role = position_of y (role_names rs); index = row }) (seats (roles_of constant rs) n)) (sym e)
