-- The roles of the flat file as one list, each with its role and column in the file with strips. Cells are the ranks of these.
use Rattle.std.proofs.Common.{◌≡◌, ℕ, suc, ◌+◌, ℤ, pos, Option, None, Some, List, [], ◌∷◌, ◌++◌, map, refl, sym, ap, ap₂, ◌∙◌, arith, eqb-true}
use Rattle.std.specs.List.{flat_map}
use Rattle.std.proofs.lemmas.List.{append-nil, map-append}
use Rattle.std.proofs.lemmas.List.Concat.{flat_map-append}
use Rattle.pb_affine.specs.Values.{value, range}
use Rattle.pb_text.specs.declared.place.Spot.{Spot}
use Rattle.pb_syntax.specs.declared.tree.RangeText.{RangeText}
use Rattle.pb_syntax.specs.declared.tree.RoleText.{RoleText}
use Rattle.pb_core_language.specs.FileRules.{role_names}
use Rattle.pb_core_language.specs.Meaning.{position_of, role_of, roles_of}
use Rattle.pb_core_language.specs.Names.{Name}
use Rattle.pb_core_language.specs.Ranks.{Seat, seats_from}
use Rattle.pb_strips_syntax.specs.declared.tree.StripRole.{StripRole}
use Rattle.pb_strips_syntax.specs.Columns.{column_name, numbers}
use Rattle.pb_strips_syntax.specs.Flattening.{column_spot, column_roles, roles_with, flat_roles}
use Rattle.pb_strips_laws.specs.Cells.{Cell, rows_of, cells_in, cells_over, cells_of, cells_from, role_at, flat_name, seat_of}
use Rattle.pb_strips_laws.proofs.Each.{Each, each_both}
use Rattle.pb_strips_laws.proofs.Naming.{AreAt, IsAt, same_itself}

-- a role of the flat file
pub record Lane : Type 0 where
  pub role : ℕ
  pub column : Option ℕ
  pub spot : Spot
  pub rows : Option RangeText

abbrev pub lanes_over : ℕ → Spot → Option RangeText → List ℕ → List Lane
lanes_over k role rows [] = []
lanes_over k role rows (c ∷ cs) = record { role = k; column = Some c; spot = column_spot role c; rows = rows } ∷ lanes_over k role rows cs

abbrev pub lanes_of : ℕ → Spot → Option RangeText → Option (ℕ × ℕ) → List Lane
lanes_of k role rows None = record { role = k; column = None; spot = role; rows = rows } ∷ []
lanes_of k role rows (Some ends) = lanes_over k role rows (numbers ends.0 ends.1)

abbrev pub lanes : ℕ → List StripRole → List Lane
lanes k [] = []
lanes k (r ∷ rs) = lanes_of k r.role r.range r.columns ++ lanes (suc k) rs

-- ---- the roles of the flat file

abbrev pub role_text : Lane → RoleText
role_text l = record { role = l.spot; range = l.rows }

roles_over : (k : ℕ) (role : Spot) (rows : Option RangeText) (cs : List ℕ) → column_roles role rows cs ≡ map role_text (lanes_over k role rows cs)
roles_over k role rows [] = refl
roles_over k role rows (c ∷ cs) = ap (λ rs. role_text (record { role = k; column = Some c; spot = column_spot role c; rows = rows }) ∷ rs) (roles_over k role rows cs)

roles_here : (k : ℕ) (role : Spot) (rows : Option RangeText) (columns : Option (ℕ × ℕ)) → roles_with role rows columns ≡ map role_text (lanes_of k role rows columns)
roles_here k role rows None = refl
roles_here k role rows (Some ends) = roles_over k role rows (numbers ends.0 ends.1)

pub roles_by_lanes : (k : ℕ) (rs : List StripRole) → flat_roles rs ≡ map role_text (lanes k rs)
roles_by_lanes k [] = refl
roles_by_lanes k (r ∷ rs) =
    ap₂ (λ xs ys. xs ++ ys) (roles_here k r.role r.range r.columns) (roles_by_lanes (suc k) rs)
    ∙ sym (map-append role_text (lanes_of k r.role r.range r.columns) (lanes (suc k) rs))

-- ---- names
-- where this function gives the names of roles, the lane's name is that of its column
abbrev pub IsNamed : (ℕ → Name) → Lane → Type 0
IsNamed f l = flat_name (f l.role) l.column ≡ l.spot.name

named_over : (f : ℕ → Name) (k : ℕ) (role : Spot) (rows : Option RangeText) → f k ≡ role.name → (cs : List ℕ) → Each (IsNamed f) (lanes_over k role rows cs)
named_over f k role rows e [] = tt
named_over f k role rows e (c ∷ cs) = (ap (λ x. column_name x c) e, named_over f k role rows e cs)

named_here : (f : ℕ → Name) (k : ℕ) (role : Spot) (rows : Option RangeText) → f k ≡ role.name → (columns : Option (ℕ × ℕ)) → Each (IsNamed f) (lanes_of k role rows columns)
named_here f k role rows e None = (e, tt)
named_here f k role rows e (Some ends) = named_over f k role rows e (numbers ends.0 ends.1)

named_from : (f : ℕ → Name) (k : ℕ) (rs : List StripRole) → ((j : ℕ) → f (k + j) ≡ role_at rs j) → Each (IsNamed f) (lanes k rs)
named_from f k [] h = tt
named_from f k (r ∷ rs) h =
    let here : k ≡ k + 0 = omega arith in
    each_both (IsNamed f) (lanes_of k r.role r.range r.columns) (lanes (suc k) rs)
    (named_here f k r.role r.range (ap f here ∙ h 0) r.columns)
    (named_from f (suc k) rs (λ j. let next : suc k + j ≡ k + suc j = omega arith in ap f next ∙ h (suc j)))

pub named : (roles : List StripRole) → Each (IsNamed (role_at roles)) (lanes 0 roles)
named roles = named_from (role_at roles) 0 roles (λ j. let same_one : 0 + j ≡ j = omega arith in ap (role_at roles) same_one)

-- ---- cells and seats

pub position_is : (names : List Name) (q : ℕ) (z : Name) → IsAt names q z → position_of z names ≡ q
position_is names q z h = eqb-true (position_of z names) q (h z ∙ same_itself z)

module _ (constant : Name) (n : ℤ) where
  abbrev pub lane_cells : Lane → List Cell
  lane_cells l = cells_in constant n l.role l.column (rows_of constant n l.rows)

  cells_of_columns : (k : ℕ) (role : Spot) (rows : Option RangeText) (cs : List ℕ) → cells_over constant n k (rows_of constant n rows) cs ≡ flat_map lane_cells (lanes_over k role rows cs)
  cells_of_columns k role rows [] = refl
  cells_of_columns k role rows (c ∷ cs) = ap (λ xs. cells_in constant n k (Some c) (rows_of constant n rows) ++ xs) (cells_of_columns k role rows cs)

  cells_here : (k : ℕ) (role : Spot) (rows : Option RangeText) (columns : Option (ℕ × ℕ)) → cells_of constant n k (rows_of constant n rows) columns ≡ flat_map lane_cells (lanes_of k role rows columns)
  cells_here k role rows None = sym (append-nil (cells_in constant n k None (rows_of constant n rows)))
  cells_here k role rows (Some ends) = cells_of_columns k role rows (numbers ends.0 ends.1)

  pub cells_by_lanes : (k : ℕ) (rs : List StripRole) → cells_from constant n k rs ≡ flat_map lane_cells (lanes k rs)
  cells_by_lanes k [] = refl
  cells_by_lanes k (r ∷ rs) =
      ap₂ (λ xs ys. xs ++ ys) (cells_here k r.role r.range r.columns) (cells_by_lanes (suc k) rs)
      ∙ sym (flat_map-append lane_cells (lanes_of k r.role r.range r.columns) (lanes (suc k) rs))

  abbrev pub seats_in : ℕ → List ℤ → List Seat
  seats_in q xs = map (λ x. record { role = q; index = x }) xs

  abbrev pub lane_seats : ℕ → List Lane → List Seat
  lane_seats q [] = []
  lane_seats q (l ∷ ls) = seats_in q (rows_of constant n l.rows) ++ lane_seats (suc q) ls

  rows_same : (role : Spot) (rows : Option RangeText) → let r : RoleText = record { role = role; range = rows } in
      range (value (role_of constant r).low n (pos 0)) (value (role_of constant r).high n (pos 0)) ≡ rows_of constant n rows
  rows_same role None = refl
  rows_same role (Some over) = refl

  pub seats_by_lanes : (q : ℕ) (ls : List Lane) → seats_from q (roles_of constant (map role_text ls)) n ≡ lane_seats q ls
  seats_by_lanes q [] = refl
  seats_by_lanes q (l ∷ ls) = ap₂ (λ xs ys. seats_in q xs ++ ys) (rows_same l.spot l.rows) (seats_by_lanes (suc q) ls)

  module _ (roles : List StripRole) (names : List Name) where
    seats_of_rows : (k : ℕ) (column : Option ℕ) (q : ℕ) → position_of (flat_name (role_at roles k) column) names ≡ q →
        (xs : List ℤ) → map (seat_of roles names) (cells_in constant n k column xs) ≡ seats_in q xs
    seats_of_rows k column q e [] = refl
    seats_of_rows k column q e (x ∷ xs) =
        ap₂ (λ p ys. let s : Seat = record { role = p; index = x } in s ∷ ys) e (seats_of_rows k column q e xs)

    pub seats_of_lanes : (q : ℕ) (ls : List Lane) → Each (IsNamed (role_at roles)) ls → AreAt names q (role_names (map role_text ls)) → map (seat_of roles names) (flat_map lane_cells ls) ≡ lane_seats q ls
    seats_of_lanes q [] h at = refl
    seats_of_lanes q (l ∷ ls) h at =
        map-append (seat_of roles names) (lane_cells l) (flat_map lane_cells ls)
        ∙ ap₂ (λ xs ys. xs ++ ys)
        (seats_of_rows l.role l.column q (ap (λ z. position_of z names) h.0 ∙ position_is names q l.spot.name at.0) (rows_of constant n l.rows))
        (seats_of_lanes (suc q) ls h.1 at.1)
