-- The segments of a foreach, as they are added.
use Rattle.std.specs.Prelude.{◌≡◌, ℕ, ◌+◌, ◌<◌, length, ℤ, pos, ◌≤ℤ◌, ◌-ℤ◌, Bool, true, false, ◌&&◌, not, Option, List, [], ◌∷◌}
use Rattle.pb_affine.specs.declared.range.NRange.{NRange}
use Rattle.pb_affine.specs.declared.guard.Guard.{Guard}
use Rattle.pb_affine.specs.Values.{hold}
use Rattle.pb_part_areas.specs.declared.area.Area.{Area}
use Rattle.pb_part_areas.specs.Areas.{have}
use Rattle.pb_core_language.specs.Plain.{Protocol}
use Rattle.pb_core_language.specs.Sound.{Rows, rows_of, is_small, is_block}
use Rattle.pb_core_language.specs.Tree.{BlockTree}
use Rattle.pb_core_language.specs.declared.tree.Bounds.{Bounds}
use Rattle.pb_core_language.specs.Verdict.{IsIn}
use Rattle.pb_core_flat.specs.Seated.{is_rank}
use Rattle.pb_local.specs.Tree as L
use Rattle.pb_local.specs.Tree.{Code, Codes, Program}
use Rattle.pb_local.specs.WellMade.{AreGuards}
use Rattle.pb_shape.specs.Tabled.{GoAll}
use Rattle.pb_shape.specs.Places.{Scope, Here}
use Rattle.pb_shape.specs.Segments.{in_segment, segment_codes, offsets, OfRole, Segments}
use Rattle.pb_project_piece.specs.Adding.{onto}
use Rattle.pb_project_piece.specs.Weights.{IsWeighed, IsSimple, IsTabledAs, AreFlat, each_room, count_in, segment_sum}
use Rattle.pb_project_piece.specs.Comers.{AreBounds}
use Rattle.pb_project_piece.specs.Ranked.{IsBrought}
use Rattle.pb_project_piece.specs.Seen.{IsAmong, IsFound}
use Rattle.pb_project_piece.specs.Standing.{Stands, meeting}
use Rattle.pb_project_piece.specs.Ones.{IsOne}

-- the piece before a rest is what these codes are before it
pub record IsCodes (codes : Codes → Codes) (piece : List Code) : Type 0 where
  pub is : (rest : Codes) → onto piece rest ≡ codes rest

-- the variable may have any value; of those at ends of the items all come but these, and of these none
pub record IsApart (over : Bounds) (b : BlockTree) (less : List Area) (sc : Scope) (h : Here) : Type 0 where
  pub at : (n i : ℤ) → h.at n i ≡ true
  pub come : (n i : ℤ) (role : ℕ) (x : ℤ) → IsIn sc.range n → is_rank sc.roles n role x ≡ true → meeting over b n i role x ≡ true → have less n role x ≡ false → h.comes n i role x ≡ true
  pub comes : (n i : ℤ) (role : ℕ) (x : ℤ) → IsIn sc.range n → is_rank sc.roles n role x ≡ true → h.comes n i role x ≡ true → have less n role x ≡ false
  pub steady : IsBrought (λ n role x. have less n role x)

-- the areas are of the ranks of a segment that aren't among others
pub record AreOthers (over : Bounds) (k : ℕ) (c : ℤ) (less areas : List Area) : Type 0 where
  pub is : (n : ℤ) (role : ℕ) (x : ℤ) → pos 0 ≤ℤ n → AreBounds over → is_small c ≡ true → have areas n role x ≡ in_segment over k c n (pos 0) role x && not (have less n role x)

-- a rank of the segment that isn't among others
abbrev pub is_left : Bounds → ℕ → ℤ → List Area → ℤ → ℕ → ℤ → Bool
is_left over k c less n role x = in_segment over k c n (pos 0) role x && not (have less n role x)

-- what the area holds of are such ranks, where there is one
pub record IsSomeOther (whole : List Area) (over : Bounds) (k : ℕ) (c : ℤ) (less : List Area) (part : Option Area) : Type 0 where
  pub is : AreBounds over → is_small c ≡ true → IsAmong whole part (λ n role x. is_left over k c less n role x)

-- whether there is some
pub record IsLeft (range : NRange) (whole : List Area) (over : Bounds) (k : ℕ) (c : ℤ) (less : List Area) (t : Bool) : Type 0 where
  pub is : AreBounds over → is_small c ≡ true → IsFound range whole (λ n role x. is_left over k c less n role x) t

-- the ranks of the segment are at an end of the items for some value of the variable
abbrev pub Offers : Bounds → BlockTree → ℕ → ℤ → Type 0
Offers over b k c = (n i : ℤ) (role : ℕ) (x : ℤ) → in_segment over k c n i role x ≡ true → meeting over b n i role x ≡ true

abbrev pub AllOffer : Bounds → BlockTree → ℕ → List ℤ → Type 0
AllOffer over b k [] = Unit {0}
AllOffer over b k (c ∷ cs) = Offers over b k c × AllOffer over b k cs

abbrev pub codes_in : ℕ → ℤ → BlockTree → Codes
codes_in k c b = L.more (L.own (pos 0 -ℤ c)) (segment_codes k c b)

-- `Own`, and what the items are to the ranks of a segment
pub record IsCodesOf (k : ℕ) (c : ℤ) (b : BlockTree) (codes : Codes) : Type 0 where
  pub first : Code
  pub simple : IsSimple first
  pub exact : is_small c ≡ true → first ≡ L.own (pos 0 -ℤ c)
  pub is : codes ≡ L.more first (segment_codes k c b)

-- the statement is an `If` of a segment's ranks, with what they do
pub record IsSegmentOf (over : Bounds) (b : BlockTree) (k : ℕ) (c : ℤ) (code : Code) : Type 0 where
  pub guards : List Guard
  pub codes : Codes
  pub of : IsCodesOf k c b codes
  pub is : code ≡ L.when guards codes L.nothing
  pub hold_of : (n i : ℤ) (role : ℕ) (x : ℤ) → AreBounds over → is_small c ≡ true → hold guards n i role x ≡ in_segment over k c n i role x
  pub made : (l : Program) → k < length l.roles → AreBounds over → is_small c ≡ true → AreGuards l guards

-- the piece is a segment
pub record IsSegment (range : NRange) (roles : ℕ) (whole : List Area) (over : Bounds) (less : List Area) (b : BlockTree) (k : ℕ) (c : ℤ) (piece : List Code) : Type 0 where
  pub is : (sc : Scope) (h : Here) → Stands range roles whole sc → IsApart over b less sc h → AreBounds over → is_small c ≡ true → Offers over b k c → IsOne sc h (in_segment over k c) (codes_in k c b) piece
  pub weighed : IsWeighed (2 + count_in k c b) 1 piece
  pub made : (p : Protocol) (l : Program) (ids : List ℕ) → IsTabledAs p l → k < length l.roles → AreBounds over → is_small c ≡ true → is_block (rows_of p) true ids b ≡ true → GoAll p b → AreFlat l piece

-- the piece is a role's segments
pub record IsRoleSegments (range : NRange) (roles : ℕ) (whole : List Area) (over : Bounds) (less : List Area) (b : BlockTree) (k : ℕ) (piece : List Code) : Type 0 where
  pub is : (sc : Scope) (h : Here) (rows : Rows) (ids : List ℕ) → Stands range roles whole sc → IsApart over b less sc h → AreBounds over → is_block rows true ids b ≡ true →
      (tail : Codes) → OfRole sc h over b k tail (offsets k b) (onto piece tail)
  pub weighed : IsWeighed (segment_sum k b (offsets k b)) 1 piece
  pub made : (p : Protocol) (l : Program) (ids : List ℕ) → IsTabledAs p l → k < length l.roles → AreBounds over → is_block (rows_of p) true ids b ≡ true → GoAll p b → AreFlat l piece

-- the piece is all segments
pub record AreSegments (range : NRange) (roles : ℕ) (whole : List Area) (over : Bounds) (less : List Area) (b : BlockTree) (piece : List Code) : Type 0 where
  pub are : (sc : Scope) (h : Here) (rows : Rows) (ids : List ℕ) → Stands range roles whole sc → IsApart over b less sc h → AreBounds over → is_block rows true ids b ≡ true →
      (tail : Codes) → Segments sc h over b tail 0 sc.roles (onto piece tail)
  pub weighed : IsWeighed (each_room 6 b) 1 piece
  pub made : (p : Protocol) (l : Program) (ids : List ℕ) → IsTabledAs p l → roles ≡ length l.roles → AreBounds over → is_block (rows_of p) true ids b ≡ true → GoAll p b → AreFlat l piece
