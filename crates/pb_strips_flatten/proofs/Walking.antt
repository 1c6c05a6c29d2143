-- A walk over parts that stand one after the other.
use Rattle.std.proofs.Common.{◌≡◌, ℕ, ◌+◌, ◌-◌, ◌≤◌, zero, suc, Option, Some, List, [], ◌∷◌, ◌++◌, length, sym, ap, ◌∙◌, subst, arith, append_assoc, append-nil, length-append}
use Rattle.std.specs.List.{slice_get}
use Rattle.pb_text.specs.declared.place.Place.{Place}
use Rattle.pb_text.specs.declared.place.Spot.{Spot}
use Rattle.pb_syntax.specs.declared.tree.End.{End}
use Rattle.pb_syntax.specs.Tree as tree
use Rattle.pb_syntax.specs.Tree.{PlainStatement, PlainBlock}
use Rattle.pb_strips_syntax.specs.declared.tree.StripEnd.{StripEnd}
use Rattle.pb_strips_syntax.specs.Flattening.{flat_end, flat_among}
use Rattle.pb_strips_syntax.specs.Strips.{Strips, StripBranches, choice}
use Rattle.pb_strips_flatten.specs.Excess.{origins_among}
use Rattle.pb_strips_flatten.proofs.Unrolled.{all_branches}
use Rattle.pb_strips_flatten.specs.declared.stop.Stop.{Stop}
use Rattle.pb_strips_flatten.specs.declared.stop.Stop.TheVariants.{TooMany, Unnamed, NoMemory}
use Rattle.pb_strips_flatten.specs.Parts.{Part, EndIn, AllFit, joined, no_part, part_at, part_in, part_among, part_branch, block_with, blocks_among}
use Rattle.pb_strips_flatten.specs.Ends.{Written, grown, behind, counted, with_one, Stops}

abbrev with : {A : Type 0} → List A → ℕ → Written A
with list count = record { list = list; count = count }

-- ---- places

pub slice_get_first : {A : Type 0} → (xs ys : List A) (k : ℕ) (x : A) → slice_get xs k ≡ Some x → slice_get (xs ++ ys) k ≡ Some x
slice_get_first [] ys k x e = search e
slice_get_first (z ∷ xs) ys zero x e = e
slice_get_first (z ∷ xs) ys (suc k) x e = slice_get_first xs ys k x e

pub slice_get_behind : {A : Type 0} → (xs ys : List A) (k : ℕ) → slice_get (xs ++ ys) (length xs + k) ≡ slice_get ys k
slice_get_behind [] ys k = ap (λ (n : ℕ). slice_get ys n) (omega arith)
slice_get_behind (x ∷ xs) ys k =
    let one : suc (length xs) + k ≡ suc (length xs + k) = omega arith in
    ap (λ (n : ℕ). slice_get (x ∷ (xs ++ ys)) n) one ∙ slice_get_behind xs ys k

-- ---- ends

fit_first : (xs ys : List EndIn) → AllFit (xs ++ ys) → AllFit xs
fit_first [] ys h = tt
fit_first (x ∷ xs) ys h = (h.0, fit_first xs ys h.1)

fit_second : (xs ys : List EndIn) → AllFit (xs ++ ys) → AllFit ys
fit_second [] ys h = h
fit_second (x ∷ xs) ys h = fit_second xs ys h.1

-- ---- what is written

grown_twice : {A : Type 0} → (w : Written A) (a b : Part A) → grown (grown w a) b ≡ grown w (joined a b)
grown_twice {A = A} w a b =
    let counts : (w.count + length a.places) + length b.places ≡ w.count + length (a.places ++ b.places) = omega (arith, length-append a.places b.places) in
    ap (λ (l : List A). with l ((w.count + length a.places) + length b.places)) (append_assoc w.list a.made b.made)
    ∙ ap (λ (n : ℕ). with (w.list ++ (a.made ++ b.made)) n) counts

grown_none : {A : Type 0} → (w : Written A) → grown w no_part ≡ w
grown_none {A = A} w =
    let counts : w.count + 0 ≡ w.count = omega arith in
    ap (λ (l : List A). with l (w.count + 0)) (append-nil w.list) ∙ ap (λ (n : ℕ). with w.list n) counts

-- ---- a loop

-- with what the rest gives, the whole is given
pub record SoFar {A : Type 0} (old : Written A) (whole : Part A) (now : Written A) (rest : Part A) : Type 0 where
  pub all : grown now rest ≡ grown old whole
  pub room : slice_get rest.places (4000 - now.count) ≡ slice_get whole.places (4000 - old.count)
  pub named : AllFit whole.ends → AllFit rest.ends

pub goes_on : {A : Type 0} → (old : Written A) (whole : Part A) (now next : Written A) (rest part left : Part A) →
    rest ≡ joined part left → next ≡ grown now part → next.count ≤ 4000 → SoFar old whole now rest → SoFar old whole next left
goes_on {A = A} old whole now next rest part left e f few h =
    let counts : next.count ≡ now.count + length part.places = ap (λ (w : Written A). w.count) f in
    let here : length part.places + (4000 - next.count) ≡ 4000 - now.count = omega (arith, counts, few) in
    record {
      all = ap (λ (w : Written A). grown w left) f ∙ grown_twice now part left ∙ ap (λ (r : Part A). grown now r) (sym e) ∙ h.all;
      room = sym (slice_get_behind part.places left.places (4000 - next.count))
          ∙ ap (λ (k : ℕ). slice_get (part.places ++ left.places) k) here
          ∙ ap (λ (r : Part A). slice_get r.places (4000 - now.count)) (sym e) ∙ h.room;
      named = λ fits. fit_second part.ends left.ends (subst (λ (p : Part A). AllFit p.ends) e (h.named fits));
    }

pub halts : {A : Type 0} → (old : Written A) (whole : Part A) (now : Written A) (rest part left : Part A) (s : Stop) →
    rest ≡ joined part left → Stops s part now.count → SoFar old whole now rest → Stops s whole old.count
halts {A = A} old whole now rest part left (TooMany p) e f h =
    sym h.room ∙ ap (λ (r : Part A). slice_get r.places (4000 - now.count)) e ∙ slice_get_first part.places left.places (4000 - now.count) p f
halts {A = A} old whole now rest part left Unnamed e f h = λ fits. f (fit_first part.ends left.ends (subst (λ (p : Part A). AllFit p.ends) e (h.named fits)))
halts old whole now rest part left NoMemory e f h = tt

-- what gives nothing leaves all as it is
pub nothing_more : {A : Type 0} → (w : Written A) (part : Part A) → part ≡ no_part → w ≡ grown w part
nothing_more {A = A} w part e = sym (grown_none w) ∙ ap (λ (p : Part A). grown w p) (sym e)

-- ---- a choice

-- one branch more
pub one_branch : (old now : Written PlainBlock) (inner : Written PlainStatement) (place at : Place) (first : Strips) (v : Option ℕ) →
    place ≡ at → inner ≡ grown (behind old.count) (part_in first v) → now ≡ with_one old (block_with place inner.list) inner.count → now ≡ grown old (part_branch at first v)
one_branch old now inner place at first v e f g =
    g ∙ ap (λ (w : Written PlainStatement). with_one old (block_with place w.list) w.count) f
    ∙ ap (λ (p : Place). grown old (part_branch p first v)) e

pub branch_stops : (s : Stop) (at : Place) (first : Strips) (v : Option ℕ) (count : ℕ) → Stops s (part_in first v) count → Stops s (part_branch at first v) count
branch_stops (TooMany p) at first v count h = h
branch_stops Unnamed at first v count h = h
branch_stops NoMemory at first v count h = tt

pub choice_made : (before mid after : Written PlainStatement) (inner : Written PlainBlock) (place : Place) (kernel : Spot) (who : End) (at : StripEnd) (bs : StripBranches) (v : Option ℕ) →
    mid ≡ counted before → inner ≡ grown (behind mid.count) (part_among bs v) → who ≡ flat_end v at →
    after ≡ with_one mid (tree.choice place kernel who (tree.branches_of inner.list)) inner.count → after ≡ grown before (part_at (choice place kernel at bs) v)
choice_made before mid after inner place kernel who at bs v e f g h =
    let sum : (before.count + 1) + length (origins_among bs) ≡ before.count + suc (length (origins_among bs)) = omega arith in
    h ∙ ap (λ (w : Written PlainBlock). with_one mid (tree.choice place kernel who (tree.branches_of w.list)) w.count) f
    ∙ ap (λ (m : Written PlainStatement). with_one m (tree.choice place kernel who (tree.branches_of (blocks_among bs v))) (m.count + length (origins_among bs))) e
    ∙ ap (λ (x : End). with_one before (tree.choice place kernel x (tree.branches_of (blocks_among bs v))) ((before.count + 1) + length (origins_among bs))) g
    ∙ ap (λ (b : tree.PlainBranches). with_one before (tree.choice place kernel (flat_end v at) b) ((before.count + 1) + length (origins_among bs))) (sym (all_branches bs v))
    ∙ ap (λ (n : ℕ). with_one before (tree.choice place kernel (flat_end v at) (flat_among bs v)) n) sum
