-- A function on a range has one list of pieces.
use Rattle.std.proofs.Common.{◌≡◌, ◌≢◌, ◌≤◌, ℕ, ℤ, pos, ◌+ℤ◌, ◌*ℤ◌, ◌≤ℤ◌, ◌<ℤ◌, int_le, Bool, true, false, Option, Some, None, List, [], ◌∷◌, refl, sym, ap, ap₂, ◌∙◌, subst, arith}
use Rattle.std.proofs.lemmas.Int.{ints}
use Rattle.pb_core_language.specs.Verdict.{IsUpTo}
use Rattle.pb_cost_pieces.proofs.Products.{times_next}
use Rattle.pb_cost_laws.specs.Sent.{Way, Least, Most, IsExtreme}
use Rattle.pb_cost.specs.declared.piece.Piece.{Piece}
use Rattle.pb_cost.specs.Laws.{OneList}
use Rattle.pb_cost.specs.Pieces.{line_of, last_of, ArePieces, final, before}

-- ---- numbers of a range

le_same : (x : ℤ) → x ≤ℤ x
le_same x = omega (arith, ints)

le_next : (x : ℤ) → x ≤ℤ (x +ℤ pos 1)
le_next x = omega (arith, ints)

next_le : (x y : ℤ) → x <ℤ y → (x +ℤ pos 1) ≤ℤ y
next_le x y h = omega (arith, ints, h)

lt_le : (x y : ℤ) → x <ℤ y → x ≤ℤ y
lt_le x y h = omega (arith, ints, h)

le_through : (x y z : ℤ) → x ≤ℤ y → y ≤ℤ z → x ≤ℤ z
le_through x y z h k = omega (arith, ints, h, k)

up_to_less : (high : Option ℕ) (x y : ℤ) → x ≤ℤ y → IsUpTo y high → IsUpTo x high
up_to_less None x y h k = tt
up_to_less (Some high) x y h k = le_through x y (pos high) h k

before_next : (x y : ℤ) → x <ℤ y → x ≤ℤ (y +ℤ pos 1)
before_next x y h = omega (arith, ints, h)

-- pieces begin in the range
pub begins_within : (f : ℤ → ℤ) (high : Option ℕ) (from : ℤ) (list : List Piece) → ArePieces f high from list → IsUpTo from high
begins_within f high from [] are = elim are [ ]
begins_within f high from (p ∷ []) (final _ _ p_from p_to within on single) = within
begins_within f high from (p ∷ rest) (before _ to _ _ p_from p_to lt on off more) = up_to_less high from (to +ℤ pos 1) (before_next from to lt) (begins_within f high (to +ℤ pos 1) rest more)

-- ---- two lines that agree at two numbers

slopes_as : (ax bx an bn a b c d : ℤ) → ax +ℤ c ≡ bx +ℤ d → an +ℤ c ≡ bn +ℤ d → an ≡ ax +ℤ a → bn ≡ bx +ℤ b → a ≡ b
slopes_as ax bx an bn a b c d e f g h = omega (arith, ints, e, f, g, h)

starts_as : (ax bx c d : ℤ) → ax +ℤ c ≡ bx +ℤ d → ax ≡ bx → c ≡ d
starts_as ax bx c d e f = omega (arith, ints, e, f)

same_slope : (p q : Piece) (x : ℤ) → line_of p x ≡ line_of q x → line_of p (x +ℤ pos 1) ≡ line_of q (x +ℤ pos 1) → p.a ≡ q.a
same_slope p q x e f = slopes_as (p.a *ℤ x) (q.a *ℤ x) (p.a *ℤ (x +ℤ pos 1)) (q.a *ℤ (x +ℤ pos 1)) p.a q.a p.b q.b e f (times_next p.a x (x +ℤ pos 1) refl) (times_next q.a x (x +ℤ pos 1) refl)

same_start : (p q : Piece) (x : ℤ) → line_of p x ≡ line_of q x → p.a ≡ q.a → p.b ≡ q.b
same_start p q x e f = starts_as (p.a *ℤ x) (q.a *ℤ x) p.b q.b e (ap (λ a. a *ℤ x) f)

same_line : (p q : Piece) (n : ℤ) → p.a ≡ q.a → p.b ≡ q.b → line_of p n ≡ line_of q n
same_line p q n e f = ap₂ (λ a b. a *ℤ n +ℤ b) e f

abbrev piece_with : ℤ → Option ℤ → ℤ → ℤ → Piece
piece_with x to a b = record { from = x; to = to; a = a; b = b }

same_piece : (p q : Piece) → p.from ≡ q.from → p.to ≡ q.to → p.a ≡ q.a → p.b ≡ q.b → p ≡ q
same_piece p q e1 e2 e3 e4 =
    ap (λ x. piece_with x p.to p.a p.b) e1 ∙ ap (λ to. piece_with q.from to p.a p.b) e2 ∙ ap (λ a. piece_with q.from q.to a p.b) e3 ∙ ap (λ b. piece_with q.from q.to q.a b) e4

module _ (f g : ℤ → ℤ) (high : Option ℕ) where
  -- lines of pieces that agree with one function at two numbers of the range
  agree : (p q : Piece) (x : ℤ) → f x ≡ g x → f (x +ℤ pos 1) ≡ g (x +ℤ pos 1) → f x ≡ line_of p x → f (x +ℤ pos 1) ≡ line_of p (x +ℤ pos 1) → g x ≡ line_of q x → g (x +ℤ pos 1) ≡ line_of q (x +ℤ pos 1) → (p.a ≡ q.a) × (p.b ≡ q.b)
  agree p q x s t p1 p2 q1 q2 =
      let a = same_slope p q x (sym p1 ∙ s ∙ q1) (sym p2 ∙ t ∙ q2) in
      (a, same_start p q x (sym p1 ∙ s ∙ q1) a)

-- ---- the last piece

-- the next number is in the range
abbrev has_next : Option ℕ → ℤ → Bool
has_next None x = true
has_next (Some high) x = int_le (x +ℤ pos 1) (pos high)

next_within : (x h : ℤ) → int_le (x +ℤ pos 1) h ≡ true → (x +ℤ pos 1) ≤ℤ h
next_within x h e = omega (arith, ints, e)

at_end : (x h : ℤ) → x ≤ℤ h → int_le (x +ℤ pos 1) h ≡ false → h ≡ x
at_end x h k e = omega (arith, ints, k, e)

last_lines : (f g : ℤ → ℤ) (high : Option ℕ) (from : ℤ) (p q : Piece) → ((n : ℤ) → from ≤ℤ n → IsUpTo n high → f n ≡ g n) → p.to ≡ last_of high → q.to ≡ last_of high → IsUpTo from high →
    ((n : ℤ) → from ≤ℤ n → IsUpTo n high → f n ≡ line_of p n) → ((n : ℤ) → from ≤ℤ n → IsUpTo n high → g n ≡ line_of q n) → (p.to ≡ Some from → p.a ≡ pos 0) → (q.to ≡ Some from → q.a ≡ pos 0) → (b : Bool) → has_next high from ≡ b → (p.a ≡ q.a) × (p.b ≡ q.b)
last_lines f g None from p q same p_to q_to within p_on q_on p_single q_single b e =
    agree f g None p q from (same from (le_same from) tt) (same (from +ℤ pos 1) (le_next from) tt) (p_on from (le_same from) tt) (p_on (from +ℤ pos 1) (le_next from) tt) (q_on from (le_same from) tt) (q_on (from +ℤ pos 1) (le_next from) tt)
last_lines f g (Some high) from p q same p_to q_to within p_on q_on p_single q_single true e =
    let up = next_within from (pos high) e in
    agree f g (Some high) p q from (same from (le_same from) within) (same (from +ℤ pos 1) (le_next from) up) (p_on from (le_same from) within) (p_on (from +ℤ pos 1) (le_next from) up) (q_on from (le_same from) within) (q_on (from +ℤ pos 1) (le_next from) up)
last_lines f g (Some high) from p q same p_to q_to within p_on q_on p_single q_single false e =
    let here = ap Some (at_end from (pos high) within e) in
    let a = p_single (p_to ∙ here) ∙ sym (q_single (q_to ∙ here)) in
    (a, same_start p q from (sym (p_on from (le_same from) within) ∙ same from (le_same from) within ∙ q_on from (le_same from) within) a)

-- ---- pieces that end

both_lines : (f g : ℤ → ℤ) (high : Option ℕ) (from to : ℤ) (p q : Piece) → ((n : ℤ) → from ≤ℤ n → IsUpTo n high → f n ≡ g n) → from <ℤ to → IsUpTo (to +ℤ pos 1) high →
    ((n : ℤ) → from ≤ℤ n → n ≤ℤ to → f n ≡ line_of p n) → ((n : ℤ) → from ≤ℤ n → n ≤ℤ to → g n ≡ line_of q n) → (p.a ≡ q.a) × (p.b ≡ q.b)
both_lines f g high from to p q same lt within p_on q_on =
    agree f g high p q from (same from (le_same from) (up_to_less high from (to +ℤ pos 1) (before_next from to lt) within)) (same (from +ℤ pos 1) (le_next from) (up_to_less high (from +ℤ pos 1) (to +ℤ pos 1) (le_through (from +ℤ pos 1) to (to +ℤ pos 1) (next_le from to lt) (le_next to)) within))
    (p_on from (le_same from) (lt_le from to lt)) (p_on (from +ℤ pos 1) (le_next from) (next_le from to lt)) (q_on from (le_same from) (lt_le from to lt)) (q_on (from +ℤ pos 1) (le_next from) (next_le from to lt))

-- a piece that ends at `to` isn't one that goes on
not_longer : (f g : ℤ → ℤ) (high : Option ℕ) (from to : ℤ) (p q : Piece) → ((n : ℤ) → from ≤ℤ n → IsUpTo n high → f n ≡ g n) → from <ℤ to → IsUpTo (to +ℤ pos 1) high →
    ((n : ℤ) → from ≤ℤ n → n ≤ℤ to → f n ≡ line_of p n) → f (to +ℤ pos 1) ≢ line_of p (to +ℤ pos 1) → ((n : ℤ) → from ≤ℤ n → n ≤ℤ (to +ℤ pos 1) → g n ≡ line_of q n) → ⊥
not_longer f g high from to p q same lt within p_on p_off q_on =
    let l = both_lines f g high from to p q same lt within p_on (λ n h k. q_on n h (le_through n to (to +ℤ pos 1) k (le_next to))) in
    p_off (same (to +ℤ pos 1) (before_next from to lt) within ∙ q_on (to +ℤ pos 1) (before_next from to lt) (le_same (to +ℤ pos 1)) ∙ sym (same_line p q (to +ℤ pos 1) l.0 l.1))

within_last : (g : ℤ → ℤ) (high : Option ℕ) (from to : ℤ) (q : Piece) → IsUpTo (to +ℤ pos 1) high → ((n : ℤ) → from ≤ℤ n → IsUpTo n high → g n ≡ line_of q n) → (n : ℤ) → from ≤ℤ n → n ≤ℤ (to +ℤ pos 1) → g n ≡ line_of q n
within_last g high from to q within on n h k = on n h (up_to_less high n (to +ℤ pos 1) k within)

less_by : (s t : ℤ) → int_le (s +ℤ pos 1) t ≡ true → (s +ℤ pos 1) ≤ℤ t
less_by s t e = omega (arith, ints, e)

equal_by : (s t : ℤ) → int_le (s +ℤ pos 1) t ≡ false → int_le (t +ℤ pos 1) s ≡ false → s ≡ t
equal_by s t e f = omega (arith, ints, e, f)

flipped : (f g : ℤ → ℤ) (high : Option ℕ) (from : ℤ) → ((n : ℤ) → from ≤ℤ n → IsUpTo n high → f n ≡ g n) → (n : ℤ) → from ≤ℤ n → IsUpTo n high → g n ≡ f n
flipped f g high from same n h k = sym (same n h k)

-- both end at the same number
same_end : (f g : ℤ → ℤ) (high : Option ℕ) (from s t : ℤ) (p q : Piece) → ((n : ℤ) → from ≤ℤ n → IsUpTo n high → f n ≡ g n) → from <ℤ s → from <ℤ t → IsUpTo (s +ℤ pos 1) high → IsUpTo (t +ℤ pos 1) high →
    ((n : ℤ) → from ≤ℤ n → n ≤ℤ s → f n ≡ line_of p n) → f (s +ℤ pos 1) ≢ line_of p (s +ℤ pos 1) → ((n : ℤ) → from ≤ℤ n → n ≤ℤ t → g n ≡ line_of q n) → g (t +ℤ pos 1) ≢ line_of q (t +ℤ pos 1) →
    (b c : Bool) → int_le (s +ℤ pos 1) t ≡ b → int_le (t +ℤ pos 1) s ≡ c → s ≡ t
same_end f g high from s t p q same ls lt ws wt p_on p_off q_on q_off true c eb ec = absurd (not_longer f g high from s p q same ls ws p_on p_off (λ n h k. q_on n h (le_through n (s +ℤ pos 1) t k (less_by s t eb))))
same_end f g high from s t p q same ls lt ws wt p_on p_off q_on q_off false true eb ec = absurd (not_longer g f high from t q p (flipped f g high from same) lt wt q_on q_off (λ n h k. p_on n h (le_through n (t +ℤ pos 1) s k (less_by t s ec))))
same_end f g high from s t p q same ls lt ws wt p_on p_off q_on q_off false false eb ec = equal_by s t eb ec

pub one_list : (f g : ℤ → ℤ) (high : Option ℕ) (from : ℤ) (xs ys : List Piece) → ((n : ℤ) → from ≤ℤ n → IsUpTo n high → f n ≡ g n) → ArePieces f high from xs → ArePieces g high from ys → xs ≡ ys
one_list f g high from [] ys same a b = elim a [ ]
one_list f g high from (p ∷ xs) [] same a b = elim b [ ]
one_list f g high from (p ∷ []) (q ∷ []) same (final _ _ p_from p_to p_in p_on p_single) (final _ _ q_from q_to q_in q_on q_single) =
    let l = last_lines f g high from p q same p_to q_to p_in p_on q_on p_single q_single (has_next high from) refl in
    ap (λ z. z ∷ []) (same_piece p q (p_from ∙ sym q_from) (p_to ∙ sym q_to) l.0 l.1)
one_list f g high from (p ∷ []) (q ∷ ys) same (final _ _ p_from p_to p_in p_on p_single) (before _ t _ _ q_from q_to lt q_on q_off more) =
    let w = begins_within g high (t +ℤ pos 1) ys more in
    absurd (not_longer g f high from t q p (flipped f g high from same) lt w q_on q_off (within_last f high from t p w p_on))
one_list f g high from (p ∷ xs) (q ∷ []) same (before _ s _ _ p_from p_to ls p_on p_off more) (final _ _ q_from q_to q_in q_on q_single) =
    let w = begins_within f high (s +ℤ pos 1) xs more in
    absurd (not_longer f g high from s p q same ls w p_on p_off (within_last g high from s q w q_on))
one_list f g high from (p ∷ xs) (q ∷ ys) same (before _ s _ _ p_from p_to ls p_on p_off p_more) (before _ t _ _ q_from q_to lt q_on q_off q_more) =
    let ws = begins_within f high (s +ℤ pos 1) xs p_more in
    let wt = begins_within g high (t +ℤ pos 1) ys q_more in
    let e = same_end f g high from s t p q same ls lt ws wt p_on p_off q_on q_off (int_le (s +ℤ pos 1) t) (int_le (t +ℤ pos 1) s) refl refl in
    let l = both_lines f g high from s p q same ls ws p_on (λ n h k. q_on n h (subst (λ z. n ≤ℤ z) e k)) in
    ap₂ (λ z zs. z ∷ zs) (same_piece p q (p_from ∙ sym q_from) (p_to ∙ ap Some e ∙ sym q_to) l.0 l.1)
    (one_list f g high (s +ℤ pos 1) xs ys (λ n h k. same n (le_through from (s +ℤ pos 1) n (before_next from s ls) h) k) p_more (subst (λ z. ArePieces g high (z +ℤ pos 1) ys) (sym e) q_more))

-- ---- the counts are the same

both_ways : (j k : ℕ) → j ≤ k → k ≤ j → j ≡ k
both_ways j k h g = omega (arith, h, g)

one_number : (way : Way) (P : ℕ → Type 0) (j k : ℕ) → IsExtreme way P j → IsExtreme way P k → j ≡ k
one_number Least P j k a b = both_ways j k (a.bound k b.reached) (b.bound j a.reached)
one_number Most P j k a b = both_ways j k (b.bound j a.reached) (a.bound k b.reached)

pub one_list_law : OneList
one_list_law p way what part xs ys a b =
    one_list a.count b.count p.range.high (pos p.range.low) xs ys
    (λ n low high.
    let x = a.is.at n (record { low = low; high = high }) in
    let y = b.is.at n (record { low = low; high = high }) in
    x.1 ∙ ap pos (one_number way _ x.0 y.0 x.2 y.2) ∙ sym y.1)
    a.pieces b.pieces
