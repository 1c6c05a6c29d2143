-- Pieces that are spelled one after the other.
use Rattle.std.proofs.Common.{◌≡◌, ℕ, List, [], ◌∷◌, ◌++◌, refl, sym, ap, ◌∙◌, append_assoc, append-nil}
use Rattle.pb_local.specs.Tree.{Program}
use Rattle.pb_cprint_lines.proofs.Steps.{onto}
use Rattle.pb_typed.specs.Pieces.{Piece, piece_text, pieces_text}

pub pieces_append : (p : Program) (xs ys : List Piece) → pieces_text p (xs ++ ys) ≡ pieces_text p xs ++ pieces_text p ys
pieces_append p [] ys = refl
pieces_append p (x ∷ xs) ys = ap (λ w. piece_text p x ++ w) (pieces_append p xs ys) ∙ sym (append_assoc (piece_text p x) (pieces_text p xs) (pieces_text p ys))

-- nothing more
pub done : (p : Program) (now : List ℕ) → now ≡ now ++ pieces_text p []
done p now = sym (append-nil now)

-- a piece before further pieces
pub step : (p : Program) (x : Piece) (rest : List Piece) (old mid now : List ℕ) → mid ≡ old ++ piece_text p x → now ≡ mid ++ pieces_text p rest → now ≡ old ++ pieces_text p (x ∷ rest)
step p x rest old mid now first others = onto old mid now (piece_text p x) (pieces_text p rest) first others

-- pieces before further pieces
pub steps : (p : Program) (xs rest : List Piece) (old mid now : List ℕ) → mid ≡ old ++ pieces_text p xs → now ≡ mid ++ pieces_text p rest → now ≡ old ++ pieces_text p (xs ++ rest)
steps p xs rest old mid now first others = onto old mid now (pieces_text p xs) (pieces_text p rest) first others ∙ ap (λ w. old ++ w) (sym (pieces_append p xs rest))

-- one piece, and nothing more
pub last : (p : Program) (x : Piece) (old now : List ℕ) → now ≡ old ++ piece_text p x → now ≡ old ++ pieces_text p (x ∷ [])
last p x old now first = step p x [] old now now first (done p now)

pub two_put : (p : Program) (x y : Piece) (xs : List Piece) (old a b now : List ℕ) → a ≡ old ++ pieces_text p xs → b ≡ a ++ piece_text p x → now ≡ b ++ piece_text p y → now ≡ old ++ pieces_text p (xs ++ x ∷ y ∷ [])
two_put p x y xs old a b now first second third = steps p xs (x ∷ y ∷ []) old a now first (step p x (y ∷ []) a b now second (last p y b now third))

-- a receive
pub recv_put : (p : Program) (m h : Piece) (rooms arrivals taken : List Piece) (old a b c d now : List ℕ)
    → a ≡ old ++ pieces_text p rooms → b ≡ a ++ piece_text p m → c ≡ b ++ pieces_text p arrivals → d ≡ c ++ piece_text p h → now ≡ d ++ pieces_text p taken
    → now ≡ old ++ pieces_text p (rooms ++ m ∷ arrivals ++ h ∷ taken)
recv_put p m h rooms arrivals taken old a b c d now first second third fourth fifth =
    steps p (rooms ++ m ∷ arrivals) (h ∷ taken) old c now (steps p rooms (m ∷ arrivals) old a c first (step p m arrivals a b c second third)) (step p h taken c d now fourth fifth)

-- a collective: what is made, room, the line before it, the call, the line behind it, and what is taken
pub joint_put : (p : Program) (x e m l t : Piece) (rooms : List Piece) (old a b c d f now : List ℕ)
    → a ≡ old ++ piece_text p x → b ≡ a ++ pieces_text p rooms → c ≡ b ++ piece_text p e → d ≡ c ++ piece_text p m → f ≡ d ++ piece_text p l → now ≡ f ++ piece_text p t
    → now ≡ old ++ pieces_text p (x ∷ rooms ++ e ∷ m ∷ l ∷ t ∷ [])
joint_put p x e m l t rooms old a b c d f now first second third fourth fifth sixth =
    steps p (x ∷ rooms) (e ∷ m ∷ l ∷ t ∷ []) old b now (step p x rooms old a b first second)
    (step p e (m ∷ l ∷ t ∷ []) b c now third (step p m (l ∷ t ∷ []) c d now fourth (step p l (t ∷ []) d f now fifth (last p t f now sixth))))
