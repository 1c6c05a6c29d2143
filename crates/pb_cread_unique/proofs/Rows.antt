-- The lines of a spelling, each with its line feed.
use Rattle.std.proofs.Common.{◌≡◌, ℕ, suc, ◌+◌, ◌≤◌, Bool, true, false, List, [], ◌∷◌, ◌++◌, map, length, refl, sym, ap, subst, ◌∙◌, arith, append-nil, append_assoc, length-append, nat_eq, if◌then◌else◌}
use Rattle.std.specs.Prelude.{All}
use Rattle.std.proofs.lemmas.List.{append_cancel_left}
use Rattle.std.proofs.lemmas.List.Elements.{All-cons}
use Rattle.pb_local.specs.Pieces.{joined}
use Rattle.pb_local.specs.Tree.{Program, program_of}
use Rattle.pb_ctree.specs.declared.body.Bodies.{Bodies}
use Rattle.pb_ctree.specs.declared.tree.CTree.{CTree}
use Rattle.pb_ctree.specs.Frame.{text_lines}
use Rattle.pb_ctree.specs.Lines.{Line}
use Rattle.pb_ctree.specs.Texts.{line_bytes, text_of, Spells, Starts}
use Rattle.pb_cread_frame.specs.Rows.{is_nothing, is_line, bare}
use Rattle.pb_cread_frame.proofs.Shapes.{map_both}
use Rattle.pb_cread.specs.Faults.{Spell}
use Rattle.pb_cread.proofs.Cleared.{all_lines}
use Rattle.pb_cread.proofs.Good.{same_first_line}
use Rattle.pb_cread.proofs.Stated.{starts_front}
use Rattle.pb_cread_unique.specs.Laws.{AreBodies}

abbrev pub AreRows : List (List ℕ) → Type 0
AreRows lines = All (λ l. is_line l ≡ true) lines

pub row_behind : (l : List ℕ) (ls : List (List ℕ)) → AreRows (l ∷ ls) → AreRows ls
row_behind l ls all = λ k d less. all (suc k) d (omega (arith, less))

pub row_first : (l : List ℕ) (ls : List (List ℕ)) → AreRows (l ∷ ls) → is_line l ≡ true
row_first l ls all = all 0 l (omega arith)

pub no_row : AreRows []
no_row = λ k d less. absurd (omega (arith, less))

pub rows_front : (xs ys : List (List ℕ)) → AreRows (xs ++ ys) → AreRows xs
rows_front [] ys all = no_row
rows_front (x ∷ xs) ys all = All-cons (λ l. is_line l ≡ true) x xs (row_first x (xs ++ ys) all) (rows_front xs ys (row_behind x (xs ++ ys) all))

pub rows_behind : (xs ys : List (List ℕ)) → AreRows (xs ++ ys) → AreRows ys
rows_behind [] ys all = all
rows_behind (x ∷ xs) ys all = rows_behind xs ys (row_behind x (xs ++ ys) all)

-- ---- what ends in a line feed is lines

record HasRows (text : List ℕ) : Type 0 where
  lines : List (List ℕ)
  each : AreRows lines
  whole : text ≡ joined lines

-- a byte before lines
before : (c : ℕ) (text : List ℕ) (lines : List (List ℕ)) → AreRows lines → text ≡ joined lines → (text ≡ [] → ⊥) → HasRows (c ∷ text)
before c text [] each e some = absurd (some e)
before c text (l ∷ ls) each e some = at (nat_eq c 10) refl where
  at : (b : Bool) → nat_eq c 10 ≡ b → HasRows (c ∷ text)
  at true t = record {
    lines = (c ∷ []) ∷ l ∷ ls;
    each = All-cons (λ x. is_line x ≡ true) (c ∷ []) (l ∷ ls) (ap (λ b. if b then is_nothing [] else is_line []) t) each;
    whole = ap (λ x. c ∷ x) e;
  }
  at false t = record {
    lines = (c ∷ l) ∷ ls;
    each = All-cons (λ x. is_line x ≡ true) (c ∷ l) ls (ap (λ b. if b then is_nothing l else is_line l) t ∙ row_first l ls each) (row_behind l ls each);
    whole = ap (λ x. c ∷ x) e;
  }

some_there : (cs text : List ℕ) → (cs ++ 10 ∷ []) ++ text ≡ [] → ⊥
some_there [] text e = cc
some_there (c ∷ cs) text e = cc

row_more : (bytes text : List ℕ) → HasRows text → HasRows ((bytes ++ 10 ∷ []) ++ text)
row_more [] text r = record { lines = (10 ∷ []) ∷ r.lines; each = All-cons (λ x. is_line x ≡ true) (10 ∷ []) r.lines refl r.each; whole = ap (λ x. 10 ∷ x) r.whole }
row_more (c ∷ cs) text r = let x = row_more cs text r in before c ((cs ++ 10 ∷ []) ++ text) x.lines x.each x.whole (some_there cs text)

rows_of : (p : Program) (ls : List Line) → HasRows (text_of p ls)
rows_of p [] = record { lines = []; each = no_row; whole = refl }
rows_of p (l ∷ ls) = row_more (line_bytes p l) (text_of p ls) (rows_of p ls)

-- ---- the lines of a spelling

pub record Rows (p : Program) (prelude : List ℕ) (bodies : List (List ℕ)) (bytes : List ℕ) (lines : List (List ℕ)) : Type 0 where
  pub each : AreRows lines
  pub whole : bytes ≡ joined lines
  pub spell : Spell lines p prelude bodies
  pub many : length lines ≡ length (text_lines p prelude bodies)

-- lines of the bytes are those of any tree that they spell
pub rows_are : (tree : CTree) (bodies : Bodies) (bytes : List ℕ) (lines : List (List ℕ)) → AreBodies bodies → Spells tree bodies bytes → AreRows lines → bytes ≡ joined lines → Rows (program_of tree.local) bodies.prelude bodies.list.items bytes lines
rows_are tree bodies bytes lines are s each whole =
    let x = all_lines tree bodies bytes lines are.prelude are.list s (record { each = each; whole = whole ∙ sym (append-nil (joined lines)) }) in
    record { each = each; whole = whole; spell = x.starts; many = x.many }

pub spelled_rows : (tree : CTree) (bodies : Bodies) (bytes : List ℕ) → AreBodies bodies → Spells tree bodies bytes → (lines : List (List ℕ)) × Rows (program_of tree.local) bodies.prelude bodies.list.items bytes lines
spelled_rows tree bodies bytes are s =
    let p = program_of tree.local in
    let r = rows_of p (text_lines p bodies.prelude bodies.list.items) in
    (r.lines, rows_are tree bodies bytes r.lines are s r.each (s.text ∙ r.whole))

-- ---- how many, and which come first

some_bytes : (l : List ℕ) (n : ℕ) → is_line l ≡ true → suc n ≤ length l + n
some_bytes [] n e = absurd cc
some_bytes (c ∷ cs) n e = omega arith

-- no more lines than bytes
pub fewer : (lines : List (List ℕ)) → AreRows lines → length lines ≤ length (joined lines)
fewer [] all = omega arith
fewer (l ∷ ls) all =
    omega (arith, some_bytes l (length (joined ls)) (row_first l ls all), fewer ls (row_behind l ls all), length-append l (joined ls))

pub record IsFrontOf (xs ys : List (List ℕ)) (rest : List ℕ) : Type 0 where
  pub more : List (List ℕ)
  pub is : ys ≡ xs ++ more
  pub behind : rest ≡ joined more

no_line : (x more : List ℕ) → is_line x ≡ true → x ++ more ≡ [] → ⊥
no_line [] more a e = absurd cc
no_line (c ∷ cs) more a e = cc

-- lines that a text begins with are the first of its lines
pub front_of : (xs ys : List (List ℕ)) (rest : List ℕ) → AreRows xs → AreRows ys → joined xs ++ rest ≡ joined ys → IsFrontOf xs ys rest
front_of [] ys rest a b e = record { more = ys; is = refl; behind = e }
front_of (x ∷ xs) [] rest a b e = absurd (no_line x (joined xs ++ rest) (row_first x xs a) (sym (append_assoc x (joined xs) rest) ∙ e))
front_of (x ∷ xs) (y ∷ ys) rest a b e =
    let f : x ++ (joined xs ++ rest) ≡ y ++ joined ys = sym (append_assoc x (joined xs) rest) ∙ e in
    let same : x ≡ y = same_first_line x y (joined xs ++ rest) (joined ys) (row_first x xs a) (row_first y ys b) f in
    let others : joined xs ++ rest ≡ joined ys = append_cancel_left x (joined xs ++ rest) (joined ys) (f ∙ ap (λ z. z ++ joined ys) (sym same)) in
    let r = front_of xs ys rest (row_behind x xs a) (row_behind y ys b) others in
    record { more = r.more; is = ap (λ z. z ∷ ys) (sym same) ∙ ap (λ zs. x ∷ zs) r.is; behind = r.behind }

-- the first lines of a spelling begin it
pub spell_front : (p : Program) (prelude : List ℕ) (bodies : List (List ℕ)) (xs ys : List (List ℕ)) → Spell (xs ++ ys) p prelude bodies → Spell xs p prelude bodies
spell_front p prelude bodies xs ys s =
    let P : List (List ℕ) → Type 0 = λ zs. Starts p zs (text_lines p prelude bodies) in
    starts_front p (map bare xs) (map bare ys) (text_lines p prelude bodies) (subst P (map_both bare xs ys) s)
