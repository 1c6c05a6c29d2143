-- The text of pieces that stand one behind the other.
use Rattle.std.proofs.Common.{◌≡◌, ℕ, suc, ◌+◌, List, [], ◌∷◌, ◌++◌, length, refl, sym, ap, ◌∙◌, append_assoc, append-nil, Vec}
use Rattle.std.specs.declared.alloc.Global.{Global}
use Rattle.pb_affine.specs.declared.lin.Lin.{Lin}
use Rattle.pb_affine.specs.declared.guard.Guard.{Guard}
use Rattle.pb_local.specs.declared.stmt.Peer.{Peer}
use Rattle.pb_local.specs.declared.stmt.Test.{Test}
use Rattle.pb_local.specs.declared.stmt.Relay.{Relay}
use Rattle.pb_local.specs.declared.stmt.Stmt.{Stmt}
use Rattle.pb_local.specs.Tree.{Program, Code, when, for_each, loop, choice, Codes, more, Parts, no_part, part, parts_of}
use Rattle.pb_ctree.specs.Lines.{Line, close, else_open, if_open, for_open, loop_open, chooses}
use Rattle.pb_ctree.specs.Spelling.{told_lines}
use Rattle.pb_ctree.specs.Texts.{text_of}
use Rattle.pb_cprint_lines.specs.Printed.{bytes}
use Rattle.pb_cprint.specs.Written.{branch_item, is_last, told_written}
use Rattle.pb_cprint.proofs.Blocks.{plains}
use Rattle.pb_cprint.proofs.Texts.{told_same}
use Rattle.pb_types.specs.declared.carried.Carried.{Carried}
use Rattle.pb_typed.specs.Hooks.{choose_hook}
use Rattle.pb_typed.specs.Pieces.{Piece, same, added, piece_text, pieces_text, as_they_are}
use Rattle.pb_typed.specs.Statements.{typed, typed_all, typed_other, typed_parts, parts_in}
use Rattle.pb_typed.proofs.Spelling.{pieces_append}
use Rattle.pb_typed_frame.proofs.Written.{written}
use Rattle.pb_typed_print.specs.Written.{choice_front}

-- a line, pieces, and the brace that closes it
braced : (p : Program) (d : ℕ) (front : Piece) (xs : List Piece) → pieces_text p (front ∷ xs ++ same d close ∷ []) ≡ piece_text p front ++ pieces_text p xs ++ bytes p d close
braced p d front xs = pieces_append p (front ∷ xs) (same d close ∷ []) ∙ ap (λ w. (piece_text p front ++ pieces_text p xs) ++ w) (append-nil (bytes p d close))

-- the text of statements, of another part, and of branches
abbrev pub all_text : Program → List Carried → ℕ → Codes → List ℕ
all_text p t d cs = pieces_text p (typed_all p t d cs)

abbrev pub other_text : Program → List Carried → ℕ → Codes → List ℕ
other_text p t d cs = pieces_text p (typed_other p t d cs)

abbrev pub parts_text : Program → List Carried → ℕ → ℕ → Parts → List ℕ
parts_text p t d k ps = pieces_text p (typed_parts p t d k ps)

pub for_text : (p : Program) (t : List Carried) (d : ℕ) (low high : Lin) (body : Codes)
    → bytes p d (for_open low high) ++ all_text p t (d + 1) body ++ bytes p d close ≡ pieces_text p (typed p t d (for_each low high body))
for_text p t d low high body = sym (braced p d (same d (for_open low high)) (typed_all p t (d + 1) body))

pub loop_text : (p : Program) (t : List Carried) (d id : ℕ) (body : Codes)
    → bytes p d (loop_open id) ++ all_text p t (d + 1) body ++ bytes p d close ≡ pieces_text p (typed p t d (loop id body))
loop_text p t d id body = sym (braced p d (same d (loop_open id)) (typed_all p t (d + 1) body))

pub when_text : (p : Program) (t : List Carried) (d : ℕ) (guards : List Guard) (first other : Codes)
    → bytes p d (if_open guards) ++ all_text p t (d + 1) first ++ other_text p t d other ≡ pieces_text p (typed p t d (when guards first other))
when_text p t d guards first other = sym (pieces_append p (same d (if_open guards) ∷ typed_all p t (d + 1) first) (typed_other p t d other))

pub more_text : (p : Program) (t : List Carried) (d : ℕ) (c : Code) (rest : Codes)
    → bytes p d else_open ++ all_text p t (d + 1) (more c rest) ++ bytes p d close ≡ other_text p t d (more c rest)
more_text p t d c rest = sym (braced p d (same d else_open) (typed_all p t (d + 1) (more c rest)))

pub each_text : (p : Program) (t : List Carried) (d : ℕ) (c : Code) (rest : Codes) → all_text p t d (more c rest) ≡ pieces_text p (typed p t d c) ++ all_text p t d rest
each_text p t d c rest = pieces_append p (typed p t d c) (typed_all p t d rest)

pub part_more : (p : Program) (t : List Carried) (d k : ℕ) (b : Codes) (rest : Parts)
    → (bytes p d (branch_item k (is_last rest)) ++ all_text p t (d + 1) b) ++ parts_text p t d (k + 1) rest ≡ parts_text p t d k (part b rest)
part_more p t d k b rest = sym (pieces_append p (same d (branch_item k (is_last rest)) ∷ typed_all p t (d + 1) b) (typed_parts p t d (k + 1) rest))

pub part_end : (p : Program) (t : List Carried) (d k : ℕ) → bytes p d close ≡ parts_text p t d k no_part
part_end p t d k = sym (append-nil (bytes p d close))

pub choice_text : (p : Program) (t : List Carried) (d : ℕ) (who : Guard) (kernel : ℕ) (relays : List Relay) (from : Peer) (tests : List Test) (branches : Parts)
    → choice_front p d who kernel (parts_in branches) relays from tests ++ parts_text p t d 0 branches ≡ pieces_text p (typed p t d (choice who kernel relays from tests branches))
unfolding choice_front
choice_text p t d who kernel relays from tests branches =
    let three = same d (if_open (who ∷ [])) ∷ same (d + 1) (chooses kernel) ∷ added (d + 1) (choose_hook p kernel (parts_in branches)) ∷ [] in
    let told = as_they_are (told_lines p d who relays from tests) in
    let front : pieces_text p (three ++ told) ≡ pieces_text p three ++ told_written p d relays from tests =
    pieces_append p three told ∙ ap (λ w. pieces_text p three ++ w) (written p (told_lines p d who relays from tests) ∙ told_same p d who relays from tests) in
    sym (pieces_append p (three ++ told) (typed_parts p t d 0 branches) ∙ ap (λ w. w ++ parts_text p t d 0 branches) front)

-- there are as many parts as branches
pub parts_count : (vs : List (Vec Stmt Global)) → parts_in (parts_of (plains vs)) ≡ length vs
parts_count [] = refl
parts_count (v ∷ vs) = ap suc (parts_count vs)
