-- The text of main.
use Rattle.std.proofs.Common.{◌≡◌, ℕ, Result, Ok, Err, List, ◌∷◌, ◌++◌, sym, ap, ◌∙◌, append_assoc}
use Rattle.std.specs.Prelude.{OnOk}
use Rattle.pb_local.specs.Pieces.{line}
use Rattle.pb_local.specs.Ranks.{ranks_of, bases_of, places_of}
use Rattle.pb_local.specs.Tree.{Program, Codes}
use Rattle.pb_ctree.specs.Frame.{start_lines, size_lines, seat_lines, end_lines}
use Rattle.pb_cprint.specs.Framed.{start_written, size_written, seats_written, end_written}
use Rattle.pb_cprint.proofs.Frames.{start_same, size_same, seats_same, end_same}
use Rattle.pb_cprint.proofs.Texts.{both}
use Rattle.pb_cprint_lines.proofs.Steps.{onto}
use Rattle.pb_types.specs.declared.carried.Carried.{Carried}
use Rattle.pb_typed.specs.Frame.{main_pieces}
use Rattle.pb_typed.specs.Hooks.{start_hook, end_hook}
use Rattle.pb_typed.specs.Pieces.{added, pieces_text, as_they_are}
use Rattle.pb_typed.specs.Statements.{typed_all}
use Rattle.pb_typed_print.specs.Written.{front_written}
use Rattle.pb_typed.proofs.Spelling.{pieces_append}
use Rattle.pb_typed_frame.proofs.Written.{written}
use Rattle.pb_typed_print.proofs.Appended.{all_text}

main_same : (p : Program) (t : List Carried) → pieces_text p (main_pieces p t) ≡ ((front_written p ++ all_text p t 1 p.body) ++ line 1 end_hook) ++ end_written
unfolding front_written
main_same p t =
    let s = as_they_are start_lines in
    let z = as_they_are (size_lines p.range (ranks_of p.roles)) in
    let q = as_they_are (seat_lines 0 (bases_of p.roles) (places_of p.roles)) in
    let b = typed_all p t 1 p.body in
    let e = as_they_are end_lines in
    let first = added 1 (start_hook p) in
    let last = added 1 end_hook in
    let hook = line 1 (start_hook p) in
    let sizes = size_written p.range (ranks_of p.roles) in
    let seats = seats_written 0 (bases_of p.roles) (places_of p.roles) in
    let begun : pieces_text p (s ++ first ∷ z) ≡ (start_written ++ hook) ++ sizes =
    pieces_append p s (first ∷ z)
    ∙ both (pieces_text p s) (hook ++ pieces_text p z) start_written (hook ++ sizes) (written p start_lines ∙ start_same p)
    (ap (λ w. hook ++ w) (written p (size_lines p.range (ranks_of p.roles)) ∙ size_same p p.range (ranks_of p.roles)))
    ∙ sym (append_assoc start_written hook sizes) in
    let front : pieces_text p ((s ++ first ∷ z) ++ q) ≡ ((start_written ++ hook) ++ sizes) ++ seats =
    pieces_append p (s ++ first ∷ z) q
    ∙ both (pieces_text p (s ++ first ∷ z)) (pieces_text p q) ((start_written ++ hook) ++ sizes) seats begun
    (written p (seat_lines 0 (bases_of p.roles) (places_of p.roles)) ∙ seats_same p 0 (bases_of p.roles) (places_of p.roles)) in
    let stated : pieces_text p (((s ++ first ∷ z) ++ q) ++ b) ≡ (((start_written ++ hook) ++ sizes) ++ seats) ++ pieces_text p b =
    pieces_append p ((s ++ first ∷ z) ++ q) b ∙ ap (λ w. w ++ pieces_text p b) front in
    pieces_append p (((s ++ first ∷ z) ++ q) ++ b) (last ∷ e)
    ∙ both (pieces_text p (((s ++ first ∷ z) ++ q) ++ b)) (line 1 end_hook ++ pieces_text p e) ((((start_written ++ hook) ++ sizes) ++ seats) ++ pieces_text p b) (line 1 end_hook ++ end_written) stated
    (ap (λ w. line 1 end_hook ++ w) (written p end_lines ∙ end_same p))
    ∙ sym (append_assoc ((((start_written ++ hook) ++ sizes) ++ seats) ++ pieces_text p b) (line 1 end_hook) end_written)

-- main is written in four parts
main_text : (p : Program) (t : List Carried) (old a b c now : List ℕ) → a ≡ old ++ front_written p → b ≡ a ++ all_text p t 1 p.body → c ≡ b ++ line 1 end_hook → now ≡ c ++ end_written
    → now ≡ old ++ pieces_text p (main_pieces p t)
main_text p t old a b c now first second third last =
    onto old c now ((front_written p ++ all_text p t 1 p.body) ++ line 1 end_hook) end_written
    (onto old b c (front_written p ++ all_text p t 1 p.body) (line 1 end_hook) (onto old a b (front_written p) (all_text p t 1 p.body) first second) third) last
    ∙ ap (λ w. old ++ w) (sym (main_same p t))

pub main_put : {X E : Type 0} (p : Program) (t : List Carried) (body : Codes) (old a b c now : List ℕ) (r : Result X E) → body ≡ p.body
    → a ≡ old ++ front_written p → b ≡ a ++ all_text p t 1 body → c ≡ b ++ line 1 end_hook → OnOk r (now ≡ c ++ end_written) → OnOk r (now ≡ old ++ pieces_text p (main_pieces p t))
main_put p t body old a b c now (Ok x) same first second third last = main_text p t old a b c now first (second ∙ ap (λ k. a ++ all_text p t 1 k) same) third last
main_put p t body old a b c now (Err e) same first second third last = tt
