-- Lines that are read begin a spelling, and with a line that may not stand behind them they begin none.
use Rattle.std.proofs.Common.{◌≡◌, ℕ, suc, true, List, [], ◌∷◌, ◌++◌, map, None, sym, ap, subst, ◌∙◌, append_assoc, arith}
use Rattle.std.specs.Prelude.{All}
use Rattle.std.proofs.lemmas.List.{append_cancel_right}
use Rattle.pb_local.specs.Tree.{Program, nothing}
use Rattle.pb_ctree.specs.Frame.{text_lines}
use Rattle.pb_ctree.specs.Lines.{Line}
use Rattle.pb_ctree.specs.Texts.{line_bytes, line_text, Starts}
use Rattle.pb_cread_frame.specs.Ahead.{Shown, sure, Rest, ahead}
use Rattle.pb_cread_frame.specs.Frames.{behind_frame, rest_of, shown_of}
use Rattle.pb_cread_frame.specs.Laws.{Begins, AreFronts, AreNoFronts}
use Rattle.pb_cread_frame.specs.Reading.{start_with}
use Rattle.pb_cread_frame.specs.Rows.{is_line, bare}
use Rattle.pb_cread_frame.proofs.Ends.{refused_in}
use Rattle.pb_cread_frame.proofs.Folds.{fronts_read, starts_texts}
use Rattle.pb_cread_frame.proofs.Shapes.{line_is}

same_bytes : (p : Program) (l : Line) (text : List ℕ) → is_line text ≡ true → line_text p l ≡ text → bare text ≡ line_bytes p l
same_bytes p l text one e = append_cancel_right (bare text) (line_bytes p l) (10 ∷ []) (line_is text one ∙ sym e)

starts_shown : (p : Program) (lines : List (List ℕ)) (ls : List Line) (more : List Shown) → All (λ l. is_line l ≡ true) lines → map (shown_of p) ls ≡ map sure lines ++ more → Starts p (map bare lines) ls
starts_shown p [] ls more all e = tt
starts_shown p (x ∷ xs) [] more all e = absurd cc
starts_shown p (x ∷ xs) (l ∷ ls) more all e =
    let first : shown_of p l ≡ sure x = cc in
    let others : map (shown_of p) ls ≡ map sure xs ++ more = cc in
    let one : is_line x ≡ true = all 0 x (omega arith) in
    (same_bytes p l x one (ap (λ (s : Shown). s.text) first), ap (λ (s : Shown). s.kept) first, starts_shown p xs ls more (λ k d less. all (suc k) d (omega (arith, less))) others)

-- nothing of any program
no_rest : Rest
no_rest = record { protocol = []; range = record { low = 0; high = None }; roles = []; labels = []; kernels = []; text = []; prelude = []; bodies = [] }

program_of_rest : Rest → Program
program_of_rest q = record { protocol = q.protocol; range = q.range; roles = q.roles; labels = q.labels; kernels = q.kernels; body = nothing }

pub are_fronts : AreFronts
unfolding program_of_rest
are_fronts name lines s all e =
    let f = fronts_read lines (start_with name) s no_rest all e in
    let p = program_of_rest f.rest in
    let tail = map (shown_of p) (behind_frame p) in (
      p,
      f.rest.prelude,
      f.rest.bodies,
      starts_shown p lines (text_lines p f.rest.prelude f.rest.bodies) (ahead s no_rest ++ tail) all
          (starts_texts p f.rest.prelude f.rest.bodies ∙ ap (λ w. w ++ tail) f.ahead_is ∙ append_assoc (map sure lines) (ahead s no_rest) tail),
    )

starts_begins : (p : Program) (lines : List (List ℕ)) (ls : List Line) → All (λ l. is_line l ≡ true) lines → Starts p (map bare lines) ls → Begins lines (map (shown_of p) ls)
starts_begins p [] ls all st = tt
starts_begins p (x ∷ xs) [] all st = absurd st
starts_begins p (x ∷ xs) (l ∷ ls) all st =
    let one : is_line x ≡ true = all 0 x (omega arith) in
    (sym (line_is x one) ∙ ap (λ w. w ++ 10 ∷ []) st.0, st.1, starts_begins p xs ls (λ k d less. all (suc k) d (omega (arith, less))) st.2)

pub are_no_fronts : AreNoFronts
are_no_fronts name lines text s all e some_left none f =
    let p = f.0 in
    let prelude = f.1 in
    let bodies = f.2 in
    let tail = map (shown_of p) (behind_frame p) in
    let b : Begins (lines ++ text ∷ []) (map (shown_of p) (text_lines p prelude bodies)) = starts_begins p (lines ++ text ∷ []) (text_lines p prelude bodies) all f.3 in
    let P : List Shown → Type 0 = λ xs. Begins (lines ++ text ∷ []) xs in
    refused_in lines text (start_with name) s (rest_of p prelude bodies) tail e none some_left (subst P (starts_texts p prelude bodies) b)
