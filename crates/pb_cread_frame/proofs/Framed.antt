-- A program's text is the lines before its statements, which are ahead of the start, and then the others.
use Rattle.std.proofs.Common.{◌≡◌, ℕ, ◌+◌, Bool, true, false, List, [], ◌∷◌, ◌++◌, map, refl, sym, ap, ◌∙◌, append_assoc}
use Rattle.std.specs.Prelude.{if◌then◌else◌, codes}
use Rattle.pb_syntax.specs.declared.core_label.CoreLabel.{CoreLabel}
use Rattle.pb_syntax.specs.declared.core_label.CoreKernel.{CoreKernel}
use Rattle.pb_local.specs.declared.tables.Role.{Role}
use Rattle.pb_local.specs.Ranks.{Sum, ranks_of, bases_of, places_of}
use Rattle.pb_local.specs.Tree.{Program}
use Rattle.pb_local.specs.WellMade.{outermost}
use Rattle.pb_ctree.specs.Frame.{words, range_text, role_lines, label_lines, buffer_lines, with_rule, head_lines, body_lines, prelude_lines, number_lines, words_lines, kernels_after, start_lines, size_lines, seat_lines, end_lines, text_lines, other_bodies}
use Rattle.pb_ctree.specs.Functions.{has_words}
use Rattle.pb_ctree.specs.Lines.{Line, line, raw}
use Rattle.pb_ctree.specs.Rules.{has_size, is_range}
use Rattle.pb_local.specs.Names.{is_name}
use Rattle.pb_local.specs.Pieces as P
use Rattle.pb_ctree.specs.Spelling.{spelled_all}
use Rattle.pb_cread_frame.specs.Ahead.{Shown, sure, show, Known, kernels_from, words_from, body_from, ruled, ahead}
use Rattle.pb_cread_frame.specs.Frames.{main_start, frame_lines, behind_frame, rest_of}
use Rattle.pb_cread_frame.specs.Reading.{text_at, prelude_text, end_text, number_texts, main_texts, start}
use Rattle.pb_cread_rows.specs.Spelled.{names_of_kernels}
use Rattle.pb_cread_frame.proofs.Shapes.{map_both, same_first}

-- text_lines is cut where the statements begin
pub text_is : (p : Program) (prelude : List ℕ) (bodies : List (List ℕ)) → text_lines p prelude bodies ≡ frame_lines p prelude bodies ++ behind_frame p
text_is p prelude bodies =
    let before = head_lines p ++ prelude_lines prelude ++ number_lines p.roles (places_of p.roles) ++ kernels_after p.labels p.kernels bodies in
    let body = spelled_all p 1 outermost p.body in
    ap (λ w. before ++ w) (append_assoc (main_start p) body end_lines) ∙ sym (append_assoc before (main_start p) (body ++ end_lines))

-- lists one after another
joined : (A B : List Line) (X Y : List Shown) → map show B ++ X ≡ Y → map show (A ++ B) ++ X ≡ map show A ++ Y
joined A B X Y e = ap (λ w. w ++ X) (map_both show A B) ∙ append_assoc (map show A) (map show B) X ∙ ap (λ w. map show A ++ w) e

-- lines that are sure to be kept
numbers_sure : (rs : List Role) (fs : List Sum) → map show (number_lines rs fs) ≡ map sure (map text_at (number_lines rs fs))
numbers_sure [] fs = refl
numbers_sure (r ∷ rs) [] = refl
numbers_sure (r ∷ rs) (f ∷ fs) = same_first (same_first (same_first (same_first (numbers_sure rs fs))))

seats_sure : (k : ℕ) (bs fs : List Sum) → map show (seat_lines k bs fs) ≡ map sure (map text_at (seat_lines k bs fs))
seats_sure k [] fs = refl
seats_sure k (b ∷ bs) [] = refl
seats_sure k (b ∷ bs) (f ∷ fs) = same_first (same_first (same_first (same_first (seats_sure (k + 1) bs fs))))

twice : (A B : List Line) → map show A ≡ map sure (map text_at A) → map show B ≡ map sure (map text_at B) → map show (A ++ B) ≡ map sure (map text_at (A ++ B))
twice A B e f = map_both show A B ∙ ap (λ w. w ++ map show B) e ∙ ap (λ w. map sure (map text_at A) ++ w) f
    ∙ sym (map_both sure (map text_at A) (map text_at B)) ∙ ap (map sure) (sym (map_both text_at A B))

main_sure : (p : Program) → map show (main_start p) ≡ map sure (main_texts p.range p.roles)
main_sure p = twice (start_lines ++ size_lines p.range (ranks_of p.roles)) (seat_lines 0 (bases_of p.roles) (places_of p.roles)) refl (seats_sure 0 (bases_of p.roles) (places_of p.roles))

kernels_ahead : (k : Known) (ls : List CoreLabel) (ks : List CoreKernel) (bodies : List (List ℕ)) → k.kernels ≡ []
    → map show (kernels_after ls ks bodies) ++ map sure (main_texts k.range k.roles) ≡ words_from k ls ks bodies
kernels_ahead k [] ks bodies e = ap (λ (none : List CoreKernel). kernels_from k (names_of_kernels none) ks bodies) (sym e)
kernels_ahead k (l ∷ ls) ks bodies e = by_test (has_words l.payload) (λ b. kernels_ahead k ls ks b e) where
  by_test : (b : Bool) → ((bodies : List (List ℕ)) → map show (kernels_after ls ks bodies) ++ map sure (main_texts k.range k.roles) ≡ words_from k ls ks bodies)
      → map show (if b then words_lines l bodies ++ kernels_after ls ks (other_bodies (other_bodies bodies)) else kernels_after ls ks bodies) ++ map sure (main_texts k.range k.roles)
      ≡ (if b then map show (words_lines l bodies) ++ words_from k ls ks (other_bodies (other_bodies bodies)) else words_from k ls ks bodies)
  by_test true f = joined (words_lines l bodies) (kernels_after ls ks (other_bodies (other_bodies bodies))) (map sure (main_texts k.range k.roles)) (words_from k ls ks (other_bodies (other_bodies bodies))) (f (other_bodies (other_bodies bodies)))
  by_test false f = f bodies

prelude_ahead : (body : List ℕ) (X : List Shown) → map show (prelude_lines body) ++ X ≡ sure prelude_text ∷ body_from body X
prelude_ahead body X = joined (words 0 (codes "/*@ prelude */") ∷ body_lines body) (words 0 (codes "/*@ end */") ∷ []) X (sure end_text ∷ X) refl

ruled_ahead : (rule : Bool) (ls : List CoreLabel) (names : List (List ℕ)) (X : List Shown)
    → map show (with_rule rule (label_lines names ls ++ buffer_lines)) ++ X ≡ ruled rule (map show (label_lines names ls) ++ (map show buffer_lines ++ X))
ruled_ahead rule [] names X = refl
ruled_ahead rule (l ∷ ls) names X =
    same_first (joined (label_lines (names ++ l.name ∷ []) ls) buffer_lines X (map show buffer_lines ++ X) refl)

pub frame_ahead : (p : Program) (prelude : List ℕ) (bodies : List (List ℕ)) → map show (frame_lines p prelude bodies) ≡ ahead start (rest_of p prelude bodies)
frame_ahead p prelude bodies =
    let k : Known = record { range = p.range; roles = p.roles; labels = p.labels; kernels = [] } in
    let numbers = number_lines p.roles (places_of p.roles) in
    let kernels = kernels_after p.labels p.kernels bodies in
    let from_words = words_from k p.labels p.kernels bodies in
    let from_numbers = map sure (number_texts p.roles) ++ from_words in
    let from_prelude = sure prelude_text ∷ body_from prelude from_numbers in
    let from_labels = ruled (has_size p) (map show (label_lines [] p.labels) ++ (map show buffer_lines ++ from_prelude)) in
    let first : List Line = words 0 (codes "/* pabble 1 */") ∷ line 0 (raw (P.joined (codes "/* protocol " ∷ p.protocol ∷ codes " */" ∷ []))) (is_name p.protocol) ∷ line 0 (raw (range_text p.range)) (is_range p.range) ∷ role_lines p.range [] p.roles in
    let behind : List Line = with_rule (has_size p) (label_lines [] p.labels ++ buffer_lines) in
    map_both show (head_lines p ++ prelude_lines prelude ++ numbers ++ kernels) (main_start p)
    ∙ ap (λ w. map show (head_lines p ++ prelude_lines prelude ++ numbers ++ kernels) ++ w) (main_sure p)
    ∙ joined (head_lines p ++ prelude_lines prelude ++ numbers) kernels (map sure (main_texts p.range p.roles)) from_words (kernels_ahead k p.labels p.kernels bodies refl)
    ∙ joined (head_lines p ++ prelude_lines prelude) numbers from_words from_numbers (ap (λ w. w ++ from_words) (numbers_sure p.roles (places_of p.roles)))
    ∙ joined (head_lines p) (prelude_lines prelude) from_numbers from_prelude (prelude_ahead prelude from_numbers)
    ∙ joined first behind from_prelude from_labels (ruled_ahead (has_size p) p.labels [] from_prelude)
