-- What the marker lines of a text are.
use Rattle.std.proofs.Common.{◌≡◌, ℕ, suc, ◌+◌, ◌<◌, Bool, true, false, ◌&&◌, ◌||◌, not, if◌then◌else◌, cond, List, [], ◌∷◌, ◌++◌, length, take, drop, codes, refl, ap, ◌∙◌, arith, append_assoc, nat_le, nat_lt}
use Rattle.std.specs.List.{list_all, prefix_len}
use Rattle.std.proofs.Math.Seq.{take-append_seam, drop-append_seam}
use Rattle.std.proofs.lemmas.Bool.{and_from, and_parts, ltb-true, le-leb}
use Rattle.pb_text.specs.Lexemes.{goes_on_word}
use Rattle.pb_syntax.specs.declared.core_label.KernelKind.{KernelKind}
use Rattle.pb_syntax.specs.declared.core_label.KernelKind.TheVariants as kernel
use Rattle.pb_local.specs.Names.{is_letter, is_digit, is_word, is_keyword, is_name}
use Rattle.pb_local.specs.Pieces as P
use Rattle.pb_ctree.specs.declared.kernel.Kind.{Kind}
use Rattle.pb_ctree.specs.declared.kernel.Kind.TheVariants.{Compute, Choice, Make, Take}
use Rattle.pb_ctree.specs.Frame.{kernel_letter}
use Rattle.pb_ctree.specs.Functions.{named, kind_of}
use Rattle.pb_kernels.specs.declared.dialect.Dialect.TheVariants.{Plain}
use Rattle.pb_kernels.specs.declared.marker.Marker.{Marker}
use Rattle.pb_kernels.specs.declared.marker.Marker.TheVariants.{Opening, Closing, Bad}
use Rattle.pb_kernels.specs.Marks.{prelude_name, ends_marker, begins_name, opening_of, kernel_of, marker_of}

-- ---- words

digit_first : (d a b u : Bool) → (((a || b) || u) || d) ≡ true → (((d || a) || b) || u) ≡ true
digit_first true a b u h = refl
digit_first false true b u h = refl
digit_first false false true u h = refl
digit_first false false false true h = refl
digit_first false false false false h = h

goes_on : (c : ℕ) → (is_letter c || is_digit c) ≡ true → goes_on_word c ≡ true
goes_on c h = digit_first (is_digit c) _ _ _ h

abbrev behind : List ℕ
behind = codes " */\n"

word_length : (w : List ℕ) → list_all (λ d. is_letter d || is_digit d) w ≡ true → prefix_len goes_on_word (w ++ behind) ≡ length w
word_length [] h = refl
word_length (c ∷ cs) h =
    let parts = and_parts (is_letter c || is_digit c) (list_all (λ d. is_letter d || is_digit d) cs) h in
    let one_more : 1 + length cs ≡ suc (length cs) = omega arith in
    ap (λ b. cond b (1 + prefix_len goes_on_word (cs ++ behind)) 0) (goes_on c parts.0) ∙ ap (λ n. 1 + n) (word_length cs parts.1) ∙ one_more

-- what a name has
record IsShortWord (w : List ℕ) : Type 0 where
  begins : begins_name (w ++ behind) ≡ true
  len : prefix_len goes_on_word (w ++ behind) ≡ length w
  some : nat_le 1 (length w) ≡ true
  most : nat_le (length w) 64 ≡ true

short_word : (w : List ℕ) → is_name w ≡ true → IsShortWord w
short_word w h =
    let parts = and_parts (is_word w && nat_lt (length w) 65) (not (is_keyword w)) h in
    let word = and_parts (is_word w) (nat_lt (length w) 65) parts.0 in
    of w word.0 (ltb-true (length w) 65 word.1) where
      of : (w : List ℕ) → is_word w ≡ true → length w < 65 → IsShortWord w
      of [] e less = absurd cc
      of (c ∷ cs) e less =
          let first = and_parts (is_letter c) (list_all (λ d. is_letter d || is_digit d) cs) e in record {
            begins = first.0;
            len = word_length (c ∷ cs) (and_from (is_letter c || is_digit c) (list_all (λ d. is_letter d || is_digit d) cs) (ap (λ b. b || is_digit c) first.0) first.1);
            some = le-leb 1 (length (c ∷ cs)) (omega arith);
            most = le-leb (length (c ∷ cs)) 64 (omega (arith, less));
          }

-- ---- what opens a body

abbrev opened : Kind → List ℕ → ℕ → Marker
opened kind text len = if begins_name text && ends_marker (drop len text) && nat_le 1 len && nat_le len 64 then Opening (named kind (take len text)) else Bad

opening_is : (kind : Kind) (text : List ℕ) → opening_of kind text ≡ opened kind text (prefix_len goes_on_word text)
unfolding opening_of
opening_is kind text = refl

behind_ends : ends_marker behind ≡ true
unfolding ends_marker
behind_ends = refl

opens : (kind : Kind) (w : List ℕ) → is_name w ≡ true → opening_of kind (w ++ behind) ≡ Opening (named kind w)
opens kind w h =
    let s = short_word w h in
    let text = w ++ behind in
    let ends : ends_marker (drop (length w) text) ≡ true = ap ends_marker (drop-append_seam w behind) ∙ behind_ends in
    let all : (begins_name text && ends_marker (drop (length w) text) && nat_le 1 (length w) && nat_le (length w) 64) ≡ true =
    and_from (begins_name text && ends_marker (drop (length w) text) && nat_le 1 (length w)) (nat_le (length w) 64)
    (and_from (begins_name text && ends_marker (drop (length w) text)) (nat_le 1 (length w)) (and_from (begins_name text) (ends_marker (drop (length w) text)) s.begins ends) s.some) s.most in
    opening_is kind text
    ∙ ap (opened kind text) s.len
    ∙ ap (λ b. if b then Opening (named kind (take (length w) text)) else Bad) all
    ∙ ap (λ x. Opening (named kind x)) (take-append_seam w behind)

-- the line that opens the body of a function, with its line feed
abbrev pub mark_line : List ℕ → List ℕ
mark_line name = P.line 0 (P.joined (codes "/*@ kernel " ∷ name ∷ codes " */" ∷ []))

opens_line : (kind : Kind) (w : List ℕ) → is_name w ≡ true → opening_of kind ((w ++ codes " */") ++ 10 ∷ []) ≡ Opening (named kind w)
opens_line kind w h = ap (opening_of kind) (append_assoc w (codes " */") (10 ∷ [])) ∙ opens kind w h

pub make_marked : (w : List ℕ) → is_name w ≡ true → marker_of Plain (mark_line (codes "make_" ++ w)) ≡ Opening (named Make w)
unfolding marker_of kernel_of
make_marked w h = opens_line Make w h

pub take_marked : (w : List ℕ) → is_name w ≡ true → marker_of Plain (mark_line (codes "take_" ++ w)) ≡ Opening (named Take w)
unfolding marker_of kernel_of
take_marked w h = opens_line Take w h

pub kernel_marked : (what : KernelKind) (w : List ℕ) → is_name w ≡ true → marker_of Plain (mark_line (kernel_letter what ++ w)) ≡ Opening (named (kind_of what) w)
unfolding marker_of kernel_of
kernel_marked kernel.Compute w h = opens_line Compute w h
kernel_marked kernel.Choice w h = opens_line Choice w h

pub prelude_marked : marker_of Plain (P.line 0 (codes "/*@ prelude */")) ≡ Opening prelude_name
unfolding marker_of ends_marker
prelude_marked = refl

pub end_marked : marker_of Plain (P.line 0 (codes "/*@ end */")) ≡ Closing
unfolding marker_of ends_marker
end_marked = refl
