-- The line of an N outside a range, those of a log, and that of a broken rule.
use Rattle.std.proofs.Common.{◌≡◌, ℕ, List, [], ◌++◌, decimal, ap, ap₂, sym, ◌∙◌, append_assoc, append-nil}
use Rattle.std.specs.Prelude.{codes}
use Rattle.pb_text.specs.declared.place.Place.{Place}
use Rattle.pb_cli_status.specs.Lines.{low_words, malformed_line, rule_words, ruling_line}

joined : (a b c d : List ℕ) → a ++ (b ++ (c ++ (d ++ []))) ≡ a ++ b ++ c ++ d
joined a b c d = ap (λ (l : List ℕ). a ++ (b ++ (c ++ l))) (append-nil d) ∙ (sym (append_assoc a b (c ++ d)) ∙ sym (append_assoc (a ++ b) c d))

pub low_parts : (n low : ℕ) (a b : List ℕ) → a ≡ decimal n → b ≡ decimal low → codes "pabble: N = " ++ (a ++ (codes " outside " ++ (b ++ []))) ≡ low_words n low
unfolding low_words
low_parts n low a b e f = ap₂ (λ (x y : List ℕ). codes "pabble: N = " ++ (x ++ (codes " outside " ++ (y ++ [])))) e f ∙ joined (codes "pabble: N = ") (decimal n) (codes " outside ") (decimal low)

-- with one part more
joined_five : (a b c d e : List ℕ) → a ++ (b ++ (c ++ (d ++ (e ++ [])))) ≡ a ++ b ++ c ++ d ++ e
joined_five a b c d e =
    ap (λ (l : List ℕ). a ++ (b ++ (c ++ (d ++ l)))) (append-nil e)
    ∙ (sym (append_assoc a b (c ++ (d ++ e))) ∙ (sym (append_assoc (a ++ b) c (d ++ e)) ∙ sym (append_assoc (a ++ b ++ c) d e)))

pub ruling_parts : (line rank : ℕ) (a b what : List ℕ) → a ≡ decimal line → b ≡ decimal rank
    → codes "pabble: log line " ++ (a ++ (codes ", rank " ++ (b ++ (what ++ [])))) ≡ ruling_line line rank what
unfolding ruling_line
ruling_parts line rank a b what e f =
    ap₂ (λ (x y : List ℕ). codes "pabble: log line " ++ (x ++ (codes ", rank " ++ (y ++ (what ++ []))))) e f
    ∙ joined_five (codes "pabble: log line ") (decimal line) (codes ", rank ") (decimal rank) what

pub malformed_parts : (line : ℕ) (a : List ℕ) → a ≡ decimal line → codes "pabble: log line " ++ (a ++ (codes " is malformed\n" ++ [])) ≡ malformed_line line
malformed_parts line a e = ap (λ (x : List ℕ). codes "pabble: log line " ++ (x ++ codes " is malformed\n")) e

-- with one part more
joined_six : (a b c d e f : List ℕ) → a ++ (b ++ (c ++ (d ++ (e ++ (f ++ []))))) ≡ a ++ b ++ c ++ d ++ e ++ f
joined_six a b c d e f =
    ap (λ (l : List ℕ). a ++ (b ++ (c ++ (d ++ (e ++ l))))) (append-nil f)
    ∙ (sym (append_assoc a b (c ++ (d ++ (e ++ f)))) ∙ (sym (append_assoc (a ++ b) c (d ++ (e ++ f))) ∙ (sym (append_assoc (a ++ b ++ c) d (e ++ f)) ∙ sym (append_assoc (a ++ b ++ c ++ d) e f))))

pub rule_parts : (rule : ℕ) (place : Place) (a b d : List ℕ) → a ≡ decimal rule → b ≡ decimal place.line → d ≡ decimal place.col
    → codes "pabble: rule " ++ (a ++ (codes " at " ++ (b ++ (codes ":" ++ (d ++ []))))) ≡ rule_words rule place
unfolding rule_words
rule_parts rule place a b d e f h =
    ap₂ (λ (x y : List ℕ). codes "pabble: rule " ++ (x ++ (codes " at " ++ (y ++ (codes ":" ++ (d ++ [])))))) e f
    ∙ ap (λ (z : List ℕ). codes "pabble: rule " ++ (decimal rule ++ (codes " at " ++ (decimal place.line ++ (codes ":" ++ (z ++ [])))))) h
    ∙ joined_six (codes "pabble: rule ") (decimal rule) (codes " at ") (decimal place.line) (codes ":") (decimal place.col)
