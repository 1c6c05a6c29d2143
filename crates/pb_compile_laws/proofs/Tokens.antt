-- Single tokens: what is counted behind them.
use Rattle.std.proofs.Common.{◌≡◌, ℕ, ◌+◌, ◌≤◌, ◌==◌, Bool, true, false, if◌then◌else◌, Option, Some, None, List, [], ◌∷◌, refl, sym, subst, ◌∙◌, arith}
use Rattle.std.proofs.lemmas.Bool.Decides.{nat_tests}
use Rattle.pb_text.specs.declared.place.Place.{Place}
use Rattle.pb_text.specs.declared.place.Spot.{Spot}
use Rattle.pb_text.specs.declared.token.Token.{Token}
use Rattle.pb_text.specs.declared.token.TokenKind.{TokenKind}
use Rattle.pb_text.specs.declared.token.TokenKind.TheVariants as kind
use Rattle.pb_text.specs.declared.token.Mark.{Mark}
use Rattle.pb_text.specs.declared.token.Key.{Key}
use Rattle.pb_text.specs.Tokens.{IsName, IsSoundKind}
use Rattle.pb_syntax.specs.Tree.{Numeral}
use Rattle.pb_syntax.specs.Form.{Form, one, OneText}
use Rattle.pb_syntax.specs.Grammar.{reads_mark, reads_key, reads_name, reads_number, reads_count, not_zero, mark, key, name, number}
use Rattle.pb_syntax.specs.Printed.{Kinds}
use Rattle.pb_syntax.proofs.Prints.{AllOf, Prints}
use Rattle.pb_syntax.proofs.PrintsTokens.{mark_prints, key_prints, name_prints, number_prints, count_prints_one}
use Rattle.pb_parse.specs.declared.limits.Counts.{Counts}
use Rattle.pb_parse.specs.declared.limits.Behind.{Behind}
use Rattle.pb_parse.specs.declared.limits.Behind.TheVariants as behind
use Rattle.pb_parse.specs.Limits.{sort_of, mark_sort, key_sort, behind_next, counted, sort_passed, number_behind, counts_from}
use Rattle.pb_compile_laws.proofs.Counted.{AreFine, Step, co, IsInside}

-- the counts behind a token of this kind
abbrev next_of : Counts → TokenKind → Counts
next_of c k = record (counted c (sort_of k)) { last = behind_next c.last (sort_of k) }

-- the kind of a single token is the one that its value is printed as
told : {A : Type 0} {bare : A → A} {show : A → Kinds → Kinds} {form : Form A} (t : Token) (x : A) (k : TokenKind) → Prints (λ k. t.kind ≡ k) bare (λ before. before) show form form → form.text (t ∷ []) x → show x [] ≡ k ∷ [] → t.kind ≡ k
told t x k prints h shows =
    let r = prints.prints (t ∷ []) x h in
    let all : AllOf (λ k. t.kind ≡ k) (k ∷ []) = subst (AllOf (λ k. t.kind ≡ k)) (sym (r.shown []) ∙ shows) (r.fine (refl, tt)) in
    all.0

one_step : {A : Type 0} {c next : Counts} {is : A → Type 0} (reads : Token → Option A) (kind_of : A → TokenKind) → ((t : Token) (x : A) → (one reads).text (t ∷ []) x → t.kind ≡ kind_of x)
    → ((t : Token) (x : A) → reads t ≡ Some x → sort_passed c (sort_of (kind_of x)) ≡ None → IsSoundKind (kind_of x) → (next_of c (kind_of x) ≡ next) × is x) → Step c (one reads) next is
unfolding one
one_step {A} {c} {next} {is} reads kind_of same tells = record { step = at }
  where
    at : (ts : List Token) (x : A) → OneText reads ts x → AreFine c ts → (counts_from c ts ≡ next) × is x
    at [] x h fine = absurd h
    at (t ∷ u ∷ ts) x h fine = absurd h
    at (t ∷ []) x h fine =
        let e : t.kind ≡ kind_of x = same t x h in
        let p = tells t x h (subst (λ k. sort_passed c (sort_of k) ≡ None) e fine.0.0) (subst IsSoundKind e fine.0.1) in
        (subst (λ k. next_of c k ≡ next) (sym e) p.0, p.1)

pub mark_step : {c : Counts} (m : Mark) → Step c (mark m) (next_of c (kind.Mark m)) (λ (p : Place). sort_passed c (mark_sort m) ≡ None)
mark_step m = one_step (reads_mark m) (λ p. kind.Mark m) (λ t x h. told t x (kind.Mark m) (mark_prints m) h refl) (λ t x e passes sound. (refl, passes))

pub key_step : {c : Counts} (k : Key) → Step c (key k) (next_of c (kind.Key k)) (λ (p : Place). sort_passed c (key_sort k) ≡ None)
key_step k = one_step (reads_key k) (λ p. kind.Key k) (λ t x h. told t x (kind.Key k) (key_prints k) h refl) (λ t x e passes sound. (refl, passes))

some_count : (n : Option Numeral) (x : Numeral) → not_zero n ≡ Some x → 1 ≤ x.value
some_count None x e = absurd (grind arith)
some_count (Some n) x e = at (n.value == 0) refl e
  where
    at : (b : Bool) → (n.value == 0) ≡ b → (if b then None else Some n) ≡ Some x → 1 ≤ x.value
    at true h e = absurd (grind arith)
    at false h e = let same : n ≡ x = cc in subst (λ (m : Numeral). 1 ≤ m.value) same (positive n.value h)
      where
        positive : (v : ℕ) → (v == 0) ≡ false → 1 ≤ v
        positive v h = grind (arith, nat_tests)

module _ {d s r : ℕ} {bs : List ℕ} where
  inside : (l : Behind) → IsInside l → (w : List ℕ) → next_of (co d s r bs l) (kind.Word w) ≡ co d s r bs behind.Other
  inside behind.Boundary h w = absurd h
  inside behind.ElementType h w = refl
  inside behind.TypeBracket h w = refl
  inside behind.Dots h w = refl
  inside behind.Other h w = refl

  pub name_step : {l : Behind} → IsInside l → Step (co d s r bs l) name (co d s r bs behind.Other) (λ (x : Spot). IsName x.name)
  name_step {l} h = one_step reads_name (λ x. kind.Word x.name) (λ t x text. told t x (kind.Word x.name) name_prints text refl) (λ t x e passes sound. (inside l h x.name, sound))

  -- a name that begins a statement
  pub label_step : Step (co d s r bs behind.Boundary) name (co d (s + 1) r bs behind.Other) (λ (x : Spot). IsName x.name)
  label_step = one_step reads_name (λ x. kind.Word x.name) (λ t x text. told t x (kind.Word x.name) name_prints text refl) (λ t x e passes sound. (refl, sound))

  pub number_step : {l : Behind} → Step (co d s r bs l) number (co d s r bs behind.Other) (λ (n : Numeral). (number_behind l r n.value ≡ None) × (n.value ≤ 2000000000))
  number_step = one_step reads_number (λ n. kind.Number n.value) (λ t x text. told t x (kind.Number x.value) number_prints text refl) (λ t x e passes sound. (refl, (passes, sound)))

  pub count_step : {l : Behind} → Step (co d s r bs l) (one reads_count) (co d s r bs behind.Other) (λ (n : Numeral). (number_behind l r n.value ≡ None) × (1 ≤ n.value))
  count_step = one_step reads_count (λ n. kind.Number n.value) (λ t x text. told t x (kind.Number x.value) count_prints_one text refl) (λ t x e passes sound. (refl, (passes, some_count (reads_number t) x e)))
