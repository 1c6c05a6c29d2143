-- The range of a tree that is read from the printed file.
use Rattle.std.proofs.Common.{◌≡◌, ℕ, zero, suc, ◌≤◌, ◌%◌, Bool, true, false, ◌⊎◌, inl, inr, List, [], ◌∷◌, ◌++◌, length, Option, Some, None, refl, sym, ap, subst, ◌∙◌, append_assoc, append-nil, arith, nat_le, if◌then◌else◌}
use Rattle.std.specs.Prelude.{codes}
use Rattle.pb_text.specs.declared.token.Token.{Token}
use Rattle.pb_text.specs.declared.token.TokenKind.{TokenKind}
use Rattle.pb_text.specs.declared.token.TokenKind.TheVariants as kind
use Rattle.pb_text.specs.declared.token.Mark.TheVariants as marks
use Rattle.pb_text.specs.declared.token.Key.TheVariants as keys
use Rattle.pb_text.specs.Places.{first_place}
use Rattle.pb_text.specs.Spellings.{key_of, keys as all_keys}
use Rattle.pb_text.specs.Tokens.{IsText}
use Rattle.pb_lex.proofs.Ways.{one_text}
use Rattle.pb_syntax.specs.declared.tree.High.TheVariants.{Max}
use Rattle.pb_syntax.specs.Form.{one, done, ◌>>=◌, ◌or◌}
use Rattle.pb_syntax.specs.Grammar.{IsFile, reads_mark, reads_key, reads_name, reads_number, not_large, mapped, number_in, top}
use Rattle.pb_syntax.specs.Layout.{printed}
use Rattle.pb_syntax.specs.Printed.{Kinds, statement_tokens, statements_tokens, file_tokens, head_tokens}
use Rattle.pb_syntax.specs.Tree.{PlainStatement, PlainFile, Numeral, Top, statements_of}
use Rattle.pb_syntax.proofs.Prints.{AllOf, kinds_of}
use Rattle.pb_syntax.proofs.Relex.{IsWord, IsWritten, laid_again}
use Rattle.pb_demo_file.specs.File.{by_rest, demo_file, statements_to}
use Rattle.pb_demo_file.specs.Laws.{RunsFromTwo}

-- ---- tokens behind others

abbrev pushes : Kinds → Kinds → Kinds
pushes before [] = before
pushes before (k ∷ ks) = pushes (before ++ k ∷ []) ks

all_push : (before : Kinds) (k : TokenKind) → AllOf IsWritten before → IsWritten k → AllOf IsWritten (before ++ k ∷ [])
all_push [] k all is = (is, tt)
all_push (b ∷ bs) k all is = (all.0, all_push bs k all.1 is)

all_pushes : (before ks : Kinds) → AllOf IsWritten before → AllOf IsWritten ks → AllOf IsWritten (pushes before ks)
all_pushes before [] all more = all
all_pushes before (k ∷ ks) all more = all_pushes (before ++ k ∷ []) ks (all_push before k all more.0) more.1

-- the second begins with the first
abbrev Begins : Kinds → Kinds → Type 0
Begins before ks = (more : Kinds) × (ks ≡ before ++ more)

begins_pushes : (before ks : Kinds) → Begins before (pushes before ks)
begins_pushes before [] = ([], sym (append-nil before))
begins_pushes before (k ∷ ks) =
    let rest = begins_pushes (before ++ k ∷ []) ks in
    (k ∷ rest.0, rest.1 ∙ append_assoc before (k ∷ []) rest.0)

begins_then : (a b c : Kinds) → Begins a b → Begins b c → Begins a c
begins_then a b c first second = (first.0 ++ second.0, second.1 ∙ ap (λ (l : Kinds). l ++ second.0) first.1 ∙ append_assoc a first.0 second.0)

-- ---- the tokens of a statement

abbrev word : List ℕ → TokenKind
word w = kind.Word w

abbrev message_kinds : Kinds
message_kinds =
    word (codes "A") ∷ kind.Mark marks.LeftParen ∷ kind.Key keys.Uint32 ∷ kind.Mark marks.LeftBracket ∷ kind.Number 4 ∷ kind.Mark marks.RightBracket ∷ kind.Mark marks.RightParen
    ∷ kind.Key keys.From ∷ word (codes "W") ∷ kind.Mark marks.LeftBracket ∷ word (codes "i") ∷ kind.Mark marks.Colon ∷ kind.Number 0 ∷ kind.Mark marks.Dots ∷ word (codes "N") ∷ kind.Mark marks.Minus ∷ kind.Number 2 ∷ kind.Mark marks.RightBracket
    ∷ kind.Key keys.To ∷ word (codes "W") ∷ kind.Mark marks.LeftBracket ∷ word (codes "i") ∷ kind.Mark marks.Plus ∷ kind.Number 1 ∷ kind.Mark marks.RightBracket ∷ kind.Mark marks.Semicolon ∷ []

abbrev back_kinds : Kinds
back_kinds =
    word (codes "B") ∷ kind.Mark marks.LeftParen ∷ kind.Mark marks.RightParen
    ∷ kind.Key keys.From ∷ word (codes "W") ∷ kind.Mark marks.LeftBracket ∷ word (codes "N") ∷ kind.Mark marks.Minus ∷ kind.Number 1 ∷ kind.Mark marks.RightBracket
    ∷ kind.Key keys.To ∷ word (codes "W") ∷ kind.Mark marks.LeftBracket ∷ kind.Number 0 ∷ kind.Mark marks.RightBracket ∷ kind.Mark marks.Semicolon ∷ []

abbrev compute_kinds : Kinds
compute_kinds =
    kind.Key keys.Compute ∷ word (codes "Tick") ∷ kind.Key keys.At ∷ word (codes "W") ∷ kind.Mark marks.LeftBracket ∷ kind.Number 0 ∷ kind.Mark marks.RightBracket ∷ kind.Mark marks.Semicolon ∷ []

abbrev sum_kinds : Kinds
sum_kinds =
    kind.Key keys.Allreduce ∷ word (codes "S") ∷ kind.Mark marks.LeftParen ∷ kind.Key keys.Uint32 ∷ kind.Mark marks.LeftBracket ∷ kind.Number 2 ∷ kind.Mark marks.RightBracket ∷ kind.Mark marks.RightParen
    ∷ kind.Key keys.With ∷ kind.Key keys.Sum ∷ kind.Mark marks.Semicolon ∷ []

abbrev kinds_by : ℕ → Kinds
kinds_by zero = message_kinds
kinds_by (suc zero) = back_kinds
kinds_by (suc (suc zero)) = compute_kinds
kinds_by (suc (suc (suc j))) = sum_kinds

tokens_by : (j : ℕ) (before : Kinds) → statement_tokens (by_rest j) before ≡ pushes before (kinds_by j)
tokens_by zero before = refl
tokens_by (suc zero) before = refl
tokens_by (suc (suc zero)) before = refl
tokens_by (suc (suc (suc j))) before = refl

is_w : IsWritten (word (codes "W"))
unfolding key_of all_keys
is_w = (record { begins = refl; goes_on = refl }, omega arith, refl)

is_i : IsWritten (word (codes "i"))
unfolding key_of all_keys
is_i = (record { begins = refl; goes_on = refl }, omega arith, refl)

is_n : IsWritten (word (codes "N"))
unfolding key_of all_keys
is_n = (record { begins = refl; goes_on = refl }, omega arith, refl)

is_a : IsWritten (word (codes "A"))
unfolding key_of all_keys
is_a = (record { begins = refl; goes_on = refl }, omega arith, refl)

is_b : IsWritten (word (codes "B"))
unfolding key_of all_keys
is_b = (record { begins = refl; goes_on = refl }, omega arith, refl)

is_s : IsWritten (word (codes "S"))
unfolding key_of all_keys
is_s = (record { begins = refl; goes_on = refl }, omega arith, refl)

is_tick : IsWritten (word (codes "Tick"))
unfolding key_of all_keys
is_tick = (record { begins = refl; goes_on = refl }, omega arith, refl)

is_demo : IsWritten (word (codes "Demo"))
unfolding key_of all_keys
is_demo = (record { begins = refl; goes_on = refl }, omega arith, refl)

small : (n : ℕ) → n ≤ 4 → n ≤ 2000000000
small n few = omega (arith, few)

written_by : (j : ℕ) → AllOf IsWritten (kinds_by j)
written_by zero = (is_a, (tt, (tt, (tt, (small 4 (omega arith), (tt, (tt, (tt, (is_w, (tt, (is_i, (tt, (small 0 (omega arith), (tt, (is_n, (tt, (small 2 (omega arith), (tt, (tt, (is_w, (tt, (is_i, (tt, (small 1 (omega arith), (tt, (tt, tt))))))))))))))))))))))))))
written_by (suc zero) = (is_b, (tt, (tt, (tt, (is_w, (tt, (is_n, (tt, (small 1 (omega arith), (tt, (tt, (is_w, (tt, (small 0 (omega arith), (tt, (tt, tt))))))))))))))))
written_by (suc (suc zero)) = (tt, (is_tick, (tt, (is_w, (tt, (small 0 (omega arith), (tt, (tt, tt))))))))
written_by (suc (suc (suc j))) = (tt, (is_s, (tt, (tt, (tt, (small 2 (omega arith), (tt, (tt, (tt, (tt, (tt, tt)))))))))))

-- ---- the tokens of all statements

tokens_last : (ss : List PlainStatement) (s : PlainStatement) (before : Kinds) → statements_tokens (statements_of (ss ++ s ∷ [])) before ≡ statement_tokens s (statements_tokens (statements_of ss) before)
tokens_last [] s before = refl
tokens_last (x ∷ xs) s before = tokens_last xs s (statement_tokens x before)

abbrev all_tokens : ℕ → Kinds → Kinds
all_tokens count before = statements_tokens (statements_of (statements_to count)) before

tokens_more : (count : ℕ) (before : Kinds) → all_tokens (suc count) before ≡ pushes (all_tokens count before) (kinds_by (count % 4))
tokens_more count before = tokens_last (statements_to count) (by_rest (count % 4)) before ∙ tokens_by (count % 4) (all_tokens count before)

written_all : (count : ℕ) (before : Kinds) → AllOf IsWritten before → AllOf IsWritten (all_tokens count before)
written_all zero before all = all
written_all (suc count) before all =
    subst (AllOf IsWritten) (sym (tokens_more count before)) (all_pushes (all_tokens count before) (kinds_by (count % 4)) (written_all count before all) (written_by (count % 4)))

begins_all : (count : ℕ) (before : Kinds) → Begins before (all_tokens count before)
begins_all zero before = ([], sym (append-nil before))
begins_all (suc count) before =
    subst (Begins before) (sym (tokens_more count before))
    (begins_then before (all_tokens count before) (pushes (all_tokens count before) (kinds_by (count % 4))) (begins_all count before) (begins_pushes (all_tokens count before) (kinds_by (count % 4))))

-- ---- the tokens of the file

abbrev front : Kinds
front =
    kind.Key keys.Const ∷ word (codes "N") ∷ kind.Mark marks.Equals ∷ kind.Number 2 ∷ kind.Mark marks.Dots ∷ kind.Key keys.Max ∷ kind.Mark marks.Semicolon
    ∷ kind.Key keys.Global ∷ kind.Key keys.Protocol ∷ word (codes "Demo") ∷ kind.Mark marks.LeftParen
    ∷ kind.Key keys.Role ∷ word (codes "W") ∷ kind.Mark marks.LeftBracket ∷ kind.Number 0 ∷ kind.Mark marks.Dots ∷ word (codes "N") ∷ kind.Mark marks.Minus ∷ kind.Number 1 ∷ kind.Mark marks.RightBracket
    ∷ kind.Mark marks.RightParen ∷ kind.Mark marks.LeftBrace ∷ []

written_front : AllOf IsWritten front
written_front =
    (tt, (is_n, (tt, (small 2 (omega arith), (tt, (tt, (tt, (tt, (tt, (is_demo, (tt, (tt, (is_w, (tt, (small 0 (omega arith), (tt, (is_n, (tt, (small 1 (omega arith), (tt, (tt, (tt, tt))))))))))))))))))))))

file_is : (count : ℕ) → file_tokens (demo_file count) ≡ all_tokens count front ++ kind.Mark marks.RightBrace ∷ []
file_is count = refl

written : (count : ℕ) → AllOf IsWritten (file_tokens (demo_file count))
written count = all_push (all_tokens count front) (kind.Mark marks.RightBrace) (written_all count front written_front) tt

begins : (count : ℕ) → Begins front (file_tokens (demo_file count))
begins count = begins_then front (all_tokens count front) (file_tokens (demo_file count)) (begins_all count front) (kind.Mark marks.RightBrace ∷ [], refl)

-- ---- reading its first tokens

record First {A : Type 0} (reads : Token → Option A) (ts tail : List Token) (x : A) : Type 0 where
  token : Token
  split : ts ≡ token ∷ tail
  is : reads token ≡ Some x

first : {A : Type 0} (reads : Token → Option A) (ts head tail : List Token) (x : A) → ts ≡ head ++ tail → (one reads).text head x → First reads ts tail x
unfolding one
first reads ts [] tail x e w = absurd w
first reads ts (t ∷ []) tail x e w = record { token = t; split = e; is = w }
first reads ts (t ∷ u ∷ us) tail x e w = absurd w

kinds_step : (ts tail : List Token) (t : Token) (k : TokenKind) (ks : Kinds) → ts ≡ t ∷ tail → kinds_of ts ≡ k ∷ ks → (t.kind ≡ k) × (kinds_of tail ≡ ks)
kinds_step ts tail t k ks e f = by (sym (ap kinds_of e) ∙ f) where
  by : t.kind ∷ kinds_of tail ≡ k ∷ ks → (t.kind ≡ k) × (kinds_of tail ≡ ks)
  by g = (cc, cc)

large_at : (b : Bool) (n x : Numeral) → (if b then Some n else None) ≡ Some x → x.value ≡ n.value
large_at true n x e = by e where
  by : Some n ≡ Some x → x.value ≡ n.value
  by e = cc
large_at false n x e = absurd (by e) where
  by : None ≡ Some x → ⊥
  by e = cc

number_is : (t : Token) (n : ℕ) (x : Numeral) → t.kind ≡ kind.Number n → reads_number t ≡ Some x → x.value ≡ n
number_is t n x e is =
    let same : reads_number t ≡ not_large (Some (record { value = n; place = t.place })) = ap (λ (k : TokenKind). not_large (mapped (λ m. record { value = m; place = t.place }) (number_in k))) e in
    large_at (nat_le n 2000000000) (record { value = n; place = t.place }) x (sym same ∙ is)

no_number : (t : Token) (x : Numeral) → t.kind ≡ kind.Key keys.Max → reads_number t ≡ Some x → ⊥
no_number t x e is = by (sym same ∙ is) where
  same : reads_number t ≡ None
  same = ap (λ (k : TokenKind). not_large (mapped (λ m. record { value = m; place = t.place }) (number_in k))) e

  by : None ≡ Some x → ⊥
  by f = cc

top_is : (ts head tail : List Token) (v : Top) (ks : Kinds) → ts ≡ head ++ tail → kinds_of ts ≡ kind.Key keys.Max ∷ ks → top.text head v → v.high ≡ Max
unfolding ◌>>=◌ ◌or◌ done
top_is ts head tail v ks e kinds (inl b) =
    let c = first reads_number head b.head b.tail b.value b.split b.whole in
    let here = kinds_step ts (b.tail ++ tail) c.token (kind.Key keys.Max) ks (e ∙ ap (λ (l : List Token). l ++ tail) c.split) kinds in
    absurd (no_number c.token b.value here.0 c.is)
top_is ts head tail v ks e kinds (inr b) = ap (λ (t : Top). t.high) b.rest.1

range_is : (ts : List Token) (f : PlainFile) (w : List ℕ) (n : ℕ) (ks : Kinds) → kinds_of ts ≡ kind.Key keys.Const ∷ word w ∷ kind.Mark marks.Equals ∷ kind.Number n ∷ kind.Mark marks.Dots ∷ kind.Key keys.Max ∷ ks
    → IsFile ts f → (f.low ≡ n) × (f.high ≡ Max)
unfolding ◌>>=◌ done
range_is ts f w n ks kinds (d, b1) =
    let b2 = b1.rest in
    let b3 = b2.rest in
    let b4 = b3.rest in
    let b5 = b4.rest in
    let b6 = b5.rest in
    let c1 = first (reads_key keys.Const) ts b1.head b1.tail b1.value b1.split b1.whole in
    let c2 = first reads_name b1.tail b2.head b2.tail b2.value b2.split b2.whole in
    let c3 = first (reads_mark marks.Equals) b2.tail b3.head b3.tail b3.value b3.split b3.whole in
    let c4 = first reads_number b3.tail b4.head b4.tail b4.value b4.split b4.whole in
    let c5 = first (reads_mark marks.Dots) b4.tail b5.head b5.tail b5.value b5.split b5.whole in
    let k1 = kinds_step ts b1.tail c1.token _ _ c1.split kinds in
    let k2 = kinds_step b1.tail b2.tail c2.token _ _ c2.split k1.1 in
    let k3 = kinds_step b2.tail b3.tail c3.token _ _ c3.split k2.1 in
    let k4 = kinds_step b3.tail b4.tail c4.token _ _ c4.split k3.1 in
    let k5 = kinds_step b4.tail b5.tail c5.token _ _ c5.split k4.1 in
    let e = b6.rest.rest.rest.rest.rest.rest.rest.rest.rest.1 in (
      ap (λ (g : PlainFile). g.low) e ∙ number_is c4.token n b4.value k4.0 c4.is,
      ap (λ (g : PlainFile). g.high) e ∙ top_is b5.tail b6.head b6.tail b6.value ks b6.split k5.1 b6.whole,
    )

pub runs_from_two : RunsFromTwo
runs_from_two count tokens file text is =
    let r = laid_again (file_tokens (demo_file count)) None 0 first_place (written count) in
    let same : tokens ≡ r.tokens = one_text (printed (demo_file count)) tokens r.tokens text (r.end, r.lexes) in
    let b = begins count in
    range_is tokens file (codes "N") 2 _ (ap kinds_of same ∙ r.kinds ∙ b.1) is
