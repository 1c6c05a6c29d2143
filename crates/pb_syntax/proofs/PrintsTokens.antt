-- Single tokens, printed anew.
use Rattle.std.proofs.Common.{◌≡◌, ℕ, ◌<◌, List, [], ◌∷◌, ◌++◌, ◌==◌, Bool, true, false, Option, Some, None, if◌then◌else◌, refl, sym, ap, ◌∙◌, arith}
use Rattle.std.specs.Prelude.{nat_lt, nat_le}
use Rattle.pb_text.specs.declared.place.Place.{Place}
use Rattle.pb_text.specs.declared.place.Spot.{Spot}
use Rattle.pb_text.specs.declared.token.Token.{Token}
use Rattle.pb_text.specs.declared.token.TokenKind.{TokenKind}
use Rattle.pb_text.specs.declared.token.TokenKind.TheVariants as kind
use Rattle.pb_text.specs.declared.token.Mark.{Mark}
use Rattle.pb_text.specs.declared.token.Mark.TheVariants as marks
use Rattle.pb_text.specs.declared.token.Key.{Key}
use Rattle.pb_text.specs.declared.token.Key.TheVariants as keys
use Rattle.pb_syntax.specs.Form.{Form, one}
use Rattle.pb_syntax.specs.Tree.{Numeral}
use Rattle.pb_syntax.specs.Grammar as grammar
use Rattle.pb_syntax.specs.Grammar.{mark_number, key_number, kind_number, word_in, number_in, mapped, not_large, not_zero, reads_mark, reads_key, reads_name, reads_number, reads_count}
use Rattle.pb_syntax.specs.Bare.{nowhere, bare_spot, bare_numeral}
use Rattle.pb_syntax.specs.Printed.{Kinds, mark, key, word, number}
use Rattle.pb_syntax.proofs.Prints.{Prints, OneAgain, one_prints}

-- marks and keys are told by their numbers
mark_at : ℕ → Mark
mark_at n =
    if n == 0 then marks.Dots else if n == 1 then marks.Equals else if n == 2 then marks.Semicolon else
    if n == 3 then marks.LeftParen else if n == 4 then marks.RightParen else if n == 5 then marks.LeftBracket else
    if n == 6 then marks.RightBracket else if n == 7 then marks.LeftBrace else if n == 8 then marks.RightBrace else
    if n == 9 then marks.Comma else if n == 10 then marks.Colon else if n == 11 then marks.Plus else marks.Minus

key_at : ℕ → Key
key_at n =
    if n == 13 then keys.Const else if n == 14 then keys.Global else if n == 15 then keys.Protocol else
    if n == 16 then keys.Role else if n == 17 then keys.From else if n == 18 then keys.To else
    if n == 19 then keys.Foreach else if n == 20 then keys.Rec else if n == 21 then keys.Continue else
    if n == 22 then keys.Choice else if n == 23 then keys.At else if n == 24 then keys.Or else
    if n == 25 then keys.Compute else if n == 26 then keys.Barrier else if n == 27 then keys.Broadcast else
    if n == 28 then keys.Reduce else if n == 29 then keys.Allreduce else if n == 30 then keys.With else
    if n == 31 then keys.Max else if n == 32 then keys.Min else if n == 33 then keys.Sum else
    if n == 34 then keys.Int32 else if n == 35 then keys.Uint32 else keys.Do

mark_again : (m : Mark) → mark_at (mark_number m) ≡ m
unfolding mark_at
mark_again marks.Dots = refl
mark_again marks.Equals = refl
mark_again marks.Semicolon = refl
mark_again marks.LeftParen = refl
mark_again marks.RightParen = refl
mark_again marks.LeftBracket = refl
mark_again marks.RightBracket = refl
mark_again marks.LeftBrace = refl
mark_again marks.RightBrace = refl
mark_again marks.Comma = refl
mark_again marks.Colon = refl
mark_again marks.Plus = refl
mark_again marks.Minus = refl

key_again : (k : Key) → key_at (key_number k) ≡ k
unfolding key_at
key_again keys.Const = refl
key_again keys.Global = refl
key_again keys.Protocol = refl
key_again keys.Role = refl
key_again keys.From = refl
key_again keys.To = refl
key_again keys.Foreach = refl
key_again keys.Rec = refl
key_again keys.Continue = refl
key_again keys.Choice = refl
key_again keys.At = refl
key_again keys.Or = refl
key_again keys.Compute = refl
key_again keys.Barrier = refl
key_again keys.Broadcast = refl
key_again keys.Reduce = refl
key_again keys.Allreduce = refl
key_again keys.With = refl
key_again keys.Max = refl
key_again keys.Min = refl
key_again keys.Sum = refl
key_again keys.Int32 = refl
key_again keys.Uint32 = refl
key_again keys.Do = refl

-- 0 for a mark, 1 for a key, 2 for a name or a number
range_of : ℕ → ℕ
range_of n = if nat_lt n 13 then 0 else if nat_lt n 37 then 1 else 2

mark_range : (m : Mark) → range_of (mark_number m) ≡ 0
unfolding range_of
mark_range marks.Dots = refl
mark_range m = refl

key_range : (k : Key) → range_of (key_number k) ≡ 1
unfolding range_of
key_range keys.Const = refl
key_range k = refl

number_same : (a b : ℕ) → (a == b) ≡ true → a ≡ b
number_same a b h = grind arith

only_mark : (m : Mark) (k : TokenKind) → kind_number k ≡ mark_number m → k ≡ kind.Mark m
unfolding range_of
only_mark m (kind.Mark n) e = ap kind.Mark (sym (mark_again n) ∙ ap mark_at e ∙ mark_again m)
only_mark m (kind.Key k) e = absurd (omega (arith, sym (key_range k) ∙ ap range_of e ∙ mark_range m))
only_mark m (kind.Word w) e = absurd (omega (arith, ap range_of e ∙ mark_range m))
only_mark m (kind.Number n) e = absurd (omega (arith, ap range_of e ∙ mark_range m))

only_key : (k : Key) (other : TokenKind) → kind_number other ≡ key_number k → other ≡ kind.Key k
unfolding range_of
only_key k (kind.Key l) e = ap kind.Key (sym (key_again l) ∙ ap key_at e ∙ key_again k)
only_key k (kind.Mark m) e = absurd (omega (arith, sym (mark_range m) ∙ ap range_of e ∙ key_range k))
only_key k (kind.Word w) e = absurd (omega (arith, ap range_of e ∙ key_range k))
only_key k (kind.Number n) e = absurd (omega (arith, ap range_of e ∙ key_range k))

kept : {A : Type 0} (c : Bool) (y x : A) → (if c then Some y else None) ≡ Some x → (c ≡ true) × (y ≡ x)
kept true y x e = (refl, cc)
kept false y x e = cc

pub mark_prints : {p : TokenKind → Type 0} (m : Mark) → Prints p (λ (q : Place). nowhere) (λ before. before) (λ (q : Place). mark m) (grammar.mark m) (grammar.mark m)
mark_prints {p} m = one_prints p (λ (q : Place). nowhere) (λ (q : Place). mark m) (reads_mark m) (λ t x h.
    let is : (kind_number t.kind == mark_number m) ≡ true = (kept (kind_number t.kind == mark_number m) t.place x h).0 in
    let same : t.kind ≡ kind.Mark m = only_mark m t.kind (number_same (kind_number t.kind) (mark_number m) is) in
    record {
      shown = λ before. ap (λ (k : TokenKind). before ++ k ∷ []) (sym same);
      again = λ u e. let there : (kind_number u.kind == mark_number m) ≡ true = ap (λ (k : TokenKind). kind_number k == mark_number m) e ∙ is in (u.place, rw there refl, refl);
    })

pub key_prints : {p : TokenKind → Type 0} (k : Key) → Prints p (λ (q : Place). nowhere) (λ before. before) (λ (q : Place). key k) (grammar.key k) (grammar.key k)
key_prints {p} k = one_prints p (λ (q : Place). nowhere) (λ (q : Place). key k) (reads_key k) (λ t x h.
    let is : (kind_number t.kind == key_number k) ≡ true = (kept (kind_number t.kind == key_number k) t.place x h).0 in
    let same : t.kind ≡ kind.Key k = only_key k t.kind (number_same (kind_number t.kind) (key_number k) is) in
    record {
      shown = λ before. ap (λ (j : TokenKind). before ++ j ∷ []) (sym same);
      again = λ u e. let there : (kind_number u.kind == key_number k) ≡ true = ap (λ (j : TokenKind). kind_number j == key_number k) e ∙ is in (u.place, rw there refl, refl);
    })

name_again : (k : TokenKind) (q : Place) (x : Spot) → reads_name (record { kind = k; place = q }) ≡ Some x → OneAgain bare_spot (λ (s : Spot). word s.name) reads_name (record { kind = k; place = q }) x
name_again (kind.Word w) q x h =
    let is : record { name = w; place = q } ≡ x = cc in
    record {
      shown = λ before. ap (λ (s : Spot). before ++ kind.Word s.name ∷ []) (sym is);
      again = λ u e. (record { name = w; place = u.place }, rw e refl, ap bare_spot (sym is));
    }
name_again (kind.Mark m) q x h = cc
name_again (kind.Key k) q x h = cc
name_again (kind.Number n) q x h = cc

pub name_prints : {p : TokenKind → Type 0} → Prints p bare_spot (λ before. before) (λ (s : Spot). word s.name) grammar.name grammar.name
name_prints {p} = one_prints p bare_spot (λ (s : Spot). word s.name) reads_name (λ t x h. name_again t.kind t.place x h)

number_again : (k : TokenKind) (q : Place) (x : Numeral) → reads_number (record { kind = k; place = q }) ≡ Some x → OneAgain bare_numeral (λ (n : Numeral). number n.value) reads_number (record { kind = k; place = q }) x
number_again (kind.Number n) q x h =
    let most : nat_le n 2000000000 ≡ true = (kept (nat_le n 2000000000) (record { value = n; place = q }) x h).0 in
    let is : record { value = n; place = q } ≡ x = (kept (nat_le n 2000000000) (record { value = n; place = q }) x h).1 in
    record {
      shown = λ before. ap (λ (m : Numeral). before ++ kind.Number m.value ∷ []) (sym is);
      again = λ u e. (record { value = n; place = u.place }, rw (e, most) refl, ap bare_numeral (sym is));
    }
number_again (kind.Mark m) q x h = cc
number_again (kind.Key k) q x h = cc
number_again (kind.Word w) q x h = cc

pub number_prints : {p : TokenKind → Type 0} → Prints p bare_numeral (λ before. before) (λ (n : Numeral). number n.value) grammar.number grammar.number
number_prints {p} = one_prints p bare_numeral (λ (n : Numeral). number n.value) reads_number (λ t x h. number_again t.kind t.place x h)

not_zero_kept : (o : Option Numeral) (x : Numeral) → not_zero o ≡ Some x → (o ≡ Some x) × ((x.value == 0) ≡ false)
not_zero_kept None x h = cc
not_zero_kept (Some n) x h = some (n.value == 0) refl h
  where
    some : (c : Bool) → (n.value == 0) ≡ c → (if c then None else Some n) ≡ Some x → (Some n ≡ Some x) × ((x.value == 0) ≡ false)
    some true e g = cc
    some false e g = let same : n ≡ x = cc in (g, ap (λ (m : Numeral). m.value == 0) (sym same) ∙ e)

pub count_prints_one : {p : TokenKind → Type 0} → Prints p bare_numeral (λ before. before) (λ (n : Numeral). number n.value) (one reads_count) (one reads_count)
count_prints_one {p} = one_prints p bare_numeral (λ (n : Numeral). number n.value) reads_count (λ t x h.
    let k = not_zero_kept (reads_number t) x h in
    let o = number_again t.kind t.place x k.0 in
    record {
      shown = o.shown;
      again = λ u e.
          let y = o.again u e in
          let same : y.0.value ≡ x.value = ap (λ (m : Numeral). m.value) (sym y.2) in
          let some : (y.0.value == 0) ≡ false = ap (λ (v : ℕ). v == 0) same ∙ k.1 in
          (y.0, rw (y.1, some) refl, y.2);
    })
