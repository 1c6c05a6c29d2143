-- Numbers and words that are spelled are read, and what is read is spelled so.
use Rattle.std.proofs.Common.{◌≡◌, ℕ, ◌+◌, ◌-◌, ◌<◌, ◌≤◌, ◌^◌, lt-ltb, ltb-true, Bool, true, false, cond, List, [], ◌∷◌, ◌++◌, map, Option, Some, None, refl, sym, ap, ap₂, subst, ◌∙◌, append-nil, arith}
use Rattle.std.specs.Prelude.{nat_eq, nat_lt, decimal, codes, ◌&&◌, if◌then◌else◌}
use Rattle.std.specs.Char.{is_ascii_digit}
use Rattle.std.specs.List.{AllByRecursion, list_all}
use Rattle.std.specs.Str.{all_ascii_digits}
use Rattle.std.proofs.lemmas.Bool.{ltb-false}
use Rattle.std.proofs.lemmas.Bool.Decides.{nat_tests}
use Rattle.std.proofs.lemmas.Fmt.{digits_decimal}
use Rattle.pb_syntax.specs.declared.tree.Payload.{Payload}
use Rattle.pb_syntax.specs.declared.tree.Payload.TheVariants.{Unit as NoWords, Int32, Uint32}
use Rattle.pb_core_language.specs.Lists.{is_empty}
use Rattle.pb_text_read.specs.Fronts.{◌>>=◌, strip}
use Rattle.pb_text_read.proofs.Digits.{own, decimal_first}
use Rattle.pb_text_read.proofs.Strips.{strip_sound}
use Rattle.pb_sched.specs.Logged.{signed_text, word_text, words_text}
use Rattle.pb_sched.specs.Parts.{number_at}
use Rattle.pb_sched.proofs.Spelled.{number_again, number_sound}
use Rattle.pb_judge_log.specs.Reading.{is_inside, is_within_line, whole_number, negative_of, negative_in, signed_by, signed_in, word_in, with_word, words_in}
use Rattle.pb_judge_log.proofs.Splits.{tail_of}

-- ---- numbers

pub whole_again : (limit n : ℕ) → n < limit → limit ≤ 2 ^ 64 → whole_number limit (decimal n) ≡ Some n
whole_again limit n lt le =
    let wide : n < 2 ^ 64 = omega (arith, lt, le) in
    let read : number_at (decimal n) ≡ Some (n, []) = ap number_at (sym (append-nil (decimal n))) ∙ number_again n [] wide refl in
    ap (λ o. o >>= λ x. cond (is_empty x.1 && nat_lt x.0 limit) (Some x.0) None) read ∙ ap (λ b. cond b (Some n) None) (lt-ltb n limit lt)

pub record IsNumber (limit : ℕ) (field : List ℕ) (n : ℕ) : Type 0 where
  pub is : field ≡ decimal n
  pub small : n < limit

some_same : {A : Type 0} {a b : A} → ◌≡◌ {A = Option A} (Some a) (Some b) → a ≡ b
some_same {A} {a} {b} e = cc

whole_at : (limit : ℕ) (field rest : List ℕ) (m n : ℕ) → number_at field ≡ Some (m, rest) → cond (is_empty rest && nat_lt m limit) (Some m) None ≡ Some n → IsNumber limit field n
whole_at limit field [] m n e h = by_test (nat_lt m limit) refl h where
  by_test : (b : Bool) → nat_lt m limit ≡ b → cond b (Some m) None ≡ Some n → IsNumber limit field n
  by_test true t g = subst (IsNumber limit field) (some_same g) (record { is = (number_sound field m [] e).is ∙ append-nil (decimal m); small = ltb-true m limit t })
  by_test false t g = absurd cc
whole_at limit field (c ∷ cs) m n e h = absurd cc

pub whole_sound : (limit : ℕ) (field : List ℕ) (n : ℕ) → whole_number limit field ≡ Some n → IsNumber limit field n
whole_sound limit field n h = go (number_at field) refl h where
  go : (o : Option (ℕ × List ℕ)) → number_at field ≡ o → (o >>= λ x. cond (is_empty x.1 && nat_lt x.0 limit) (Some x.0) None) ≡ Some n → IsNumber limit field n
  go None e g = absurd cc
  go (Some x) e g = whole_at limit field x.1 x.0 n e g

-- ---- words

negative_again : (w : ℕ) → w < 2 ^ 32 → 2 ^ 31 ≤ w → negative_in (decimal (2 ^ 32 - w)) ≡ Some w
negative_again w lt le =
    let read : whole_number (2 ^ 31 + 1) (decimal (2 ^ 32 - w)) ≡ Some (2 ^ 32 - w) = whole_again (2 ^ 31 + 1) (2 ^ 32 - w) (omega (arith, lt, le)) (omega arith) in
    let some : nat_eq (2 ^ 32 - w) 0 ≡ false = grind (arith, nat_tests) in
    let back : 2 ^ 32 - (2 ^ 32 - w) ≡ w = omega (arith, lt) in
    ap (λ o. o >>= negative_of) read ∙ ap (λ b. cond b None (Some (2 ^ 32 - (2 ^ 32 - w)))) some ∙ ap (λ n. Some n) back

signed_again : (w : ℕ) → w < 2 ^ 32 → signed_in (signed_text w) ≡ Some w
signed_again w lt = by_test (nat_lt w (2 ^ 31)) refl where
  positive : w < 2 ^ 31 → signed_in (decimal w) ≡ Some w
  positive small =
      let wide : w < 2 ^ 64 = omega (arith, lt) in
      let other : strip (codes "-") (decimal w) ≡ None = ap (strip (codes "-")) (sym (append-nil (decimal w))) ∙ decimal_first 45 [] w [] refl wide in
      ap (λ o. signed_by o (decimal w)) other ∙ whole_again (2 ^ 31) w small (omega arith)

  by_test : (b : Bool) → nat_lt w (2 ^ 31) ≡ b → signed_in (if b then decimal w else codes "-" ++ decimal (2 ^ 32 - w)) ≡ Some w
  by_test true e = positive (ltb-true w (2 ^ 31) e)
  by_test false e = negative_again w lt (ltb-false w (2 ^ 31) e)

pub record IsWord (payload : Payload) (field : List ℕ) (w : ℕ) : Type 0 where
  pub is : field ≡ word_text payload w
  pub small : w < 2 ^ 32

positive_sound : (count : ℕ) (field : List ℕ) (w : ℕ) → whole_number (2 ^ 31) field ≡ Some w → IsWord (Int32 count) field w
positive_sound count field w h =
    let k = whole_sound (2 ^ 31) field w h in
    let t : nat_lt w (2 ^ 31) ≡ true = lt-ltb w (2 ^ 31) k.small in
    record { is = k.is ∙ sym (ap (λ b. if b then decimal w else codes "-" ++ decimal (2 ^ 32 - w)) t); small = omega (arith, k.small) }

not_less : (a b : ℕ) → b ≤ a → nat_lt a b ≡ false
not_less a b h = grind (arith, nat_tests)

negative_sound : (count : ℕ) (field digits : List ℕ) (w : ℕ) → field ≡ codes "-" ++ digits → negative_in digits ≡ Some w → IsWord (Int32 count) field w
negative_sound count field digits w e h = go (whole_number (2 ^ 31 + 1) digits) refl h where
  of : (n : ℕ) → IsNumber (2 ^ 31 + 1) digits n → (b : Bool) → nat_eq n 0 ≡ b → cond b None (Some (2 ^ 32 - n)) ≡ Some w → IsWord (Int32 count) field w
  of n k true z g = absurd cc
  of n k false z g =
      let some : 0 < n = grind (arith, nat_tests) in
      let v : 2 ^ 32 - n ≡ w = some_same g in
      let t : nat_lt w (2 ^ 31) ≡ false = not_less w (2 ^ 31) (omega (arith, v, k.small)) in
      let back : n ≡ 2 ^ 32 - w = omega (arith, v, k.small) in
      record {
        is = e ∙ ap (λ ds. codes "-" ++ ds) (k.is ∙ ap (λ m. decimal m) back) ∙ sym (ap (λ b. if b then decimal w else codes "-" ++ decimal (2 ^ 32 - w)) t);
        small = omega (arith, v, some);
      }

  go : (o : Option ℕ) → whole_number (2 ^ 31 + 1) digits ≡ o → (o >>= negative_of) ≡ Some w → IsWord (Int32 count) field w
  go None d g = absurd cc
  go (Some n) d g = of n (whole_sound (2 ^ 31 + 1) digits n d) (nat_eq n 0) refl g

signed_sound : (count : ℕ) (field : List ℕ) (w : ℕ) → signed_in field ≡ Some w → IsWord (Int32 count) field w
signed_sound count field w h = go (strip (codes "-") field) refl h where
  go : (o : Option (List ℕ)) → strip (codes "-") field ≡ o → signed_by o field ≡ Some w → IsWord (Int32 count) field w
  go None e g = positive_sound count field w g
  go (Some digits) e g = negative_sound count field digits w (strip_sound (codes "-") field digits e) g

pub word_again : (payload : Payload) (w : ℕ) → w < 2 ^ 32 → word_in payload (word_text payload w) ≡ Some w
word_again NoWords w lt = whole_again (2 ^ 32) w lt (omega arith)
word_again (Int32 count) w lt = signed_again w lt
word_again (Uint32 count) w lt = whole_again (2 ^ 32) w lt (omega arith)

pub word_sound : (payload : Payload) (field : List ℕ) (w : ℕ) → word_in payload field ≡ Some w → IsWord payload field w
word_sound NoWords field w h = let k = whole_sound (2 ^ 32) field w h in record { is = k.is; small = k.small }
word_sound (Int32 count) field w h = signed_sound count field w h
word_sound (Uint32 count) field w h = let k = whole_sound (2 ^ 32) field w h in record { is = k.is; small = k.small }

-- ---- no digit is a space or a line feed

and_left : (a b : Bool) → (a && b) ≡ true → a ≡ true
and_left true b e = refl
and_left false b e = absurd cc

and_right : (a b : Bool) → (a && b) ≡ true → b ≡ true
and_right true b e = e
and_right false b e = absurd cc

all_digits : (p : ℕ → Bool) → ((c : ℕ) → is_ascii_digit c ≡ true → p c ≡ true) → (ds : List ℕ) → all_ascii_digits ds ≡ true → list_all p ds ≡ true
all_digits p h [] e = refl
all_digits p h (c ∷ cs) e = rw (h c (and_left _ _ e)) (all_digits p h cs (and_right _ _ e))

digit_inside : (c : ℕ) → is_ascii_digit c ≡ true → is_inside c ≡ true
digit_inside c e = grind (arith, nat_tests)

digit_within : (c : ℕ) → is_ascii_digit c ≡ true → is_within_line c ≡ true
digit_within c e = grind (arith, nat_tests)

pub decimal_inside : (n : ℕ) → n < 2 ^ 64 → list_all is_inside (decimal n) ≡ true
decimal_inside n small = all_digits is_inside digit_inside (decimal n) (digits_decimal own n small)

pub decimal_within : (n : ℕ) → n < 2 ^ 64 → list_all is_within_line (decimal n) ≡ true
decimal_within n small = all_digits is_within_line digit_within (decimal n) (digits_decimal own n small)

signed_all : (p : ℕ → Bool) → p 45 ≡ true → ((n : ℕ) → n < 2 ^ 64 → list_all p (decimal n) ≡ true) → (w : ℕ) → w < 2 ^ 32 → list_all p (signed_text w) ≡ true
signed_all p minus all w lt = by_test (nat_lt w (2 ^ 31)) where
  by_test : (b : Bool) → list_all p (if b then decimal w else codes "-" ++ decimal (2 ^ 32 - w)) ≡ true
  by_test true = all w (omega (arith, lt))
  by_test false = rw minus (all (2 ^ 32 - w) (omega arith))

pub word_all : (p : ℕ → Bool) → p 45 ≡ true → ((n : ℕ) → n < 2 ^ 64 → list_all p (decimal n) ≡ true) → (payload : Payload) (w : ℕ) → w < 2 ^ 32 → list_all p (word_text payload w) ≡ true
word_all p minus all NoWords w lt = all w (omega (arith, lt))
word_all p minus all (Int32 count) w lt = signed_all p minus all w lt
word_all p minus all (Uint32 count) w lt = all w (omega (arith, lt))

-- ---- several words

pub words_again : (payload : Payload) (ws : List ℕ) → AllByRecursion (λ w. w < 2 ^ 32) ws → words_in payload (map (word_text payload) ws) ≡ Some ws
words_again payload [] h = refl
words_again payload (w ∷ ws) h =
    ap (λ o. o >>= λ x. with_word x (words_in payload (map (word_text payload) ws))) (word_again payload w h.0) ∙ ap (with_word w) (words_again payload ws h.1)

pub record AreWordsOf (payload : Payload) (fs : List (List ℕ)) (ws : List ℕ) : Type 0 where
  pub is : fs ≡ map (word_text payload) ws
  pub each : AllByRecursion (λ w. w < 2 ^ 32) ws

pub words_sound : (payload : Payload) (fs : List (List ℕ)) (ws : List ℕ) → words_in payload fs ≡ Some ws → AreWordsOf payload fs ws
words_sound payload [] ws h = subst (AreWordsOf payload []) (some_same h) (record { is = refl; each = tt })
words_sound payload (f ∷ fs) ws h = go (word_in payload f) refl h (words_sound payload fs) where
  more : (w : ℕ) → word_in payload f ≡ Some w → (o : Option (List ℕ)) → words_in payload fs ≡ o → with_word w o ≡ Some ws → ((xs : List ℕ) → words_in payload fs ≡ Some xs → AreWordsOf payload fs xs) → AreWordsOf payload (f ∷ fs) ws
  more w e None d g rest = absurd cc
  more w e (Some xs) d g rest =
      let k = word_sound payload f w e in
      let m = rest xs d in
      subst (AreWordsOf payload (f ∷ fs)) (some_same g) (record {
        is = ap₂ (λ x xs. x ∷ xs) k.is m.is;
        each = (k.small, m.each);
      })

  go : (o : Option ℕ) → word_in payload f ≡ o → (o >>= λ w. with_word w (words_in payload fs)) ≡ Some ws → ((xs : List ℕ) → words_in payload fs ≡ Some xs → AreWordsOf payload fs xs) → AreWordsOf payload (f ∷ fs) ws
  go None e g rest = absurd cc
  go (Some w) e g rest = more w e (words_in payload fs) refl g rest

pub words_tail : (payload : Payload) (ws : List ℕ) → words_text payload ws ≡ tail_of (map (word_text payload) ws)
words_tail payload [] = refl
words_tail payload (w ∷ ws) = ap (λ xs. 32 ∷ (word_text payload w ++ xs)) (words_tail payload ws)

-- each field is so
pub words_all : (p : ℕ → Bool) → p 45 ≡ true → ((n : ℕ) → n < 2 ^ 64 → list_all p (decimal n) ≡ true) → (payload : Payload) (ws : List ℕ) → AllByRecursion (λ w. w < 2 ^ 32) ws → AllByRecursion (λ f. list_all p f ≡ true) (map (word_text payload) ws)
words_all p minus all payload [] h = tt
words_all p minus all payload (w ∷ ws) h = (word_all p minus all payload w h.0, words_all p minus all payload ws h.1)
