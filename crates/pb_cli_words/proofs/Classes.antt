-- What a word is, to the definitions and to `clap`.
use Rattle.std.proofs.Common.{◌≡◌, ℕ, suc, ◌+◌, Bool, true, false, not, ◌&&◌, ◌||◌, cond, nat_eq, nat_le, codes, [], ◌∷◌, length, take, drop, Option, Some, None, refl, sym, ap, ap₂, ◌∙◌, subst, arith, option_map}
use Rattle.std.proofs.lemmas.Bool.{eqb-true, eqb-false, ne_eqb, le-leb, true≢false}
use Rattle.std.proofs.lemmas.Slice.Eq.{bytes_eq-Decides}
use Rattle.std.proofs.lemmas.Str.{encodes-chars, IsUtf8-drop, IsCharBoundary-after_ascii}
use Rattle.std.specs.List.{before_first, after_first, position_or_len}
use Rattle.std.specs.Str.{bytes_eq, chars, IsUtf8, encode_utf8_all as encodes}
use Rattle.clap.specs.Lexer.{has_byte, long_of, short_of}
use Rattle.clap.specs.Words.{Text}
use Rattle.clap.specs.Walk.{arg_by_long}
use Rattle.pb_text_read.specs.Fronts.{strip}
use Rattle.pb_cli_words.specs.Said.{Key, N, Seed, Turns, Mode, Schedule, Shape, ordinary, option, joined, strange, named_by, option_shape, or_else, shape_of, begins_with_dash}
use Rattle.pb_cli_words.proofs.Rules.{rules, id_of, rule_by, key_named, by_long}

abbrev is_eq : ℕ → Bool
is_eq b = nat_eq b 61

-- ---- the name of an option, and its value

abbrev value_in : Text → Option Text
value_in t = cond (has_byte 61 t) (Some (after_first is_eq t)) None

abbrev pub with_key : Key → Option Text → Shape
with_key key None = option key
with_key key (Some v) = joined key v

-- no byte of a name is `=`
abbrev HasNoEq : Text → Type 0
HasNoEq [] = Unit {0}
HasNoEq (b ∷ bs) = (is_eq b ≡ false) × HasNoEq bs

before_hit : (b : ℕ) (bs : Text) → is_eq b ≡ true → before_first is_eq (b ∷ bs) ≡ []
before_hit b bs e = rw e refl

before_miss : (b : ℕ) (bs : Text) → is_eq b ≡ false → before_first is_eq (b ∷ bs) ≡ b ∷ before_first is_eq bs
before_miss b bs e =
    ap (λ x. take (cond (not x) (1 + position_or_len is_eq bs) 0) (b ∷ bs)) e
    ∙ (let n : 1 + position_or_len is_eq bs ≡ suc (position_or_len is_eq bs) = omega arith in ap (λ k. take k (b ∷ bs)) n)

after_hit : (b : ℕ) (bs : Text) → is_eq b ≡ true → after_first is_eq (b ∷ bs) ≡ bs
after_hit b bs e = ap (λ x. drop (cond (not x) (1 + position_or_len is_eq bs) 0 + 1) (b ∷ bs)) e

after_miss : (b : ℕ) (bs : Text) → is_eq b ≡ false → after_first is_eq (b ∷ bs) ≡ after_first is_eq bs
after_miss b bs e =
    ap (λ x. drop (cond (not x) (1 + position_or_len is_eq bs) 0 + 1) (b ∷ bs)) e
    ∙ (let n : 1 + position_or_len is_eq bs + 1 ≡ suc (position_or_len is_eq bs + 1) = omega arith in ap (λ k. drop k (b ∷ bs)) n)

value_hit : (b : ℕ) (bs : Text) → is_eq b ≡ true → value_in (b ∷ bs) ≡ Some bs
value_hit b bs e = ap (λ x. cond (x || has_byte 61 bs) (Some (after_first is_eq (b ∷ bs))) None) e ∙ ap Some (after_hit b bs e)

value_miss : (b : ℕ) (bs : Text) → is_eq b ≡ false → value_in (b ∷ bs) ≡ value_in bs
value_miss b bs e =
    ap (λ x. cond (x || has_byte 61 bs) (Some (after_first is_eq (b ∷ bs))) None) e
    ∙ ap (λ t. cond (has_byte 61 bs) (Some t) None) (after_miss b bs e)

-- a name that stands in front of the end or `=` is what stands before the first `=`
named_at : (key : Key) (name t : Text) → HasNoEq name
    → named_by key (strip name t) ≡ cond (bytes_eq name (before_first is_eq t)) (Some (with_key key (value_in t))) None
named_at key [] [] none = refl
named_at key [] (b ∷ bs) none = go (is_eq b) refl
  where
    go : (x : Bool) → is_eq b ≡ x → cond (is_eq b) (Some (joined key bs)) None ≡ cond (bytes_eq [] (before_first is_eq (b ∷ bs))) (Some (with_key key (value_in (b ∷ bs)))) None
    go true e =
        ap (λ x. cond x (Some (joined key bs)) None) e
        ∙ sym (ap₂ (λ n v. cond (bytes_eq [] n) (Some (with_key key v)) None) (before_hit b bs e) (value_hit b bs e))
    go false e =
        ap (λ x. cond x (Some (joined key bs)) None) e
        ∙ sym (ap (λ n. cond (bytes_eq [] n) (Some (with_key key (value_in (b ∷ bs)))) None) (before_miss b bs e))
named_at key (p ∷ ps) [] none = refl
named_at key (p ∷ ps) (b ∷ bs) none = go (nat_eq p b) (is_eq b) (named_at key ps bs none.1) refl refl
  where
    go : (x y : Bool) → named_by key (strip ps bs) ≡ cond (bytes_eq ps (before_first is_eq bs)) (Some (with_key key (value_in bs))) None → nat_eq p b ≡ x → is_eq b ≡ y
        → named_by key (cond (nat_eq p b) (strip ps bs) None) ≡ cond (bytes_eq (p ∷ ps) (before_first is_eq (b ∷ bs))) (Some (with_key key (value_in (b ∷ bs)))) None
    go true true ih e f = let same : p ≡ b = eqb-true p b e in absurd (true≢false (sym f ∙ (ap is_eq (sym same) ∙ none.0)))
    go true false ih e f =
        ap (λ x. named_by key (cond x (strip ps bs) None)) e
        ∙ (ih ∙ sym (ap₂ (λ n v. cond (bytes_eq (p ∷ ps) n) (Some (with_key key v)) None) (before_miss b bs f) (value_miss b bs f)
        ∙ ap (λ x. cond (x && bytes_eq ps (before_first is_eq bs)) (Some (with_key key (value_in bs))) None) e))
    go false true ih e f =
        ap (λ x. named_by key (cond x (strip ps bs) None)) e
        ∙ sym (ap (λ n. cond (bytes_eq (p ∷ ps) n) (Some (with_key key (value_in (b ∷ bs)))) None) (before_hit b bs f))
    go false false ih e f =
        ap (λ x. named_by key (cond x (strip ps bs) None)) e
        ∙ sym (ap (λ n. cond (bytes_eq (p ∷ ps) n) (Some (with_key key (value_in (b ∷ bs)))) None) (before_miss b bs f)
        ∙ ap (λ x. cond (x && bytes_eq ps (before_first is_eq bs)) (Some (with_key key (value_in (b ∷ bs)))) None) e)

no_eq : (key : Key) → HasNoEq (id_of key)
no_eq N = (refl, tt)
no_eq Seed = (refl, (refl, (refl, (refl, tt))))
no_eq Turns = (refl, (refl, (refl, (refl, (refl, tt)))))
no_eq Mode = (refl, (refl, (refl, (refl, tt))))
no_eq Schedule = (refl, (refl, (refl, (refl, (refl, (refl, (refl, (refl, tt))))))))

abbrev shape_by : Option Key → Option Text → Shape
shape_by None v = strange
shape_by (Some key) v = with_key key v

chosen : (b : Bool) (key : Key) (v : Option Text) (o : Option Shape) (rest : Shape) (other : Option Key) → o ≡ cond b (Some (with_key key v)) None → rest ≡ shape_by other v
    → or_else o rest ≡ shape_by (cond b (Some key) other) v
chosen true key v o rest other e f = ap (λ x. or_else x rest) e
chosen false key v o rest other e f = ap (λ x. or_else x rest) e ∙ f

shaped : (t : Text) → option_shape (45 ∷ 45 ∷ t) ≡ shape_by (key_named (before_first is_eq t)) (value_in t)
shaped t =
    let name = before_first is_eq t in
    let at : (key : Key) → named_by key (strip (id_of key) t) ≡ cond (bytes_eq (id_of key) name) (Some (with_key key (value_in t))) None = λ key. named_at key (id_of key) t (no_eq key) in
    chosen (bytes_eq (codes "n") name) N (value_in t) _ _ _ (at N)
    (chosen (bytes_eq (codes "seed") name) Seed (value_in t) _ _ _ (at Seed)
    (chosen (bytes_eq (codes "turns") name) Turns (value_in t) _ _ _ (at Turns)
    (chosen (bytes_eq (codes "mode") name) Mode (value_in t) _ _ _ (at Mode)
    (chosen (bytes_eq (codes "schedule") name) Schedule (value_in t) _ _ _ (at Schedule) refl))))

key_found : (name : Text) (key : Key) → key_named name ≡ Some key → name ≡ id_of key
key_found name key = go (bytes_eq (codes "n") name) (bytes_eq (codes "seed") name) (bytes_eq (codes "turns") name) (bytes_eq (codes "mode") name) (bytes_eq (codes "schedule") name) refl refl refl refl refl
  where
    is : (k : Key) → bytes_eq (id_of k) name ≡ true → Some k ≡ Some key → name ≡ id_of key
    is k e same = sym ((bytes_eq-Decides (id_of k) name).0 e) ∙ ap id_of cc

    go : (a b c d e : Bool) → bytes_eq (codes "n") name ≡ a → bytes_eq (codes "seed") name ≡ b → bytes_eq (codes "turns") name ≡ c → bytes_eq (codes "mode") name ≡ d
        → bytes_eq (codes "schedule") name ≡ e → cond a (Some N) (cond b (Some Seed) (cond c (Some Turns) (cond d (Some Mode) (cond e (Some Schedule) None)))) ≡ Some key → name ≡ id_of key
    go true b c d e p q r s t h = is N p h
    go false true c d e p q r s t h = is Seed q h
    go false false true d e p q r s t h = is Turns r h
    go false false false true e p q r s t h = is Mode s h
    go false false false false true p q r s t h = is Schedule t h
    go false false false false false p q r s t h = absurd cc

-- ---- the classes

-- neither `--`, nor a long option, nor short ones
pub record IsPlain (word : Text) : Type 0 where
  pub bar : bytes_eq word (codes "--") ≡ false
  pub long : long_of word ≡ None
  pub short : short_of word ≡ None

pub record IsLong (word name : Text) (value : Option Text) : Type 0 where
  pub bar : bytes_eq word (codes "--") ≡ false
  pub long : long_of word ≡ Some (name, value)

pub record IsShort (word : Text) (c : ℕ) (cs : Text) : Type 0 where
  pub bar : bytes_eq word (codes "--") ≡ false
  pub long : long_of word ≡ None
  pub short : short_of word ≡ Some (c ∷ cs)
  pub spelled : (x : ℕ) × (xs : Text) × (chars (c ∷ cs) ≡ x ∷ xs)

pub data Class (word : Text) : Type 0 where
  plain : IsPlain word → shape_of word ≡ ordinary → (begins_with_dash word ≡ true → word ≡ codes "-") → Class word
  bar : word ≡ codes "--" → Class word
  long : (key : Key) (value : Option Text) → IsLong word (id_of key) value → shape_of word ≡ with_key key value → begins_with_dash word ≡ true → Class word
  unknown : (name : Text) (value : Option Text) → IsLong word name value → arg_by_long rules name ≡ None → shape_of word ≡ strange → begins_with_dash word ≡ true
      → Class word
  short : (c : ℕ) (cs : Text) → IsShort word c cs → shape_of word ≡ strange → begins_with_dash word ≡ true → Class word

-- a text that is not empty has a character
spelled : (c : ℕ) (cs : Text) → IsUtf8 (c ∷ cs) → (x : ℕ) × (xs : Text) × (chars (c ∷ cs) ≡ x ∷ xs)
spelled c cs utf8 = go (chars (c ∷ cs)) refl
  where
    go : (xs : Text) → chars (c ∷ cs) ≡ xs → (x : ℕ) × (xs : Text) × (chars (c ∷ cs) ≡ x ∷ xs)
    go (x ∷ xs) e = (x, xs, e)
    go [] e = let none : [] ≡ c ∷ cs = sym (ap encodes e) ∙ encodes-chars (c ∷ cs) utf8 in absurd cc

module _ (y : ℕ) (ys : Text) where
  abbrev word : Text
  word = 45 ∷ y ∷ ys

  long_enough : nat_le 2 (length word) ≡ true
  long_enough = le-leb 2 (length word) (omega arith)

  as_option : bytes_eq word (codes "--") ≡ false → shape_of word ≡ option_shape word
  as_option e = rw (long_enough, e) refl

  -- one hyphen
  dashed : IsUtf8 word → nat_eq y 45 ≡ false → Class word
  dashed utf8 e =
      let flip : nat_eq 45 y ≡ false = ne_eqb 45 y (λ s. eqb-false y 45 e (sym s)) in
      let none : bytes_eq word (codes "--") ≡ false = rw e refl in
      let unnamed : option_shape word ≡ strange = rw flip refl in
      let flags : IsUtf8 (y ∷ ys) = IsUtf8-drop word 1 utf8 (IsCharBoundary-after_ascii word 0 utf8 (omega arith) (omega arith)) in
      short y ys (record { bar = none; long = rw e refl; short = rw e refl; spelled = spelled y ys flags }) (as_option none ∙ unnamed) refl

-- two hyphens
doubled : (ys : Text) → Class (45 ∷ 45 ∷ ys)
doubled [] = bar refl
doubled (z ∷ zs) = go (key_named (before_first is_eq (z ∷ zs))) refl
  where
    seen : (o : Option Key) → key_named (before_first is_eq (z ∷ zs)) ≡ o → shape_of (45 ∷ 45 ∷ z ∷ zs) ≡ shape_by o (value_in (z ∷ zs))
    seen o e = as_option 45 (z ∷ zs) refl ∙ (shaped (z ∷ zs) ∙ ap (λ k. shape_by k (value_in (z ∷ zs))) e)

    go : (o : Option Key) → key_named (before_first is_eq (z ∷ zs)) ≡ o → Class (45 ∷ 45 ∷ z ∷ zs)
    go (Some key) e = long key (value_in (z ∷ zs)) (record { bar = refl; long = ap (λ n. Some (n, value_in (z ∷ zs))) (key_found (before_first is_eq (z ∷ zs)) key e) }) (seen (Some key) e) refl
    go None e =
        unknown (before_first is_eq (z ∷ zs)) (value_in (z ∷ zs)) (record { bar = refl; long = refl })
        (by_long (before_first is_eq (z ∷ zs)) ∙ ap (option_map rule_by) e) (seen None e) refl

pub classify : (word : Text) → IsUtf8 word → Class word
classify [] utf8 = plain (record { bar = refl; long = refl; short = refl }) refl (λ e. absurd (true≢false (sym e)))
classify (x ∷ []) utf8 = go (nat_eq x 45) refl
  where
    go : (b : Bool) → nat_eq x 45 ≡ b → Class (x ∷ [])
    go true e = plain (record { bar = rw e refl; long = rw e refl; short = rw e refl }) (rw e refl) (λ h. ap (λ z. z ∷ []) (eqb-true x 45 e))
    go false e = plain (record { bar = rw e refl; long = rw e refl; short = rw e refl }) (rw e refl) (λ h. absurd (true≢false (sym h ∙ e)))
classify (x ∷ y ∷ ys) utf8 = go (nat_eq x 45) (nat_eq y 45) refl refl
  where
    go : (b c : Bool) → nat_eq x 45 ≡ b → nat_eq y 45 ≡ c → Class (x ∷ y ∷ ys)
    go true true e f = subst Class (ap₂ (λ v w. v ∷ w ∷ ys) (sym (eqb-true x 45 e)) (sym (eqb-true y 45 f))) (doubled ys)
    go true false e f =
        let x_is : x ≡ 45 = eqb-true x 45 e in
        subst Class (ap (λ v. v ∷ y ∷ ys) (sym x_is)) (dashed y ys (subst IsUtf8 (ap (λ v. v ∷ y ∷ ys) x_is) utf8) f)
    go false c e f = plain (record { bar = rw e refl; long = rw e refl; short = rw e refl }) (rw e refl) (λ h. absurd (true≢false (sym h ∙ e)))
