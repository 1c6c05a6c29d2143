-- The first line of a text.
use Rattle.std.proofs.Common.{◌≡◌, ℕ, zero, suc, ◌+◌, ◌-◌, ◌<◌, Bool, true, false, cond, List, [], ◌∷◌, ◌++◌, length, take, drop, length-append, refl, sym, ap, ◌∙◌, arith, nat_eq, not}
use Rattle.std.specs.Prelude.{if◌then◌else◌}
use Rattle.std.specs.List.{prefix_len}
use Rattle.pb_cread_frame.specs.Rows.{is_nothing, is_line, bare}
use Rattle.pb_cread.specs.Rows.{is_inner, HasNoLine, IsFirst}

-- where no byte ends a line, there is none
none_at : (text line more : List ℕ) → prefix_len is_inner text ≡ length text → text ≡ line ++ more → is_line line ≡ true → ⊥
none_at text [] more e w is = absurd cc
none_at [] (d ∷ ds) more e w is = absurd cc
none_at (c ∷ cs) (d ∷ ds) more e w is = by_test (nat_eq c 10) refl e (none_at cs ds more) where
  by_test : (b : Bool) → nat_eq c 10 ≡ b → cond (not b) (1 + prefix_len is_inner cs) 0 ≡ suc (length cs) → (prefix_len is_inner cs ≡ length cs → cs ≡ ds ++ more → is_line ds ≡ true → ⊥) → ⊥
  by_test true t f others = absurd (omega (arith, f))
  by_test false t f others =
      let same : c ≡ d = cc in
      let behind : cs ≡ ds ++ more = cc in
      let s : nat_eq d 10 ≡ false = ap (λ x. nat_eq x 10) (sym same) ∙ t in
      let j : is_line ds ≡ true = sym (ap (λ b. if b then is_nothing ds else is_line ds) s) ∙ is in
      others (omega (arith, f)) behind j

pub no_line : (text : List ℕ) (n : ℕ) → n ≡ prefix_len is_inner text → n ≡ length text → HasNoLine text
no_line text n e f = λ line more w is. none_at text line more (sym e ∙ f) w is

line_at : (text : List ℕ) → prefix_len is_inner text < length text → is_line (take (suc (prefix_len is_inner text)) text) ≡ true
line_at [] e = absurd (omega (arith, e))
line_at (c ∷ cs) e = by_test (nat_eq c 10) e (line_at cs) where
  by_test : (b : Bool) → cond (not b) (1 + prefix_len is_inner cs) 0 < suc (length cs) → (prefix_len is_inner cs < length cs → is_line (take (suc (prefix_len is_inner cs)) cs) ≡ true)
      → (if b then is_nothing (take (cond (not b) (1 + prefix_len is_inner cs) 0) cs) else is_line (take (cond (not b) (1 + prefix_len is_inner cs) 0) cs)) ≡ true
  by_test true f h = refl
  by_test false f h = ap (λ k. is_line (take k cs)) (let e : 1 + prefix_len is_inner cs ≡ suc (prefix_len is_inner cs) = omega arith in e) ∙ h (omega (arith, f))

front_behind : (n : ℕ) (text : List ℕ) → text ≡ take n text ++ drop n text
front_behind zero text = refl
front_behind (suc n) [] = refl
front_behind (suc n) (c ∷ cs) = ap (λ x. c ∷ x) (front_behind n cs)

pub first_is : (text : List ℕ) (n : ℕ) → n ≡ prefix_len is_inner text → n < length text → IsFirst text (take (n + 1) text) (drop (n + 1) text)
first_is text n e less = record {
  is = ap (λ k. is_line (take k text)) (let f : n + 1 ≡ suc (prefix_len is_inner text) = omega (arith, e) in f) ∙ line_at text (omega (arith, e, less));
  whole = front_behind (n + 1) text;
}

-- a line without its last byte
pub bare_is : (line : List ℕ) → is_line line ≡ true → take (length line - 1) line ≡ bare line
bare_is [] e = absurd cc
bare_is (c ∷ cs) e = at (nat_eq c 10) e (bare_is cs) where
  nothing_more : (xs : List ℕ) → is_nothing xs ≡ true → xs ≡ []
  nothing_more [] e = refl
  nothing_more (x ∷ xs) e = absurd cc

  longer : (xs : List ℕ) → is_line xs ≡ true → length xs ≡ suc (length xs - 1)
  longer [] e = absurd cc
  longer (x ∷ xs) e = omega arith

  at : (b : Bool) → (if b then is_nothing cs else is_line cs) ≡ true → (is_line cs ≡ true → take (length cs - 1) cs ≡ bare cs) → take (suc (length cs) - 1) (c ∷ cs) ≡ (if b then [] else c ∷ bare cs)
  at true e f = ap (λ xs. take (suc (length xs) - 1) (c ∷ xs)) (nothing_more cs e)
  at false e f = (let k : suc (length cs) - 1 ≡ suc (length cs - 1) = (let l = longer cs e in omega (arith, l)) in ap (λ n. take n (c ∷ cs)) k) ∙ ap (λ xs. c ∷ xs) (f e)

pub shorter : (text line more : List ℕ) → IsFirst text line more → length more < length text
shorter text line more f = at line f.is (ap length f.whole ∙ length-append line more) where
  at : (line : List ℕ) → is_line line ≡ true → length text ≡ length line + length more → length more < length text
  at [] is e = absurd cc
  at (c ∷ cs) is e = omega (arith, e)

pub not_empty : (line : List ℕ) → is_line line ≡ true → 0 < length line
not_empty [] e = absurd cc
not_empty (c ∷ cs) e = omega arith
