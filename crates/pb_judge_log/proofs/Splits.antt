-- Fields and lines, by how long they are.
use Rattle.std.proofs.Common.{◌≡◌, ℕ, zero, suc, ◌+◌, ◌-◌, ◌<◌, ◌≤◌, Bool, true, false, cond, List, [], ◌∷◌, ◌++◌, length, take, drop, Option, Some, None, refl, sym, ap, subst, ◌∙◌, arith}
use Rattle.std.specs.Prelude.{nat_eq, not, ◌&&◌}
use Rattle.std.specs.List.{AllByRecursion, prefix_len, list_all}
use Rattle.std.proofs.lemmas.List.Folds.{list_all-append}
use Rattle.std.proofs.lemmas.List.{length-drop}
use Rattle.std.proofs.lemmas.Bool.{eqb-true}
use Rattle.pb_judge_log.specs.Reading.{is_inside, is_within_line, fields, fields_behind, onto, line_at, onto_line}

-- ---- the first field

split_here : (text : List ℕ) → fields text ≡ take (prefix_len is_inside text) text ∷ fields_behind (drop (prefix_len is_inside text) text)
split_here [] = refl
split_here (c ∷ cs) = by_test (nat_eq c 32) (split_here cs) where
  by_test : (b : Bool) → fields cs ≡ take (prefix_len is_inside cs) cs ∷ fields_behind (drop (prefix_len is_inside cs) cs)
      → cond b ([] ∷ fields cs) (onto c (fields cs)) ≡ take (cond (not b) (1 + prefix_len is_inside cs) 0) (c ∷ cs) ∷ fields_behind (drop (cond (not b) (1 + prefix_len is_inside cs) 0) (c ∷ cs))
  by_test true more = refl
  by_test false more =
      let e : suc (prefix_len is_inside cs) ≡ 1 + prefix_len is_inside cs = omega arith in
      ap (onto c) more ∙ ap (λ n. take n (c ∷ cs) ∷ fields_behind (drop n (c ∷ cs))) e

pub split_is : (text : List ℕ) (k : ℕ) → k ≡ prefix_len is_inside text → fields text ≡ take k text ∷ fields_behind (drop k text)
split_is text k e = subst (λ n. fields text ≡ take n text ∷ fields_behind (drop n text)) (sym e) (split_here text)

-- ---- the first line

record LineAt (text : List ℕ) (k : ℕ) : Type 0 where
  there : k < length text → line_at text ≡ Some (take k text, drop (suc k) text)
  none : length text ≤ k → line_at text ≡ None

line_more : (c : ℕ) (cs : List ℕ) (k : ℕ) → LineAt cs k → nat_eq c 10 ≡ false → LineAt (c ∷ cs) (suc k)
line_more c cs k h e = record {
  there = λ lt. rw e (ap (onto_line c) (h.there (omega (arith, lt))));
  none = λ le. rw e (ap (onto_line c) (h.none (omega (arith, le))));
}

line_here : (text : List ℕ) → LineAt text (prefix_len is_within_line text)
line_here [] = record { there = λ lt. absurd (omega (arith, lt)); none = λ le. refl }
line_here (c ∷ cs) = by_test (nat_eq c 10) refl (line_here cs) where
  by_test : (b : Bool) → nat_eq c 10 ≡ b → LineAt cs (prefix_len is_within_line cs) → LineAt (c ∷ cs) (cond (not b) (1 + prefix_len is_within_line cs) 0)
  by_test true e h = record { there = λ lt. rw e refl; none = λ le. absurd (omega (arith, le)) }
  by_test false e h =
      let k : suc (prefix_len is_within_line cs) ≡ 1 + prefix_len is_within_line cs = omega arith in
      subst (LineAt (c ∷ cs)) k (line_more c cs (prefix_len is_within_line cs) h e)

pub line_is : (text : List ℕ) (k : ℕ) → k ≡ prefix_len is_within_line text → k < length text → line_at text ≡ Some (take k text, drop (k + 1) text)
line_is text k e lt =
    let h : line_at text ≡ Some (take k text, drop (suc k) text) = (subst (LineAt text) (sym e) (line_here text)).there lt in
    let s : suc k ≡ k + 1 = omega arith in
    h ∙ ap (λ n. Some (take k text, drop n text)) s

pub no_line : (text : List ℕ) (k : ℕ) → k ≡ prefix_len is_within_line text → k ≡ length text → line_at text ≡ None
no_line text k e full = (subst (LineAt text) (sym e) (line_here text)).none (omega (arith, full))

-- ---- what is spelled field by field

-- nothing, or a space first
abbrev pub is_behind : List ℕ → Bool
is_behind [] = true
is_behind (c ∷ cs) = nat_eq c 32

behind_space : (rest : List ℕ) → is_behind rest ≡ true → fields rest ≡ [] ∷ fields_behind rest
behind_space [] e = refl
behind_space (c ∷ cs) e = rw e refl

-- a field without a space
pub field_first : (field rest : List ℕ) → list_all is_inside field ≡ true → is_behind rest ≡ true → fields (field ++ rest) ≡ field ∷ fields_behind rest
field_first [] rest all e = behind_space rest e
field_first (c ∷ cs) rest all e = by_test (nat_eq c 32) refl all (field_first cs rest) where
  by_test : (b : Bool) → nat_eq c 32 ≡ b → (not b && list_all is_inside cs) ≡ true → (list_all is_inside cs ≡ true → is_behind rest ≡ true → fields (cs ++ rest) ≡ cs ∷ fields_behind rest)
      → cond (nat_eq c 32) ([] ∷ fields (cs ++ rest)) (onto c (fields (cs ++ rest))) ≡ (c ∷ cs) ∷ fields_behind rest
  by_test true z h more = absurd cc
  by_test false z h more = rw z (ap (onto c) (more h e))

-- the fields make the line
abbrev pub tail_of : List (List ℕ) → List ℕ
tail_of [] = []
tail_of (field ∷ others) = 32 ∷ (field ++ tail_of others)

abbrev pub line_of : List (List ℕ) → List ℕ
line_of [] = []
line_of (field ∷ others) = field ++ tail_of others

onto_line_of : (c : ℕ) (fs : List (List ℕ)) → line_of (onto c fs) ≡ c ∷ line_of fs
onto_line_of c [] = refl
onto_line_of c (f ∷ fs) = refl

record Joins (text : List ℕ) (fs : List (List ℕ)) : Type 0 where
  line : text ≡ line_of fs
  tail : 32 ∷ text ≡ tail_of fs

fields_join : (text : List ℕ) → Joins text (fields text)
fields_join [] = record { line = refl; tail = refl }
fields_join (c ∷ cs) = by_test (nat_eq c 32) refl (fields_join cs) where
  tail_line : (fs : List (List ℕ)) (c : ℕ) (cs : List ℕ) → cs ≡ line_of fs → Joins (c ∷ cs) (onto c fs)
  tail_line [] c cs e = record { line = ap (λ xs. c ∷ xs) e; tail = ap (λ xs. 32 ∷ (c ∷ xs)) e }
  tail_line (f ∷ fs) c cs e = record { line = ap (λ xs. c ∷ xs) e; tail = ap (λ xs. 32 ∷ (c ∷ xs)) e }

  by_test : (b : Bool) → nat_eq c 32 ≡ b → Joins cs (fields cs) → Joins (c ∷ cs) (cond b ([] ∷ fields cs) (onto c (fields cs)))
  by_test true e h = let k : c ≡ 32 = eqb-true c 32 e in record { line = ap (λ x. x ∷ cs) k ∙ h.tail; tail = ap (λ x. 32 ∷ (x ∷ cs)) k ∙ ap (λ xs. 32 ∷ xs) h.tail }
  by_test false e h = tail_line (fields cs) c cs h.line

pub joined : (text : List ℕ) → text ≡ line_of (fields text)
joined text = (fields_join text).line

-- ---- lines

pub line_again : (text rest : List ℕ) → list_all is_within_line text ≡ true → line_at (text ++ 10 ∷ rest) ≡ Some (text, rest)
line_again [] rest all = refl
line_again (c ∷ cs) rest all = by_test (nat_eq c 10) refl all (line_again cs rest) where
  by_test : (b : Bool) → nat_eq c 10 ≡ b → (not b && list_all is_within_line cs) ≡ true → (list_all is_within_line cs ≡ true → line_at (cs ++ 10 ∷ rest) ≡ Some (cs, rest))
      → cond (nat_eq c 10) (Some ([], cs ++ 10 ∷ rest)) (onto_line c (line_at (cs ++ 10 ∷ rest))) ≡ Some (c ∷ cs, rest)
  by_test true z h more = absurd cc
  by_test false z h more = rw z (ap (onto_line c) (more h))

pub record IsLine (text line rest : List ℕ) : Type 0 where
  pub is : text ≡ line ++ 10 ∷ rest
  pub within : list_all is_within_line line ≡ true

pub line_sound : (text : List ℕ) (x : List ℕ × List ℕ) → line_at text ≡ Some x → IsLine text x.0 x.1
line_sound [] x h = absurd cc
line_sound (c ∷ cs) x h = by_test (nat_eq c 10) refl h (line_sound cs) where
  some_same : {A : Type 0} {a b : A} → ◌≡◌ {A = Option A} (Some a) (Some b) → a ≡ b
  some_same {A} {a} {b} e = cc

  longer : (o : Option (List ℕ × List ℕ)) → line_at cs ≡ o → nat_eq c 10 ≡ false → onto_line c o ≡ Some x → ((y : List ℕ × List ℕ) → line_at cs ≡ Some y → IsLine cs y.0 y.1) → IsLine (c ∷ cs) x.0 x.1
  longer None e z g more = absurd cc
  longer (Some y) e z g more =
      let p : ◌≡◌ {A = List ℕ × List ℕ} (c ∷ y.0, y.1) x = some_same g in
      let m = more y e in
      subst (λ (q : List ℕ × List ℕ). IsLine (c ∷ cs) q.0 q.1) p (record { is = ap (λ xs. c ∷ xs) m.is; within = rw (z, m.within) refl })

  by_test : (b : Bool) → nat_eq c 10 ≡ b → cond b (Some ([], cs)) (onto_line c (line_at cs)) ≡ Some x → ((y : List ℕ × List ℕ) → line_at cs ≡ Some y → IsLine cs y.0 y.1) → IsLine (c ∷ cs) x.0 x.1
  by_test true e g more =
      let p : ◌≡◌ {A = List ℕ × List ℕ} ([], cs) x = some_same g in
      subst (λ (q : List ℕ × List ℕ). IsLine (c ∷ cs) q.0 q.1) p (record { is = ap (λ z. z ∷ cs) (eqb-true c 10 e); within = refl })
  by_test false e g more = longer (line_at cs) refl e g more

-- ---- fields without spaces

tail_behind : (fs : List (List ℕ)) → is_behind (tail_of fs) ≡ true
tail_behind [] = refl
tail_behind (f ∷ fs) = refl

pub tail_again : (fs : List (List ℕ)) → AllByRecursion (λ f. list_all is_inside f ≡ true) fs → fields_behind (tail_of fs) ≡ fs
tail_again [] h = refl
tail_again (f ∷ fs) h = field_first f (tail_of fs) h.0 (tail_behind fs) ∙ ap (λ gs. f ∷ gs) (tail_again fs h.1)

pub line_fields : (f : List ℕ) (fs : List (List ℕ)) → AllByRecursion (λ f. list_all is_inside f ≡ true) (f ∷ fs) → fields (line_of (f ∷ fs)) ≡ f ∷ fs
line_fields f fs h = field_first f (tail_of fs) h.0 (tail_behind fs) ∙ ap (λ gs. f ∷ gs) (tail_again fs h.1)

both_all : (xs ys : List ℕ) → list_all is_within_line xs ≡ true → list_all is_within_line ys ≡ true → list_all is_within_line (xs ++ ys) ≡ true
both_all xs ys a b = list_all-append is_within_line xs ys ∙ rw (a, b) refl

tail_within : (fs : List (List ℕ)) → AllByRecursion (λ f. list_all is_within_line f ≡ true) fs → list_all is_within_line (tail_of fs) ≡ true
tail_within [] h = refl
tail_within (f ∷ fs) h = both_all f (tail_of fs) h.0 (tail_within fs h.1)

pub line_within : (fs : List (List ℕ)) → AllByRecursion (λ f. list_all is_within_line f ≡ true) fs → list_all is_within_line (line_of fs) ≡ true
line_within [] h = refl
line_within (f ∷ fs) h = both_all f (tail_of fs) h.0 (tail_within fs h.1)

-- ---- the slices of a text

take_full : (n : ℕ) (xs : List ℕ) → length xs ≤ n → take n xs ≡ xs
take_full zero [] le = refl
take_full zero (x ∷ xs) le = absurd (omega (arith, le))
take_full (suc n) [] le = refl
take_full (suc n) (x ∷ xs) le = ap (λ ys. x ∷ ys) (take_full n xs (omega (arith, le)))

slice_rest : (k : ℕ) (xs : List ℕ) → take (length xs - k) (drop k xs) ≡ drop k xs
slice_rest k xs = take_full (length xs - k) (drop k xs) (omega (arith, length-drop k xs))

pub split_slices : (text : List ℕ) (k : ℕ) → k ≡ prefix_len is_inside text → fields text ≡ take k text ∷ fields_behind (take (length text - k) (drop k text))
split_slices text k e = split_is text k e ∙ ap (λ xs. take k text ∷ fields_behind xs) (sym (slice_rest k text))

pub line_slices : (text : List ℕ) (k : ℕ) → k ≡ prefix_len is_within_line text → k < length text → line_at text ≡ Some (take k text, take (length text - (k + 1)) (drop (k + 1) text))
line_slices text k e lt = line_is text k e lt ∙ ap (λ xs. Some (take k text, xs)) (sym (slice_rest (k + 1) text))
