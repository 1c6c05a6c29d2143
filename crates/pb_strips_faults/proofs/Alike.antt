-- What one more name, or one more column, adds to a table.
use Rattle.std.proofs.Common.{◌≡◌, ◌≢◌, ℕ, suc, ◌+◌, ◌-◌, ◌<◌, ◌≤◌, ◌⊎◌, inl, inr, Bool, true, false, cond, not, nat_eq, nat_lt, ◌||◌, is_some, Option, Some, None, MatchOption, List, [], ◌∷◌, ◌++◌, length, refl, sym, ap, ◌∙◌, arith, length-append}
use Rattle.std.specs.List.{position_or_len}
use Rattle.std.specs.Cmp.Lexicographic.{pointwise}
use Rattle.std.proofs.lemmas.Bool.{lt-ltb, ltb-true, ltb_from_iff}
use Rattle.std.proofs.lemmas.Bool.Decides.{same_from_decides, Decides-like}
use Rattle.std.proofs.lemmas.Slice.Eq.{bytes_eq-Decides}
use Rattle.pb_text.specs.Tables.{IsInterned, position_of}
use Rattle.pb_strips_syntax.specs.declared.tree.StripRole.{StripRole}
use Rattle.pb_strips_syntax.specs.Columns.{Name, column_name, up_from, numbers}
use Rattle.pb_strips_faults.specs.Faults.{same, is_one_of, is_column, is_column_of_some}
use Rattle.pb_strips_faults.specs.Tabled.{is_among, AnswerAlike, Adds}

-- ---- whether a name stands in a table

same_sym : (a b : Name) → same a b ≡ same b a
same_sym a b = same_from_decides _ _ (Decides-like (same a b) sym sym (bytes_eq-Decides a b)) (bytes_eq-Decides b a)

is_there : (x : Name) (ys : List Name) → nat_lt (position_or_len (pointwise nat_eq x) ys) (length ys) ≡ is_among ys x
is_there x [] = refl
is_there x (y ∷ ys) = at (same x y) (is_there x ys) ∙ ap (λ (b : Bool). b || is_among ys x) (same_sym x y)
  where
    at : (b : Bool) → nat_lt (position_or_len (pointwise nat_eq x) ys) (length ys) ≡ is_among ys x
        → nat_lt (cond (not b) (1 + position_or_len (pointwise nat_eq x) ys) 0) (suc (length ys)) ≡ (b || is_among ys x)
    at true h = lt-ltb 0 (suc (length ys)) (omega arith)
    at false h =
        ltb_from_iff (λ t. omega (arith, ltb-true (1 + position_or_len (pointwise nat_eq x) ys) (suc (length ys)) t), λ l. lt-ltb (1 + position_or_len (pointwise nat_eq x) ys) (suc (length ys)) (omega arith)) ∙ h

some_if : (b : Bool) (p : ℕ) → is_some (cond b (Some p) None) ≡ b
some_if true p = refl
some_if false p = refl

pub found_if : (x : Name) (ys : List Name) → is_some (position_of x ys) ≡ is_among ys x
found_if x ys = some_if (nat_lt (position_or_len (pointwise nat_eq x) ys) (length ys)) (position_or_len (pointwise nat_eq x) ys) ∙ is_there x ys

-- ---- one more name

among_last : (old : List Name) (y x : Name) → is_among (old ++ y ∷ []) x ≡ (is_among old x || same y x)
among_last [] y x = by_false (same y x)
  where
    by_false : (b : Bool) → (b || false) ≡ b
    by_false true = refl
    by_false false = refl
among_last (z ∷ old) y x = ap (λ (b : Bool). same z x || b) (among_last old y x) ∙ regroup (same z x) (is_among old x) (same y x)
  where
    regroup : (a b c : Bool) → (a || (b || c)) ≡ ((a || b) || c)
    regroup true b c = refl
    regroup false b c = refl

-- a name that is the same as one that is there is there, too
among_same : (old : List Name) (y x : Name) → is_among old y ≡ true → is_among old x ≡ (is_among old x || same y x)
among_same old y x h = at (same y x) refl
  where
    plain_or : (a : Bool) → a ≡ (a || false)
    plain_or true = refl
    plain_or false = refl

    true_or : (a : Bool) → a ≡ true → a ≡ (a || true)
    true_or true e = refl
    true_or false e = e

    at : (b : Bool) → same y x ≡ b → is_among old x ≡ (is_among old x || b)
    at false e = plain_or (is_among old x)
    at true e = true_or (is_among old x) (sym (ap (is_among old) ((bytes_eq-Decides y x).0 e)) ∙ h)

interned_by : (o : Option ℕ) (old new : List Name) (y x : Name) (id : ℕ) → is_some o ≡ is_among old y
    → MatchOption o ((id ≡ length old) × (new ≡ old ++ y ∷ [])) (λ place. (id ≡ place) × (new ≡ old)) → is_among new x ≡ (is_among old x || same y x)
interned_by None old new y x id f h = ap (λ (names : List Name). is_among names x) h.1 ∙ among_last old y x
interned_by (Some k) old new y x id f h = ap (λ (names : List Name). is_among names x) h.1 ∙ among_same old y x (sym f)

pub interned_adds : (old new : List Name) (y : Name) (id : ℕ) → IsInterned old y id new → Adds old (same y) new
interned_adds old new y id h = record { alike = λ x some most. interned_by (position_of y old) old new y x id (found_if y old) h }

counted_by : (o : Option ℕ) (old new : List Name) (y : Name) (id : ℕ) → id ≡ length old → id < length new
    → MatchOption o ((id ≡ length old) × (new ≡ old ++ y ∷ [])) (λ place. (id ≡ place) × (new ≡ old)) → length old + 1 ≡ length new
counted_by None old new y id e l h = sym (ap length h.1 ∙ length-append old (y ∷ []))
counted_by (Some k) old new y id e l h = let s : length new ≡ length old = ap length h.1 in absurd (omega (arith, s, e, l))

pub counted_more : (old new : List Name) (y : Name) (id count : ℕ) → count ≡ length old → id ≡ count → id < length new → IsInterned old y id new → count + 1 ≡ length new
counted_more old new y id count k e l h = ap (λ n. n + 1) k ∙ counted_by (position_of y old) old new y id (e ∙ k) l h

kept_by : (o : Option ℕ) (old new : List Name) (y : Name) (id : ℕ) → (id ≡ length old → ⊥)
    → MatchOption o ((id ≡ length old) × (new ≡ old ++ y ∷ [])) (λ place. (id ≡ place) × (new ≡ old)) → length old ≡ length new
kept_by None old new y id n h = absurd (n h.0)
kept_by (Some k) old new y id n h = sym (ap length h.1)

pub counted_still : (old new : List Name) (y : Name) (id count : ℕ) → count ≡ length old → (id ≡ count → ⊥) → IsInterned old y id new → count ≡ length new
counted_still old new y id count k n h = k ∙ kept_by (position_of y old) old new y id (λ e. n (e ∙ sym k)) h

-- ---- a column whose name is none

or_false : (a b : Bool) → b ≡ false → a ≡ (a || b)
or_false true b e = refl
or_false false b e = sym e

differ_by : (b : Bool) (y x : Name) → same y x ≡ b → length x ≢ length y → same y x ≡ false
differ_by false y x e n = e
differ_by true y x e n = absurd (n (sym (ap length ((bytes_eq-Decides y x).0 e))))

pub no_name_adds : (old : List Name) (y : Name) → (length y ≡ 0) ⊎ (64 < length y) → Adds old (same y) old
no_name_adds old y (inl none) = record { alike = λ x some most. or_false (is_among old x) (same y x) (differ_by (same y x) y x refl (λ e. omega (arith, some, none, e))) }
no_name_adds old y (inr much) = record { alike = λ x some most. or_false (is_among old x) (same y x) (differ_by (same y x) y x refl (λ e. omega (arith, most, much, e))) }

-- ---- the columns of a strip

pub no_strip_adds : (old : List Name) (strip : Name) → Adds old (λ x. false) old
no_strip_adds old strip = record { alike = λ x some most. or_false (is_among old x) false refl }

or_with : (a b c d : Bool) → a ≡ (b || c) → (a || d) ≡ (b || (c || d))
or_with a true c d e = ap (λ (t : Bool). t || d) e
or_with a false c d e = ap (λ (t : Bool). t || d) e

or_from : (a b : Bool) → (a || false) ≡ b → a ≡ b
or_from true b e = e
or_from false b e = e

one_column : (c end : ℕ) → c < end → up_from c (end - c) ≡ c ∷ up_from (c + 1) (end - (c + 1))
one_column c end h =
    let some : end - c ≡ suc (end - (c + 1)) = omega (arith, h) in
    let next : suc c ≡ c + 1 = omega arith in
    ap (up_from c) some ∙ ap (λ (k : ℕ). c ∷ up_from k (end - (c + 1))) next

no_column : (c end : ℕ) → end ≤ c → up_from c (end - c) ≡ []
no_column c end h = let none : end - c ≡ 0 = omega (arith, h) in ap (up_from c) none

-- what the table answers with the columns from this one to the end
abbrev pub with_columns : List Name → Name → ℕ → ℕ → Name → Bool
with_columns names strip c end x = is_among names x || is_one_of strip (up_from c (end - c)) x

pub columns_first : (old : List Name) (strip : Name) (low high end : ℕ) → end ≡ high + 1
    → AnswerAlike (with_columns old strip low end) (λ x. is_among old x || is_one_of strip (numbers low high) x)
columns_first old strip low high end e =
    let same : end ≡ suc high = omega (arith, e) in
    record { alike = λ x some most. ap (λ (k : ℕ). is_among old x || is_one_of strip (up_from low (k - low)) x) same }

pub columns_next : (names new : List Name) (strip : Name) (c end : ℕ) (all : Name → Bool) → c < end → Adds names (same (column_name strip c)) new
    → AnswerAlike (with_columns names strip c end) all → AnswerAlike (with_columns new strip (c + 1) end) all
columns_next names new strip c end all h added so_far = record {
  alike = λ x some most.
      or_with (is_among new x) (is_among names x) (same (column_name strip c) x) (is_one_of strip (up_from (c + 1) (end - (c + 1))) x) (added.alike x some most)
      ∙ ap (λ (l : List ℕ). is_among names x || is_one_of strip l x) (sym (one_column c end h)) ∙ so_far.alike x some most;
}

pub columns_last : (old names : List Name) (strip : Name) (c end : ℕ) (test : Name → Bool) → end ≤ c
    → AnswerAlike (with_columns names strip c end) (λ x. is_among old x || test x) → Adds old test names
columns_last old names strip c end test h so_far = record {
  alike = λ x some most.
      or_from (is_among names x) (is_among old x || test x)
      (ap (λ (l : List ℕ). is_among names x || is_one_of strip l x) (sym (no_column c end h)) ∙ so_far.alike x some most);
}

-- ---- the roles of a file

pub roles_next : (names new : List Name) (r : StripRole) (rs : List StripRole) (all : Name → Bool) → Adds names (is_column r.role r.columns) new
    → AnswerAlike (λ x. is_among names x || is_column_of_some (r ∷ rs) x) all → AnswerAlike (λ x. is_among new x || is_column_of_some rs x) all
roles_next names new r rs all added so_far = record {
  alike = λ x some most.
      or_with (is_among new x) (is_among names x) (is_column r.role r.columns x) (is_column_of_some rs x) (added.alike x some most) ∙ so_far.alike x some most;
}

pub roles_last : (names : List Name) (all : Name → Bool) → AnswerAlike (λ x. is_among names x || is_column_of_some [] x) all → AnswerAlike (is_among names) all
roles_last names all so_far = record { alike = λ x some most. or_from (is_among names x) (all x) (so_far.alike x some most) }
