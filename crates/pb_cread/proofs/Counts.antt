-- How many braces are open, and how many statements have begun, behind lines that were read.
use Rattle.std.proofs.Common.{◌≡◌, ℕ, zero, suc, ◌+◌, ◌-◌, ◌≤◌, ◌<◌, Bool, List, [], ◌∷◌, length, take, Some, refl, sym, ap, subst, ◌∙◌, arith, ◌⊎◌, inl, inr}
use Rattle.std.proofs.lemmas.Option.{same_Some}
use Rattle.pb_local.specs.Tree.{Codes, Program}
use Rattle.pb_local.specs.WellMade.{outermost}
use Rattle.pb_ctree.specs.Lines.{Line}
use Rattle.pb_cread_statements.specs.Marks.{counted, opens, closes, marks_all, begun_in}
use Rattle.pb_cread_statements.specs.Fronts.{Begins, main_lines, opened_in, closed_in}
use Rattle.pb_cread_statements.specs.Reading.{State, Place, nothing_read, read, open_braces}
use Rattle.pb_cread_statements.proofs.Laws.{reads_fronts, counts_braces}
use Rattle.pb_cread.specs.Limits.{opened, closed, open_behind, begun_behind, IsWithin}
use Rattle.pb_cread.specs.Reached.{with_body}
use Rattle.pb_cread.proofs.Tables.{spelled_same, marks_same}

opened_same : (items : List Place) (ls : List Line) → Begins items ls → opened_in items ≡ opened (take (length items) ls)
opened_same [] ls b = refl
opened_same (i ∷ is) [] b = absurd b
opened_same (i ∷ is) (l ∷ ls) b = ap (λ x. counted (opens x) (opened_in is)) b.1 ∙ ap (counted (opens l.item)) (opened_same is ls b.3)

closed_same : (items : List Place) (ls : List Line) → Begins items ls → closed_in items ≡ closed (take (length items) ls)
closed_same [] ls b = refl
closed_same (i ∷ is) [] b = absurd b
closed_same (i ∷ is) (l ∷ ls) b = ap (λ x. counted (closes x) (closed_in is)) b.1 ∙ ap (counted (closes l.item)) (closed_same is ls b.3)

difference : (a b n : ℕ) → n + b ≡ 1 + a → (1 + a) - b ≡ n
difference a b n e = omega (arith, e)

pub record Counts (p : Program) (c : Codes) (k : ℕ) (s : State) : Type 0 where
  pub braces : open_behind (with_body p c) k ≡ open_braces s
  pub begun : begun_behind (with_body p c) k ≡ s.begun

pub counts : (p : Program) (c : Codes) (items : List Place) (s : State) → read p items nothing_read ≡ Some s → Begins items (main_lines p c) → Counts p c (length items) s
counts p c items s e b =
    let n = length items in
    let o = opened_same items (main_lines p c) b in
    let k = closed_same items (main_lines p c) b in
    let r = reads_fronts p c items b in
    let one : r.0 ≡ s = same_Some r.0 s (sym r.1 ∙ e) in
    let balance : open_braces s + closed (take n (main_lines p c)) ≡ 1 + opened (take n (main_lines p c)) = ap (λ x. open_braces s + x) (sym k) ∙ counts_braces p items s e ∙ ap (λ x. 1 + x) o in
    record {
      braces = ap (λ ls. (1 + opened (take n ls)) - closed (take n ls)) (spelled_same p c 1 outermost c) ∙ difference (opened (take n (main_lines p c))) (closed (take n (main_lines p c))) (open_braces s) balance;
      begun = ap (λ ms. begun_in (take n ms)) (marks_same p c c) ∙ sym r.2 ∙ ap (λ (x : State). x.begun) one;
    }

-- ---- limits

pub none_within : (p : Program) → IsWithin p 0
none_within p = record {
  deep = λ j le. let z : j ≡ 0 = omega (arith, le) in let one : 1 ≤ 256 = omega arith in let P : ℕ → Type 0 = λ k. open_behind p k ≤ 256 in subst P (sym z) one;
  many = λ j le. let z : j ≡ 0 = omega (arith, le) in let none : 0 ≤ 50000 = omega arith in let P : ℕ → Type 0 = λ k. begun_behind p k ≤ 50000 in subst P (sym z) none;
}

less_or : (j n : ℕ) → (j ≤ n) ⊎ (n < j)
less_or zero n = inl (omega arith)
less_or (suc j) zero = inr (omega arith)
less_or (suc j) (suc n) = on (less_or j n) where
  on : (j ≤ n) ⊎ (n < j) → (suc j ≤ suc n) ⊎ (suc n < suc j)
  on (inl e) = inl (omega (arith, e))
  on (inr e) = inr (omega (arith, e))

at_most : (j n : ℕ) → j ≤ n + 1 → (j ≤ n) ⊎ (j ≡ n + 1)
at_most j n le = on (less_or j n) where
  on : (j ≤ n) ⊎ (n < j) → (j ≤ n) ⊎ (j ≡ n + 1)
  on (inl e) = inl e
  on (inr e) = inr (omega (arith, e, le))

pub within_one : (p : Program) (n : ℕ) → IsWithin p n → open_behind p (n + 1) ≤ 256 → begun_behind p (n + 1) ≤ 50000 → IsWithin p (n + 1)
within_one p n w deep many = record {
  deep = λ j le. by_deep j (at_most j n le);
  many = λ j le. by_many j (at_most j n le);
} where
  by_deep : (j : ℕ) → (j ≤ n) ⊎ (j ≡ n + 1) → open_behind p j ≤ 256
  by_deep j (inl le) = w.deep j le
  by_deep j (inr e) = subst (λ (k : ℕ). open_behind p k ≤ 256) (sym e) deep

  by_many : (j : ℕ) → (j ≤ n) ⊎ (j ≡ n + 1) → begun_behind p j ≤ 50000
  by_many j (inl le) = w.many j le
  by_many j (inr e) = subst (λ (k : ℕ). begun_behind p k ≤ 50000) (sym e) many

take_beyond : {X : Type 0} (xs : List X) (j k : ℕ) → length xs ≤ j → length xs ≤ k → take j xs ≡ take k xs
take_beyond [] zero zero a b = refl
take_beyond [] zero (suc k) a b = refl
take_beyond [] (suc j) zero a b = refl
take_beyond [] (suc j) (suc k) a b = refl
take_beyond (x ∷ xs) zero k a b = absurd (omega (arith, a))
take_beyond (x ∷ xs) (suc j) zero a b = absurd (omega (arith, b))
take_beyond (x ∷ xs) (suc j) (suc k) a b = ap (λ ys. x ∷ ys) (take_beyond xs j k (omega (arith, a)) (omega (arith, b)))

-- behind all lines nothing changes
pub record WithinAll (p : Program) : Type 0 where
  pub deep : (j : ℕ) → open_behind p j ≤ 256
  pub many : (j : ℕ) → begun_behind p j ≤ 50000

pub within_all : (p : Program) (k : ℕ) → IsWithin p k → length (main_lines p p.body) ≤ k → length (marks_all p p.body) ≤ k → WithinAll p
within_all p k w a b = record {
  deep = λ j. by_deep j (less_or j k);
  many = λ j. by_many j (less_or j k);
} where
  by_deep : (j : ℕ) → (j ≤ k) ⊎ (k < j) → open_behind p j ≤ 256
  by_deep j (inl le) = w.deep j le
  by_deep j (inr le) = subst (λ (ls : List Line). (1 + opened ls) - closed ls ≤ 256) (take_beyond (main_lines p p.body) k j a (omega (arith, a, le))) (w.deep k (omega arith))

  by_many : (j : ℕ) → (j ≤ k) ⊎ (k < j) → begun_behind p j ≤ 50000
  by_many j (inl le) = w.many j le
  by_many j (inr le) = subst (λ (ms : List Bool). begun_in ms ≤ 50000) (take_beyond (marks_all p p.body) k j b (omega (arith, b, le))) (w.many k (omega arith))
