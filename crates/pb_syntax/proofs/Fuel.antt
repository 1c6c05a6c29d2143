-- Reading doesn't depend on how deep blocks may be nested, where that is at least the number of tokens.
use Rattle.std.proofs.Common.{◌≡◌, ℕ, zero, suc, ◌≤◌, List, [], ◌∷◌, length, Bool, true, false, Option, Some, None, Result, Ok, Err, refl, ap, ◌∙◌, arith}
use Rattle.std.specs.Prelude.{if◌then◌else◌}
use Rattle.std.proofs.lemmas.List.{length-append}
use Rattle.pb_text.specs.declared.token.Token.{Token}
use Rattle.pb_syntax.specs.Form.{Form}
use Rattle.pb_syntax.specs.Reading.{Reader, taken, one_at, next, starts, choose, repeat_at, many_at}
use Rattle.pb_syntax.specs.Reading.{◌>>=◌ as ◌at◌}
use Rattle.pb_syntax.proofs.Exact.{Exact, Reads}

pub record Agree {A : Type 0} (k : ℕ) (r s : Reader A) : Type 0 where
  pub same : (ts : List Token) → length ts ≤ k → r ts ≡ s ts

-- what is left is no longer
pub record Shrinks {A : Type 0} (r : Reader A) : Type 0 where
  pub left : (ts : List Token) (x : A) (rest : List Token) → r ts ≡ Ok (x, rest) → length rest ≤ length ts

pub alike : {A : Type 0} {k : ℕ} {r : Reader A} → Agree k r r
alike = record { same = λ ts le. refl }

shrinks_at : {A : Type 0} (f : Form A) (r : Reader A) (ts : List Token) (o : Result (A × List Token) (List Token)) → Exact f r ts o → (x : A) (rest : List Token) → o ≡ Ok (x, rest) → length rest ≤ length ts
shrinks_at f r ts (Ok p) took x rest e =
    let same : p.1 ≡ rest = cc in
    omega (arith, ap (length {A = Token}) took.split, length-append took.front p.1, ap (length {A = Token}) same)
shrinks_at f r ts (Err left) stuck x rest e = cc

pub shrinks : {A : Type 0} {f : Form A} {r : Reader A} {goes : List ℕ} → Reads f r goes → Shrinks r
shrinks {A} {f} {r} reads = record { left = λ ts x rest e. shrinks_at f r ts (r ts) (reads.exact ts) x rest e }

module _ {A B : Type 0} (k : ℕ) (rf sf : A → Reader B) where
  next_same : ((x : A) → Agree k (rf x) (sf x)) → (n : ℕ) → n ≤ k → (o : Result (A × List Token) (List Token)) → ((x : A) (rest : List Token) → o ≡ Ok (x, rest) → length rest ≤ n) → next o rf ≡ next o sf
  next_same agree n le (Ok p) size = (agree p.0).same p.1 (omega (arith, size p.0 p.1 refl, le))
  next_same agree n le (Err rest) size = refl

module _ {A B : Type 0} {k : ℕ} {ra sa : Reader A} {rf sf : A → Reader B} where
  pub agree_then : Shrinks sa → Agree k ra sa → ((x : A) → Agree k (rf x) (sf x)) → Agree k (ra at rf) (sa at sf)
  agree_then small first others = record { same = λ ts le. ap (λ (o : Result (A × List Token) (List Token)). next o rf) (first.same ts le) ∙ next_same k rf sf others (length ts) le (sa ts) (λ x rest e. small.left ts x rest e) }

module _ {A B : Type 0} {k : ℕ} (reads : Token → Option A) {rf sf : A → Reader B} where
  one_same : ((x : A) → Agree k (rf x) (sf x)) → (t : Token) (ts : List Token) → length ts ≤ k → (o : Option A) → next (taken o t ts) rf ≡ next (taken o t ts) sf
  one_same agree t ts le (Some x) = (agree x).same ts le
  one_same agree t ts le None = refl

  one_agree : ((x : A) → Agree k (rf x) (sf x)) → (ts : List Token) → length ts ≤ suc k → (one_at reads at rf) ts ≡ (one_at reads at sf) ts
  one_agree agree [] le = refl
  one_agree agree (t ∷ ts) le = one_same agree t ts (omega arith) (reads t)

  pub agree_one : ((x : A) → Agree k (rf x) (sf x)) → Agree (suc k) (one_at reads at rf) (one_at reads at sf)
  agree_one agree = record { same = one_agree agree }

if_same : {A : Type 0} (v : Bool) (x y z w : A) → x ≡ z → y ≡ w → (if v then x else y) ≡ (if v then z else w)
if_same true x y z w p q = p
if_same false x y z w p q = q

pub agree_choose : {A : Type 0} {k : ℕ} {test : Token → Bool} {ra sa rb sb : Reader A} → Agree k ra sa → Agree k rb sb → Agree k (choose test ra rb) (choose test sa sb)
agree_choose {A} {k} {test} {ra} {sa} {rb} {sb} p q = record { same = λ ts le. if_same (starts test ts) (ra ts) (rb ts) (sa ts) (sb ts) (p.same ts le) (q.same ts le) }

module _ {A : Type 0} (k : ℕ) (test : Token → Bool) (r s : Reader A) (small : Shrinks s) (one : Agree k r s) where
  repeat_same : (n : ℕ) (ts : List Token) → length ts ≤ k → repeat_at test r n ts ≡ repeat_at test s n ts
  repeat_same zero ts le = refl
  repeat_same (suc n) ts le =
      let rest : Reader A → A → Reader (List A) = λ q x mid. next (repeat_at test q n mid) (λ xs left. Ok (x ∷ xs, left)) in
      let later : (x : A) → Agree k (rest r x) (rest s x) = λ x. record { same = λ mid size. ap (λ (o : Result (List A × List Token) (List Token)). next o (λ xs left. Ok (x ∷ xs, left))) (repeat_same n mid size) } in
      if_same (starts test ts) (next (r ts) (rest r)) (Ok ([], ts)) (next (s ts) (rest s)) (Ok ([], ts))
      (ap (λ (o : Result (A × List Token) (List Token)). next o (rest r)) (one.same ts le) ∙ next_same k (rest r) (rest s) later (length ts) le (s ts) (λ x left e. small.left ts x left e)) refl

pub agree_many : {A : Type 0} {k : ℕ} {test : Token → Bool} {r s : Reader A} → Shrinks s → Agree k r s → Agree k (many_at test r) (many_at test s)
agree_many {A} {k} {test} {r} {s} small one = record { same = λ ts le. repeat_same k test r s small one (length ts) ts le }
