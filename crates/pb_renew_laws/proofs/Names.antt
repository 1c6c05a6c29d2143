-- The names of the files beside OUT differ.
use Rattle.std.proofs.Common.{◌≡◌, ◌≢◌, ℕ, ◌+◌, ◌<◌, Bool, true, false, ◌||◌, List, [], ◌++◌, drop, length, get_or, codes, nat_eq, refl, sym, ap, ◌∙◌, append_assoc, length-append, arith}
use Rattle.std.specs.Cmp.Lexicographic.{pointwise}
use Rattle.std.specs.List.{starts_with}
use Rattle.std.proofs.lemmas.Bool.Decides.{Decides-eqb}
use Rattle.std.proofs.lemmas.List.{append_cancel_left, append-nil}
use Rattle.std.proofs.lemmas.Slice.Eq.{bytes_eq-Decides, starts_is}
use Rattle.pb_renew_put.specs.Names.{is_old_name, left_name, new_name, old_name, spare_name}
use Rattle.pb_renew_put.specs.Phases.{same_name}

pub same_is : (a b : List ℕ) → same_name a b ≡ true → a ≡ b
same_is a b e = (bytes_eq-Decides a b).0 e

longer : (out a b : List ℕ) → length a < length b → out ++ a ≢ out ++ b
longer out a b lt e =
    let same : length out + length a ≡ length out + length b = sym (length-append out a) ∙ ap length e ∙ length-append out b in
    absurd (omega arith)

past : (out a : List ℕ) → 0 < length a → out ≢ out ++ a
past out a lt e =
    let same : length out ≡ length out + length a = ap length e ∙ length-append out a in
    absurd (omega arith)

pub left_new : (out : List ℕ) → left_name out ≢ new_name out
left_new out e = longer out (codes ".new") (codes ".left") (omega arith) (sym e)

pub left_spare : (out : List ℕ) → left_name out ≢ spare_name out
left_spare out = longer out (codes ".left") (codes ".left.new") (omega arith)

pub new_spare : (out : List ℕ) → new_name out ≢ spare_name out
new_spare out = longer out (codes ".new") (codes ".left.new") (omega arith)

pub out_left : (out : List ℕ) → out ≢ left_name out
out_left out = past out (codes ".left") (omega arith)

pub out_new : (out : List ℕ) → out ≢ new_name out
out_new out = past out (codes ".new") (omega arith)

pub out_spare : (out : List ℕ) → out ≢ spare_name out
out_spare out = past out (codes ".left.new") (omega arith)

-- an old name begins as OUT.old
old_front : (out name : List ℕ) → is_old_name out name ≡ true → (rest : List ℕ) × (name ≡ old_name out ++ rest)
old_front out name is = by_test (pointwise nat_eq name (old_name out)) refl is where
  by_test : (whole : Bool) → pointwise nat_eq name (old_name out) ≡ whole → (whole || starts_with nat_eq name (old_name out ++ codes ".")) ≡ true → (rest : List ℕ) × (name ≡ old_name out ++ rest)
  by_test true e either = ([], same_is _ _ e ∙ sym (append-nil (old_name out)))
  by_test false e either =
      let is_front : name ≡ (old_name out ++ codes ".") ++ drop (length (old_name out ++ codes ".")) name = (starts_is Decides-eqb name (old_name out ++ codes ".") _ refl).0 either in
      (codes "." ++ drop (length (old_name out ++ codes ".")) name, is_front ∙ append_assoc (old_name out) (codes ".") _)

other_end : (out end rest name : List ℕ) → name ≡ old_name out ++ rest → name ≡ out ++ end → codes ".old" ++ rest ≡ end
other_end out end rest name is e = append_cancel_left out _ _ (sym (append_assoc out (codes ".old") rest) ∙ sym is ∙ e)

pub record IsApart (out name : List ℕ) : Type 0 where
  pub from_out : out ≢ name
  pub from_left : left_name out ≢ name
  pub from_new : new_name out ≢ name
  pub from_spare : spare_name out ≢ name

pub old_apart : (out name : List ℕ) → is_old_name out name ≡ true → IsApart out name
old_apart out name is =
    let front = old_front out name is in
    record {
      from_out = λ e. let same : 111 ≡ 0 = ap (λ (l : List ℕ). get_or l 1 0) (other_end out [] front.0 name front.1 (sym e ∙ sym (append-nil out))) in absurd (omega arith);
      from_left = λ e. let same : 111 ≡ 108 = ap (λ (l : List ℕ). get_or l 1 0) (other_end out (codes ".left") front.0 name front.1 (sym e)) in absurd (omega arith);
      from_new = λ e. let same : 111 ≡ 110 = ap (λ (l : List ℕ). get_or l 1 0) (other_end out (codes ".new") front.0 name front.1 (sym e)) in absurd (omega arith);
      from_spare = λ e. let same : 111 ≡ 108 = ap (λ (l : List ℕ). get_or l 1 0) (other_end out (codes ".left.new") front.0 name front.1 (sym e)) in absurd (omega arith);
    }
