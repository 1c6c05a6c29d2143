-- Reading all the tokens is exact.
use Rattle.std.proofs.Common.{◌≡◌, List, [], ◌∷◌, ◌++◌, Result, Ok, Err, refl, sym, ap, subst, ◌∙◌, append_assoc}
use Rattle.std.proofs.lemmas.List.{append-nil}
use Rattle.pb_text.specs.declared.token.Token.{Token}
use Rattle.pb_syntax.specs.Reading.{next}
use Rattle.pb_syntax.proofs.Exact.{Exact}
use Rattle.pb_types.specs.Plain.{PlainTypes}
use Rattle.pb_types.specs.Grammar.{IsTypesFile, IsTypesFront, file}
use Rattle.pb_types.specs.Readers.{file_at, ended, whole_at}
use Rattle.pb_types.specs.Unexpected.{StopsBefore, Tells}
use Rattle.pb_types.proofs.LawfulGrammar.{file_ok}
use Rattle.pb_types.proofs.ExactGrammar.{file_reads}

-- each file is read
pub reads_file : (ts : List Token) (f : PlainTypes) → IsTypesFile ts f → file_at ts ≡ Ok (f, [])
reads_file ts f h =
    let all : file_at (ts ++ []) ≡ Ok (f, []) = file_reads.all ts [] f h refl in
    ap file_at (sym (append-nil ts)) ∙ all

pub only_file : (ts : List Token) (f : PlainTypes) → IsTypesFile ts f → whole_at ts ≡ Ok (f, [])
only_file ts f h = rw (reads_file ts f h) refl

value_of : PlainTypes → Result (PlainTypes × List Token) (List Token) → PlainTypes
value_of other (Ok p) = p.0
value_of other (Err ts) = other

pub one_tree : (ts : List Token) (f g : PlainTypes) → IsTypesFile ts f → IsTypesFile ts g → f ≡ g
unfolding value_of
one_tree ts f g p q = ap (value_of f) (sym (reads_file ts f p) ∙ reads_file ts g q)

-- reading doesn't go past a token, whatever follows
no_front : (front : List Token) (t : Token) → ((more : List Token) → whole_at (front ++ (t ∷ more)) ≡ Err (t ∷ more)) → IsTypesFront (front ++ (t ∷ [])) → ⊥
no_front front t blocked h =
    let g = file_ok.grows (front ++ (t ∷ [])) h in
    let cut : (front ++ (t ∷ [])) ++ g.rest ≡ front ++ (t ∷ g.rest) = append_assoc front (t ∷ []) g.rest in
    let all : whole_at (front ++ (t ∷ g.rest)) ≡ Ok (g.value, []) = only_file (front ++ (t ∷ g.rest)) g.value (subst (λ (l : List Token). file.text l g.value) cut g.whole) in
    let other : whole_at (front ++ (t ∷ g.rest)) ≡ Err (t ∷ g.rest) = blocked g.rest in
    cc

pub text_front : (ts : List Token) (f : PlainTypes) → IsTypesFile ts f → IsTypesFront ts
text_front ts f h = file_ok.shrinks ts [] f (subst (λ (l : List Token). file.text l f) (sym (append-nil ts)) h)

tells : (ts : List Token) (o : Result (PlainTypes × List Token) (List Token)) → file_at ts ≡ o → Exact file file_at ts o → Tells ts (next o ended)
tells ts (Err []) e stuck =
    let all : stuck.front ≡ ts = sym (append-nil stuck.front) ∙ sym stuck.split in
    record {
      front = subst (λ (l : List Token). file.front l) all stuck.begun;
      no_file = λ f h. let read : file_at ts ≡ Ok (f, []) = reads_file ts f h in cc;
    }
tells ts (Err (t ∷ rest)) e stuck = record {
  front = stuck.front;
  split = stuck.split;
  before = stuck.begun;
  there = no_front stuck.front t (λ more. rw (stuck.same (t ∷ more) refl) refl);
}
tells ts (Ok (f, [])) e took =
    let all : took.front ≡ ts = sym (append-nil took.front) ∙ sym took.split in
    subst (λ (l : List Token). file.text l f) all took.whole
tells ts (Ok (f, t ∷ rest)) e took = record {
  front = took.front;
  split = took.split;
  before = text_front took.front f took.whole;
  there = no_front took.front t (λ more. rw (took.same (t ∷ more) refl) refl);
}

pub whole_tells : (ts : List Token) → Tells ts (whole_at ts)
whole_tells ts = tells ts (file_at ts) refl (file_reads.exact ts)

-- the front of a front is a front
pub front_front : (xs ys : List Token) → IsTypesFront (xs ++ ys) → IsTypesFront xs
front_front xs ys h =
    let g = file_ok.grows (xs ++ ys) h in
    file_ok.shrinks xs (ys ++ g.rest) g.value (subst (λ (l : List Token). file.text l g.value) (append_assoc xs ys g.rest) g.whole)

pub stops_front : (ts : List Token) (f : PlainTypes) → IsTypesFile ts f → (t : Token) (rest : List Token) → (s : StopsBefore ts t rest) → IsTypesFront (s.front ++ (t ∷ []))
stops_front ts f h t rest s =
    let cut : ts ≡ (s.front ++ (t ∷ [])) ++ rest = s.split ∙ sym (append_assoc s.front (t ∷ []) rest) in
    front_front (s.front ++ (t ∷ [])) rest (subst IsTypesFront cut (text_front ts f h))
