-- Reading all the tokens is exact.
use Rattle.std.proofs.Common.{◌≡◌, ℕ, ◌+◌, ◌≤◌, List, [], ◌∷◌, ◌++◌, length, Result, Ok, Err, refl, sym, ap, subst, ◌∙◌, append_assoc, arith}
use Rattle.std.proofs.lemmas.List.{append-nil, append_cancel_right}
use Rattle.pb_text.specs.declared.token.Token.{Token}
use Rattle.pb_syntax.specs.Reading.{next}
use Rattle.pb_syntax.proofs.Exact.{Exact, Reads}
use Rattle.pb_strips_syntax.specs.Strips.{PlainStripFile}
use Rattle.pb_strips_grammar.specs.Grammar.{IsStripFile, IsStripFront, block, file}
use Rattle.pb_strips_grammar.specs.Readers.{block_at, file_at, ended, whole_at}
use Rattle.pb_strips_grammar.specs.Unexpected.{StopsBefore, Tells}
use Rattle.pb_strips_grammar.proofs.LawfulGrammar.{block_ok, file_ok}
use Rattle.pb_strips_grammar.proofs.ExactGrammar.{block_reads, file_reads}
use Rattle.pb_strips_grammar.proofs.Deeper.{block_deeper, file_wider}
use Rattle.pb_strips_grammar.proofs.FuelGrammar.{file_agree}

file_exact : (n : ℕ) → Reads (file (block n)) (file_at (block_at n)) []
file_exact n = file_reads (block_reads n)

same_reading : (n m : ℕ) (ts : List Token) → length ts ≤ n → length ts ≤ m → file_at (block_at n) ts ≡ file_at (block_at m) ts
same_reading n m ts p q = (file_agree (length ts) n m p q).same ts (omega arith)

-- each file is read, at each depth that is enough
pub reads_file : (m : ℕ) (ts : List Token) (f : PlainStripFile) → length ts ≤ m → IsStripFile ts f → file_at (block_at m) ts ≡ Ok (f, [])
reads_file m ts f le h =
    let deep : (file (block (m + h.0))).text ts f = (file_wider (block_deeper m h.0)).more ts f h.1 in
    let all : file_at (block_at (m + h.0)) (ts ++ []) ≡ Ok (f, []) = (file_exact (m + h.0)).all ts [] f deep refl in
    same_reading m (m + h.0) ts le (omega arith) ∙ ap (file_at (block_at (m + h.0))) (sym (append-nil ts)) ∙ all

pub only_file : (ts : List Token) (f : PlainStripFile) → IsStripFile ts f → whole_at ts ≡ Ok (f, [])
only_file ts f h = rw (reads_file (length ts) ts f (omega arith) h) refl

value_of : PlainStripFile → Result (PlainStripFile × List Token) (List Token) → PlainStripFile
value_of other (Ok p) = p.0
value_of other (Err ts) = other

pub one_tree : (ts : List Token) (f g : PlainStripFile) → IsStripFile ts f → IsStripFile ts g → f ≡ g
unfolding value_of
one_tree ts f g p q = ap (value_of f) (sym (reads_file (length ts) ts f (omega arith) p) ∙ reads_file (length ts) ts g (omega arith) q)

-- a reading that doesn't go past a token, whatever follows
record Blocked (ts front : List Token) (t : Token) (rest : List Token) : Type 0 where
  split : ts ≡ front ++ (t ∷ rest)
  at : (n : ℕ) → length ts ≤ n → (more : List Token) → next (file_at (block_at n) (front ++ (t ∷ more))) ended ≡ Err (t ∷ more)

no_front : (ts front : List Token) (t : Token) (rest : List Token) → Blocked ts front t rest → IsStripFront (front ++ (t ∷ [])) → ⊥
no_front ts front t rest blocked h =
    let g = (file_ok (block_ok h.0)).grows (front ++ (t ∷ [])) h.1 in
    let cut : (front ++ (t ∷ [])) ++ g.rest ≡ front ++ (t ∷ g.rest) = append_assoc front (t ∷ []) g.rest in
    let text : IsStripFile (front ++ (t ∷ g.rest)) g.value = (h.0, subst (λ (l : List Token). (file (block h.0)).text l g.value) cut g.whole) in
    let n : ℕ = length ts + length (front ++ (t ∷ g.rest)) in
    let read : file_at (block_at (length ts + length (front ++ (t ∷ g.rest)))) (front ++ (t ∷ g.rest)) ≡ Ok (g.value, []) = reads_file (length ts + length (front ++ (t ∷ g.rest))) (front ++ (t ∷ g.rest)) g.value (omega arith) text in
    let all : next (file_at (block_at (length ts + length (front ++ (t ∷ g.rest)))) (front ++ (t ∷ g.rest))) ended ≡ Ok (g.value, []) = rw read refl in
    let other : next (file_at (block_at (length ts + length (front ++ (t ∷ g.rest)))) (front ++ (t ∷ g.rest))) ended ≡ Err (t ∷ g.rest) = blocked.at (length ts + length (front ++ (t ∷ g.rest))) (omega arith) g.rest in
    cc

-- at each depth that is enough the reader stops there
stuck_fact : (ts : List Token) (t : Token) (rest : List Token) (n : ℕ) (o : Result (PlainStripFile × List Token) (List Token)) → Exact (file (block n)) (file_at (block_at n)) ts o → o ≡ Err (t ∷ rest)
    → (front : List Token) → ts ≡ front ++ (t ∷ rest) → (more : List Token) → next (file_at (block_at n) (front ++ (t ∷ more))) ended ≡ Err (t ∷ more)
stuck_fact ts t rest n (Ok p) took e front split more = cc
stuck_fact ts t rest n (Err left) stuck e front split more =
    let here : left ≡ t ∷ rest = cc in
    let same : stuck.front ++ (t ∷ rest) ≡ front ++ (t ∷ rest) = ap (λ (l : List Token). stuck.front ++ l) (sym here) ∙ sym stuck.split ∙ split in
    let fronts : stuck.front ≡ front = append_cancel_right stuck.front front (t ∷ rest) same in
    let stops : file_at (block_at n) (stuck.front ++ (t ∷ more)) ≡ Err (t ∷ more) = stuck.same (t ∷ more) (rw here refl) in
    let again : file_at (block_at n) (front ++ (t ∷ more)) ≡ Err (t ∷ more) = subst (λ (l : List Token). file_at (block_at n) (l ++ (t ∷ more)) ≡ Err (t ∷ more)) fronts stops in
    rw again refl

took_fact : (ts : List Token) (f : PlainStripFile) (t : Token) (rest : List Token) (n : ℕ) (o : Result (PlainStripFile × List Token) (List Token)) → Exact (file (block n)) (file_at (block_at n)) ts o → o ≡ Ok (f, t ∷ rest)
    → (front : List Token) → ts ≡ front ++ (t ∷ rest) → (more : List Token) → next (file_at (block_at n) (front ++ (t ∷ more))) ended ≡ Err (t ∷ more)
took_fact ts f t rest n (Err left) stuck e front split more = cc
took_fact ts f t rest n (Ok p) took e front split more =
    let here : p.1 ≡ t ∷ rest = cc in
    let same : took.front ++ (t ∷ rest) ≡ front ++ (t ∷ rest) = ap (λ (l : List Token). took.front ++ l) (sym here) ∙ sym took.split ∙ split in
    let fronts : took.front ≡ front = append_cancel_right took.front front (t ∷ rest) same in
    let stops : file_at (block_at n) (took.front ++ (t ∷ more)) ≡ Ok (p.0, t ∷ more) = took.same (t ∷ more) (rw here refl) in
    let again : file_at (block_at n) (front ++ (t ∷ more)) ≡ Ok (p.0, t ∷ more) = subst (λ (l : List Token). file_at (block_at n) (l ++ (t ∷ more)) ≡ Ok (p.0, t ∷ more)) fronts stops in
    rw again refl

pub text_front : (n : ℕ) (xs : List Token) (f : PlainStripFile) → (file (block n)).text xs f → IsStripFront xs
text_front n xs f h = (n, (file_ok (block_ok n)).shrinks xs [] f (subst (λ (l : List Token). (file (block n)).text l f) (sym (append-nil xs)) h))

tells : (ts : List Token) (o : Result (PlainStripFile × List Token) (List Token)) → file_at (block_at (length ts)) ts ≡ o → Exact (file (block (length ts))) (file_at (block_at (length ts))) ts o → Tells ts (next o ended)
tells ts (Err []) e stuck =
    let all : stuck.front ≡ ts = sym (append-nil stuck.front) ∙ sym stuck.split in
    record {
      front = (length ts, subst (λ (l : List Token). (file (block (length ts))).front l) all stuck.begun);
      no_file = λ f h. let read : file_at (block_at (length ts)) ts ≡ Ok (f, []) = reads_file (length ts) ts f (omega arith) h in cc;
    }
tells ts (Err (t ∷ rest)) e stuck = record {
  front = stuck.front;
  split = stuck.split;
  before = (length ts, stuck.begun);
  there = no_front ts stuck.front t rest (record {
    split = stuck.split;
    at = λ n le more.
        stuck_fact ts t rest n (file_at (block_at n) ts) ((file_exact n).exact ts) (same_reading n (length ts) ts le (omega arith) ∙ e) stuck.front stuck.split more;
  });
}
tells ts (Ok (f, [])) e took =
    let all : took.front ≡ ts = sym (append-nil took.front) ∙ sym took.split in
    (length ts, subst (λ (l : List Token). (file (block (length ts))).text l f) all took.whole)
tells ts (Ok (f, t ∷ rest)) e took = record {
  front = took.front;
  split = took.split;
  before = text_front (length ts) took.front f took.whole;
  there = no_front ts took.front t rest (record {
    split = took.split;
    at = λ n le more.
        took_fact ts f t rest n (file_at (block_at n) ts) ((file_exact n).exact ts) (same_reading n (length ts) ts le (omega arith) ∙ e) took.front took.split more;
  });
}

pub whole_tells : (ts : List Token) → Tells ts (whole_at ts)
whole_tells ts = tells ts (file_at (block_at (length ts)) ts) refl ((file_exact (length ts)).exact ts)

pub stops_front : (ts : List Token) (f : PlainStripFile) → IsStripFile ts f → (t : Token) (rest : List Token) → (s : StopsBefore ts t rest) → IsStripFront (s.front ++ (t ∷ []))
stops_front ts f h t rest s =
    let cut : ts ≡ (s.front ++ (t ∷ [])) ++ rest = s.split ∙ sym (append_assoc s.front (t ∷ []) rest) in
    (h.0, (file_ok (block_ok h.0)).shrinks (s.front ++ (t ∷ [])) rest f (subst (λ (l : List Token). (file (block h.0)).text l f) cut h.1))
