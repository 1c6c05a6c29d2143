-- Reading a form any number of times is exact.
use Rattle.std.proofs.Common.{◌≡◌, ℕ, zero, suc, ◌≤◌, List, [], ◌∷◌, ◌++◌, length, ◌⊎◌, inr, Bool, true, false, Result, Ok, Err, refl, sym, ap, ◌∙◌, append_assoc, arith}
use Rattle.std.proofs.lemmas.List.{length-append}
use Rattle.pb_text.specs.declared.token.Token.{Token}
use Rattle.pb_syntax.specs.Form.{Form, many, Behind, ManyText}
use Rattle.pb_syntax.specs.Reading.{Reader, next, head_of, holds, starts, repeat_at, many_at, among}
use Rattle.pb_syntax.proofs.Exact.{Took, Exact, Reads, Begins, head_behind}
use Rattle.pb_syntax.proofs.Lawful.{Lawful, later}

module _ {A : Type 0} (test : List ℕ) (a : Form A) (ra : Reader A) where
  abbrev Begun : List Token → Type 0
  Begun ts = (ts ≡ []) ⊎ Behind (ManyText a.text) (λ (xs : List A). a.front) ts

  record TookMany (ts : List Token) (list : List A) (rest : List Token) : Type 0 where
    front : List Token
    split : ts ≡ front ++ rest
    whole : ManyText a.text front list
    same : (more : List Token) (m : ℕ) → head_of more ≡ head_of rest → length (front ++ more) ≤ m → repeat_at (among test) ra m (front ++ more) ≡ Ok (list, more)

  record StuckMany (ts rest : List Token) : Type 0 where
    front : List Token
    split : ts ≡ front ++ rest
    begun : Begun front
    same : (more : List Token) (m : ℕ) → head_of more ≡ head_of rest → length (front ++ more) ≤ m → repeat_at (among test) ra m (front ++ more) ≡ Err more

  abbrev ExactMany : List Token → Result (List A × List Token) (List Token) → Type 0
  ExactMany ts (Ok p) = TookMany ts p.0 p.1
  ExactMany ts (Err rest) = StuckMany ts rest

  stops : (m : ℕ) (ts : List Token) → starts (among test) ts ≡ false → repeat_at (among test) ra m ts ≡ Ok ([], ts)
  stops zero ts e = refl
  stops (suc m) ts e = rw e refl

  -- one thing is read, and then the others
  turn : (m : ℕ) (ts mid : List Token) (x : A) → starts (among test) ts ≡ true → length ts ≤ suc m → ra ts ≡ Ok (x, mid) → repeat_at (among test) ra (suc m) ts ≡ next (repeat_at (among test) ra m mid) (λ xs rest. Ok (x ∷ xs, rest))
  turn m ts mid x e le h = rw (e, h) refl

  no_room : {P : Type 0} (ts : List Token) → starts (among test) ts ≡ true → length ts ≤ 0 → P
  no_room [] e le = cc
  no_room (t ∷ ts) e le = absurd (omega arith)

  near : (ts front rest more : List Token) → ts ≡ front ++ rest → head_of more ≡ head_of rest → head_of (front ++ more) ≡ head_of ts
  near ts front rest more split h = head_behind front more rest h ∙ ap head_of (sym split)

  stuck_same : (ts front left : List Token) → ts ≡ front ++ left → starts (among test) ts ≡ true → ((more : List Token) → head_of more ≡ head_of left → ra (front ++ more) ≡ Err more)
      → (more : List Token) (m : ℕ) → head_of more ≡ head_of left → length (front ++ more) ≤ m → repeat_at (among test) ra m (front ++ more) ≡ Err more
  stuck_same ts front left split e same more zero h le = no_room (front ++ more) (ap (holds (among test)) (near ts front left more split h) ∙ e) le
  stuck_same ts front left split e same more (suc m) h le =
      let e2 : starts (among test) (front ++ more) ≡ true = ap (holds (among test)) (near ts front left more split h) ∙ e in
      rw (e2, same more h) refl

  more_same : (ts front mid : List Token) (x : A) → starts (among test) ts ≡ true → (t : Token) (fs : List Token) → front ≡ t ∷ fs → ts ≡ front ++ mid → ((more : List Token) → head_of more ≡ head_of mid → ra (front ++ more) ≡ Ok (x, more))
      → (back rest : List Token) → mid ≡ back ++ rest → (o : List Token → Result (List A × List Token) (List Token)) → ((more : List Token) (m : ℕ) → head_of more ≡ head_of rest → length (back ++ more) ≤ m → repeat_at (among test) ra m (back ++ more) ≡ o more)
      → (more : List Token) (m : ℕ) → head_of more ≡ head_of rest → length ((front ++ back) ++ more) ≤ m → repeat_at (among test) ra m ((front ++ back) ++ more) ≡ next (o more) (λ xs left. Ok (x ∷ xs, left))
  more_same ts front mid x e t fs first split same back rest cut o others more zero h le =
      let e2 : starts (among test) ((front ++ back) ++ more) ≡ true = ap (λ (l : List Token). starts (among test) ((l ++ back) ++ more)) first ∙ ap (λ (l : List Token). starts (among test) (l ++ mid)) (sym first) ∙ ap (starts (among test)) (sym split) ∙ e in
      no_room ((front ++ back) ++ more) e2 le
  more_same ts front mid x e t fs first split same back rest cut o others more (suc m) h le =
      let e2 : starts (among test) (front ++ (back ++ more)) ≡ true = ap (λ (l : List Token). starts (among test) (l ++ (back ++ more))) first ∙ ap (λ (l : List Token). starts (among test) (l ++ mid)) (sym first) ∙ ap (starts (among test)) (sym split) ∙ e in
      let near2 : head_of (back ++ more) ≡ head_of mid = near mid back rest more cut h in
      let size : length (back ++ more) ≤ m = omega (arith, length-append (front ++ back) more, length-append front back, length-append back more, ap (length {A = Token}) first, le) in
      ap (repeat_at (among test) ra (suc m)) (append_assoc front back more) ∙ rw (e2, same (back ++ more) near2, others more m h size) refl

  module _ (begins : Begins test a) (empty : a.front []) (la : (ts : List Token) → Exact a ra ts (ra ts)) where
    join : (ts mid : List Token) (x : A) → starts (among test) ts ≡ true → Took a ra ts x mid → (o : Result (List A × List Token) (List Token)) → ExactMany mid o → ExactMany ts (next o (λ xs left. Ok (x ∷ xs, left)))
    join ts mid x e p (Ok q) took =
        let b = begins.begins p.front x p.whole in record {
          front = p.front ++ took.front;
          split = p.split ∙ ap (λ (l : List Token). p.front ++ l) took.split ∙ sym (append_assoc p.front took.front q.1);
          whole = (p.front, took.front, refl, p.whole, took.whole);
          same = more_same ts p.front mid x e b.0 b.1 b.2 p.split p.same took.front q.1 took.split (λ more. Ok (q.0, more)) took.same;
        }
    join ts mid x e p (Err left) stuck =
        let b = begins.begins p.front x p.whole in record {
          front = p.front ++ stuck.front;
          split = p.split ∙ ap (λ (l : List Token). p.front ++ l) stuck.split ∙ sym (append_assoc p.front stuck.front left);
          begun = later a (p.front ++ stuck.front) p.front stuck.front x empty refl p.whole stuck.begun;
          same = more_same ts p.front mid x e b.0 b.1 b.2 p.split p.same stuck.front left stuck.split (λ more. Err more) stuck.same;
        }

    none : (n : ℕ) (ts : List Token) → starts (among test) ts ≡ false → ExactMany ts (repeat_at (among test) ra n ts)
    none n ts e = rw (stops n ts e) (record { front = []; split = refl; whole = refl; same = λ more m h le. stops m more (ap (holds (among test)) h ∙ e) })

    by_first : (n : ℕ) (ts : List Token) → length ts ≤ suc n → ((mid : List Token) → length mid ≤ n → ExactMany mid (repeat_at (among test) ra n mid)) → starts (among test) ts ≡ true → (o : Result (A × List Token) (List Token)) → Exact a ra ts o
        → ExactMany ts (next o (λ x mid. next (repeat_at (among test) ra n mid) (λ xs rest. Ok (x ∷ xs, rest))))
    by_first n ts le others e (Ok p) took =
        let b = begins.begins took.front p.0 took.whole in
        let size : length p.1 ≤ n = omega (arith, ap (length {A = Token}) took.split, length-append took.front p.1, ap (length {A = Token}) b.2, le) in
        join ts p.1 p.0 e took (repeat_at (among test) ra n p.1) (others p.1 size)
    by_first n ts le others e (Err left) stuck = record {
      front = stuck.front;
      split = stuck.split;
      begun = inr (record { head = []; tail = stuck.front; value = []; split = refl; whole = refl; rest = stuck.begun });
      same = stuck_same ts stuck.front left stuck.split e stuck.same;
    }

    by_test : (n : ℕ) (ts : List Token) → length ts ≤ suc n → ((mid : List Token) → length mid ≤ n → ExactMany mid (repeat_at (among test) ra n mid)) → (v : Bool) → starts (among test) ts ≡ v → ExactMany ts (repeat_at (among test) ra (suc n) ts)
    by_test n ts le others false e = none (suc n) ts e
    by_test n ts le others true e = rw e (by_first n ts le others e (ra ts) (la ts))

    many_exact : (n : ℕ) (ts : List Token) → length ts ≤ n → ExactMany ts (repeat_at (among test) ra n ts)
    many_exact zero [] le = none zero [] refl
    many_exact zero (t ∷ ts) le = absurd (omega arith)
    many_exact (suc n) ts le = by_test n ts le (many_exact n) (starts (among test) ts) refl

    all_exact : (ts : List Token) (o : Result (List A × List Token) (List Token)) → ExactMany ts o → Exact (many a) (many_at (among test) ra) ts o
    unfolding many
    all_exact ts (Ok p) took = record { front = took.front; split = took.split; whole = took.whole; same = λ more h. took.same more (length (took.front ++ more)) h (omega arith) }
    all_exact ts (Err left) stuck = record { front = stuck.front; split = stuck.split; begun = stuck.begun; same = λ more h. stuck.same more (length (stuck.front ++ more)) h (omega arith) }

  module _ (first goes : List ℕ) (begins : Begins test a) (apart : (t : Token) → among test t ≡ true → among first t ≡ false) (ends : (t : Token) → among goes t ≡ false → (among test t ≡ false) × (among first t ≡ false)) (la : Reads a ra first) where
    ends_test : (ts : List Token) → starts (among goes) ts ≡ false → starts (among test) ts ≡ false
    ends_test [] e = refl
    ends_test (t ∷ ts) e = (ends t e).0

    ends_first : (ts : List Token) → starts (among goes) ts ≡ false → starts (among first) ts ≡ false
    ends_first [] e = refl
    ends_first (t ∷ ts) e = (ends t e).1

    apart_next : (xs rest : List Token) (list : List A) → ManyText a.text xs list → starts (among goes) rest ≡ false → starts (among first) (xs ++ rest) ≡ false
    apart_next xs rest [] none stop = rw none (ends_first rest stop)
    apart_next xs rest (x ∷ list) some stop =
        let b = begins.begins some.0 x some.3 in
        ap (λ (l : List Token). starts (among first) (l ++ rest)) some.2 ∙ ap (λ (l : List Token). starts (among first) ((l ++ some.1) ++ rest)) b.2 ∙ apart b.0 b.3

    many_all : (m : ℕ) (xs rest : List Token) (list : List A) → length (xs ++ rest) ≤ m → ManyText a.text xs list → starts (among goes) rest ≡ false → repeat_at (among test) ra m (xs ++ rest) ≡ Ok (list, rest)
    many_all m xs rest [] le none stop = rw none (stops m rest (ends_test rest stop))
    many_all zero xs rest (x ∷ list) le some stop =
        let b = begins.begins some.0 x some.3 in
        absurd (omega (arith, length-append xs rest, ap (length {A = Token}) some.2, length-append some.0 some.1, ap (length {A = Token}) b.2, le))
    many_all (suc m) xs rest (x ∷ list) le some stop =
        let b = begins.begins some.0 x some.3 in
        let cut : xs ++ rest ≡ some.0 ++ (some.1 ++ rest) = ap (λ (l : List Token). l ++ rest) some.2 ∙ append_assoc some.0 some.1 rest in
        let size : length (some.1 ++ rest) ≤ m = omega (arith, ap (length {A = Token}) cut, length-append some.0 (some.1 ++ rest), ap (length {A = Token}) b.2, le) in
        let here : starts (among test) (some.0 ++ (some.1 ++ rest)) ≡ true = ap (λ (l : List Token). starts (among test) (l ++ (some.1 ++ rest))) b.2 ∙ b.3 in
        let one : ra (some.0 ++ (some.1 ++ rest)) ≡ Ok (x, some.1 ++ rest) = la.all some.0 (some.1 ++ rest) x some.3 (apart_next some.1 rest list some.4 stop) in
        let others : repeat_at (among test) ra m (some.1 ++ rest) ≡ Ok (list, rest) = many_all m some.1 rest list size some.4 stop in
        ap (repeat_at (among test) ra (suc m)) cut ∙ rw (here, one, others) refl

pub many_reads : {A : Type 0} {a : Form A} {ra : Reader A} {first : List ℕ} (test goes : List ℕ) → Begins test a → ((t : Token) → among test t ≡ true → among first t ≡ false)
    → ((t : Token) → among goes t ≡ false → (among test t ≡ false) × (among first t ≡ false)) → Lawful a → Reads a ra first → Reads (many a) (many_at (among test) ra) goes
unfolding many
many_reads {A} {a} {ra} {first} test goes begins apart ends lawful la = record {
  exact = λ ts. all_exact test a ra begins (lawful.shrinks [] lawful.tokens lawful.value lawful.whole) la.exact ts (many_at (among test) ra ts) (many_exact test a ra begins (lawful.shrinks [] lawful.tokens lawful.value lawful.whole) la.exact (length ts) ts (omega arith));
  all = λ xs rest list h stop. many_all test a ra first goes begins apart ends la (length (xs ++ rest)) xs rest list (omega arith) h stop;
}
