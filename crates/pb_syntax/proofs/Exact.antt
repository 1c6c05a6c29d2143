-- A reader is exact for a form: what it reads is a text, what stands before a fault is a front, it looks no further
-- than one token ahead, and it reads each text that is followed by no token that goes on.
use Rattle.std.proofs.Common.{◌≡◌, ℕ, List, [], ◌∷◌, ◌++◌, ◌⊎◌, inl, inr, Bool, true, false, Option, Some, None, Result, Ok, Err, refl, sym, ap, ◌∙◌, append_assoc}
use Rattle.pb_text.specs.declared.token.Token.{Token}
use Rattle.pb_syntax.specs.Form.{Form, done, one, ◌or◌, Both, OneText}
use Rattle.pb_syntax.specs.Form.{◌>>=◌ as ◌then◌}
use Rattle.pb_syntax.specs.Reading.{Reader, done_at, taken, one_at, next, head_of, holds, starts, choose, among}
use Rattle.pb_syntax.specs.Reading.{◌>>=◌ as ◌at◌}

pub record Took {A : Type 0} (f : Form A) (r : Reader A) (ts : List Token) (x : A) (rest : List Token) : Type 0 where
  pub front : List Token
  pub split : ts ≡ front ++ rest
  pub whole : f.text front x
  pub same : (more : List Token) → head_of more ≡ head_of rest → r (front ++ more) ≡ Ok (x, more)

pub record Stuck {A : Type 0} (f : Form A) (r : Reader A) (ts rest : List Token) : Type 0 where
  pub front : List Token
  pub split : ts ≡ front ++ rest
  pub begun : f.front front
  pub same : (more : List Token) → head_of more ≡ head_of rest → r (front ++ more) ≡ Err more

abbrev pub Exact : {A : Type 0} → Form A → Reader A → List Token → Result (A × List Token) (List Token) → Type 0
Exact f r ts (Ok p) = Took f r ts p.0 p.1
Exact f r ts (Err rest) = Stuck f r ts rest

pub record Reads {A : Type 0} (f : Form A) (r : Reader A) (goes : List ℕ) : Type 0 where
  pub exact : (ts : List Token) → Exact f r ts (r ts)
  pub all : (xs rest : List Token) (x : A) → f.text xs x → starts (among goes) rest ≡ false → r (xs ++ rest) ≡ Ok (x, rest)

abbrev pub never : List ℕ
never = []

pub no_head : (ts : List Token) → head_of ts ≡ None → ts ≡ []
no_head [] e = refl
no_head (t ∷ ts) e = cc

pub head_behind : (xs more rest : List Token) → head_of more ≡ head_of rest → head_of (xs ++ more) ≡ head_of (xs ++ rest)
head_behind [] more rest e = e
head_behind (x ∷ xs) more rest e = refl

never_starts : (ts : List Token) → starts (among never) ts ≡ false
never_starts [] = refl
never_starts (t ∷ ts) = refl

pub done_reads : {A : Type 0} {goes : List ℕ} → (x : A) → Reads (done x) (done_at x) goes
unfolding done
done_reads x = record {
  exact = λ ts. record { front = []; split = refl; whole = (refl, refl); same = λ more h. refl };
  all = λ xs rest y h stop. rw (h.0, h.1) refl;
}

module _ {A : Type 0} (reads : Token → Option A) where
  one_stuck : (t : Token) (more : List Token) → reads t ≡ None → head_of more ≡ Some t → one_at reads more ≡ Err more
  one_stuck t [] e h = cc
  one_stuck t (u ∷ more) e h = let same : u ≡ t = cc in rw (same, e) refl

  one_exact : (t : Token) (ts : List Token) (o : Option A) → reads t ≡ o → Exact (one reads) (one_at reads) (t ∷ ts) (taken o t ts)
  unfolding one
  one_exact t ts (Some x) e = record { front = t ∷ []; split = refl; whole = e; same = λ more h. rw e refl }
  one_exact t ts None e = record { front = []; split = refl; begun = tt; same = λ more h. one_stuck t more e h }

  one_exact_all : (ts : List Token) → Exact (one reads) (one_at reads) ts (one_at reads ts)
  unfolding one
  one_exact_all [] = record { front = []; split = refl; begun = tt; same = λ more h. rw (no_head more h) refl }
  one_exact_all (t ∷ ts) = one_exact t ts (reads t) refl

  one_all : (xs rest : List Token) (x : A) → OneText reads xs x → one_at reads (xs ++ rest) ≡ Ok (x, rest)
  one_all [] rest x h = absurd h
  one_all (t ∷ []) rest x h = rw h refl
  one_all (t ∷ u ∷ xs) rest x h = absurd h

  pub one_reads : {goes : List ℕ} → Reads (one reads) (one_at reads) goes
  unfolding one
  one_reads = record { exact = one_exact_all; all = λ xs rest x h stop. one_all xs rest x h }

-- what may follow the first part, where it could go on: no text of the second part, with what follows it, begins with such a token
pub record Apart {A B : Type 0} (first : List ℕ) (f : A → Form B) (goes : List ℕ) : Type 0 where
  pub follows : (x : A) (ys rest : List Token) (y : B) → (f x).text ys y → starts (among goes) rest ≡ false → starts (among first) (ys ++ rest) ≡ false

module _ {A B : Type 0} (a : Form A) (f : A → Form B) (ra : Reader A) (rf : A → Reader B) where
  then_second : (ts : List Token) (x : A) (mid : List Token) → Took a ra ts x mid → (o : Result (B × List Token) (List Token)) → Exact (f x) (rf x) mid o → Exact (a then f) (ra at rf) ts o
  unfolding ◌then◌
  then_second ts x mid p (Ok y) q = record {
    front = p.front ++ q.front;
    split = p.split ∙ ap (λ (l : List Token). p.front ++ l) q.split ∙ sym (append_assoc p.front q.front y.1);
    whole = record { head = p.front; tail = q.front; value = x; split = refl; whole = p.whole; rest = q.whole };
    same = λ more h.
        let near : head_of (q.front ++ more) ≡ head_of mid = head_behind q.front more y.1 h ∙ ap head_of (sym q.split) in
        ap (λ (l : List Token). (ra at rf) l) (append_assoc p.front q.front more) ∙ rw (p.same (q.front ++ more) near) (q.same more h);
  }
  then_second ts x mid p (Err left) q = record {
    front = p.front ++ q.front;
    split = p.split ∙ ap (λ (l : List Token). p.front ++ l) q.split ∙ sym (append_assoc p.front q.front left);
    begun = inr (record { head = p.front; tail = q.front; value = x; split = refl; whole = p.whole; rest = q.begun });
    same = λ more h.
        let near : head_of (q.front ++ more) ≡ head_of mid = head_behind q.front more left h ∙ ap head_of (sym q.split) in
        ap (λ (l : List Token). (ra at rf) l) (append_assoc p.front q.front more) ∙ rw (p.same (q.front ++ more) near) (q.same more h);
  }

  then_exact : ((x : A) (mid : List Token) → Exact (f x) (rf x) mid (rf x mid)) → (ts : List Token) (o : Result (A × List Token) (List Token)) → Exact a ra ts o → Exact (a then f) (ra at rf) ts (next o rf)
  unfolding ◌then◌
  then_exact lf ts (Ok p) took = then_second ts p.0 p.1 took (rf p.0 p.1) (lf p.0 p.1)
  then_exact lf ts (Err left) stuck = record { front = stuck.front; split = stuck.split; begun = inl stuck.begun; same = λ more h. rw (stuck.same more h) refl }

  then_all : (first goes : List ℕ) → Reads a ra first → ((x : A) → Reads (f x) (rf x) goes) → Apart first f goes → (xs rest : List Token) (y : B) → Both a.text (λ x. (f x).text) xs y → starts (among goes) rest ≡ false → (ra at rf) (xs ++ rest) ≡ Ok (y, rest)
  then_all first goes la lf apart xs rest y h stop =
      let whole : xs ++ rest ≡ h.head ++ (h.tail ++ rest) = ap (λ (l : List Token). l ++ rest) h.split ∙ append_assoc h.head h.tail rest in
      ap (λ (l : List Token). (ra at rf) l) whole ∙ rw (la.all h.head (h.tail ++ rest) h.value h.whole (apart.follows h.value h.tail rest y h.rest stop)) ((lf h.value).all h.tail rest y h.rest stop)

module _ {A B : Type 0} {a : Form A} {f : A → Form B} {ra : Reader A} {rf : A → Reader B} {first goes : List ℕ} where
  pub after : Reads a ra first → Apart first f goes → ((x : A) → Reads (f x) (rf x) goes) → Reads (a then f) (ra at rf) goes
  unfolding ◌then◌
  after la apart lf = record { exact = λ ts. then_exact a f ra rf (λ x mid. (lf x).exact mid) ts (ra ts) (la.exact ts); all = then_all a f ra rf first goes la lf apart }

module _ {A B : Type 0} {a : Form A} {f : A → Form B} {ra : Reader A} {rf : A → Reader B} {goes : List ℕ} where
  infixl 10 ◌>>=◌
  pub ◌>>=◌ : Reads a ra never → ((x : A) → Reads (f x) (rf x) goes) → Reads (a then f) (ra at rf) goes
  la >>= lf = after la (record { follows = λ x ys rest y h stop. never_starts (ys ++ rest) }) lf

-- each text of the form begins with a token that passes the test
pub record Begins {A : Type 0} (test : List ℕ) (a : Form A) : Type 0 where
  pub begins : (xs : List Token) (x : A) → a.text xs x → (t : Token) × (ts : List Token) × (xs ≡ t ∷ ts) × (among test t ≡ true)

-- no text of the form, with what follows it, begins so
pub record Misses {A : Type 0} (test : List ℕ) (b : Form A) (goes : List ℕ) : Type 0 where
  pub misses : (xs rest : List Token) (x : A) → b.text xs x → starts (among goes) rest ≡ false → starts (among test) (xs ++ rest) ≡ false

module _ {A : Type 0} (test : List ℕ) (a b : Form A) (ra rb : Reader A) where
  same_start : (ts front rest more : List Token) (v : Bool) → ts ≡ front ++ rest → head_of more ≡ head_of rest → starts (among test) ts ≡ v → starts (among test) (front ++ more) ≡ v
  same_start ts front rest more v split h e = ap (holds (among test)) (head_behind front more rest h ∙ ap head_of (sym split)) ∙ e

  left_exact : (ts : List Token) → starts (among test) ts ≡ true → (o : Result (A × List Token) (List Token)) → Exact a ra ts o → Exact (a or b) (choose (among test) ra rb) ts o
  unfolding ◌or◌
  left_exact ts e (Ok p) took = record { front = took.front; split = took.split; whole = inl took.whole; same = λ more h. rw (same_start ts took.front p.1 more true took.split h e) (took.same more h) }
  left_exact ts e (Err left) stuck = record { front = stuck.front; split = stuck.split; begun = inl stuck.begun; same = λ more h. rw (same_start ts stuck.front left more true stuck.split h e) (stuck.same more h) }

  right_exact : (ts : List Token) → starts (among test) ts ≡ false → (o : Result (A × List Token) (List Token)) → Exact b rb ts o → Exact (a or b) (choose (among test) ra rb) ts o
  unfolding ◌or◌
  right_exact ts e (Ok p) took = record { front = took.front; split = took.split; whole = inr took.whole; same = λ more h. rw (same_start ts took.front p.1 more false took.split h e) (took.same more h) }
  right_exact ts e (Err left) stuck = record { front = stuck.front; split = stuck.split; begun = inr stuck.begun; same = λ more h. rw (same_start ts stuck.front left more false stuck.split h e) (stuck.same more h) }

  both_exact : ((ts : List Token) → Exact a ra ts (ra ts)) → ((ts : List Token) → Exact b rb ts (rb ts)) → (ts : List Token) (v : Bool) → starts (among test) ts ≡ v → Exact (a or b) (choose (among test) ra rb) ts (choose (among test) ra rb ts)
  both_exact la lb ts true e = rw e (left_exact ts e (ra ts) (la ts))
  both_exact la lb ts false e = rw e (right_exact ts e (rb ts) (lb ts))

  begun : (xs rest : List Token) (x : A) → Begins test a → a.text xs x → starts (among test) (xs ++ rest) ≡ true
  begun xs rest x begins h = let g = begins.begins xs x h in ap (λ (l : List Token). starts (among test) (l ++ rest)) g.2 ∙ g.3

  both_all : (goes : List ℕ) → Begins test a → Misses test b goes → Reads a ra goes → Reads b rb goes → (xs rest : List Token) (x : A) → a.text xs x ⊎ b.text xs x → starts (among goes) rest ≡ false → choose (among test) ra rb (xs ++ rest) ≡ Ok (x, rest)
  both_all goes begins misses la lb xs rest x (inl h) stop = rw (begun xs rest x begins h) (la.all xs rest x h stop)
  both_all goes begins misses la lb xs rest x (inr h) stop = rw (misses.misses xs rest x h stop) (lb.all xs rest x h stop)

pub either : {A : Type 0} {a b : Form A} {ra rb : Reader A} {goes : List ℕ} → (test : List ℕ) → Begins test a → Misses test b goes → Reads a ra goes → Reads b rb goes → Reads (a or b) (choose (among test) ra rb) goes
unfolding ◌or◌
either {A} {a} {b} {ra} {rb} {goes} test begins misses la lb = record {
  exact = λ ts. both_exact test a b ra rb la.exact lb.exact ts (starts (among test) ts) refl;
  all = both_all test a b ra rb goes begins misses la lb;
}

pub weaken : {A : Type 0} {a : Form A} {ra : Reader A} {goes : List ℕ} → Reads a ra never → Reads a ra goes
weaken la = record { exact = la.exact; all = λ xs rest x h stop. la.all xs rest x h (never_starts rest) }
