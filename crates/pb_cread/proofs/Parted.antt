-- Where in a text the lines before its statements end.
use Rattle.std.proofs.Common.{◌≡◌, ℕ, suc, ◌<◌, true, false, List, [], ◌∷◌, ◌++◌, length, Option, Some, None, refl, sym, ap, subst, ◌∙◌, arith}
use Rattle.std.proofs.lemmas.Option.{same_Some, none-some}
use Rattle.pb_cread_frame.specs.Ahead.{Shown, Rest, ahead, Whole, whole}
use Rattle.pb_cread_frame.specs.Laws.{then_read, read, Begins}
use Rattle.pb_cread_frame.specs.Reading.{State, step, is_done}
use Rattle.pb_cread_frame.specs.Steps.{GoesAlong}
use Rattle.pb_cread_frame.proofs.Follow.{follows_all}
use Rattle.pb_cread.proofs.Ahead.{HasLine, some_ahead, none_ahead, not_done}

-- the lines are those ahead, and others stand behind them
pub record Parted (w : Whole) (s : State) (ahead : List Shown) (lines more : List (List ℕ)) (tail : List Shown) : Type 0 where
  pub rest : Rest
  pub same : w ≡ whole s rest
  pub many : length ahead ≡ length lines
  pub behind : Begins more tail

abbrev Later : State → List (List ℕ) → List (List ℕ) → List Shown → Type 0
Later s ls more tail = (n : State) (r : Rest) → read ls n ≡ Some s → Begins (ls ++ more) (ahead n r ++ tail) → Parted (whole n r) s (ahead n r) ls more tail

abbrev Left : State → List (List ℕ) → List Shown → Type 0
Left s ls tail = (n : State) (r : Rest) → read ls n ≡ Some s → Begins ls (ahead n r ++ tail) → length ls < length (ahead n r)

ended : (t s : State) (q : Rest) (more : List (List ℕ)) (tail : List Shown) → t ≡ s → is_done s ≡ true → Begins more (ahead t q ++ tail) → Parted (whole t q) s (ahead t q) [] more tail
ended t s q more tail e done b =
    let none : ahead t q ≡ [] = none_ahead t q (ap is_done e ∙ done) in
    let P : List Shown → Type 0 = λ xs. Begins more (xs ++ tail) in
    record { rest = q; same = ap (λ (u : State). whole u q) e; many = ap length none; behind = subst P none b }

pub parted : (lines more : List (List ℕ)) (t s : State) (q : Rest) (tail : List Shown) → read lines t ≡ Some s → is_done s ≡ true → Begins (lines ++ more) (ahead t q ++ tail) → Parted (whole t q) s (ahead t q) lines more tail
parted [] more t s q tail e done b = ended t s q more tail (same_Some t s e) done b
parted (l ∷ ls) more t s q tail e done b = on (step t l) refl e (λ n r g c. parted ls more n s r tail g done c) where
  next : (n : State) → step t l ≡ Some n → read ls n ≡ Some s → Later s ls more tail → (xs : List Shown) → HasLine xs → GoesAlong (step t) (whole t q) xs → Begins (l ∷ (ls ++ more)) (xs ++ tail) → Parted (whole t q) s xs (l ∷ ls) more tail
  next n f g others [] h along b = absurd h
  next n f g others (x ∷ xs) h along b =
      let w = along b.1 in
      let same : w.next ≡ n = same_Some w.next n (sym w.goes ∙ sym (ap (step t) b.0) ∙ f) in
      let Q : State → Type 0 = λ u. read ls u ≡ Some s in
      let R : List Shown → Type 0 = λ ys. Begins (ls ++ more) (ys ++ tail) in
      let r = others w.next w.arrives.rest (subst Q (sym same) g) (subst R (sym w.arrives.lines) b.2) in
      let k : length xs ≡ length ls = ap length (sym w.arrives.lines) ∙ r.many in
      record { rest = r.rest; same = sym w.arrives.same ∙ r.same; many = ap (λ n. suc n) k; behind = r.behind }

  on : (o : Option State) → step t l ≡ o → then_read o (read ls) ≡ Some s → Later s ls more tail → Parted (whole t q) s (ahead t q) (l ∷ ls) more tail
  on None f g others = absurd (none-some s g)
  on (Some n) f g others = next n f g others (ahead t q) (some_ahead t q (not_done t l n f)) (follows_all t q) b

-- where the statements don't come next, lines are left
pub left_over : (lines : List (List ℕ)) (t s : State) (q : Rest) (tail : List Shown) → read lines t ≡ Some s → is_done s ≡ false → Begins lines (ahead t q ++ tail) → length lines < length (ahead t q)
left_over [] t s q tail e some_left b = last (ahead t q) (some_ahead t q (ap is_done (same_Some t s e) ∙ some_left)) where
  last : (xs : List Shown) → HasLine xs → 0 < length xs
  last [] h = absurd h
  last (x ∷ xs) h = omega arith
left_over (l ∷ ls) t s q tail e some_left b = on (step t l) refl e (λ n r g c. left_over ls n s r tail g some_left c) where
  next : (n : State) → step t l ≡ Some n → read ls n ≡ Some s → Left s ls tail → (xs : List Shown) → HasLine xs → GoesAlong (step t) (whole t q) xs → Begins (l ∷ ls) (xs ++ tail) → length (l ∷ ls) < length xs
  next n f g others [] h along b = absurd h
  next n f g others (x ∷ xs) h along b =
      let w = along b.1 in
      let same : w.next ≡ n = same_Some w.next n (sym w.goes ∙ sym (ap (step t) b.0) ∙ f) in
      let Q : State → Type 0 = λ u. read ls u ≡ Some s in
      let R : List Shown → Type 0 = λ ys. Begins ls (ys ++ tail) in
      let r = others w.next w.arrives.rest (subst Q (sym same) g) (subst R (sym w.arrives.lines) b.2) in
      let k : length (ahead w.next w.arrives.rest) ≡ length xs = ap length w.arrives.lines in
      omega (arith, r, k)

  on : (o : Option State) → step t l ≡ o → then_read o (read ls) ≡ Some s → Left s ls tail → length (l ∷ ls) < length (ahead t q)
  on None f g others = absurd (none-some s g)
  on (Some n) f g others = next n f g others (ahead t q) (some_ahead t q (not_done t l n f)) (follows_all t q) b
