-- Each line that is spelled is read, and what is read is spelled so.
use Rattle.std.proofs.Common.{◌≡◌, ℕ, ◌<◌, ◌^◌, Bool, true, false, cond, lt-ltb, ltb-true, List, ◌∷◌, ◌++◌, Option, Some, None, refl, sym, ap, subst, ◌∙◌, append_assoc, arith}
use Rattle.std.specs.Prelude.{nat_lt, codes, decimal}
use Rattle.pb_text.specs.declared.mode.Mode.{Mode}
use Rattle.pb_text.specs.declared.mode.Mode.TheVariants.{Eager, Waiting}
use Rattle.pb_sched.specs.declared.format.Format.{Format}
use Rattle.pb_sched.specs.declared.format.Format.TheVariants.{One, Two}
use Rattle.pb_sched.specs.declared.schedule.Turn.{Turn}
use Rattle.pb_sched.specs.Formats.{head_line, seed_line, ending, turn_line, HasMode, IsTurn}
use Rattle.pb_text_read.specs.Fronts.{◌>>=◌, strip}
use Rattle.pb_text_read.proofs.Digits.{begins_digit}
use Rattle.pb_text_read.proofs.Strips.{strip_sound}
use Rattle.pb_sched.specs.Parts.{number_at, or_else, with, head_at, seed_at, mode_at, turn_of, turn_at}
use Rattle.pb_sched.proofs.Spelled.{number_again, number_sound, Spelled}
use Rattle.pb_sched.proofs.Strips.{with_sound, some_pair}

-- ---- heads

pub head_again : (f : Format) (rest : List ℕ) → head_at (head_line f ++ rest) ≡ Some (f, rest)
head_again One rest = refl
head_again Two rest = refl

pub head_sound : (text : List ℕ) (f : Format) (rest : List ℕ) → head_at text ≡ Some (f, rest) → text ≡ head_line f ++ rest
head_sound text f rest h = go (strip (codes "pabble schedule 2\n") text) refl h
  where
    one : with One (strip (codes "pabble schedule 1\n") text) ≡ Some (f, rest) → text ≡ head_line f ++ rest
    one g = let w = with_sound One f (strip (codes "pabble schedule 1\n") text) rest g in subst (λ k. text ≡ head_line k ++ rest) w.0 (strip_sound (codes "pabble schedule 1\n") text rest w.1)

    go : (o : Option (List ℕ)) → strip (codes "pabble schedule 2\n") text ≡ o → or_else (with Two o) (with One (strip (codes "pabble schedule 1\n") text)) ≡ Some (f, rest) → text ≡ head_line f ++ rest
    go None e g = one g
    go (Some r) e g = let w = with_sound Two f (Some r) rest g in subst (λ k. text ≡ head_line k ++ rest) w.0 (strip_sound (codes "pabble schedule 2\n") text rest (e ∙ w.1))

-- ---- seeds

pub seed_again : (seed : ℕ) (rest : List ℕ) → seed < 2 ^ 64 → seed_at (seed_line seed ++ rest) ≡ Some (seed, rest)
seed_again seed rest small =
    let text : seed_line seed ++ rest ≡ codes "seed " ++ (decimal seed ++ 10 ∷ rest) = ap (λ xs. codes "seed " ++ xs) (append_assoc (decimal seed) (codes "\n") rest) in
    let read : number_at (decimal seed ++ 10 ∷ rest) ≡ Some (seed, 10 ∷ rest) = number_again seed (10 ∷ rest) small refl in
    ap seed_at text ∙ ap (λ o. o >>= λ n. with n.0 (strip (codes "\n") n.1)) read

pub record IsSeed (text : List ℕ) (seed : ℕ) (rest : List ℕ) : Type 0 where
  pub is : text ≡ seed_line seed ++ rest
  pub small : seed < 2 ^ 64

seed_spelled : (text digits end rest : List ℕ) (n seed : ℕ) → text ≡ codes "seed " ++ digits → Spelled n digits end → with n (strip (codes "\n") end) ≡ Some (seed, rest) → IsSeed text seed rest
seed_spelled text digits end rest n seed a s h =
    let w = with_sound n seed (strip (codes "\n") end) rest h in
    let e : end ≡ codes "\n" ++ rest = strip_sound (codes "\n") end rest w.1 in
    subst (λ k. IsSeed text k rest) w.0 (record {
      is = a ∙ ap (λ xs. codes "seed " ++ xs) (s.is ∙ ap (λ xs. decimal n ++ xs) e ∙ sym (append_assoc (decimal n) (codes "\n") rest));
      small = s.small;
    })

pub seed_sound : (text : List ℕ) (seed : ℕ) (rest : List ℕ) → seed_at text ≡ Some (seed, rest) → IsSeed text seed rest
seed_sound text seed rest h = go (strip (codes "seed ") text) refl h
  where
    numbered : (digits : List ℕ) → text ≡ codes "seed " ++ digits → (o : Option (ℕ × List ℕ)) → number_at digits ≡ o → (o >>= λ n. with n.0 (strip (codes "\n") n.1)) ≡ Some (seed, rest) → IsSeed text seed rest
    numbered digits a None e g = absurd cc
    numbered digits a (Some n) e g = seed_spelled text digits n.1 rest n.0 seed a (number_sound digits n.0 n.1 e) g

    go : (o : Option (List ℕ)) → strip (codes "seed ") text ≡ o → (o >>= λ digits. number_at digits >>= λ n. with n.0 (strip (codes "\n") n.1)) ≡ Some (seed, rest) → IsSeed text seed rest
    go None e g = absurd cc
    go (Some digits) e g = numbered digits (strip_sound (codes "seed ") text digits e) (number_at digits) refl g

-- ---- events

ends_number : (f : Format) (m : Mode) (rest : List ℕ) → begins_digit (ending f m ++ rest) ≡ false
ends_number One m rest = refl
ends_number Two Eager rest = refl
ends_number Two Waiting rest = refl

mode_again : (f : Format) (m : Mode) (rest : List ℕ) → HasMode f m → mode_at f (ending f m ++ rest) ≡ Some (m, rest)
mode_again One m rest h = ap (λ k. Some (k, rest)) (sym h)
mode_again Two Eager rest h = refl
mode_again Two Waiting rest h = refl

pub turn_again : (f : Format) (turn : Turn) (rest : List ℕ) → IsTurn f turn → turn_at f (turn_line f turn ++ rest) ≡ Some (turn, rest)
turn_again f turn rest fits =
    let wide : turn.rank < 2 ^ 64 = omega (arith, fits.rank) in
    let small : nat_lt turn.rank (2 ^ 32) ≡ true = lt-ltb turn.rank (2 ^ 32) fits.rank in
    let read : number_at (decimal turn.rank ++ (ending f turn.mode ++ rest)) ≡ Some (turn.rank, ending f turn.mode ++ rest) = number_again turn.rank _ wide (ends_number f turn.mode rest) in
    ap (turn_at f) (append_assoc (decimal turn.rank) (ending f turn.mode) rest)
    ∙ ap (λ o. o >>= λ rank. cond (nat_lt rank.0 (2 ^ 32)) (turn_of rank.0 (mode_at f rank.1)) None) read
    ∙ ap (λ b. cond b (turn_of turn.rank (mode_at f (ending f turn.mode ++ rest))) None) small
    ∙ ap (turn_of turn.rank) (mode_again f turn.mode rest fits.mode)

record IsMode (f : Format) (m : Mode) (text rest : List ℕ) : Type 0 where
  is : text ≡ ending f m ++ rest
  has : HasMode f m

mode_sound : (f : Format) (text : List ℕ) (m : Mode) (rest : List ℕ) → mode_at f text ≡ Some (m, rest) → IsMode f m text rest
mode_sound One text m rest h = let w = with_sound Eager m (strip (codes "\n") text) rest h in record { is = strip_sound (codes "\n") text rest w.1; has = sym w.0 }
mode_sound Two text m rest h = go (strip (codes " e\n") text) refl h
  where
    waits : with Waiting (strip (codes " w\n") text) ≡ Some (m, rest) → IsMode Two m text rest
    waits g = let w = with_sound Waiting m (strip (codes " w\n") text) rest g in subst (λ k. IsMode Two k text rest) w.0 (record { is = strip_sound (codes " w\n") text rest w.1; has = tt })

    go : (o : Option (List ℕ)) → strip (codes " e\n") text ≡ o → or_else (with Eager o) (with Waiting (strip (codes " w\n") text)) ≡ Some (m, rest) → IsMode Two m text rest
    go None e g = waits g
    go (Some r) e g = let w = with_sound Eager m (Some r) rest g in subst (λ k. IsMode Two k text rest) w.0 (record { is = strip_sound (codes " e\n") text rest (e ∙ w.1); has = tt })

pub record IsEvent (f : Format) (text : List ℕ) (turn : Turn) (rest : List ℕ) : Type 0 where
  pub is : text ≡ turn_line f turn ++ rest
  pub fits : IsTurn f turn

turn_spelled : (f : Format) (text end rest : List ℕ) (n : ℕ) (turn : Turn) → Spelled n text end → n < 2 ^ 32 → (o : Option (Mode × List ℕ)) → mode_at f end ≡ o → turn_of n o ≡ Some (turn, rest) → IsEvent f text turn rest
turn_spelled f text end rest n turn s small None e h = absurd cc
turn_spelled f text end rest n turn s small (Some m) e h =
    let p = some_pair h in
    let k = mode_sound f end m.0 m.1 e in
    subst (λ t. IsEvent f text t rest) p.0 (record {
      is = s.is ∙ ap (λ xs. decimal n ++ xs) (k.is ∙ ap (λ xs. ending f m.0 ++ xs) p.1) ∙ sym (append_assoc (decimal n) (ending f m.0) rest);
      fits = record { rank = small; mode = k.has };
    })

pub turn_sound : (f : Format) (text : List ℕ) (turn : Turn) (rest : List ℕ) → turn_at f text ≡ Some (turn, rest) → IsEvent f text turn rest
turn_sound f text turn rest h = go (number_at text) refl h
  where
    fits : (n : ℕ) (end : List ℕ) → Spelled n text end → (b : Bool) → nat_lt n (2 ^ 32) ≡ b → cond b (turn_of n (mode_at f end)) None ≡ Some (turn, rest) → IsEvent f text turn rest
    fits n end s true e g = turn_spelled f text end rest n turn s (ltb-true n (2 ^ 32) e) (mode_at f end) refl g
    fits n end s false e g = absurd cc

    go : (o : Option (ℕ × List ℕ)) → number_at text ≡ o → (o >>= λ rank. cond (nat_lt rank.0 (2 ^ 32)) (turn_of rank.0 (mode_at f rank.1)) None) ≡ Some (turn, rest) → IsEvent f text turn rest
    go None e g = absurd cc
    go (Some n) e g = fits n.0 n.1 (number_sound text n.0 n.1 e) (nat_lt n.0 (2 ^ 32)) refl g
