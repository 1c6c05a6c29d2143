-- Options that ask for nothing: one is there twice, or its value is `-`.
use Rattle.std.proofs.Common.{◌≡◌, ℕ, ◌≤◌, append-nil, ◌⊎◌, inl, inr, Bool, true, false, cond, codes, nat_eq, List, [], ◌∷◌, ◌++◌, length, Option, Some, None, refl, sym, ap, ◌∙◌, subst, arith}
use Rattle.std.proofs.lemmas.Bool.{true≢false, eqb-true}
use Rattle.std.proofs.lemmas.List.Elements.{filter_map-append}
use Rattle.std.specs.Cmp.Lexicographic.{pointwise}
use Rattle.pb_text.specs.declared.limits.TheConstants.{MOST_EVENTS, MOST_NUMBER}
use Rattle.pb_cli_words.specs.declared.options.Modes.{Modes}
use Rattle.pb_cli_words.specs.declared.options.Shown.{Shown}
use Rattle.pb_cli_words.specs.Said.{Given, Key, N, Seed, Turns, Mode, Schedule, takes_value}
use Rattle.pb_cli_words.specs.Request.{◌>>=◌, asked, at_most_one, value_if, values_of, needed, number_or, modes_or, shown_if, n_in, seed_in, turns_in, modes_given, shown_in, options_in, only_n, one_file, two_files, plain_file, gen_in, request_by}
use Rattle.pb_cli_words.proofs.Held.{AtMostOne}
use Rattle.pb_cli_words.proofs.Sorted.{asked_with, options_with, only_is, all_counted}

abbrev Text : Type 0
Text = List ℕ

abbrev pub IsSpoilt : Key → List Text → Type 0
IsSpoilt key values = (AtMostOne values → ⊥) ⊎ ((takes_value key ≡ true) × (values ≡ codes "-" ∷ []))

-- so they stay, whatever comes behind
grows : (key : Key) (values more : List Text) → IsSpoilt key values → IsSpoilt key (values ++ more)
grows key [] more (inl many) = absurd (many tt)
grows key (v ∷ []) more (inl many) = absurd (many tt)
grows key (v ∷ w ∷ vs) more (inl many) = inl (λ h. h)
grows key values [] (inr dash) = inr (dash.0, append-nil values ∙ dash.1)
grows key values (m ∷ more) (inr dash) = inl (subst (λ l. AtMostOne (l ++ m ∷ more) → ⊥) (sym dash.1) (λ h. h))

pub stays : (key : Key) (options more : List Given) → IsSpoilt key (values_of key options) → IsSpoilt key (values_of key (options ++ more))
stays key options more spoilt = subst (IsSpoilt key) (sym (filter_map-append (value_if key) options more)) (grows key (values_of key options) (values_of key more) spoilt)

-- ---- their values are none

at_most_none : (values : List Text) → (AtMostOne values → ⊥) → at_most_one values ≡ None
at_most_none [] many = absurd (many tt)
at_most_none (v ∷ []) many = absurd (many tt)
at_most_none (v ∷ w ∷ vs) many = refl

read_none : {A : Type 0} (key : Key) (read : Option Text → Option A) (values : List Text) → IsSpoilt key values → read (Some (codes "-")) ≡ None → (at_most_one values >>= read) ≡ None
read_none key read values (inl many) e = ap (λ v. v >>= read) (at_most_none values many)
read_none key read values (inr dash) e = ap (λ l. at_most_one l >>= read) dash.1 ∙ e

bind_none : {A B : Type 0} (o : Option A) → ◌≡◌ {A = Option B} (o >>= λ x. None) None
bind_none None = refl
bind_none (Some x) = refl

no_seed : (n : Option ℕ) (turns : Option ℕ) (modes : Option Modes) (shown : Option Shown) → options_with n None turns modes shown ≡ None
no_seed None turns modes shown = refl
no_seed (Some n) turns modes shown = refl

no_turns : (n seed : Option ℕ) (modes : Option Modes) (shown : Option Shown) → options_with n seed None modes shown ≡ None
no_turns None seed modes shown = refl
no_turns (Some n) None modes shown = refl
no_turns (Some n) (Some s) modes shown = refl

no_modes : (n seed turns : Option ℕ) (shown : Option Shown) → options_with n seed turns None shown ≡ None
no_modes None seed turns shown = refl
no_modes (Some n) None turns shown = refl
no_modes (Some n) (Some s) None shown = refl
no_modes (Some n) (Some s) (Some t) shown = refl

no_shown : (n seed turns : Option ℕ) (modes : Option Modes) → options_with n seed turns modes None ≡ None
no_shown None seed turns modes = refl
no_shown (Some n) None turns modes = refl
no_shown (Some n) (Some s) None modes = refl
no_shown (Some n) (Some s) (Some t) None = refl
no_shown (Some n) (Some s) (Some t) (Some m) = refl

shown_none : (values : List Text) → IsSpoilt Schedule values → (at_most_one values >>= λ value. Some (shown_if value)) ≡ None
shown_none values (inl many) = ap (λ v. v >>= λ value. Some (shown_if value)) (at_most_none values many)
shown_none values (inr dash) = absurd (true≢false (sym dash.0))

module _ (options : List Given) where
  n_none : IsSpoilt N (values_of N options) → n_in options ≡ None
  n_none s = read_none N (needed 0 MOST_NUMBER) (values_of N options) s refl

  options_none : (key : Key) → IsSpoilt key (values_of key options) → options_in options ≡ None
  options_none N s = ap (λ n. options_with n (seed_in options) (turns_in options) (modes_given options) (shown_in options)) (n_none s)
  options_none Seed s =
      ap (λ x. options_with (n_in options) x (turns_in options) (modes_given options) (shown_in options)) (read_none Seed (number_or 0 0 18446744073709551615) (values_of Seed options) s refl)
      ∙ no_seed (n_in options) (turns_in options) (modes_given options) (shown_in options)
  options_none Turns s =
      ap (λ x. options_with (n_in options) (seed_in options) x (modes_given options) (shown_in options)) (read_none Turns (number_or MOST_EVENTS 1 MOST_EVENTS) (values_of Turns options) s refl)
      ∙ no_turns (n_in options) (seed_in options) (modes_given options) (shown_in options)
  options_none Mode s =
      ap (λ x. options_with (n_in options) (seed_in options) (turns_in options) x (shown_in options)) (read_none Mode modes_or (values_of Mode options) s refl)
      ∙ no_modes (n_in options) (seed_in options) (turns_in options) (shown_in options)
  options_none Schedule s =
      ap (λ x. options_with (n_in options) (seed_in options) (turns_in options) (modes_given options) x) (shown_none (values_of Schedule options) s)
      ∙ no_shown (n_in options) (seed_in options) (turns_in options) (modes_given options)

  some_value : (key : Key) → IsSpoilt key (values_of key options) → 1 ≤ length (values_of key options)
  some_value key s = go (values_of key options) s
    where
      go : (values : List Text) → IsSpoilt key values → 1 ≤ length values
      go [] (inl many) = absurd (many tt)
      go [] (inr dash) = absurd cc
      go (v ∷ vs) h = omega arith

  -- where there is one option alone, and it isn't N, there is no N
  empty_n : (key : Key) → length (values_of N options) ≡ 0 → n_in options ≡ None
  empty_n key e = go (values_of N options) e
    where
      go : (values : List Text) → length values ≡ 0 → (at_most_one values >>= needed 0 MOST_NUMBER) ≡ None
      go [] e = refl
      go (v ∷ vs) e = absurd (omega arith)

  lone_none : (key : Key) → IsSpoilt key (values_of key options) → length options ≡ 1 → n_in options ≡ None
  lone_none N s one = n_none s
  lone_none Seed s one = empty_n Seed (omega (arith, one, some_value Seed s, all_counted options))
  lone_none Turns s one = empty_n Turns (omega (arith, one, some_value Turns s, all_counted options))
  lone_none Mode s one = empty_n Mode (omega (arith, one, some_value Mode s, all_counted options))
  lone_none Schedule s one = empty_n Schedule (omega (arith, one, some_value Schedule s, all_counted options))

  only_none : (key : Key) → IsSpoilt key (values_of key options) → only_n options ≡ None
  only_none key s = only_is options ∙ go (nat_eq (length options) 1) refl
    where
      go : (b : Bool) → nat_eq (length options) 1 ≡ b → cond b (n_in options) None ≡ None
      go true e = lone_none key s (eqb-true (length options) 1 e)
      go false e = refl

  some_there : (key : Key) → IsSpoilt key (values_of key options) → 1 ≤ length options
  some_there N s = omega (arith, some_value N s, all_counted options)
  some_there Seed s = omega (arith, some_value Seed s, all_counted options)
  some_there Turns s = omega (arith, some_value Turns s, all_counted options)
  some_there Mode s = omega (arith, some_value Mode s, all_counted options)
  some_there Schedule s = omega (arith, some_value Schedule s, all_counted options)

plain_none : (files : List Text) (options : List Given) → 1 ≤ length options → plain_file files options ≡ None
plain_none files [] some = absurd (omega arith)
plain_none files (given ∷ options) some = refl

gen_none : (files : List Text) (options : List Given) → 1 ≤ length options → gen_in files options ≡ None
gen_none files [] some = absurd (omega arith)
gen_none files (given ∷ options) some = refl

both_none : {A : Type 0} (b : Bool) (x y : Option A) → x ≡ None → y ≡ None → cond b x y ≡ None
both_none true x y e f = e
both_none false x y e f = f

nothing_with : (command : Text) (files : List Text) → asked_with command files None None None None ≡ None
nothing_with command files =
    both_none (is (codes "check")) _ _ refl
    (both_none (is (codes "gen")) _ _ refl
    (both_none (is (codes "project")) _ _ refl
    (both_none (is (codes "sim")) _ _ (bind_none (one_file files))
    (both_none (is (codes "replay")) _ _ (bind_none (two_files files)) (both_none (is (codes "run")) _ _ (bind_none (one_file files))
    (both_none (is (codes "demo")) _ _ refl
    (both_none (is (codes "expand")) _ _ refl
    (both_none (is (codes "strips")) _ _ refl
    (both_none (is (codes "cost")) _ _ refl (both_none (is (codes "judge")) _ _ (bind_none (two_files files)) refl))))))))))
  where
    is : Text → Bool
    is name = pointwise nat_eq command name

asks_nothing : (key : Key) (options : List Given) (command : Text) (files : List Text) → IsSpoilt key (values_of key options) → asked command files options ≡ None
asks_nothing key options command files s =
    let some = some_there options key s in
    let all : asked command files options ≡ asked_with command files None None None None = λ i.
    asked_with command files (plain_none files options some i) (gen_none files options some i) (options_none options key s i) (only_none options key s i) in
    all ∙ nothing_with command files

pub requests_nothing : (key : Key) (words behind : List Text) (options : List Given) → IsSpoilt key (values_of key options) → request_by words behind options ≡ None
requests_nothing key [] behind options s = refl
requests_nothing key (word ∷ words) behind options s = asks_nothing key options word (words ++ behind) s
