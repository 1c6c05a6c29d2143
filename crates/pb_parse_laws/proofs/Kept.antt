-- What a file has that keeps the rules 1, 3 and 5.
use Rattle.std.proofs.Common.{◌≡◌, ℕ, Bool, true, false, nat_lt, nat_le, if◌then◌else◌, Option, None, List, [], ◌∷◌, ◌++◌, refl, arith}
use Rattle.std.proofs.lemmas.Bool.Decides.{nat_tests}
use Rattle.std.proofs.lemmas.Bool.{or_parts}
use Rattle.pb_text.specs.declared.place.Place.{Place}
use Rattle.pb_syntax.specs.declared.tree.High.{High}
use Rattle.pb_syntax.specs.declared.tree.High.TheVariants.{Upto, Max}
use Rattle.pb_syntax.specs.Tree.{PlainFile}
use Rattle.pb_core_language.specs.Names.{Name, Use, declared, bound, mentioned, Visit, visits}
use Rattle.pb_core_language.specs.FileRules.{role_names, astray_in, has_other_kind, is_unknown, is_misused, misnamed, broken_1, broken_2, broken_3, broken_4, broken_5, first_or, broken, is_below}
use Rattle.pb_core_language.specs.Meaning.{high_of}
use Rattle.pb_core_language.specs.Sound.{reaches}

pub both_none : {A : Type 0} (xs ys : List A) → xs ++ ys ≡ [] → (xs ≡ []) × (ys ≡ [])
both_none [] ys e = (refl, e)
both_none (x ∷ xs) ys e = absurd (grind arith)

none_if : (b : Bool) (p : Place) → (if b then p ∷ [] else []) ≡ [] → b ≡ false
none_if true p e = absurd (grind arith)
none_if false p e = refl

pub some_if : (b : Bool) (p : Place) → (if b then [] else p ∷ []) ≡ [] → b ≡ true
some_if true p e = refl
some_if false p e = absurd (grind arith)

none_or : (k : ℕ) (xs : List Place) (later : Option (ℕ × Place)) → first_or k xs later ≡ None → (xs ≡ []) × (later ≡ None)
none_or k [] later e = (refl, e)
none_or k (x ∷ xs) later e = absurd (grind arith)

-- ---- rule 1

abbrev IsRight : List Name → Visit → Use → Type 0
IsRight roles v mentioned = is_unknown roles v v.kind ≡ false
IsRight roles v declared = Unit {0}
IsRight roles v bound = Unit {0}

-- what is mentioned is known
abbrev pub AreRight : List Name → List Visit → Type 0
AreRight roles [] = Unit {0}
AreRight roles (v ∷ vs) = IsRight roles v v.how × AreRight roles vs

pub right_both : (roles : List Name) (xs ys : List Visit) → AreRight roles (xs ++ ys) → AreRight roles xs × AreRight roles ys
right_both roles [] ys h = (tt, h)
right_both roles (x ∷ xs) ys h = let g = right_both roles xs ys h.1 in ((h.0, g.0), g.1)

are_right : (roles : List Name) (before vs : List Visit) → misnamed roles before vs ≡ [] → AreRight roles vs
are_right roles before [] e = tt
are_right roles before (v ∷ vs) e =
    let p = both_none _ _ e in
    (at v.how (or_parts (has_other_kind v.spot.name v.kind before) _ (none_if _ _ p.0)).1, are_right roles (before ++ v ∷ []) vs p.1)
  where
    at : (how : Use) → is_misused roles before v how ≡ false → IsRight roles v how
    at mentioned m = m
    at declared m = tt
    at bound m = tt

-- ---- rule 5

at_least_one : (n : ℕ) → nat_lt n 1 ≡ false → nat_lt 0 n ≡ true
at_least_one n e = grind (arith, nat_tests)

reached : (high : High) (low : ℕ) → is_below high low ≡ false → reaches low (high_of high) ≡ true
reached Max low e = refl
reached (Upto hi) low e = at hi e
  where
    at : (hi : ℕ) → nat_lt hi low ≡ false → nat_le low hi ≡ true
    at hi e = grind (arith, nat_tests)

-- ---- files

pub record Kept (f : PlainFile) : Type 0 where
  pub names : AreRight (role_names f.roles) (visits f)
  pub continues : astray_in [] f.body.list ≡ []
  pub low : nat_lt 0 f.low ≡ true
  pub high : reaches f.low (high_of f.high) ≡ true

pub kept : (f : PlainFile) → broken f ≡ None → Kept f
kept f e =
    let one = none_or 1 (broken_1 f) _ e in
    let two = none_or 2 (broken_2 f) _ one.1 in
    let three = none_or 3 (broken_3 f) _ two.1 in
    let four = none_or 4 (broken_4 f) _ three.1 in
    let five = none_or 5 (broken_5 f) _ four.1 in
    let low = both_none _ _ five.0 in
    let high = both_none _ _ low.1 in
    record {
      names = are_right (role_names f.roles) [] (visits f) one.0;
      continues = three.0;
      low = at_least_one f.low (none_if _ _ low.0);
      high = reached f.high f.low (none_if _ _ high.0);
    }
