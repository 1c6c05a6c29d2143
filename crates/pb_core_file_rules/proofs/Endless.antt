-- One statement more, or one branch more, of what can end.
use Rattle.std.proofs.Common.{◌≡◌, Bool, true, false, ◌||◌, ◌&&◌, if◌then◌else◌, Option, Some, None, List, [], ◌∷◌, ◌++◌, refl, sym, ap, ◌∙◌}
use Rattle.pb_text.specs.declared.place.Place.{Place}
use Rattle.pb_core_file_rules.specs.Lowering.{first, or_first}
use Rattle.pb_core_file_rules.proofs.Firsts.{first_both, or_first_both}

pub and_both : (a b c : Bool) → ((a && b) && c) ≡ (a && (b && c))
and_both true b c = refl
and_both false b c = refl

pub or_both : (a b c : Bool) → ((a || b) || c) ≡ (a || (b || c))
or_both true b c = refl
or_both false b c = refl

pub and_true : (a : Bool) → (a && true) ≡ a
and_true true = refl
and_true false = refl

pub or_false : (a : Bool) → (a || false) ≡ a
or_false true = refl
or_false false = refl

-- the place of a statement, where another follows, and the places in it and behind it
pub free_step : (fine : Bool) (p : Place) (here rest : List Place) (before : Option Place) →
    or_first (or_first before (or_first (if fine then None else Some p) (first here))) (first rest) ≡ or_first before (first ((if fine then [] else p ∷ []) ++ (here ++ rest)))
free_step true p here rest before = or_first_both before (first here) (first rest) ∙ ap (or_first before) (sym (first_both here rest))
free_step false p here rest None = refl
free_step false p here rest (Some q) = refl

pub branch_step : (here rest : List Place) (before : Option Place) → or_first (or_first before (first here)) (first rest) ≡ or_first before (first (here ++ rest))
branch_step here rest before = or_first_both before (first here) (first rest) ∙ ap (or_first before) (sym (first_both here rest))
