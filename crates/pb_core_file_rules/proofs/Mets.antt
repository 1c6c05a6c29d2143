-- Names noted one behind the other.
use Rattle.std.proofs.Common.{◌≡◌, List, ◌++◌, map, sym, ap, ◌∙◌, append_assoc}
use Rattle.std.proofs.lemmas.List.{map-append}
use Rattle.pb_core_file_rules.specs.declared.visits.Met.{Met}
use Rattle.pb_core_language.specs.Names.{Name, Visit}
use Rattle.pb_core_file_rules.specs.Visiting.{met}

pub both : (roles : List Name) (a b : List Visit) → map (met roles) (a ++ b) ≡ map (met roles) a ++ map (met roles) b
both roles a b = map-append (met roles) a b

pub step : (roles : List Name) (a b : List Visit) (out : List Met) → (out ++ map (met roles) a) ++ map (met roles) b ≡ out ++ map (met roles) (a ++ b)
step roles a b out = append_assoc out (map (met roles) a) (map (met roles) b) ∙ ap (λ l. out ++ l) (sym (both roles a b))
