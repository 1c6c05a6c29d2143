-- What the program holds while it goes through a file: the first place of a list, and the names that are in scope.
use Rattle.std.specs.Prelude.{◌≡◌, ℕ, ◌+◌, ◌<◌, ◌^◌, Option, Some, None, List, [], ◌∷◌, length, ◌-◌}
use Rattle.pb_text.specs.declared.place.Place.{Place}
use Rattle.pb_syntax.specs.Tree.{PlainFile}
use Rattle.pb_core_file_rules.specs.declared.scope.Around.{Around, Around-F, fold-Around}
use Rattle.pb_core_file_rules.specs.declared.scope.Around.TheOpen as L
use Rattle.pb_core_language.specs.declared.fault.LowerFault.{LowerFault}
use Rattle.pb_core_language.specs.declared.fault.LowerFault.TheVariants.{Broken, NoMemory}
use Rattle.pb_core_language.specs.Names.{Name, visits}
use Rattle.pb_core_language.specs.FileRules.{broken_3, broken_4, broken_5, first_or}
use Rattle.pb_core_language.specs.Meaning.{stmts_in, blocks_in}

-- What is counted in a file has a number of 32 bits.
pub record IsCountable (f : PlainFile) : Type 0 where
  pub statements : stmts_in f.body.list < 2 ^ 32 - 1
  pub blocks : 1 + blocks_in f.body.list < 2 ^ 32
  pub roles : length f.roles < 2 ^ 32
  pub names : length (visits f) < 2 ^ 32 - 1

abbrev pub first : List Place → Option Place
first [] = None
first (p ∷ ps) = Some p

abbrev pub or_first : Option Place → Option Place → Option Place
or_first None later = later
or_first (Some p) later = Some p

abbrev pub around_layer : Around-F (List Name) → List Name
around_layer L.Nothing = []
around_layer (L.Inside x rest) = x ∷ rest.now

-- the innermost first
abbrev pub names_of : Around → List Name
names_of = fold-Around (List Name) around_layer

-- this rule is broken here, or memory ran out
abbrev pub IsFault : Option (ℕ × Place) → LowerFault → Type 0
IsFault found (Broken rule place) = found ≡ Some (rule, place)
IsFault found NoMemory = Unit {0}

abbrev pub Finds : ℕ → Option Place → LowerFault → Type 0
Finds k found (Broken rule place) = (rule ≡ k) × (found ≡ Some place)
Finds k found NoMemory = Unit {0}

-- the rule with this number is broken, first here, or memory ran out
abbrev pub Breaks : ℕ → List Place → LowerFault → Type 0
Breaks k places e = Finds k (first places) e

-- the least of the rules 3 to 5 that is broken
abbrev pub broken_from_3 : PlainFile → Option (ℕ × Place)
broken_from_3 f = first_or 3 (broken_3 f) (first_or 4 (broken_4 f) (first_or 5 (broken_5 f) None))
