-- Which fault a file has, from its rules one by one.
use Rattle.std.proofs.Common.{◌≡◌, ◌<◌, Option, List, [], ◌∷◌, length, map, refl, sym, ap, ◌∙◌, arith}
use Rattle.pb_text.specs.declared.place.Place.{Place}
use Rattle.pb_syntax.specs.Tree.{PlainStatements}
use Rattle.pb_syntax.specs.declared.core_label.CoreKernel.{CoreKernel}
use Rattle.pb_core_file_rules.specs.declared.labels.Labelled as L
use Rattle.pb_core_file_rules.specs.declared.visits.Met.{Met}
use Rattle.pb_core_file_rules.specs.declared.scope.Around.{fold-roll-Around}
use Rattle.pb_core_file_rules.specs.declared.scope.Around.TheVariants.{Nothing, rolls-Nothing}
use Rattle.pb_core_file_rules.specs.declared.scope.Around.TheOpen as A
use Rattle.pb_core_language.specs.Names.{Name, Visit}
use Rattle.pb_core_language.specs.FileRules.{labels_in, misnamed}
use Rattle.pb_core_language.specs.Meaning.{kernels_in, stmts_in}
use Rattle.pb_core_file_rules.specs.Lowering.{first, names_of, around_layer}
use Rattle.pb_core_file_rules.specs.Tables.{labelled_of}
use Rattle.pb_core_file_rules.specs.Visiting.{met, wrong_behind}
use Rattle.pb_core.proofs.Few.{labels_few, kernels_few}
use Rattle.pb_core_file_rules.proofs.RuleOne as One

length_map : {A B : Type 0} (f : A → B) (xs : List A) → length (map f xs) ≡ length xs
length_map f [] = refl
length_map f (x ∷ xs) = let e : length (map f xs) ≡ length xs = length_map f xs in omega (arith, e)

pub few_met : (roles : List Name) (vs : List Visit) (list : List Met) → list ≡ map (met roles) vs → length vs < 4294967295 → length list < 4294967295
few_met roles vs list e h = let n : length list ≡ length vs = ap length e ∙ length_map (met roles) vs in omega (arith, n, h)

pub right_found : (roles : List Name) (vs : List Visit) (list : List Met) (found : Option Place) → found ≡ first (wrong_behind [] list) → list ≡ map (met roles) vs → found ≡ first (misnamed roles [] vs)
right_found roles vs list found f e = f ∙ ap (λ l. first (wrong_behind [] l)) e ∙ One.first_misnamed roles vs

pub few_labels : (b : PlainStatements) (list : List L.Labelled) → map labelled_of list ≡ labels_in b → stmts_in b < 4294967295 → length list < 4294967295
few_labels b list e h = let n : length list ≡ length (labels_in b) = sym (length_map labelled_of list) ∙ ap length e in let m = labels_few b in omega (arith, n, m, h)

pub few_kernels : (b : PlainStatements) (list : List CoreKernel) → list ≡ kernels_in b → stmts_in b < 4294967295 → length list < 4294967295
few_kernels b list e h = let n : length list ≡ length (kernels_in b) = ap length e in let m = kernels_few b in omega (arith, n, m, h)

pub around_nothing : names_of Nothing ≡ []
around_nothing = ap names_of (sym rolls-Nothing) ∙ fold-roll-Around (List Name) around_layer A.Nothing
