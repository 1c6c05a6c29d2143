use Rattle.std.proofs.Common.{List, subst, sym}
use Rattle.std.specs.List.{All}
use Rattle.std.proofs.lemmas.List.Elements.{All-push}
use Rattle.pb_affine.specs.declared.lin.Lin.{Lin}
use Rattle.pb_cases.specs.Tested.{IsInner}
use Rattle.pb_test_language.proofs.cases_tests.push_cut.Goals as goal

pub returns : goal.returns
returns c = subst (λ (l : List Lin). All IsInner l) (sym c.in_ok-push.ensures.items) (All-push IsInner c.args.list.now.items c.cut_of-cut.result c.requires.old c.cut_of-cut.ensures)
