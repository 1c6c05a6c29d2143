use Rattle.std.proofs.Common.{rules}
use Rattle.pb_test_program.proofs.Weaker.{says}
use Rattle.pb_test_program.specs.Answers.{IsListed}
use Rattle.pb_test_program.proofs.stored.simulate_by_list.Goals as goal

pub returns : goal.returns
returns g c =
    says _ (IsListed c.args.words.now) (λ r k word is. search rules) _ _ _ _ _ _ _ _ _ c.simulate_tree.ensures.told
