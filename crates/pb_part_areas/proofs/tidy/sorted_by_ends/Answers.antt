use Rattle.std.proofs.lemmas.List.Sorted.{All-permutation}
use Rattle.pb_part_areas.specs.Fits.{Fits}
use Rattle.pb_part_areas.proofs.Chains.{reordered}
use Rattle.pb_part_areas.proofs.tidy.sorted_by_ends.Goals as goal

pub returns-clause-is : goal.returns-clause-is
returns-clause-is c = λ n role x. reordered c.args.list.items c.sort_unstable_by_key.new.self.items c.sort_unstable_by_key.ensures.permutation n role x

pub returns-clause-fits : goal.returns-clause-fits
returns-clause-fits c = λ range cuts h. All-permutation (Fits range cuts) c.args.list.items c.sort_unstable_by_key.new.self.items c.sort_unstable_by_key.ensures.permutation h
