use Rattle.std.proofs.Common.{not, nat_eq, rules, tests}
use Rattle.std.specs.Cmp.Lexicographic.{pointwise}
use Rattle.std.specs.String.{string_bytes}
use Rattle.pb_renew_store.proofs.Retained.{filtered_by}
use Rattle.pb_renew_store.proofs.mem_files.take_away.Goals as goal

pub returns : goal.returns
returns c = filtered_by _ (λ file. not (pointwise nat_eq (string_bytes file.name) c.args.name.now)) _ (λ x b after called. search (rules, tests)) _ _ c.retain.ensures.filtered
