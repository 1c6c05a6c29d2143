use Rattle.std.proofs.Common.{◌≡◌, drop, map, nat_eq}
use Rattle.std.specs.Cmp.Lexicographic.{pointwise}
use Rattle.std.specs.List.{list_any}
use Rattle.pb_text.specs.Spellings.{key_spelling}
use Rattle.pb_cread_rows.proofs.names.is_one_of.Given as goal

abbrev pub invariant-loop-key : goal.invariant-loop-key
invariant-loop-key l = list_any (λ k. pointwise nat_eq k l.word) (map key_spelling (drop l.key-index l.keys)) ≡ list_any (λ k. pointwise nat_eq k l.word) (map key_spelling l.keys)
