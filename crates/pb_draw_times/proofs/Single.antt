-- No two actions have one mate.
use Rattle.std.proofs.Common.{◌≡◌, ℕ, List, Option, Some, None, refl, sym, ap, ◌∙◌}
use Rattle.pb_draw_log.specs.declared.entry.Entry.{Entry}
use Rattle.pb_draw_times.specs.Pairs.{link, ArePairs, AreSingle, IsPair}

abbrev number_or : ℕ → Option ℕ → ℕ
number_or n None = n
number_or n (Some m) = m

pub single : (entries : List Entry) (mates : List (Option ℕ)) → ArePairs entries mates → AreSingle mates
single entries mates pairs = λ one two other a b.
    let p : link mates other ≡ Some one = (pairs one other a).back in
    let q : link mates other ≡ Some two = (pairs two other b).back in
    ap (number_or one) (sym p ∙ q)
