-- Lists that are made part by part.
use Rattle.std.proofs.Common.{◌≡◌, ℕ, List, [], ◌++◌, map, length, append_assoc, ap, sym, ◌∙◌}
use Rattle.std.proofs.lemmas.List.{length-map}
use Rattle.pb_core_language.specs.Ranks as R
use Rattle.pb_core_language.specs.Ranks.{seat_at}
use Rattle.pb_core_language.specs.Tree.{Mark}
use Rattle.pb_core_language.specs.Flat.{Block}
use Rattle.pb_core_language.specs.Lists.{over_below}
use Rattle.pb_core_language.specs.Rules.{Breach, nobody, somebody, ranked, each_origin, strays, loners, deserted, misfits, receives_only, keeps_source, keeps_labels}
use Rattle.pb_plain.specs.declared.flat.Seat.{Seat}
use Rattle.pb_plain.specs.View.{seat_of}
use Rattle.pb_plain_rules.specs.Breaches.{all_broken}

seat_count : (xs : List Seat) → length xs ≡ length (map seat_of xs)
seat_count xs = sym (length-map xs seat_of)

-- what stands before a part and the rest
before : (all o p a rest : List Breach) → all ≡ p ++ rest → p ≡ o ++ a → all ≡ o ++ (a ++ rest)
before all o p a rest e f = e ∙ ap (λ y. y ++ rest) f ∙ append_assoc o a rest

seven : (a b c d e f g o1 o2 o3 o4 o5 o6 o7 : List Breach) → o1 ≡ a → o2 ≡ o1 ++ b → o3 ≡ o2 ++ c → o4 ≡ o3 ++ d → o5 ≡ o4 ++ e → o6 ≡ o5 ++ f → o7 ≡ o6 ++ g →
    o7 ≡ a ++ (b ++ (c ++ (d ++ (e ++ (f ++ g)))))
seven a b c d e f g o1 o2 o3 o4 o5 o6 o7 h1 h2 h3 h4 h5 h6 h7 =
    let k6 : o7 ≡ o5 ++ (f ++ g) = before o7 o5 o6 f g h7 h6 in
    let k5 : o7 ≡ o4 ++ (e ++ (f ++ g)) = before o7 o4 o5 e (f ++ g) k6 h5 in
    let k4 : o7 ≡ o3 ++ (d ++ (e ++ (f ++ g))) = before o7 o3 o4 d (e ++ (f ++ g)) k5 h4 in
    let k3 : o7 ≡ o2 ++ (c ++ (d ++ (e ++ (f ++ g)))) = before o7 o2 o3 c (d ++ (e ++ (f ++ g))) k4 h3 in
    let k2 : o7 ≡ o1 ++ (b ++ (c ++ (d ++ (e ++ (f ++ g))))) = before o7 o1 o2 b (c ++ (d ++ (e ++ (f ++ g)))) k3 h2 in
    k2 ∙ ap (λ y. y ++ (b ++ (c ++ (d ++ (e ++ (f ++ g)))))) h1

pub all_parts : (T : ℕ) (empty : List Mark) (ranks : List Seat) (b : Block) (o1 o2 o3 o4 o5 o6 o7 : List Breach) → T ≡ length ranks →
    o1 ≡ map (nobody 6) empty →
    o2 ≡ o1 ++ map (somebody 7) (each_origin (strays (map seat_of ranks)) b) →
    o3 ≡ o2 ++ map (somebody 8) (each_origin loners b) →
    o4 ≡ o3 ++ map (nobody 9) (deserted T [] b) →
    o5 ≡ o4 ++ over_below (length ranks) (λ r. map (ranked 10 (seat_at r (map seat_of ranks))) (misfits receives_only [] r b)) →
    o6 ≡ o5 ++ over_below (length ranks) (λ r. map (ranked 11 (seat_at r (map seat_of ranks))) (misfits keeps_source [] r b)) →
    o7 ≡ o6 ++ over_below (length ranks) (λ r. map (ranked 12 (seat_at r (map seat_of ranks))) (misfits keeps_labels [] r b)) →
    o7 ≡ all_broken empty (map seat_of ranks) b
all_parts T empty ranks b o1 o2 o3 o4 o5 o6 o7 same h1 h2 h3 h4 h5 h6 h7 =
    seven _ _ _ _ _ _ _ o1 o2 o3 o4 o5 o6 o7 h1 h2 h3
    (h4 ∙ ap (λ n. o3 ++ map (nobody 9) (deserted n [] b)) (same ∙ seat_count ranks))
    (h5 ∙ ap (λ n. o4 ++ over_below n (λ r. map (ranked 10 (seat_at r (map seat_of ranks))) (misfits receives_only [] r b))) (seat_count ranks))
    (h6 ∙ ap (λ n. o5 ++ over_below n (λ r. map (ranked 11 (seat_at r (map seat_of ranks))) (misfits keeps_source [] r b))) (seat_count ranks))
    (h7 ∙ ap (λ n. o6 ++ over_below n (λ r. map (ranked 12 (seat_at r (map seat_of ranks))) (misfits keeps_labels [] r b))) (seat_count ranks))

pub same_parts : (empty roles : List Mark) (ranks seats : List R.Seat) (b flat : Block) → empty ≡ roles → ranks ≡ seats → b ≡ flat → all_broken empty ranks b ≡ all_broken roles seats flat
same_parts empty roles ranks seats b flat h1 h2 h3 = ap (λ x. all_broken x ranks b) h1 ∙ ap (λ x. all_broken roles x b) h2 ∙ ap (λ x. all_broken roles seats x) h3
