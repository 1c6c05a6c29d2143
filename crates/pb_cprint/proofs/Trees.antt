-- What a well-made tree says of its numbers, and how long a text is before main.
use Rattle.std.proofs.Common.{◌≡◌, ℕ, suc, ◌+◌, ◌≤◌, List, [], ◌∷◌, ◌++◌, map, length, refl, ap, sym, ◌∙◌, arith}
use Rattle.std.proofs.lemmas.List.{length-append, length-map}
use Rattle.pb_local.specs.declared.tables.Role.{Role}
use Rattle.pb_local.specs.Ranks.{Sum, no_ranks, with_role, ranks_of, bases_with, bases_of, places_with, places_of}
use Rattle.pb_local.specs.Tree.{Program, program_of}
use Rattle.pb_ctree.specs.declared.tree.CTree.{CTree}
use Rattle.pb_ctree.specs.declared.body.Bodies.{Bodies}
use Rattle.pb_ctree.specs.Functions.{functions_of}
use Rattle.pb_ctree.specs.Texts.{Spells, text}
use Rattle.pb_ctree.specs.Trees.{sum_of, IsTree}
use Rattle.pb_cprint.specs.Framed.{title, protocol_line, range_line, roles_written, labels_written, buffers_written, head_written, prelude_written, numbers_written, functions_written, before_main, main_written, text_written}
use Rattle.pb_cprint.proofs.Frames.{text_same}

length-places : (f : Sum) (rs : List Role) → length (places_with f rs) ≡ length rs
length-places f [] = refl
length-places f (r ∷ rs) = ap suc (length-places (with_role f r) rs)

length-bases : (f : Sum) (rs : List Role) → length (bases_with f rs) ≡ length rs
length-bases f [] = refl
length-bases f (r ∷ rs) = ap suc (length-bases (with_role f r) rs)

pub places_many : (tree : CTree) → IsTree tree → length tree.places.items ≡ length tree.local.roles.items
places_many tree is = sym (length-map tree.places.items sum_of) ∙ ap length is.places ∙ length-places no_ranks tree.local.roles.items

pub seats_many : (tree : CTree) → IsTree tree → length tree.places.items ≡ length tree.bases.items
seats_many tree is = places_many tree is ∙ sym (sym (length-map tree.bases.items sum_of) ∙ ap length is.bases ∙ length-bases no_ranks tree.local.roles.items)

pub places_are : (tree : CTree) → IsTree tree → map sum_of tree.places.items ≡ places_of tree.local.roles.items
places_are tree is = is.places

pub bases_are : (tree : CTree) → IsTree tree → map sum_of tree.bases.items ≡ bases_of tree.local.roles.items
bases_are tree is = is.bases

pub size_are : (tree : CTree) → IsTree tree → sum_of tree.size ≡ ranks_of tree.local.roles.items
size_are tree is = is.size

pub few_labels : (tree : CTree) → IsTree tree → length tree.local.labels.items ≤ 4000
few_labels tree is = is.made.labels.most

pub few_kernels : (tree : CTree) → IsTree tree → length tree.local.kernels.items ≤ 4000
few_kernels tree is = is.made.kernels.most

front_long : (a b : List ℕ) → 3 ≤ length a → 3 ≤ length (a ++ b)
front_long a b long = omega (arith, long, length-append a b)

title_long : 3 ≤ length title
unfolding title
title_long = omega arith

head_long : (p : Program) → 3 ≤ length (head_written p)
unfolding head_written
head_long p =
    front_long _ buffers_written (front_long _ (labels_written p.labels) (front_long _ (roles_written p.roles) (front_long _ (range_line p.range) (front_long title (protocol_line p.protocol) title_long))))

before_long : (p : Program) (prelude : List ℕ) (bodies : List (List ℕ)) → 3 ≤ length (before_main p prelude bodies)
unfolding before_main
before_long p prelude bodies =
    front_long _ (functions_written p bodies) (front_long _ (numbers_written p.roles (places_of p.roles)) (front_long (head_written p) (prelude_written prelude) (head_long p)))

pub behind_long : (p : Program) (prelude : List ℕ) (bodies : List (List ℕ)) (old now : List ℕ) → now ≡ old ++ before_main p prelude bodies → 3 ≤ length now
behind_long p prelude bodies old now is = omega (arith, ap length is, length-append old (before_main p prelude bodies), before_long p prelude bodies)

pub spells : (tree : CTree) (bodies : Bodies) (none before now : List ℕ) → IsTree tree → length bodies.list.items ≡ length (functions_of (program_of tree.local)) → none ≡ []
    → before ≡ none ++ before_main (program_of tree.local) bodies.prelude bodies.list.items → now ≡ before ++ main_written (program_of tree.local) → Spells tree bodies now
spells tree bodies none before now made many none_is first last =
    let p = program_of tree.local in
    let b = before_main p bodies.prelude bodies.list.items in
    record {
      made = made;
      many = many;
      text = last ∙ ap (λ w. w ++ main_written p) (first ∙ ap (λ w. w ++ b) none_is) ∙ sym (text_same p bodies.prelude bodies.list.items);
    }
