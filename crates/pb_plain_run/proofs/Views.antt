-- The flat protocols of values that hold others.
use Rattle.std.proofs.Common.{◌≡◌, ℕ, Box, ap, sym, ◌∙◌}
use Rattle.std.specs.declared.alloc.Global.{Global}
use Rattle.pb_plain.specs.declared.flat.Origin.{Origin}
use Rattle.pb_plain.specs.declared.flat.Collective.{Collective}
use Rattle.pb_plain.specs.declared.flat.Branches.{Branches}
use Rattle.pb_plain.specs.declared.flat.Branches.TheOpen as L
use Rattle.pb_plain.specs.declared.flat.Flat.{Flat, fold-roll-Flat}
use Rattle.pb_plain.specs.declared.flat.Flat.TheVariants.{Message, rolls-Message, Together, rolls-Together, Choice, rolls-Choice}
use Rattle.pb_core_language.specs.Flat as F
use Rattle.pb_plain.specs.View.{view, view_branches, origin_of, collective_of, branches_layer, flat_layer}

pub view_message : (f r : Flat) (o : Origin) (p q l : ℕ) (g : Box Flat Global) → f ≡ Message o p q l g → r ≡ g.value → view f ≡ F.message (origin_of o) p q l (view r)
view_message f r o p q l g e d =
    ap view (e ∙ sym (rolls-Message o p q l g)) ∙ fold-roll-Flat F.Branches F.Block branches_layer flat_layer (L.Message o p q l g)
    ∙ ap (λ x. F.message (origin_of o) p q l (view x)) (sym d)

pub view_together : (f r : Flat) (o : Origin) (j : Collective) (g : Box Flat Global) → f ≡ Together o j g → r ≡ g.value → view f ≡ F.together (origin_of o) (collective_of j) (view r)
view_together f r o j g e d =
    ap view (e ∙ sym (rolls-Together o j g)) ∙ fold-roll-Flat F.Branches F.Block branches_layer flat_layer (L.Together o j g)
    ∙ ap (λ x. F.together (origin_of o) (collective_of j) (view x)) (sym d)

pub view_choice : (f r : Flat) (o : Origin) (p k : ℕ) (cs : Branches) (bs : Box Branches Global) (g : Box Flat Global) → f ≡ Choice o p k bs g → cs ≡ bs.value → r ≡ g.value → view f ≡ F.choice (origin_of o) p k (view_branches cs) (view r)
view_choice f r o p k cs bs g e c d =
    ap view (e ∙ sym (rolls-Choice o p k bs g)) ∙ fold-roll-Flat F.Branches F.Block branches_layer flat_layer (L.Choice o p k bs g)
    ∙ ap (λ x. F.choice (origin_of o) p k (view_branches x) (view g.value)) (sym c) ∙ ap (λ x. F.choice (origin_of o) p k (view_branches cs) (view x)) (sym d)
