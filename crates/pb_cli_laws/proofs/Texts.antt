-- A text has no fault, and one program.
use Rattle.std.proofs.Common.{◌≡◌, ℕ, inl, inr, List, refl}
use Rattle.pb_ctree.specs.declared.tree.CTree.{CTree}
use Rattle.pb_cread.specs.Faults.{IsFault}
use Rattle.pb_cread.specs.declared.fault.TextFault.{TextFault}
use Rattle.pb_cread.specs.declared.fault.TextFault.TheVariants as T
use Rattle.pb_cread_unique.specs.Laws.{AreBodies}
use Rattle.pb_cread_unique.proofs.Faults.{no_fault}
use Rattle.pb_cread_unique.proofs.Pairs.{one_text}
use Rattle.pb_cli_status.specs.declared.refusal.Refusal.TheVariants as refusal
use Rattle.pb_cli_simulate.specs.Sources.{IsTextOf}
use Rattle.pb_cli_laws.specs.Laws.{TextHasNoFault, OneTextTree}

module _ (bytes : List ℕ) (tree : CTree) (is : IsTextOf bytes tree) where
  bodies_are : AreBodies is.bodies
  bodies_are = record { prelude = is.prelude; list = is.list }

  only_memory : (f : TextFault) → IsFault bytes f → f ≡ T.NoMemory
  only_memory = no_fault tree is.bodies bytes is.spells bodies_are is.limits

pub text_has_no_fault : TextHasNoFault
text_has_no_fault bytes tree is (refusal.Text place) why = let e = only_memory bytes tree is (T.Unexpected place) why in absurd cc
text_has_no_fault bytes tree is (refusal.Limit limit place) (inl (same, why)) = let e = only_memory bytes tree is (T.TooDeep place) why in absurd cc
text_has_no_fault bytes tree is (refusal.Limit limit place) (inr (same, why)) = let e = only_memory bytes tree is (T.TooMany place) why in absurd cc
text_has_no_fault bytes tree is refusal.NoMemory why = refl
text_has_no_fault bytes tree is other why = absurd why

pub one_text_tree : OneTextTree
one_text_tree bytes t u few a b =
    (one_text t u a.bodies b.bodies bytes few (bodies_are bytes t a) (bodies_are bytes u b) a.spells b.spells).0
