-- The laws on worked texts: a program that is well made, and programs that aren't.
use Rattle.std.proofs.Common.{◌≡◌, ℤ, pos, negsuc, true, false, List, [], ◌∷◌, Some, None, codes, refl}
use Rattle.pb_text.specs.Spellings as spellings
use Rattle.pb_affine.specs.declared.lin.Base.TheVariants.{Fixed, Param}
use Rattle.pb_affine.specs.declared.lin.Lin.{Lin}
use Rattle.pb_affine.specs.declared.range.NRange.{NRange}
use Rattle.pb_syntax.specs.declared.tree.Payload.TheVariants.{Unit as NoWords}
use Rattle.pb_local.specs.Tree.{Code, when, loop, again, send, codes_of, nothing, Program}
use Rattle.pb_local.specs.WellMade.{IsWellMade}
use Rattle.pb_ctree.specs.Bodies.{is_body}
use Rattle.pb_ctree.specs.Frame.{text_lines}
use Rattle.pb_ctree.specs.Texts.{all_kept}
use Rattle.pb_ctree_laws.specs.Laws.{HasNoMarker}
use Rattle.pb_ctree_laws.proofs.Texts.{kept_well_made, clear_kept}
use Rattle.std.proofs.lemmas.List.Elements.{All-nil}

abbrev fixed : ℤ → Lin
fixed n = record { base = Fixed; off = n }

abbrev param : ℤ → Lin
param n = record { base = Param; off = n }

-- a role from 0 up to an end, over a range of N, with a list of statements
abbrev with_role : NRange → Lin → List Code → Program
with_role range high body = record {
  protocol = codes "P";
  range = range;
  roles = record { name = codes "W"; low = fixed (pos 0); high = high } ∷ [];
  labels = record { name = codes "A"; payload = NoWords } ∷ [];
  kernels = [];
  body = codes_of body;
}

abbrev from_two : NRange
from_two = record { low = 2; high = None }

abbrev first_rank : Code → Code
first_rank c = when (record { role = 0; low = Some (fixed (pos 0)); high = Some (fixed (pos 0)); from = None; to = None } ∷ []) (codes_of (c ∷ [])) nothing

abbrev to_last : Code
to_last = send 0 (record { role = 0; at = param (negsuc 0) })

abbrev sends_for_ever : Program
sends_for_ever = with_role from_two (param (negsuc 0)) (first_rank (loop 0 (codes_of (to_last ∷ again 0 ∷ []))) ∷ [])

well_made : IsWellMade sends_for_ever
unfolding spellings.keys
well_made = kept_well_made sends_for_ever [] [] refl

-- what some line says no to isn't well made
ill_made : (p : Program) → all_kept (text_lines p [] []) ≡ false → IsWellMade p → ⊥
ill_made p refused made =
    let yes : all_kept (text_lines p [] []) ≡ true = clear_kept p [] [] (All-nil _) (All-nil HasNoMarker) made in
    cc

-- a loop with the number of another
other_number : IsWellMade (with_role from_two (param (negsuc 0)) (first_rank (loop 1 (codes_of (to_last ∷ again 1 ∷ []))) ∷ [])) → ⊥
unfolding spellings.keys
other_number = ill_made _ refl

-- back to a loop that isn't around
no_loop : IsWellMade (with_role from_two (param (negsuc 0)) (first_rank (again 0) ∷ [])) → ⊥
unfolding spellings.keys
no_loop = ill_made _ refl

-- each N has a world of the same size
no_size : IsWellMade (with_role from_two (fixed (pos 3)) []) → ⊥
unfolding spellings.keys
no_size = ill_made _ refl

-- no index at N = 2
no_index : IsWellMade (with_role from_two (param (negsuc 2)) []) → ⊥
unfolding spellings.keys
no_index = ill_made _ refl

-- bodies of kernels
plain_body : is_body (codes "  x = 1;\n  /*@ is no marker here */\n") ≡ true
plain_body = refl

open_body : is_body (codes "  x = 1;") ≡ false
open_body = refl

marked_body : is_body (codes "  x = 1;\n/*@ end */\n") ≡ false
marked_body = refl
