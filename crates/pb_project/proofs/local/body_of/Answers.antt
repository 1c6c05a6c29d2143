use Rattle.std.proofs.Common.{◌≡◌, ℕ, ℤ, true, List, [], length, ap, ◌∙◌, subst}
use Rattle.std.specs.List.{All}
use Rattle.pb_affine.specs.declared.lin.Lin.{Lin}
use Rattle.pb_part_areas.specs.Areas.{have}
use Rattle.pb_part_areas.specs.Fits.{Fits}
use Rattle.pb_cases.specs.Breakpoints.{IsInRange}
use Rattle.pb_core_language.specs.Cuts.{role_cuts}
use Rattle.pb_core_language.specs.Plain.{plain}
use Rattle.pb_core_language.specs.Sound.{are_roles}
use Rattle.pb_core_flat.specs.Seated.{is_rank}
use Rattle.pb_local.specs.Tree.{plain_all}
use Rattle.pb_part_takers.specs.Pieces.{AreAmong}
use Rattle.pb_project.specs.Blocks.{known, IsBlockOf}
use Rattle.pb_project.proofs.local.body_of.Goals as goal

pub returns : goal.returns
returns c =
    let p = plain c.args.core.now in
    let whole = c.in_ok-whole.whole.items in
    record {
      whole = whole;
      is = subst (λ rs. (n : ℤ) (role : ℕ) (x : ℤ) → are_roles rs ≡ true → IsInRange p.range n → have whole n role x ≡ is_rank rs n role x) c.deref.ensures.value c.in_ok-whole.ensures.is;
      fits = subst (λ rs. (cuts : List Lin) → are_roles rs ≡ true → AreAmong (role_cuts rs) cuts → All (Fits p.range cuts) whole) c.deref.ensures.value c.in_ok-whole.ensures.fits;
      loops = c.block_of.new.count;
      block = subst (λ w. IsBlockOf (known p.range (length p.roles) w [] []) 0 c.block_of.new.count p.body.block (plain_all c.in_ok-body.body.items)) c.deref-3.ensures.value
          (subst (λ r. IsBlockOf (known p.range r c.deref-3.result.now [] []) 0 c.block_of.new.count p.body.block (plain_all c.in_ok-body.body.items)) (c.count_of.ensures ∙ ap length c.deref-2.ensures.value) c.in_ok-body.ensures);
    }
