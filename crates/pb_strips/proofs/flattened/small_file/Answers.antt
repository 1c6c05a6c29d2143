use Rattle.std.proofs.Common.{◌≡◌, None, List, sym, subst}
use Rattle.pb_strips_syntax.specs.declared.tree.StripRole.{StripRole}
use Rattle.pb_strips_syntax.specs.Plain.{plain_file}
use Rattle.pb_strips_flatten.specs.Halts.{AreNarrow, role_excess}
use Rattle.pb_strips.proofs.Named.{are_narrow, all_named}
use Rattle.pb_strips.proofs.flattened.small_file.Goals as goal

pub flat_roles-requires : goal.flat_roles-requires
flat_roles-requires c = subst (λ (rs : List StripRole). AreNarrow rs) (sym c.deref.ensures.value) (are_narrow c.args.strips.now.roles.items c.requires.narrow)

pub flat_body-requires : goal.flat_body-requires
flat_body-requires c =
    all_named (plain_file c.args.strips.now) c.requires (subst (λ (rs : List StripRole). role_excess rs ≡ None) c.deref.ensures.value c.in_ok-roles.ensures.few)
