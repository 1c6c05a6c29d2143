-- The tables of an accepted file's core are as a text wants them.
use Rattle.std.proofs.Common.{◌≡◌, suc, true, false, ◌&&◌, nat_le, List, [], ◌∷◌, ◌++◌, length, map, refl, sym, ap, subst, arith}
use Rattle.std.proofs.lemmas.Bool.{or_parts, and_parts, leb-true}
use Rattle.pb_syntax.specs.declared.tree.RoleText.{RoleText}
use Rattle.pb_syntax.specs.Tree.{PlainFile}
use Rattle.pb_core_language.specs.Names.{Name, Kind, no_scope, roles_visits, block_visits, visits}
use Rattle.pb_core_language.specs.FileRules.{role_names, labels_in, has_other_kind}
use Rattle.pb_core_language.specs.Meaning.{kernels_in, roles_of, kernels_of, meaning}
use Rattle.pb_core_language.specs.Sound.{is_range, are_roles, is_block, rows_of, is_sound}
use Rattle.pb_core_language.specs.Verdict.{IsAccepted}
use Rattle.pb_parse.specs.Limits.{at_start}
use Rattle.pb_parse_laws.proofs.Sound.{parsed_is_sound}
use Rattle.pb_local.specs.WellMade.{AreRoles}
use Rattle.pb_shape.specs.Places as S
use Rattle.pb_shape.specs.Tabled.{GoAll}
use Rattle.pb_compile_laws.specs.Laws.{FileIsTabled}
use Rattle.pb_compile_laws.proofs.Unbroken.{Unbroken, unbroken}
use Rattle.pb_compile_laws.proofs.Header.{IsWellFile, file_well}
use Rattle.pb_compile_laws.proofs.Words.{fine, named}
use Rattle.pb_compile_laws.proofs.Distinct.{Distinct, are_distinct}
use Rattle.pb_compile_laws.proofs.Labels.{labels_tabled}
use Rattle.pb_compile_laws.proofs.Kernels.{kernels_tabled}
use Rattle.pb_compile_laws.proofs.Payloads.{rows_right}
use Rattle.pb_compile_laws.proofs.OneKind.{Pairs, pairs, pairs_both, of_one_kind, one_both, other_both, other_kernel, none_in, none_after}
use Rattle.pb_compile_laws.proofs.Goes.{go_in}
use Rattle.pb_compile_laws.proofs.Roles.{roles_once, names_are, length_is, each_is, have_indices, sized, ranged}

core_length : (c : Name) (rs : List RoleText) → length (roles_of c rs) ≡ length rs
core_length c [] = refl
core_length c (r ∷ rs) = ap suc (core_length c rs)

module _ (f : PlainFile) (u : Unbroken f) (well : IsWellFile f) (accepted : IsAccepted f) (sound : is_sound (meaning f) ≡ true) where
  all_pairs : Pairs (visits f)
  all_pairs = pairs (role_names f.roles) (visits f) u.one

  few_roles : (nat_le (length (roles_of f.constant.name f.roles)) 64 ≡ true) × ((are_roles (roles_of f.constant.name f.roles) && is_block (rows_of (meaning f)) false [] (meaning f).body.block) ≡ true)
  few_roles = and_parts _ _ (and_parts (is_range (meaning f).range) _ sound).1

  roles_tabled : AreRoles (meaning f).range (map S.role_of (meaning f).roles)
  roles_tabled =
      let c = f.constant.name in
      let parts = and_parts (are_roles (roles_of c f.roles)) _ few_roles.1 in
      let once = roles_once c f.roles (pairs_both (roles_visits c f.roles) (block_visits c no_scope f.body.list) all_pairs.1.1).0 in
      record {
        some = omega (arith, length_is c f.roles, well.some);
        most = omega (arith, length_is c f.roles, core_length c f.roles, leb-true _ 64 few_roles.0);
        distinct = are_distinct _ (subst Distinct (sym (names_are c f.roles)) once);
        each = each_is (meaning f).range c 0 f.roles well.roles parts.0 (have_indices (meaning f) accepted.keeps);
        size = sized f u.five;
      }

  rows_of_kernels : (x : Name) (k : Kind) → has_other_kind x k (visits f) ≡ false → other_kernel x k (kernels_of f) ≡ false
  rows_of_kernels x k h =
      let c = f.constant.name in
      let names = (or_parts _ (has_other_kind x k (roles_visits c f.roles ++ block_visits c no_scope f.body.list)) (or_parts _ _ h).1).1 in
      none_after x k [] (kernels_in f.body.list) refl (none_in x k c no_scope f.body.list (other_both x k (roles_visits c f.roles) (block_visits c no_scope f.body.list) names).1)

  body_tabled : GoAll (meaning f) (meaning f).body.block
  body_tabled =
      let c = f.constant.name in
      go_in (meaning f) c (role_names f.roles) (visits f) rows_of_kernels false [] no_scope [] 0 1 f.body.list well.body (rows_right [] [] (labels_in f.body.list) (λ x p. refl) u.two)
      (one_both (visits f) (roles_visits c f.roles) (block_visits c no_scope f.body.list) (of_one_kind (visits f) all_pairs).1.1).1 (and_parts (are_roles (roles_of c f.roles)) _ few_roles.1).1

pub file_is_tabled : FileIsTabled
file_is_tabled bytes f text accepted =
    let w = file_well text.0 f text.2.0 (fine at_start text.1.1 text.2.1) in
    let u = unbroken f accepted.earlier in
    let sound = parsed_is_sound bytes f text accepted.earlier in
    record {
      protocol = named f.protocol.name w.0.protocol;
      range = ranged f u.five w.0.low w.0.high;
      roles = roles_tabled f u w.0 accepted sound;
      labels = labels_tabled f.body.list w.0.body w.1;
      kernels = kernels_tabled f.body.list w.0.body w.1;
      body = body_tabled f u w.0 accepted sound;
    }
