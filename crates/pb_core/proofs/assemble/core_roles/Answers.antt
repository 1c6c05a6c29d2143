use Rattle.std.proofs.Common.{◌≡◌, ℕ, ◌+◌, ◌<◌, List, [], ◌∷◌, ◌++◌, length, drop, get_or, sym, ap, ◌∙◌, append_assoc}
use Rattle.std.proofs.lemmas.List.{append-nil}
use Rattle.std.proofs.Math.ListN.{drop_of_length-le}
use Rattle.pb_syntax.specs.declared.tree.RoleText.{RoleText}
use Rattle.pb_core_language.specs.declared.protocol.CoreRole.{CoreRole}
use Rattle.pb_core_language.specs.Names.{Name}
use Rattle.pb_core_language.specs.Meaning.{role_of, roles_of}
use Rattle.pb_core.proofs.Built.{drop_next}
use Rattle.pb_core.proofs.assemble.core_roles.Goals as goal

role_on : (constant : Name) (rs : List RoleText) (i : ℕ) (r : RoleText) (list new whole : List CoreRole) (made : CoreRole) → i < length rs → r ≡ get_or rs i r → new ≡ list ++ (made ∷ []) → made ≡ role_of constant r →
    list ++ roles_of constant (drop i rs) ≡ whole → new ++ roles_of constant (drop (i + 1) rs) ≡ whole
role_on constant rs i r list new whole made less is pushed one so_far =
    let rest = roles_of constant (drop (i + 1) rs) in
    ap (λ l. l ++ rest) pushed ∙ append_assoc list (made ∷ []) rest ∙ ap (λ m. list ++ (m ∷ rest)) one ∙ sym (ap (λ l. list ++ roles_of constant l) (drop_next rs i r less is)) ∙ so_far

pub loop-role-preserved : goal.loop-role-preserved
loop-role-preserved c =
    role_on c.args.constant.now c.args.roles.now c.loop-role.role-index c.role-item.result c.loop-role.list.items c.push.new.self.items _ c.role_of.result c.loop-role-test.true c.role-item.is c.in_ok-push.ensures.items c.role_of.ensures c.loop-role.invariant

pub returns : goal.returns
returns c = sym (append-nil c.loop-role.list.items) ∙ sym (ap (λ l. c.loop-role.list.items ++ roles_of c.args.constant.now l) (drop_of_length-le c.args.roles.now c.loop-role-test.false)) ∙ c.loop-role.invariant
