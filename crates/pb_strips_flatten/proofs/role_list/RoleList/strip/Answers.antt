use Rattle.std.proofs.Common.{◌≡◌, ◌∙◌, [], ◌∷◌, ◌++◌, ap, subst, arith}
use Rattle.std.proofs.lemmas.Result.{err_from_is_err_and}
use Rattle.pb_text.specs.declared.place.Spot.{Spot}
use Rattle.pb_strips_syntax.specs.Columns.{numbers}
use Rattle.pb_strips_syntax.specs.Flattening.{column_roles, column_spot}
use Rattle.pb_syntax.specs.declared.tree.RoleText.{RoleText}
use Rattle.pb_strips_flatten.specs.RoleEnds.{Fit, RolesStop}
use Rattle.pb_strips_flatten.proofs.Fitting.{spot_stops, column_unrolled, roles_stop, roles_go_on}
use Rattle.pb_strips_flatten.proofs.role_list.RoleList.strip.Goals as goal

pub returns-in_err-column_spot : goal.returns-in_err-column_spot
returns-in_err-column_spot c =
    let p = err_from_is_err_and c.from_residual.result c.from_residual.ensures.1 in
    rw (p.1, p.2) (spot_stops c.in_err-column_spot.field-0.0 c.args.role.now c.loop-column.column c.args.high _ _ (omega (arith, c.loop-column-test.true, c.from-column-end.ensures)) c.in_err-column_spot.ensures)

pub returns-in_err-push : goal.returns-in_err-push
returns-in_err-push c =
    let p = err_from_is_err_and c.from_residual-in_err-push.result c.from_residual-in_err-push.ensures.1 in
    let role : RoleText = record { role = column_spot c.args.role.now c.loop-column.column; range = c.args.rows.now } in
    let same : c.role_with.result ≡ role = c.role_with.ensures ∙ ap (λ (s : Spot). record { role = s; range = c.args.rows.now }) c.in_ok-column_spot.ensures in
    rw (p.1, p.2) (roles_stop c.in_err-push.field-0.0 c.args.self.now.list.items (column_roles c.args.role.now c.args.rows.now (numbers c.args.low c.args.high)) c.loop-column.self.list.items _ (role ∷ []) _ (Fit c.args.role.now c.args.high) (Unit {0})
    (column_unrolled c.args.role.now c.args.rows.now c.loop-column.column c.args.high (omega (arith, c.loop-column-test.true, c.from-column-end.ensures))) c.loop-column.invariant (λ f. tt)
    (subst (λ (r : RoleText). RolesStop c.in_err-push.field-0.0 (r ∷ []) (Unit {0}) c.loop-column.self.list.items) same c.in_err-push.ensures))

pub loop-column-preserved : goal.loop-column-preserved
loop-column-preserved c =
    let role : RoleText = record { role = column_spot c.args.role.now c.loop-column.column; range = c.args.rows.now } in
    let same : c.role_with.result ≡ role = c.role_with.ensures ∙ ap (λ (s : Spot). record { role = s; range = c.args.rows.now }) c.in_ok-column_spot.ensures in
    roles_go_on c.args.self.now.list.items (column_roles c.args.role.now c.args.rows.now (numbers c.args.low c.args.high)) c.loop-column.self.list.items c.push.new.self.list.items _ (role ∷ []) _
    (column_unrolled c.args.role.now c.args.rows.now c.loop-column.column c.args.high (omega (arith, c.loop-column-test.true, c.from-column-end.ensures)))
    (c.in_ok-push.ensures ∙ ap (λ (r : RoleText). c.loop-column.self.list.items ++ r ∷ []) same) c.loop-column.invariant
