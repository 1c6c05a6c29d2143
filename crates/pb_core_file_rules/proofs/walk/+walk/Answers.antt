use Rattle.std.proofs.Common.{map, refl, sym}
use Rattle.std.proofs.lemmas.List.{append-nil}
use Rattle.pb_syntax.specs.Plain.{plain_statement, plain_block}
use Rattle.pb_syntax.specs.Tree.{statements_of, branches_of}
use Rattle.pb_core_language.specs.FileRules.{role_names}
use Rattle.pb_core_language.specs.Names.{a_label, a_compute_kernel, a_choice_kernel, a_loop, a_variable, bound, mentioned, with_variable, with_loop, range_visits, end_visits, stmt_visits, block_visits, branches_visits}
use Rattle.pb_core_file_rules.specs.Visiting.{met, scope_of}
use Rattle.pb_core_file_rules.proofs.Loops.{adds, added}
use Rattle.pb_core_file_rules.proofs.Mets.{both}
use Rattle.pb_core_file_rules.proofs.Plains.{names_inside, plain_message, plain_foreach, plain_loop, plain_again, plain_choice, plain_compute, plain_barrier, plain_broadcast, plain_reduce, plain_allreduce}
use Rattle.pb_core_file_rules.proofs.Noting.{name_then, name_and_both}
use Rattle.pb_core_file_rules.proofs.walk.+walk.Goals as goal

pub add_visits_in-loop-statement-preserved : goal.add_visits_in-loop-statement-preserved
add_visits_in-loop-statement-preserved t c =
    let roles = role_names c.args.declared.now.roles.now in
    let constant = c.args.declared.now.constant.now in
    let scope = scope_of c.args.scope.now in
    adds (λ ss. map (met roles) (block_visits constant scope (statements_of (map plain_statement ss)))) c.deref-statement-items.result.now c.loop-statement.statement-index c.statement-item.result (map (met roles) (stmt_visits constant scope (plain_statement c.statement-item.result))) c.loop-statement.out.items c.add_visits_at.new.out.items _ c.loop-statement-test.true c.statement-item.is (both roles _ _) c.in_ok-add_visits_at.ensures c.loop-statement.invariant

pub add_visits_in-returns : goal.add_visits_in-returns
add_visits_in-returns t c =
    let roles = role_names c.args.declared.now.roles.now in
    added (λ ss. map (met roles) (block_visits c.args.declared.now.constant.now (scope_of c.args.scope.now) (statements_of (map plain_statement ss)))) c.deref-statement-items.result.now c.loop-statement.statement-index c.loop-statement.out.items _ refl c.loop-statement-test.false c.loop-statement.invariant

pub add_visits_among-loop-branch-preserved : goal.add_visits_among-loop-branch-preserved
add_visits_among-loop-branch-preserved t c =
    let roles = role_names c.args.declared.now.roles.now in
    let constant = c.args.declared.now.constant.now in
    let scope = scope_of c.args.scope.now in
    adds (λ bs. map (met roles) (branches_visits constant scope (branches_of (map plain_block bs)))) c.args.branches.now c.loop-branch.branch-index c.branch-item.result (map (met roles) (block_visits constant scope (plain_block c.branch-item.result).list)) c.loop-branch.out.items c.add_visits_in.new.out.items _ c.loop-branch-test.true c.branch-item.is (both roles _ _) c.in_ok-add_visits_in.ensures c.loop-branch.invariant

pub add_visits_among-returns : goal.add_visits_among-returns
add_visits_among-returns t c =
    let roles = role_names c.args.declared.now.roles.now in
    added (λ bs. map (met roles) (branches_visits c.args.declared.now.constant.now (scope_of c.args.scope.now) (branches_of (map plain_block bs)))) c.args.branches.now c.loop-branch.branch-index c.loop-branch.out.items _ refl c.loop-branch-test.false c.loop-branch.invariant

pub add_visits_at-returns-in-Message : goal.add_visits_at-returns-in-Message
add_visits_at-returns-in-Message t c = rw (plain_message c.args.statement.now _ _ _ _ c.in-Message.is) c.add_message.ensures

pub add_visits_at-returns-in_ok-add_range-in-Foreach : goal.add_visits_at-returns-in_ok-add_range-in-Foreach
add_visits_at-returns-in_ok-add_range-in-Foreach t c =
    let constant = c.args.declared.now.constant.now in
    let scope = scope_of c.args.scope.now in
    let x = c.in-Foreach.var in
    let inside = rw names_inside at c.add_visits_in.ensures in
    rw (plain_foreach c.args.statement.now _ _ _ _ c.in-Foreach.is) (name_and_both (met (role_names c.args.declared.now.roles.now)) c.add_visits_in.result (record { spot = x; kind = a_variable; how = bound; scope = scope }) (range_visits constant scope c.in-Foreach.range) (block_visits constant (with_variable x.name scope) (plain_block c.in-Foreach.items).list) _ _ _ _ c.in_ok-bind-in-Foreach.ensures c.in_ok-add_range-in-Foreach.ensures inside)

pub add_visits_at-returns-in_ok-bind-in-Rec : goal.add_visits_at-returns-in_ok-bind-in-Rec
add_visits_at-returns-in_ok-bind-in-Rec t c =
    let constant = c.args.declared.now.constant.now in
    let scope = scope_of c.args.scope.now in
    let x = c.in-Rec.name in
    let inside = rw names_inside at c.add_visits_in-in-Rec.ensures in
    rw (plain_loop c.args.statement.now _ _ _ c.in-Rec.is) (name_then (met (role_names c.args.declared.now.roles.now)) c.add_visits_in-in-Rec.result (record { spot = x; kind = a_loop; how = bound; scope = scope }) (block_visits constant (with_loop x.name scope) (plain_block c.in-Rec.body).list) _ _ _ c.in_ok-bind-in-Rec.ensures inside)

pub add_visits_at-returns-in-Continue : goal.add_visits_at-returns-in-Continue
add_visits_at-returns-in-Continue t c = rw (plain_again c.args.statement.now _ _ c.in-Continue.is) c.mention.ensures

pub add_visits_at-returns-in_ok-add_plain_end-in-Choice : goal.add_visits_at-returns-in_ok-add_plain_end-in-Choice
add_visits_at-returns-in_ok-add_plain_end-in-Choice t c =
    let constant = c.args.declared.now.constant.now in
    let scope = scope_of c.args.scope.now in
    let among = rw c.deref.ensures.value at c.add_visits_among.ensures in
    rw (plain_choice c.args.statement.now _ _ _ _ c.in-Choice.is) (name_and_both (met (role_names c.args.declared.now.roles.now)) c.add_visits_among.result (record { spot = c.in-Choice.kernel; kind = a_choice_kernel; how = mentioned; scope = scope }) (end_visits constant scope scope c.in-Choice.at) (branches_visits constant scope (branches_of (map plain_block c.in-Choice.branches.items))) _ _ _ _ c.in_ok-mention-in-Choice.ensures c.in_ok-add_plain_end-in-Choice.ensures among)

pub add_visits_at-returns-in_ok-mention-in-Compute : goal.add_visits_at-returns-in_ok-mention-in-Compute
add_visits_at-returns-in_ok-mention-in-Compute t c =
    let scope = scope_of c.args.scope.now in
    rw (plain_compute c.args.statement.now _ _ _ c.in-Compute.is) (name_then (met (role_names c.args.declared.now.roles.now)) c.add_plain_end-in-Compute.result (record { spot = c.in-Compute.kernel; kind = a_compute_kernel; how = mentioned; scope = scope }) (end_visits c.args.declared.now.constant.now scope scope c.in-Compute.at) _ _ _ c.in_ok-mention-in-Compute.ensures c.add_plain_end-in-Compute.ensures)

pub add_visits_at-returns-in-Barrier : goal.add_visits_at-returns-in-Barrier
add_visits_at-returns-in-Barrier t c = rw (plain_barrier c.args.statement.now _ c.in-Barrier.is) (sym (append-nil _))

pub add_visits_at-returns-in_ok-mention-in-Broadcast : goal.add_visits_at-returns-in_ok-mention-in-Broadcast
add_visits_at-returns-in_ok-mention-in-Broadcast t c =
    let scope = scope_of c.args.scope.now in
    rw (plain_broadcast c.args.statement.now _ _ _ _ c.in-Broadcast.is) (name_then (met (role_names c.args.declared.now.roles.now)) c.add_plain_end-in-Broadcast.result (record { spot = c.in-Broadcast.label; kind = a_label; how = mentioned; scope = scope }) (end_visits c.args.declared.now.constant.now scope scope c.in-Broadcast.from) _ _ _ c.in_ok-mention-in-Broadcast.ensures c.add_plain_end-in-Broadcast.ensures)

pub add_visits_at-returns-in_ok-mention-in-Reduce : goal.add_visits_at-returns-in_ok-mention-in-Reduce
add_visits_at-returns-in_ok-mention-in-Reduce t c =
    let scope = scope_of c.args.scope.now in
    rw (plain_reduce c.args.statement.now _ _ _ _ _ c.in-Reduce.is) (name_then (met (role_names c.args.declared.now.roles.now)) c.add_plain_end-in-Reduce.result (record { spot = c.in-Reduce.label; kind = a_label; how = mentioned; scope = scope }) (end_visits c.args.declared.now.constant.now scope scope c.in-Reduce.to) _ _ _ c.in_ok-mention-in-Reduce.ensures c.add_plain_end-in-Reduce.ensures)

pub add_visits_at-returns-in-Allreduce : goal.add_visits_at-returns-in-Allreduce
add_visits_at-returns-in-Allreduce t c = rw (plain_allreduce c.args.statement.now _ _ _ _ c.in-Allreduce.is) c.mention-in-Allreduce.ensures
