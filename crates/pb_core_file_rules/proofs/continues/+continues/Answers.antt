use Rattle.std.proofs.Common.{◌≡◌, ◌+◌, ◌<◌, ◌≤◌, List, length, map, drop, get_or, sym, ap, ◌∙◌}
use Rattle.pb_syntax.specs.Plain.{plain_statement, plain_block}
use Rattle.pb_syntax.specs.Tree.{statements_of, branches_of}
use Rattle.pb_core_language.specs.FileRules.{is_nothing, astray_at, astray_in, astray_among}
use Rattle.pb_core_language.specs.Names.{Name}
use Rattle.pb_core_file_rules.specs.Lowering.{first, names_of}
use Rattle.pb_core_file_rules.proofs.Firsts.{first_later}
use Rattle.pb_core_file_rules.proofs.Loops.{goes_on, ends}
use Rattle.pb_core_file_rules.proofs.continues.+continues.Goals as goal

pub first_astray_in-loop-i-preserved : goal.first_astray_in-loop-i-preserved
first_astray_in-loop-i-preserved t c =
    let ss = c.args.block.now.list.items in
    let i = c.loop-i.i in
    let s = c.statement-item.result in
    let names = names_of c.args.loops.now in
    let less : i < length ss = rw (← c.deref-statement-items.ensures.value) c.loop-i-test.true in
    let is : s ≡ get_or ss i s = rw (← c.deref-statement-items.ensures.value) c.statement-item.is in
    let none : c.is_last.result ≡ is_nothing (statements_of (map plain_statement (drop (i + 1) ss))) = rw (← c.deref.ensures.value) c.is_last.ensures in
    goes_on (λ (n : List Name) ys. first (astray_in n (statements_of (map plain_statement ys)))) ss i s names names _ less is (first_later (astray_at names (is_nothing (statements_of (map plain_statement (drop (i + 1) ss)))) (plain_statement s)) (astray_in names (statements_of (map plain_statement (drop (i + 1) ss)))) (sym c.in-None.is ∙ c.first_astray_at.ensures ∙ ap (λ b. first (astray_at names b (plain_statement s))) none)) c.loop-i.invariant

pub first_astray_in-returns : goal.first_astray_in-returns
first_astray_in-returns t c =
    let le : length c.args.block.now.list.items ≤ c.loop-i.i = rw (← c.deref-statement-items.ensures.value) c.loop-i-test.false in
    ends (λ (n : List Name) ys. first (astray_in n (statements_of (map plain_statement ys)))) c.args.block.now.list.items c.loop-i.i (names_of c.args.loops.now) _ le c.loop-i.invariant

pub first_astray_among-returns : goal.first_astray_among-returns
first_astray_among-returns t c =
    ends (λ (n : List Name) ys. first (astray_among n (branches_of (map plain_block ys)))) c.args.branches.now c.loop-branch.branch-index (names_of c.args.loops.now) _ c.loop-branch-test.false c.loop-branch.invariant
