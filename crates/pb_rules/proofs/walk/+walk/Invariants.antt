use Rattle.std.proofs.Common.{◌≡◌, map, drop}
use Rattle.pb_core_language.specs.Plain.{plain_block, plain_stmt, block_of, branches_of}
use Rattle.pb_rules.specs.Sites.{block_sites, branches_sites, kept_sites}
use Rattle.pb_rules.proofs.walk.+walk.Given as goal

abbrev pub invariant-block_kept-loop-statement : goal.invariant-block_kept-loop-statement
invariant-block_kept-loop-statement l =
    kept_sites l.setting.range l.setting.roles.now (block_sites l.over (block_of (map plain_stmt (drop l.statement-index l.statement-items)))) l.best
    ≡ kept_sites l.setting.range l.setting.roles.now (block_sites l.over (plain_block l.block).block) l.fn.best

abbrev pub invariant-branches_kept-loop-branch : goal.invariant-branches_kept-loop-branch
invariant-branches_kept-loop-branch l =
    kept_sites l.setting.range l.setting.roles.now (branches_sites l.over (branches_of (map plain_block (drop l.branch-index l.branches)))) l.best
    ≡ kept_sites l.setting.range l.setting.roles.now (branches_sites l.over (branches_of (map plain_block l.branches))) l.fn.best
