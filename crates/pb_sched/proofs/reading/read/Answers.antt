use Rattle.std.proofs.Common.{◌≡◌, length, None, Some, sym, ap, ◌∙◌, rules}
use Rattle.pb_sched.specs.Parts.{fault_at}
use Rattle.pb_sched.proofs.Finding.{no_seed, ended, refused}
use Rattle.pb_sched.proofs.reading.read.Goals as goal

pub returns-in-None-seed-clause-fault : goal.returns-in-None-seed-clause-fault
returns-in-None-seed-clause-fault c = no_seed c.args.bytes.now c.in-Some.found.0 c.in-Some.found.1.now c.in-Some.ensures c.in-None-seed.ensures

pub returns-in-None-fault_at-clause-ok : goal.returns-in-None-fault_at-clause-ok
returns-in-None-fault_at-clause-ok c =
    let count : c.len.result ≡ length c.fill.new.turns.items = search rules in
    let none : fault_at c.in-Some.found.0 (length c.fill.new.turns.items) c.in_ok-rest.rest.now ≡ None =
    ap (λ k. fault_at c.in-Some.found.0 k c.in_ok-rest.rest.now) (sym count) ∙ sym c.fault_at.ensures ∙ c.in-None-fault_at.is in
    ended c.args.bytes.now c.in-Some.found.1.now c.in-Some-seed.found.1.now c.in-Some.found.0 c.in-Some-seed.found.0 c.fill.new.turns.items c.in-Some.ensures c.in-Some-seed.ensures c.in_ok-rest.rest.now c.in_ok-rest.ensures none

pub returns-in-Some-fault_at-clause-fault : goal.returns-in-Some-fault_at-clause-fault
returns-in-Some-fault_at-clause-fault c =
    let count : c.len.result ≡ length c.fill.new.turns.items = search rules in
    let some : fault_at c.in-Some.found.0 (length c.fill.new.turns.items) c.in_ok-rest.rest.now ≡ Some c.in-Some-fault_at.fault =
    ap (λ k. fault_at c.in-Some.found.0 k c.in_ok-rest.rest.now) (sym count) ∙ sym c.fault_at.ensures ∙ c.in-Some-fault_at.is in
    refused c.args.bytes.now c.in-Some.found.1.now c.in-Some-seed.found.1.now c.in-Some.found.0 c.in-Some-seed.found.0 c.fill.new.turns.items c.in-Some.ensures c.in-Some-seed.ensures c.in_ok-rest.rest.now c.in-Some-fault_at.fault c.in_ok-rest.ensures some
