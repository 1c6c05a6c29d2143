use Rattle.std.proofs.Common.{◌≡◌, false, ◌∷◌, nat_eq, rules, tests}
use Rattle.std.specs.Cmp.Lexicographic.{pointwise}
use Rattle.pb_io.specs.Entries.{entries}
use Rattle.pb_renew_store.proofs.Files.{named, renames_other}
use Rattle.pb_renew_store.proofs.mem_files.rename.Goals as goal

pub returns-then-ne-clause-done : goal.returns-then-ne-clause-done
returns-then-ne-clause-done c = λ is_true.
    let ne : pointwise nat_eq c.args.from.now c.args.to.now ≡ false = search (rules, tests) in
    let front : entries c.put_first.new.files.items ≡ named c.args.to.now c.in-Some.bytes.items ∷ entries c.args.files.now.items = search rules in
    renames_other _ _ _ _ _ _ ne (rw c.deref.ensures.value at c.in-Some.ensures) front c.take_away.ensures
