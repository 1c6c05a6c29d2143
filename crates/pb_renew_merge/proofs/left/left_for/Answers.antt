use Rattle.std.proofs.Common.{◌≡◌, ◌⊎◌, None, Ok, Err, rules}
use Rattle.pb_kernels.specs.declared.fault.KernelFault.TheVariants as faults
use Rattle.pb_kernels.specs.Files.{program_file}
use Rattle.pb_renew_merge.specs.Left.{left_text}
use Rattle.pb_renew_merge.specs.Lost.{first_misplaced}
use Rattle.pb_renew_merge.proofs.Faults.{not_made}
use Rattle.pb_renew_merge.proofs.Losses.{all_kept, none_added, nothing_lost}
use Rattle.pb_renew_merge.proofs.left.left_for.Goals as goal

pub returns-in-Err-read_text-clause-fault : goal.returns-in-Err-read_text-clause-fault
returns-in-Err-read_text-clause-fault c =
    let read : program_file c.args.before.now ≡ Ok c.in-Ok.left = search rules in
    let bytes : c.in-Ok-with_bodies.bytes.items ≡ left_text c.args.before.now c.in-Ok.left c.args.renewed.now.old c.args.renewed.now.gone.items = search rules in
    let fault : (c.in-Err-read_text.fault ≡ faults.NoMemory) ⊎ (program_file c.in-Ok-with_bodies.bytes.items ≡ Err c.in-Err-read_text.fault) = search rules in
    not_made c.args.renewed.now c.args.before.now c.in-Ok-with_bodies.bytes.items c.in-Ok.left c.in-Err-read_text.fault read bytes fault

pub returns-clause-kept : goal.returns-clause-kept
returns-clause-kept c =
    let read : program_file c.in-Ok-with_bodies.bytes.items ≡ Ok c.in-Ok-read_text.again = search rules in
    let none : first_misplaced c.args.renewed.now.old c.args.renewed.now.kept c.in-Ok.left c.in-Ok-read_text.again ≡ None = search rules in
    nothing_lost c.args.renewed.now c.in-Ok.left c.in-Ok-read_text.again c.in-Ok-with_bodies.bytes.items read none

pub returns-clause-keeps : goal.returns-clause-keeps
returns-clause-keeps c =
    let before : program_file c.args.before.now ≡ Ok c.in-Ok.left = search rules in
    let read : program_file c.in-Ok-with_bodies.bytes.items ≡ Ok c.in-Ok-read_text.again = search rules in
    let none : first_misplaced c.args.renewed.now.old c.args.renewed.now.kept c.in-Ok.left c.in-Ok-read_text.again ≡ None = search rules in
    all_kept c.args.renewed.now c.in-Ok.left c.in-Ok-read_text.again c.args.before.now c.in-Ok-with_bodies.bytes.items before read none

pub returns-clause-adds : goal.returns-clause-adds
returns-clause-adds c =
    let before : program_file c.args.before.now ≡ Ok c.in-Ok.left = search rules in
    let read : program_file c.in-Ok-with_bodies.bytes.items ≡ Ok c.in-Ok-read_text.again = search rules in
    let none : first_misplaced c.args.renewed.now.old c.args.renewed.now.kept c.in-Ok.left c.in-Ok-read_text.again ≡ None = search rules in
    none_added c.args.renewed.now c.in-Ok.left c.in-Ok-read_text.again c.args.before.now c.in-Ok-with_bodies.bytes.items before read none
