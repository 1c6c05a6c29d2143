use Rattle.std.proofs.Common.{◌≡◌, ◌⊎◌, ℕ, List, Option, sym, subst}
use Rattle.pb_io.specs.Files.{File, IsContent}
use Rattle.pb_kernels.specs.declared.fault.KernelFault.TheVariants as faults
use Rattle.pb_cli_status.specs.Lines.{line_of, status_of}
use Rattle.pb_cli_status.specs.declared.refusal.Refusal.{Refusal}
use Rattle.pb_cli_file.specs.Files.{IsUnread}
use Rattle.pb_cli_file.specs.Kernels.{IsKernelFault, IsMergedText, IsMergeReply}
use Rattle.pb_cli_file.proofs.Merged.{made, refused, unread}
use Rattle.pb_cli_file.proofs.kernels.merged_answer.Goals as goal

pub returns-in-Err-bytes_in-clause-reply : goal.returns-in-Err-bytes_in-clause-reply
returns-in-Err-bytes_in-clause-reply g c =
    unread c.args.file.now c.args.kernels.now (g.F.Folder.holds c.args.folder.now) c.in-Ok.tree c.in-Ok.ensures.compiled c.in-Err-bytes_in.why
    (subst (λ (h : Option (List File)). IsUnread c.args.kernels.now h c.in-Err-bytes_in.why) c.in-Ok.ensures.holds c.in-Err-bytes_in.ensures.unread)

pub returns-in-Ok-merged_text-clause-reply : goal.returns-in-Ok-merged_text-clause-reply
returns-in-Ok-merged_text-clause-reply g c =
    made c.args.file.now c.args.kernels.now (g.F.Folder.holds c.args.folder.now) c.in-Ok.tree c.in-Ok.ensures.compiled c.in-Ok-bytes_in.bytes.items
    (subst (λ (h : Option (List File)). IsContent h c.args.kernels.now c.in-Ok-bytes_in.bytes.items) c.in-Ok.ensures.holds c.in-Ok-bytes_in.ensures.whole)
    c.in-Ok-bytes_in.ensures.short c.in-Ok-merged_text.text.items
    (subst (λ (b : List ℕ). IsMergedText b c.in-Ok.tree c.in-Ok-merged_text.text.items) c.deref.ensures.value c.in-Ok-merged_text.ensures.text)

pub returns-clause-reply : goal.returns-clause-reply
returns-clause-reply g c =
    subst (λ (why : Refusal). IsMergeReply c.args.file.now c.args.kernels.now (g.F.Folder.holds c.args.folder.now) (status_of why) (line_of why)) (sym c.kernel_refusal.ensures)
    (refused c.args.file.now c.args.kernels.now (g.F.Folder.holds c.args.folder.now) c.in-Ok.tree c.in-Ok.ensures.compiled c.in-Ok-bytes_in.bytes.items
    (subst (λ (h : Option (List File)). IsContent h c.args.kernels.now c.in-Ok-bytes_in.bytes.items) c.in-Ok.ensures.holds c.in-Ok-bytes_in.ensures.whole)
    c.in-Ok-bytes_in.ensures.short c.in-Err-merged_text.fault
    (subst (λ (b : List ℕ). (c.in-Err-merged_text.fault ≡ faults.NoMemory) ⊎ IsKernelFault b c.in-Ok.tree c.in-Err-merged_text.fault) c.deref.ensures.value c.in-Err-merged_text.ensures.fault))
