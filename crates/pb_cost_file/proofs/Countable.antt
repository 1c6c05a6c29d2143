-- From the number of messages that are written in a file, and the words of its labels, to what is sent.
use Rattle.std.proofs.Common.{◌≡◌, ℕ, zero, suc, ◌+◌, ◌*◌, ◌≤◌, ◌<◌, List, [], ◌∷◌, arith}
use Rattle.std.specs.Prelude.{All}
use Rattle.pb_syntax.specs.declared.core_label.CoreLabel.{CoreLabel}
use Rattle.pb_syntax.specs.declared.tree.Payload.{Payload}
use Rattle.pb_syntax.specs.declared.tree.Payload.TheVariants.{Unit as NoWords, Int32, Uint32}
use Rattle.pb_core_language.specs.Collectives.{payload_of, word_count}
use Rattle.pb_core_language.specs.Tree.{StmtTree, message, foreach, loop, again, choice, run, barrier, broadcast, reduce, allreduce, BlockTree, nothing, more, BranchTrees, no_branch, branch}
use Rattle.pb_local.specs.WellMade.{IsPayload, IsLabelRow}
use Rattle.pb_parse_laws.proofs.Sound.{parsed_is_sound}
use Rattle.pb_compile_laws.specs.Messages.{messages_at, messages_in, messages_among}
use Rattle.pb_compile_laws.proofs.Messages.{file_has_few_messages}
use Rattle.pb_compile_laws.proofs.Tabled.{file_is_tabled}
use Rattle.pb_cost_laws.specs.Flats.{of_label}
use Rattle.pb_cost_laws.specs.Sent.{Counted, Messages, Words}
use Rattle.pb_cost_blocks.specs.Asked.{size_in}
use Rattle.pb_cost_blocks.specs.Fit.{weight_of_stmt, weight_of, weight_of_branches}
use Rattle.pb_cost_file.specs.Laws.{FileIsCountable}

-- ---- labels

few_words : (p : Payload) → IsPayload p → word_count p ≤ 1024
few_words NoWords is = omega arith
few_words (Int32 count) is = is.1
few_words (Uint32 count) is = is.1

few_sized : (labels : List CoreLabel) → All IsLabelRow labels → (label : ℕ) → size_in labels label ≤ 1024
few_sized [] each label = omega arith
few_sized (l ∷ labels) each zero = few_words l.payload (each 0 l (omega arith)).payload
few_sized (l ∷ labels) each (suc label) = few_sized labels (λ k d less. each (suc k) d (omega (arith, less))) label

-- ---- blocks

module _ (what : Counted) (size : ℕ → ℕ) (few : (label : ℕ) → size label ≤ 1024) where
  few_counted : (w : Counted) (label : ℕ) → of_label w size label ≤ 1024
  few_counted Messages label = omega arith
  few_counted Words label = few label

  mutual
    light_stmt : (s : StmtTree) → weight_of_stmt what size s ≤ 1024 * messages_at s
    light_stmt (message label from to) = omega (arith, few_counted what label)
    light_stmt (foreach bounds mark items) = light_block items
    light_stmt (loop id mark body) = light_block body
    light_stmt (again id) = omega arith
    light_stmt (choice kernel at branches) = light_branches branches
    light_stmt (run kernel at) = omega arith
    light_stmt barrier = omega arith
    light_stmt (broadcast label root) = omega arith
    light_stmt (reduce label op root) = omega arith
    light_stmt (allreduce label op) = omega arith

    pub light_block : (b : BlockTree) → weight_of what size b ≤ 1024 * messages_in b
    light_block nothing = omega arith
    light_block (more mark first rest) = omega (arith, light_stmt first, light_block rest)

    light_branches : (bs : BranchTrees) → weight_of_branches what size bs ≤ 1024 * messages_among bs
    light_branches no_branch = omega arith
    light_branches (branch mark first rest) = omega (arith, light_block first, light_branches rest)

-- ---- files

light : (weight messages : ℕ) → weight ≤ 1024 * messages → messages ≤ 4000 → weight ≤ 4100000
light weight messages h few = omega (arith, h, few)

pub file_is_countable : FileIsCountable
file_is_countable bytes file of accepted = record {
  sound = parsed_is_sound bytes file of accepted.earlier;
  light = λ what. light _ _ (light_block what (size_in _) (few_sized _ (file_is_tabled bytes file of accepted).labels.each) _) (file_has_few_messages bytes file of);
}
