-- Who takes part where a number doesn't stand.
use Rattle.std.proofs.Common.{◌≡◌, ◌<◌, ◌≤◌, ◌+◌, ℕ, ℤ, pos, nat_eq, Bool, true, false, ◌&&◌, ◌||◌, List, ◌∷◌, length, get_or, map, drop, drop_of_length-le, refl, sym, ap, ap₂, ◌∙◌}
use Rattle.std.proofs.lemmas.Bool.{or_left, or_from, or_parts}
use Rattle.pb_core_language.specs.declared.protocol.CoreRole.{CoreRole}
use Rattle.pb_core_language.specs.declared.tree.CoreBlock.{CoreBlock}
use Rattle.pb_core_language.specs.declared.tree.CoreStmt.{CoreStmt}
use Rattle.pb_core_language.specs.Flat.{stop, takes_part}
use Rattle.pb_core_language.specs.FlatOf.{flat_stmt}
use Rattle.pb_core_language.specs.Parts.{takes_part_below, takes_part_within, takes_part_across, is_in_body}
use Rattle.pb_core_language.specs.Plain.{plain_block, plain_stmt, block_of, branches_of}
use Rattle.pb_core_language.specs.Tree.{StmtTree, message, foreach, loop, again, choice, run, barrier, broadcast, reduce, allreduce, BlockTree, nothing, more, BranchTrees, no_branch, branch}
use Rattle.pb_part_takers.specs.Numbered.{is_below, is_within, is_across}
use Rattle.pb_part_takers.proofs.HeldLoops.{from_place}

both_false : (a b c p : Bool) → a ≡ false → b ≡ false → c ≡ false → (a && p) || (b || c) ≡ false
both_false a b c p ea eb ec = ap (λ z. (z && p) || (b || c)) ea ∙ ap₂ (λ y z. y || z) eb ec

module _ (roles : List CoreRole) (n : ℤ) (r k : ℕ) where
  mutual
    quiet_below : (opens : List ℕ) (held : List Bool) (s : StmtTree) → is_below k s ≡ false → takes_part_below roles n r k opens held s ≡ false
    quiet_below opens held (message l f t) h = refl
    quiet_below opens held (foreach b m items) h = refl
    quiet_below opens held (loop id m body) h = quiet_block (id ∷ opens) (is_in_body roles n r opens held id body ∷ held) body h
    quiet_below opens held (again id) h = refl
    quiet_below opens held (choice kernel at bs) h = quiet_across opens held bs h
    quiet_below opens held (run kernel at) h = refl
    quiet_below opens held barrier h = refl
    quiet_below opens held (broadcast l root) h = refl
    quiet_below opens held (reduce l op root) h = refl
    quiet_below opens held (allreduce l op) h = refl

    quiet_block : (opens : List ℕ) (held : List Bool) (b : BlockTree) → is_within k b ≡ false → takes_part_within roles n r k opens held b ≡ false
    quiet_block opens held nothing h = refl
    quiet_block opens held (more m s rest) h =
        let it = (or_parts (nat_eq k m.number || is_below k s) (is_within k rest) h).0 in
        both_false (nat_eq k m.number) (takes_part_below roles n r k opens held s) (takes_part_within roles n r k opens held rest) (takes_part held r (flat_stmt roles n opens (pos 0) m s stop))
        (or_parts (nat_eq k m.number) (is_below k s) it).0 (quiet_below opens held s (or_parts (nat_eq k m.number) (is_below k s) it).1)
        (quiet_block opens held rest (or_parts (nat_eq k m.number || is_below k s) (is_within k rest) h).1)

    quiet_across : (opens : List ℕ) (held : List Bool) (bs : BranchTrees) → is_across k bs ≡ false → takes_part_across roles n r k opens held bs ≡ false
    quiet_across opens held no_branch h = refl
    quiet_across opens held (branch m b bs) h =
        or_from (takes_part_within roles n r k opens held b) (takes_part_across roles n r k opens held bs) (quiet_block opens held b (or_parts (is_within k b) (is_across k bs) h).0) (quiet_across opens held bs (or_parts (is_within k b) (is_across k bs) h).1)

-- nobody, where the number doesn't stand in the block
pub quiet_within : (roles : List CoreRole) (n : ℤ) (r k : ℕ) (opens : List ℕ) (held : List Bool) (b : BlockTree) → is_within k b ≡ false → takes_part_within roles n r k opens held b ≡ false
quiet_within roles n r k opens held b h = quiet_block roles n r k opens held b h

-- ---- along a list

rest_of : (a b : Bool) → a ≡ false → a || b ≡ b
rest_of a b e = ap (λ z. z || b) e

abbrev pub stands_in : ℕ → List CoreStmt → Bool
stands_in k items = is_within k (block_of (map plain_stmt items))

abbrev pub stands_across : ℕ → List CoreBlock → Bool
stands_across k items = is_across k (branches_of (map plain_block items))

abbrev pub is_it : ℕ → CoreStmt → Bool
is_it k s = nat_eq k (plain_stmt s).mark.number || is_below k (plain_stmt s).stmt

pub it_later : (k : ℕ) (items : List CoreStmt) (i : ℕ) (s : CoreStmt) (b : Bool) → i < length items → s ≡ get_or items i s → is_it k s ≡ false → stands_in k (drop i items) ≡ b → stands_in k (drop (i + 1) items) ≡ b
it_later k items i s b lt is e h = sym (rest_of (is_it k s) (stands_in k (drop (i + 1) items)) e) ∙ ap (stands_in k) (sym (from_place items i s lt is)) ∙ h

pub it_here : (k : ℕ) (items : List CoreStmt) (i : ℕ) (s : CoreStmt) (b : Bool) → i < length items → s ≡ get_or items i s → is_it k s ≡ true → stands_in k (drop i items) ≡ b → true ≡ b
it_here k items i s b lt is e h = sym (or_left (is_it k s) (stands_in k (drop (i + 1) items)) e) ∙ ap (stands_in k) (sym (from_place items i s lt is)) ∙ h

pub it_nowhere : (k : ℕ) (items : List CoreStmt) (i : ℕ) (b : Bool) → length items ≤ i → stands_in k (drop i items) ≡ b → false ≡ b
it_nowhere k items i b le h = sym (ap (stands_in k) (drop_of_length-le items le)) ∙ h

pub branch_later : (k : ℕ) (items : List CoreBlock) (i : ℕ) (s : CoreBlock) (b : Bool) → i < length items → s ≡ get_or items i s → is_within k (plain_block s).block ≡ false → stands_across k (drop i items) ≡ b → stands_across k (drop (i + 1) items) ≡ b
branch_later k items i s b lt is e h = sym (rest_of (is_within k (plain_block s).block) (stands_across k (drop (i + 1) items)) e) ∙ ap (stands_across k) (sym (from_place items i s lt is)) ∙ h

pub branch_here : (k : ℕ) (items : List CoreBlock) (i : ℕ) (s : CoreBlock) (b : Bool) → i < length items → s ≡ get_or items i s → is_within k (plain_block s).block ≡ true → stands_across k (drop i items) ≡ b → true ≡ b
branch_here k items i s b lt is e h = sym (or_left (is_within k (plain_block s).block) (stands_across k (drop (i + 1) items)) e) ∙ ap (stands_across k) (sym (from_place items i s lt is)) ∙ h

pub branch_nowhere : (k : ℕ) (items : List CoreBlock) (i : ℕ) (b : Bool) → length items ≤ i → stands_across k (drop i items) ≡ b → false ≡ b
branch_nowhere k items i b le h = sym (ap (stands_across k) (drop_of_length-le items le)) ∙ h
