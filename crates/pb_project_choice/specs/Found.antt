-- Entries that say what each rank finds first in each branch of a choice.
use Rattle.std.specs.Prelude.{◌≡◌, ℕ, zero, suc, ℤ, pos, Bool, true, List, [], ◌∷◌, length, ◌++◌, ◌&&◌, ◌<◌}
use Rattle.std.specs.List.{All, list_any}
use Rattle.pb_affine.specs.declared.lin.Lin.{Lin}
use Rattle.pb_part_areas.specs.Areas.{has}
use Rattle.pb_cases.specs.Breakpoints.{IsCut}
use Rattle.pb_core_language.specs.Flat.{stop, branch_at}
use Rattle.pb_core_language.specs.FlatOf.{flat_block, flat_branches}
use Rattle.pb_core_language.specs.Outcomes.{receives, firsts}
use Rattle.pb_core_language.specs.Tree.{BlockTree, BranchTrees}
use Rattle.pb_core_language.specs.Verdict.{IsIn}
use Rattle.pb_core_flat.specs.OutcomeSets.{is_outcome}
use Rattle.pb_core_flat.specs.Seated.{rank, is_rank}
use Rattle.pb_part_takers.specs.declared.held.Held.{Held}
use Rattle.pb_part_takers.specs.Loops.{ids_of, held_of}
use Rattle.pb_part_firsts.specs.declared.firsts.Entry.{Entry}
use Rattle.pb_part_firsts.specs.Firsts.{finds, are_small}
use Rattle.pb_part_firsts.specs.Fitting.{EntriesFit}
use Rattle.pb_choice_entries.specs.Clashes.{is_label}
use Rattle.pb_shape.specs.Places.{Scope}
use Rattle.pb_shape.specs.Loops.{Around}
use Rattle.pb_shape.specs.Tabled.{count}
use Rattle.pb_project_choice.specs.declared.entries.Branch.{Branch}

-- the entries of a branch, none past the last one
abbrev pub entries_at : ℕ → List Branch → List Entry
entries_at k [] = []
entries_at zero (b ∷ bs) = b.entries.items
entries_at (suc k) (b ∷ bs) = entries_at k bs

-- the program's loops are those around: their ids, and who of the ranks is in the body of each
pub record IsAround (sc : Scope) (a : Around) (held : List Held) : Type 0 where
  pub opens : a.opens ≡ ids_of held
  pub within : (n : ℤ) (role : ℕ) (x : ℤ) → IsIn sc.range n → is_rank sc.roles n role x ≡ true → held_of held n role x ≡ a.held n role x

-- The entries give exactly the receives that each rank finds first in a block. Their areas fit these cuts, and their sources are
-- small
pub record IsFirstIn (sc : Scope) (a : Around) (b : BlockTree) (cuts : List Lin) (entries : List Entry) : Type 0 where
  pub finds_is : (n : ℤ) (role : ℕ) (x : ℤ) (s l : ℕ) → IsIn sc.range n → is_rank sc.roles n role x ≡ true →
      finds sc.roles entries n role x (receives s l) ≡ is_outcome (receives s l) (firsts (a.held n role x) (rank sc.roles n role x) (flat_block sc.roles n a.opens (pos 0) b stop))
  pub small : are_small entries ≡ true
  pub fit : EntriesFit sc.range cuts entries

-- The entries of each branch give exactly the receives that each rank finds first in it. Their areas fit some cuts, and their
-- sources are small
pub record IsFoundIn (sc : Scope) (a : Around) (bs : BranchTrees) (found : List Branch) : Type 0 where
  pub count_is : length found ≡ count bs
  pub finds_is : (k : ℕ) (n : ℤ) (role : ℕ) (x : ℤ) (s l : ℕ) → IsIn sc.range n → is_rank sc.roles n role x ≡ true →
      finds sc.roles (entries_at k found) n role x (receives s l) ≡
      is_outcome (receives s l) (firsts (a.held n role x) (rank sc.roles n role x) (branch_at k (flat_branches sc.roles n a.opens (pos 0) bs)))
  pub small : (k : ℕ) → are_small (entries_at k found) ≡ true
  pub cuts : List Lin
  pub are_cuts : All IsCut cuts
  pub fit : (k : ℕ) → EntriesFit sc.range cuts (entries_at k found)

-- the label is that of a receive
abbrev pub has_label : ℕ → List Entry → Bool
has_label l es = list_any (λ e. is_label l e.kind) es

-- the rank may receive this label first
abbrev pub tells : ℕ → List Entry → ℤ → ℕ → ℤ → Bool
tells l es n role x = list_any (λ e. is_label l e.kind && has e.area n role x) es

-- the labels that some rank receives first are below this number
abbrev pub AreKnown : Scope → List Entry → ℕ → Type 0
AreKnown sc es m = (n : ℤ) (role : ℕ) (x : ℤ) (l : ℕ) → IsIn sc.range n → is_rank sc.roles n role x ≡ true → tells l es n role x ≡ true → l < m

-- those of all branches
abbrev pub all_entries : List Branch → List Entry
all_entries [] = []
all_entries (b ∷ bs) = b.entries.items ++ all_entries bs
