-- At which of its lines a statement, and those within it, begin; and which lines open and close braces.
use Rattle.std.specs.Prelude.{ℕ, ◌+◌, Bool, true, false, if◌then◌else◌, List, [], ◌∷◌, ◌++◌, map}
use Rattle.pb_local.specs.Tree.{Code, when, for_each, own, loop, again, choice, send, recv, run, barrier, broadcast, reduce, allreduce, Codes, nothing, more, Parts, no_part, part, Program}
use Rattle.pb_ctree.specs.Lines.{Item, close, else_open, if_open, else_if_open, for_open, loop_open, test_open, else_test_open, pick_open, else_pick_open}
use Rattle.pb_ctree.specs.Rules.{is_wordy}
use Rattle.pb_ctree.specs.Spelling.{told_lines}

-- a line that stands only for a label with words
abbrev pub mark_if_wordy : Program → ℕ → List Bool
mark_if_wordy p label = if is_wordy p label then false ∷ [] else []

abbrev mutual
  -- a mark for each line of a statement, true where a statement begins
  pub marks : Program → Code → List Bool
  marks p (when guards first other) = true ∷ marks_all p first ++ marks_other p other
  marks p (for_each low high body) = true ∷ marks_all p body ++ false ∷ []
  marks p (own off) = true ∷ []
  marks p (loop id body) = true ∷ marks_all p body ++ false ∷ []
  marks p (again id) = true ∷ []
  marks p (choice who kernel relays from tests branches) = true ∷ false ∷ map (λ l. false) (told_lines p 0 who relays from tests) ++ marks_parts p branches
  marks p (send label to) = true ∷ mark_if_wordy p label
  marks p (recv label from) = true ∷ mark_if_wordy p label
  marks p (run kernel) = true ∷ []
  marks p barrier = true ∷ []
  marks p (broadcast label root) = true ∷ false ∷ false ∷ []
  marks p (reduce label op root) = true ∷ false ∷ false ∷ []
  marks p (allreduce label op) = true ∷ false ∷ false ∷ []

  pub marks_all : Program → Codes → List Bool
  marks_all p nothing = []
  marks_all p (more c rest) = marks p c ++ marks_all p rest

  pub marks_other : Program → Codes → List Bool
  marks_other p nothing = false ∷ []
  marks_other p (more c rest) = false ∷ (marks p c ++ marks_all p rest) ++ false ∷ []

  pub marks_parts : Program → Parts → List Bool
  marks_parts p no_part = false ∷ []
  marks_parts p (part b rest) = false ∷ marks_all p b ++ marks_parts p rest

-- one more where a statement begins
abbrev pub counted : Bool → ℕ → ℕ
counted true n = n + 1
counted false n = n

-- how many statements begin at lines with these marks
abbrev pub begun_in : List Bool → ℕ
begun_in [] = 0
begun_in (m ∷ ms) = counted m (begun_in ms)

-- ---- braces

-- a line ends in at most one opening brace
abbrev pub opens : Item → Bool
opens else_open = true
opens (if_open guards) = true
opens (else_if_open guards) = true
opens (for_open low high) = true
opens (loop_open id) = true
opens (test_open label guards) = true
opens (else_test_open label guards) = true
opens (pick_open branch) = true
opens (else_pick_open branch) = true
opens other = false

-- and begins with at most one closing brace
abbrev pub closes : Item → Bool
closes close = true
closes else_open = true
closes (else_if_open guards) = true
closes (else_test_open label guards) = true
closes (else_pick_open branch) = true
closes other = false
