-- How much a protocol sends: the least and the most messages and words, over the sequential runs under all answers.
--
-- p is the protocol, and n is N.
use Rattle.std.specs.Prelude.{◌≡◌, ℕ, ◌<◌, ◌≤◌, ℤ, pos, true, Option, Some, None, List, [], length}
use Rattle.pb_text.specs.declared.place.Place.{Place}
use Rattle.pb_core_language.specs.Collectives.{setting_of}
use Rattle.pb_core_language.specs.Flat.{stop}
use Rattle.pb_core_language.specs.FlatOf.{flat_block}
use Rattle.pb_core_language.specs.Plain.{Protocol}
use Rattle.pb_core_language.specs.Sound.{is_sound}
use Rattle.pb_core_language.specs.Tree.{StmtTree, message, foreach, loop, again, choice, run, barrier, broadcast, reduce, allreduce, BlockTree, nothing, more, BranchTrees, no_branch, branch, Mark}
use Rattle.pb_core_language.specs.Verdict.{IsIn}
use Rattle.pb_cost_laws.specs.Sent.{Counted, Messages, Words, Way, Least, Most, Sends, IsExtreme}
use Rattle.pb_cost_blocks.specs.Asked.{size_in}
use Rattle.pb_cost_blocks.specs.Fit.{weight_of}
use Rattle.pb_cost.specs.declared.cost.Cost.{Cost}
use Rattle.pb_cost.specs.declared.cost.CostFault.{CostFault}
use Rattle.pb_cost.specs.declared.cost.CostFault.TheVariants.{HasLoop, TooManyPieces, NoMemory}
use Rattle.pb_cost.specs.declared.piece.Piece.{Piece}
use Rattle.pb_cost.specs.Parts.{IsPart}
use Rattle.pb_cost.specs.Pieces.{ArePieces}

-- at each N of the range f is the least, or the most, over the ended runs of this part of the protocol alone
pub record IsCount (p : Protocol) (way : Way) (what : Counted) (part : BlockTree) (f : ℤ → ℤ) : Type 0 where
  pub at : (n : ℤ) → IsIn p.range n → (k : ℕ) × (f n ≡ pos k) × IsExtreme way (Sends (setting_of p n) what (flat_block p.roles n [] (pos 0) part stop)) k

-- the pieces of this count
pub record HasPieces (p : Protocol) (way : Way) (what : Counted) (part : BlockTree) (list : List Piece) : Type 0 where
  pub count : ℤ → ℤ
  pub is : IsCount p way what part count
  pub pieces : ArePieces count p.range.high (pos p.range.low) list

pub record IsCostOf (p : Protocol) (cost : Cost) : Type 0 where
  pub least_messages : HasPieces p Least Messages p.body.block cost.least_messages.items
  pub most_messages : HasPieces p Most Messages p.body.block cost.most_messages.items
  pub least_words : HasPieces p Least Words p.body.block cost.least_words.items
  pub most_words : HasPieces p Most Words p.body.block cost.most_words.items

-- this count of each part has at most 4,096 pieces
abbrev pub HasFew : Protocol → Way → Counted → Type 0
HasFew p way what = (part : BlockTree) → IsPart part p.body.block → (list : List Piece) × HasPieces p way what part list × (length list ≤ 4096)

-- of one of the parts one of the four counts has more
pub record HasMany (p : Protocol) : Type 0 where
  pub way : Way
  pub what : Counted
  pub part : BlockTree
  pub there : IsPart part p.body.block
  pub list : List Piece
  pub pieces : HasPieces p way what part list
  pub many : 4096 < length list

-- ---- loops

abbrev pub or_later : Option Place → Option Place → Option Place
or_later None later = later
or_later (Some place) later = Some place

-- the first loop, in the order of the file
abbrev mutual
  pub loop_in : Mark → StmtTree → Option Place
  loop_in own (message label from to) = None
  loop_in own (foreach bounds mark items) = first_loop items
  loop_in own (loop id mark body) = Some own.place
  loop_in own (again id) = None
  loop_in own (choice kernel at branches) = first_among branches
  loop_in own (run kernel at) = None
  loop_in own barrier = None
  loop_in own (broadcast label root) = None
  loop_in own (reduce label op root) = None
  loop_in own (allreduce label op) = None

  pub first_loop : BlockTree → Option Place
  first_loop nothing = None
  first_loop (more mark first rest) = or_later (loop_in mark first) (first_loop rest)

  pub first_among : BranchTrees → Option Place
  first_among no_branch = None
  first_among (branch mark first rest) = or_later (first_loop first) (first_among rest)

-- ---- what is answered

-- A sound protocol in which at most 4,100,000 messages, and words of messages, are written. A file within the limits has at
-- most 4,000 messages of at most 1,024 words.
pub record IsCountable (p : Protocol) : Type 0 where
  pub sound : is_sound p ≡ true
  pub light : (what : Counted) → weight_of what (size_in p.labels) p.body.block ≤ 4100000

-- one of the four counts
pub record IsCounted (p : Protocol) (way : Way) (what : Counted) (list : List Piece) : Type 0 where
  pub pieces : HasPieces p way what p.body.block list
  pub few : HasFew p way what

-- where the protocol has no loop, and each part has few pieces
pub record IsTold (p : Protocol) (cost : Cost) : Type 0 where
  pub none : first_loop p.body.block ≡ None
  pub few : (way : Way) (what : Counted) → HasFew p way what
  pub cost_is : IsCostOf p cost

abbrev pub IsFault : Protocol → CostFault → Type 0
IsFault p (HasLoop place) = first_loop p.body.block ≡ Some place
IsFault p TooManyPieces = (first_loop p.body.block ≡ None) × HasMany p
IsFault p NoMemory = Unit {0}
