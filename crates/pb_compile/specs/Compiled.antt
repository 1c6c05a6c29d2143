-- What the compiler makes of an accepted file.
use Rattle.std.specs.Prelude.{◌≡◌, ◌≤◌, ℕ, ℤ, List, []}
use Rattle.pb_text.specs.declared.limits.TheConstants.{MOST_NUMBER}
use Rattle.pb_core_language.specs.Plain.{Protocol}
use Rattle.pb_core_language.specs.Ranks.{total}
use Rattle.pb_core_language.specs.Verdict.{IsIn}
use Rattle.pb_local.specs.Layout.{layout}
use Rattle.pb_local.specs.Tree.{program_of, size_all}
use Rattle.pb_ctree.specs.declared.tree.CTree.{CTree}
use Rattle.pb_ctree.specs.declared.body.Bodies.{Bodies}
use Rattle.pb_ctree.specs.Functions.{defaults_of}
use Rattle.pb_ctree.specs.Texts.{Spells}
use Rattle.pb_ctree.specs.Trees.{IsTree}
use Rattle.pb_shape.specs.Shape.{HasShape}
use Rattle.pb_shape.specs.Sizes.{braces_all}
use Rattle.pb_shape.specs.Theorem.{DoesRun}
use Rattle.pb_shape_reached.specs.Reached.{AreReached}
use Rattle.pb_compile.specs.Verdict.{IsAcceptedAs}

-- a well-made tree whose endpoint program has the shape of the protocol's projection
pub record IsProjected (p : Protocol) (tree : CTree) : Type 0 where
  pub made : IsTree tree
  pub shape : HasShape p (program_of tree.local)

-- at most so many statements, and so many braces open with main's own
pub record IsSmall (tree : CTree) : Type 0 where
  pub statements : size_all (program_of tree.local).body ≤ 48000
  pub braces : braces_all (program_of tree.local).body ≤ 130

-- Each rank does its part of the sequential run, and all ranks together do the run, at each N of the range with at most 2,000,000,000 ranks
abbrev pub DoesProtocol : Protocol → CTree → Type 0
DoesProtocol p tree = (n : ℤ) → IsIn p.range n → total p.roles n ≤ MOST_NUMBER → DoesRun p (program_of tree.local) n

-- each statement is reached by some rank, and each part of an `If` that isn't empty is taken by some, at an N with at most 2,000,000,000 ranks
abbrev pub HasNoDeadBranch : Protocol → CTree → Type 0
HasNoDeadBranch p tree = AreReached p (program_of tree.local) 0 (program_of tree.local).body

-- the bytes are an accepted file with this meaning, and the tree is one of its projection, which does the protocol and has no dead branch
pub record IsCompiled (bytes : List ℕ) (p : Protocol) (tree : CTree) : Type 0 where
  pub accepted : IsAcceptedAs bytes p
  pub projected : IsProjected p tree
  pub small : IsSmall tree
  pub does : DoesProtocol p tree
  pub reached : HasNoDeadBranch p tree

-- the bytes spell the tree with default bodies
pub record IsTextOf (tree : CTree) (text : List ℕ) : Type 0 where
  pub bodies : Bodies
  pub prelude : bodies.prelude ≡ []
  pub list : bodies.list.items ≡ defaults_of (program_of tree.local)
  pub spells : Spells tree bodies text

-- the bytes are a text of the accepted file, which does its protocol
pub record IsGenerated (bytes text : List ℕ) : Type 0 where
  pub protocol : Protocol
  pub tree : CTree
  pub compiled : IsCompiled bytes protocol tree
  pub text_is : IsTextOf tree text

-- the bytes are the layout of the endpoint program of the accepted file
pub record IsLaidOut (bytes text : List ℕ) : Type 0 where
  pub protocol : Protocol
  pub tree : CTree
  pub compiled : IsCompiled bytes protocol tree
  pub text_is : text ≡ layout (program_of tree.local)
