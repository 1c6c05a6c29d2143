-- Files with calls that the grammar gives, and their runs.
use Rattle.std.specs.Prelude.{ℤ, List}
use Rattle.pb_text.specs.declared.token.Token.{Token}
use Rattle.pb_syntax.specs.Tree.{PlainFile}
use Rattle.pb_world.specs.Actions.{AnswerTable}
use Rattle.pb_core_language.specs.Meaning.{meaning}
use Rattle.pb_core_language.specs.Verdict.{IsIn, IsAccepted}
use Rattle.pb_do_syntax.specs.Calls.{PlainCallFile}
use Rattle.pb_do_syntax.specs.Inlining.{IsInlined}
use Rattle.pb_do_grammar.specs.Grammar.{IsCallFile}
use Rattle.pb_do_laws.specs.Laws.{HaveOneRun}
use Rattle.pb_do_laws.specs.Made.{IsMade}

-- in the tree of a file what stands without braces has none, and a foreach holds messages and computes alone
abbrev pub FilesAreMade : Type 0
FilesAreMade = (ts : List Token) (f : PlainCallFile) → IsCallFile ts f → IsMade f

-- Where a file comes of one of the grammar with calls, by replacing each, and keeps the twelve rules, both have one run.
abbrev pub FilesRunAsOne : Type 0
FilesRunAsOne =
    (ts : List Token) (f : PlainCallFile) (file : PlainFile) → IsCallFile ts f → IsInlined f file → IsAccepted file →
    (n : ℤ) → IsIn (meaning file).range n → (answers : AnswerTable) → HaveOneRun f file n answers
